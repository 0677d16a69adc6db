-- The first block was parted from the others, rotated, and hung behind them.
use Rattle.std.proofs.Common.{length, ap, subst, sym, ◌∙◌}
use Rattle.strm_blocks.specs.Blocks.{IsInHand, in_hand}
use Rattle.strm_msg.proofs.Translating.{last-apart, parted, rest-in_hand, rotated-more}
use Rattle.strm_msg.proofs.translated.rotate.Goals as goal

pub translate_block-last-requires-clause-in_hand : goal.translate_block-last-requires-clause-in_hand
translate_block-last-requires-clause-in_hand g c =
    let p = parted c.requires.in_hand c.unlink-rest.result.1 c.unlink-rest.ensures in
    subst (IsInHand (g.B.Blocks.value c.unlink-rest.new.self)) (sym p.kept_name) p.here

pub translate_block-last-requires-clause-single : goal.translate_block-last-requires-clause-single
translate_block-last-requires-clause-single g c =
    let p = parted c.requires.in_hand c.unlink-rest.result.1 c.unlink-rest.ensures in
    ap (λ k. length (in_hand (g.B.Blocks.value c.unlink-rest.new.self) k)) p.kept_name ∙ ap length p.chain_is

pub link-requires-clause-first_in_hand : goal.link-requires-clause-first_in_hand
link-requires-clause-first_in_hand g c =
    rest-in_hand c.requires.in_hand c.translate_block-last.ensures (rw c.in-Some.is at c.unlink-rest.ensures)

pub link-requires-clause-apart : goal.link-requires-clause-apart
link-requires-clause-apart g c = last-apart c.requires.in_hand c.translate_block-last.ensures (rw c.in-Some.is at c.unlink-rest.ensures)

pub returns-in-Some : goal.returns-in-Some
returns-in-Some g c =
    let parted = rw c.in-Some.is at c.unlink-rest.ensures in
    rotated-more c.requires.in_hand c.translate_block-last.ensures parted c.link.ensures.kept_name c.link.ensures.linked
