use Rattle.std.proofs.Common.{ap, arith, length, ◌∙◌}
use Rattle.strm_blocks.specs.Blocks.{in_hand, times_in, token}
use Rattle.strm_msg.proofs.Making.{copied-first, copied-next, made-keeps, made-keeps-chain, made-in_hand}
use Rattle.strm_msg.proofs.InHand.{came-first, came-second, came-apart}
use Rattle.strm_msg.proofs.copies.copymsg.Goals as goal

pub loop-at-init : goal.loop-at-init
loop-at-init g c =
    let chain = in_hand (g.B.Blocks.value c.args.store.now) (token c.args.message.now) in
    copied-first chain (omega arith) c.in_ok-copy.ensures

pub copy-requires-in-loop-at-clause-in_hand : goal.copy-requires-in-loop-at-clause-in_hand
copy-requires-in-loop-at-clause-in_hand g c = made-keeps c.loop-at.invariant (token c.args.message.now) c.requires

pub copy-requires-in-loop-at-clause-within : goal.copy-requires-in-loop-at-clause-within
copy-requires-in-loop-at-clause-within g c =
    let same = ap (λ xs. length xs) (made-keeps-chain c.loop-at.invariant (token c.args.message.now) c.requires) in
    omega arith

pub loop-at-preserved : goal.loop-at-preserved
loop-at-preserved g c =
    copied-next (token c.args.message.now) c.loop-at.at c.loop-at.invariant c.requires (omega arith) c.in-Ok.ensures c.link-copy.ensures.kept_name c.link-copy.ensures.linked

pub link-copy-requires-clause-first_in_hand : goal.link-copy-requires-clause-first_in_hand
link-copy-requires-clause-first_in_hand g c = came-first (token c.loop-at.copy) (made-in_hand c.loop-at.invariant) c.in-Ok.ensures.fresh_name c.in-Ok.ensures.after

pub link-copy-requires-clause-second_in_hand : goal.link-copy-requires-clause-second_in_hand
link-copy-requires-clause-second_in_hand g c = came-second (token c.loop-at.copy) (made-in_hand c.loop-at.invariant) c.in-Ok.ensures.fresh_name c.in-Ok.ensures.after

pub link-copy-requires-clause-apart : goal.link-copy-requires-clause-apart
link-copy-requires-clause-apart g c = came-apart (token c.loop-at.copy) (made-in_hand c.loop-at.invariant) c.in-Ok.ensures.fresh_name c.in-Ok.ensures.after

pub free-requires : goal.free-requires
free-requires g c = ap (λ t. times_in (token c.loop-at.copy) t.hand) c.in-Err.ensures.same ∙ made-in_hand c.loop-at.invariant
