use Rattle.std.proofs.Common.{sym, ap, ◌∙◌, arith}
use Rattle.strm_blocks.specs.Blocks.{token, Block, block_at, in_hand}
use Rattle.strm_raw.specs.Numbered.{Row, row_at}
use Rattle.strm_raw.proofs.Finding as finding
use Rattle.strm_raw.proofs.store.RawStoreBlocks.band.Goals as goal

pub message_link-first-requires : goal.message_link-first-requires
message_link-first-requires c = finding.token-below c.self.invariant.raw _ c.self.view_is (token c.args.message.now) _ c.name.ensures c.requires

pub returns : goal.returns
returns c =
    let t = c.self.inside in let v = t.memory in let is = c.self.invariant.raw in let l = c.message_link-first.result in let n = token c.args.message.now in
    let e = c.message_link-first.ensures.number ∙ c.name.ensures in
    let here = finding.here-by v t.ledger.roster _ c.self.view_is l n _ c.message_link-first.ensures.there c.message_link-first.ensures.number c.name.ensures c.requires in
    let len = finding.found-len is l here in
    ap (λ (r : Row). r.band) (c.message.ensures.row ∙ ap (λ k. row_at k v.rows) (sym (finding.found-head is l here)))
    ∙ sym (ap (λ (b : Block). b.band) (finding.found-block is l here 0 (omega arith)))
    ∙ (λ j. (block_at 0 (in_hand (c.self.view_is j) (e j))).band)
