use Rattle.std.proofs.Common.{ℕ, ◌<◌, sym, ap, ◌∙◌, subst, arith, length}
use Rattle.strm_blocks.specs.Blocks.{StoreValue, token, Block, block_at, in_hand}
use Rattle.strm_raw.specs.Numbered.{Row, row_at}
use Rattle.strm_raw.specs.Raw.{ids}
use Rattle.strm_raw.proofs.Finding as finding
use Rattle.strm_raw.proofs.store.RawStoreBlocks.kind.Goals as goal

pub message_link-first-requires : goal.message_link-first-requires
message_link-first-requires c = finding.token-below c.self.invariant.raw _ c.self.view_is (token c.args.message.now) _ c.name.ensures c.requires.in_hand

pub returns : goal.returns
returns c =
    let t = c.self.inside in let v = t.memory in let is = c.self.invariant.raw in let l = c.message_link-first.result in let n = token c.args.message.now in
    let e = c.message_link-first.ensures.number ∙ c.name.ensures in let at = c.args.at in
    let here = finding.here-by v t.ledger.roster _ c.self.view_is l n _ c.message_link-first.ensures.there c.message_link-first.ensures.number c.name.ensures c.requires.in_hand in
    let within = subst (λ (x : StoreValue × ℕ). at < length (in_hand x.0 x.1)) (λ j. (sym c.self.view_is j, sym e j)) c.requires.within in
    let len = finding.found-len is l here in
    let j = c.block_link-link.ensures.number (ids (finding.found is l here)) (finding.found-linked is l here) (omega arith) in
    ap (λ (r : Row). r.kind) (c.message.ensures.row ∙ ap (λ k. row_at k v.rows) j)
    ∙ sym (ap (λ (b : Block). b.kind) (finding.found-block is l here at within))
    ∙ (λ j. (block_at at (in_hand (c.self.view_is j) (e j))).kind)
