use Rattle.std.proofs.Common.{ℕ, ◌<◌, sym, ap, ◌∙◌, subst, arith, length}
use Rattle.std.specs.Prelude.{slice_range}
use Rattle.strm_blocks.specs.Blocks.{StoreValue, token, Block, block_at, in_hand}
use Rattle.strm_raw.specs.Numbered.{Row, DataRow, data_at, row_at}
use Rattle.strm_raw.specs.Raw.{ids}
use Rattle.strm_raw.proofs.Finding as finding
use Rattle.strm_raw.proofs.store.RawStoreBlocks.bytes_at.Goals as goal

pub message_link-first-requires : goal.message_link-first-requires
message_link-first-requires c = finding.token-below c.self.invariant.raw _ c.self.view_is (token c.args.message.now) _ c.name.ensures c.requires.in_hand

pub returns-clause-bytes : goal.returns-clause-bytes
returns-clause-bytes c =
    let t = c.self.inside in let v = t.memory in let is = c.self.invariant.raw in let l = c.message_link-first.result in let n = token c.args.message.now in let e = c.message_link-first.ensures.number ∙ c.name.ensures in let at = c.args.at in
    let here = finding.here-by c.self.inside.memory c.self.inside.ledger.roster _ c.self.view_is l n _ c.message_link-first.ensures.there c.message_link-first.ensures.number c.name.ensures c.requires.in_hand in
    let within = subst (λ (x : StoreValue × ℕ). at < length (in_hand x.0 x.1)) (λ j. (sym c.self.view_is j, sym e j)) c.requires.within in
    let len = finding.found-len is l here in
    let j = c.block_link-link.ensures.number (ids (finding.found is l here)) (finding.found-linked is l here) (omega arith) in
    let row = c.message-node.ensures.row ∙ ap (λ k. row_at k v.rows) j in
    ap (λ (r : DataRow). slice_range r.bytes c.message-node.result.start c.message-node.result.end) c.datum-datum.ensures.row
    ∙ ap (λ (r : Row). slice_range (data_at r.number v.datas).bytes r.start r.end) row
    ∙ sym (ap (λ (b : Block). b.bytes) (finding.found-block is l here at within))
    ∙ (λ j. (block_at at (in_hand (c.self.view_is j) (e j))).bytes)
