use Rattle.std.proofs.Common.{◌≤◌, length, sym, ap, ◌∙◌, subst, arith}
use Rattle.std.specs.Prelude.{sum_by}
use Rattle.strm_blocks.specs.Blocks.{token, Block, in_hand}
use Rattle.strm_blocks.specs.Outcomes.{summary_of}
use Rattle.strm_raw.specs.Numbered.{Row, row_at}
use Rattle.strm_raw.specs.Raw.{ids, block_no}
use Rattle.strm_raw.proofs.Finding as finding
use Rattle.strm_raw.proofs.Standing.{sum_by-map}
use Rattle.strm_raw.proofs.store.RawStoreBlocks.summary.Goals as goal

pub message_link-first-requires : goal.message_link-first-requires
message_link-first-requires c = finding.token-below c.self.invariant.raw _ c.self.view_is (token c.args.message.now) _ c.name.ensures c.requires

pub returns : goal.returns
returns c =
    let t = c.self.inside in let v = t.memory in let is = c.self.invariant.raw in let l = c.message_link-first.result in let n = token c.args.message.now in
    let e = c.message_link-first.ensures.number ∙ c.name.ensures in
    let here = finding.here-by v t.ledger.roster _ c.self.view_is l n _ c.message_link-first.ensures.there c.message_link-first.ensures.number c.name.ensures c.requires in
    let len = finding.found-len is l here in
    let few = subst (λ k. length (ids (finding.found is l here)) ≤ k) (sym c.messages.ensures) (finding.found-few is l here) in
    let row = c.message-node.ensures.row ∙ ap (λ k. row_at k v.rows) (sym (finding.found-head is l here)) in
    let block = finding.found-block is l here 0 (omega arith) in
    let kind = ap (λ (r : Row). r.kind) row ∙ sym (ap (λ (b : Block). b.kind) block) in
    let band = ap (λ (r : Row). r.band) row ∙ sym (ap (λ (b : Block). b.band) block) in
    let bytes = c.chain_bytes.ensures (ids (finding.found is l here)) (finding.found-linked is l here) few
    ∙ sym (sum_by-map (λ (b : Block). length b.bytes) (block_no v) (ids (finding.found is l here)))
    ∙ ap (λ chain. sum_by (λ (b : Block). length b.bytes) chain) (sym (finding.found-chain is l here)) in
    (λ j. record { kind = kind j; band = record { 0 = band j }; bytes = bytes j }) ∙ (λ j. summary_of (in_hand (c.self.view_is j) (e j)))
