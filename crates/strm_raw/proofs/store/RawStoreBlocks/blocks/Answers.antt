use Rattle.std.proofs.Common.{◌≤◌, sym, ◌∙◌, subst, arith, length}
use Rattle.strm_blocks.specs.Blocks.{token, in_hand}
use Rattle.strm_raw.specs.Raw.{ids}
use Rattle.strm_raw.proofs.Finding as finding
use Rattle.strm_raw.proofs.store.RawStoreBlocks.blocks.Goals as goal

pub message_link-first-requires : goal.message_link-first-requires
message_link-first-requires c = finding.token-below c.self.invariant.raw _ c.self.view_is (token c.args.message.now) _ c.name.ensures c.requires

pub returns-clause-count : goal.returns-clause-count
returns-clause-count c =
    let t = c.self.inside in let v = t.memory in let is = c.self.invariant.raw in let l = c.message_link-first.result in
    let e = c.message_link-first.ensures.number ∙ c.name.ensures in
    let here = finding.here-by v t.ledger.roster _ c.self.view_is l (token c.args.message.now) _ c.message_link-first.ensures.there c.message_link-first.ensures.number c.name.ensures c.requires in
    let few = subst (λ k. length (ids (finding.found is l here)) ≤ k) (sym c.messages.ensures) (finding.found-few is l here) in
    c.chain_len.ensures (ids (finding.found is l here)) (finding.found-linked is l here) few
    ∙ sym (finding.found-len is l here)
    ∙ (λ j. length (in_hand (c.self.view_is j) (e j)))

pub returns-clause-some : goal.returns-clause-some
returns-clause-some c =
    let t = c.self.inside in let v = t.memory in let is = c.self.invariant.raw in let l = c.message_link-first.result in
    let here = finding.here-by v t.ledger.roster _ c.self.view_is l (token c.args.message.now) _ c.message_link-first.ensures.there c.message_link-first.ensures.number c.name.ensures c.requires in
    let few = subst (λ k. length (ids (finding.found is l here)) ≤ k) (sym c.messages.ensures) (finding.found-few is l here) in
    let n = c.chain_len.ensures (ids (finding.found is l here)) (finding.found-linked is l here) few in
    omega arith
