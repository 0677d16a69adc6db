use Rattle.std.proofs.Common.{◌∙◌, List, true, ap, sym}
use Rattle.strm_blocks.specs.Blocks.{Block, token, in_hand}
use Rattle.strm_blocks.specs.Outcomes.{seen_in, told}
use Rattle.strm_blocks.proofs.Visits.{told-alone}
use Rattle.strm_raw.specs.Raw.{chain_of, ids}
use Rattle.strm_raw.proofs.Finding as finding
use Rattle.strm_raw.proofs.store.RawStoreBlocks.visit_message.Goals as goal

pub message_link-first-requires : goal.message_link-first-requires
message_link-first-requires g c = finding.token-below c.self.invariant.raw _ c.self.view_is (token c.args.message.now) _ c.name.ensures c.requires

pub returns : goal.returns
returns g c =
    let t = c.self.inside in let v = t.memory in let is = c.self.invariant.raw in let l = c.message_link-first.result in
    let e = c.message_link-first.ensures.number ∙ c.name.ensures in
    let here = finding.here-by v t.ledger.roster _ c.self.view_is l (token c.args.message.now) _ c.message_link-first.ensures.there c.message_link-first.ensures.number c.name.ensures c.requires in
    let chain = sym (finding.found-chain is l here) ∙ (λ j. in_hand (c.self.view_is j) (e j)) in
    told-alone g.V.Visitor.after g.V.Visitor.goes_on c.args.visitor.now c.tell_message.new.visitor (chain_of v (finding.found is l here)) c.tell_message.result (c.tell_message.ensures (ids (finding.found is l here)) (finding.found-linked is l here) (finding.found-few is l here))
    ∙ ap (λ (q : List Block). told g.V.Visitor.after g.V.Visitor.goes_on c.args.visitor.now (seen_in true q)) chain
