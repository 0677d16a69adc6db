use Rattle.std.proofs.Common.{◌∙◌, List, ap, subst, sym}
use Rattle.strm_blocks.specs.Blocks.{Block, StoreValue, list_at}
use Rattle.strm_blocks.specs.Outcomes.{seen_on, told}
use Rattle.strm_raw.specs.Lists.{IsList, queue_at}
use Rattle.strm_raw.specs.declared.neighbours.Ends.{Ends}
use Rattle.strm_raw.proofs.Moved.{queue-value}
use Rattle.strm_raw.proofs.Telling.{queue-whole}
use Rattle.strm_raw.proofs.store.RawStoreBlocks.visit.Goals as goal

pub returns : goal.returns
returns g c =
    let t = c.self.inside in let v = t.memory in let b = t.ledger.roster in let k = c.args.list in
    c.tell_list.ensures (queue_at k b.lists) (subst (λ (e : Ends). IsList v e (queue_at k b.lists)) (sym c.open.ensures) (c.self.invariant.listed.tied k)) (queue-whole c.self.invariant.raw k)
    ∙ ap (λ (q : List (List Block)). told g.V.Visitor.after g.V.Visitor.goes_on c.args.visitor.now (seen_on q)) (sym (queue-value v b.lists k) ∙ ap (λ (s : StoreValue). list_at s k) c.self.view_is)
