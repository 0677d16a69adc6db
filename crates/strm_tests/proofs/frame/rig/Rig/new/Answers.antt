-- Nothing stands on any of the four queues.
use Rattle.std.proofs.Common.{[], ◌∷◌, ◌++◌, Some, ap, refl, ◌∙◌}
use Rattle.strm_types.specs.declared.names.ModuleName.TheVariants.{Ldterm, Pckt}
use Rattle.strm_blocks.specs.Blocks.{empty_store}
use Rattle.strm_frame.specs.declared.queue_pair.QueuePair.{QueuePair}
use Rattle.strm_frame.specs.declared.standing.Standing.{Standing}
use Rattle.strm_frame.specs.Standings.{standing}
use Rattle.strm_frame.proofs.Pairs.{empty-ready}
use Rattle.strm_tests.specs.declared.frame.stock.Stock.{Stock}
use Rattle.strm_tests.proofs.RigSteps.{two-new, two-own, two-ready}
use Rattle.strm_tests.proofs.frame.rig.Rig.new.Goals as goal

pub returns : goal.returns
returns c mblks dblks =
    let s = empty_store mblks dblks in
    let m : Stock = record { name = Ldterm } in
    let n : Stock = record { name = Pckt } in
    let upper = c.new.result in
    let lower : QueuePair = record { read = c.new-2.result; write = c.new-3.result } in
    let x : Standing Stock = standing m (Some upper) in
    let y : Standing Stock = standing n (Some lower) in
    two-new mblks dblks m n upper lower c.push-2.new.self.items (c.push-2.ensures.items ∙ ap (λ xs. xs ++ y ∷ []) (c.push.ensures.items ∙ ap (λ xs. xs ++ x ∷ []) c.new-modules.ensures))
    (c.new.ensures.ready s refl refl)
    (two-ready s lower (empty-ready s c.new-2.result 0 c.new-2.ensures.list c.new-2.ensures.counted refl) (empty-ready s c.new-3.result 1 c.new-3.ensures.list c.new-3.ensures.counted refl) c.new-2.ensures.list c.new-3.ensures.list)
    c.new.ensures.owns
    (λ k. two-own lower c.new-2.ensures.list c.new-3.ensures.list k)
