-- A writer waits at the queue of the way, where there are queues.
use Rattle.strm_frame.proofs.Prelude.{refl, ap, sym, subst, ◌∙◌, Option, Some, IfSome, option_map}
use Rattle.strm_frame.specs.Prelude.{pair_changed, stood}
use Rattle.strm_types.specs.ModuleQueues.{with_waiting}
use Rattle.strm_frame.specs.declared.queue_pair.QueuePair.{QueuePair}
use Rattle.strm_frame.specs.Standings.{IsPairReady, lists_of, queues_in}
use Rattle.strm_frame.proofs.Flags.{flags-fit, lists-own}
use Rattle.strm_frame.proofs.standing.Standing.let_wait.Goals as goal

pub returns-in-Some : goal.returns-in-Some
returns-in-Some g c =
    let w = g.M.Module in
    let x = c.args.self.now in
    let e = c.let_wait.ensures in
    let new = Some c.let_wait.new.self in
    let lists = e.lists ∙ ap lists_of (sym c.in-Some.is) in
    let waiting = pair_changed c.args.way (with_waiting c.args.band.0) in
    record {
      state = λ s. ap (stood (w.plain s x.module)) (ap Some (e.state s) ∙ ap (λ (o : Option QueuePair). option_map waiting (queues_in s o)) (sym c.in-Some.is));
      held = λ s held. flags-fit w.plain w.IsHeld w.keeps g.met.M.Module.frame s x.module x.queues new lists
          (e.ready s (subst (λ (o : Option QueuePair). IfSome o (IsPairReady s)) c.in-Some.is held.queues)) held;
      owns_same = lists-own x.queues new lists;
      keeps_same = λ i. refl;
    }

pub returns-in-None : goal.returns-in-None
returns-in-None g c =
    let w = g.M.Module in
    let x = c.args.self.now in
    let waiting = pair_changed c.args.way (with_waiting c.args.band.0) in
    record {
      state = λ s. ap (stood (w.plain s x.module)) (ap (queues_in s) c.in-None.is ∙ ap (λ (o : Option QueuePair). option_map waiting (queues_in s o)) (sym c.in-None.is));
      held = λ s held. held;
      owns_same = λ k. refl;
      keeps_same = λ i. refl;
    }
