-- The turn of the queue of the way ends, where there are queues.
use Rattle.strm_frame.proofs.Prelude.{refl, ap, sym, subst, ◌∙◌, Option, Some, IfSome, option_map}
use Rattle.strm_frame.specs.Prelude.{end_relieves, has_more, turn_ended, pair_changed, stood}
use Rattle.strm_frame.specs.declared.queue_pair.QueuePair.{QueuePair}
use Rattle.strm_frame.specs.Standings.{IsPairReady, lists_of, queues_in}
use Rattle.strm_frame.proofs.Flags.{flags-fit, lists-own}
use Rattle.strm_frame.proofs.standing.Standing.end_turn.Goals as goal

pub end_turn-requires : goal.end_turn-requires
end_turn-requires g c =
    let s = g.B.Blocks.value c.args.store.now in
    record { ready = subst (λ (o : Option QueuePair). IfSome o (IsPairReady s)) c.in-Some.is c.requires.held.queues }

pub returns-in-Some : goal.returns-in-Some
returns-in-Some g c =
    let w = g.M.Module in
    let s = g.B.Blocks.value c.args.store.now in
    let x = c.args.self.now in
    let p = w.plain s x.module in
    let e = c.end_turn.ensures in
    let new = Some c.end_turn.new.self in
    let lists = e.lists ∙ ap lists_of (sym c.in-Some.is) in
    record {
      state = ap (stood p) (ap Some e.state ∙ ap (λ (o : Option QueuePair). option_map (pair_changed c.args.way (turn_ended c.args.took)) (queues_in s o)) (sym c.in-Some.is));
      room = e.room ∙ ap (λ (o : Option QueuePair). end_relieves c.args.took c.args.way (stood p (queues_in s o))) (sym c.in-Some.is);
      more = e.more ∙ ap (λ (o : Option QueuePair). has_more c.args.way (stood p (queues_in s o))) (sym c.in-Some.is);
      held = flags-fit w.plain w.IsHeld w.keeps g.met.M.Module.frame s x.module x.queues new lists e.ready c.requires.held;
      owns_same = lists-own x.queues new lists;
      keeps_same = λ i. refl;
    }

pub returns-in-None : goal.returns-in-None
returns-in-None g c =
    let w = g.M.Module in
    let s = g.B.Blocks.value c.args.store.now in
    let x = c.args.self.now in
    let p = w.plain s x.module in
    record {
      state = ap (stood p) (ap (queues_in s) c.in-None.is ∙ ap (λ (o : Option QueuePair). option_map (pair_changed c.args.way (turn_ended c.args.took)) (queues_in s o)) (sym c.in-None.is));
      room = ap (λ (o : Option QueuePair). end_relieves c.args.took c.args.way (stood p (queues_in s o))) (sym c.in-None.is);
      more = ap (λ (o : Option QueuePair). has_more c.args.way (stood p (queues_in s o))) (sym c.in-None.is);
      held = c.requires.held;
      owns_same = λ k. refl;
      keeps_same = λ i. refl;
    }
