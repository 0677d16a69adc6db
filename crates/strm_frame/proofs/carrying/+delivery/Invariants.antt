use Rattle.strm_frame.proofs.Prelude.{◌≡◌, ◌<◌, ◌+◌, length}
use Rattle.strm_frame.specs.Prelude.{in_turn, carried, tallied, FreesNone, beyond, budget, cost_of}
use Rattle.std.proofs.Common.{◌*◌}
use Rattle.strm_frame.specs.Does.{StaysAlone}
use Rattle.strm_frame.specs.Hands.{Handles, SamePool, Takes}
use Rattle.strm_frame.specs.Outboxes.{sent_of, times_sent, parcels_in, AreChains}
use Rattle.strm_frame.proofs.carrying.+delivery.Given as goal

abbrev pub decreases-deliver : goal.decreases-deliver
decreases-deliver g l = 2 * l.hops

abbrev pub decreases-deliver_all : goal.decreases-deliver_all
decreases-deliver_all g l = 2 * l.hops + 1

abbrev pub invariant-deliver_all-loop-next : goal.invariant-deliver_all-loop-next
invariant-deliver_all-loop-next g l =
    let value = g.B.Blocks.value in
    let w = g.S.Stations in
    let rest = in_turn (carried w.puts l.hops) (parcels_in (value l.store) (sent_of l.left)) (w.plain (value l.store) l.stations) in
    let all = in_turn (carried w.puts l.fn.hops) (parcels_in (value l.fn.store) (sent_of l.fn.sent)) (w.plain (value l.fn.store) l.fn.stations) in
    let table = w.costs (w.plain (value l.fn.store) l.fn.stations) in
    let first = budget table l.fn.hops in
    record {
      state : rest.state ≡ all.state;
      told : tallied rest.gone l.told ≡ tallied all.gone l.fn.told;
      held : w.IsHeld (value l.store) l.stations;
      chains : AreChains (value l.store) (sent_of l.left);
      ends : cost_of first (parcels_in (value l.store) (sent_of l.left)) < beyond;
      hands : Handles (value l.fn.store) (value l.store) (λ i. times_sent i (sent_of l.fn.sent)) (w.keeps l.fn.stations) (w.keeps l.stations) (λ i. times_sent i (sent_of l.left));
      costs : w.costs (w.plain (value l.store) l.stations) ≡ table;
      takes : Takes (value l.fn.store) (value l.store) (w.spare (w.plain (value l.fn.store) l.fn.stations)) (w.spare (w.plain (value l.store) l.stations))
          (cost_of first (parcels_in (value l.fn.store) (sent_of l.fn.sent))) (cost_of first (parcels_in (value l.store) (sent_of l.left)));
      blocks : StaysAlone w.stays (w.plain (value l.fn.store) l.fn.stations) (parcels_in (value l.fn.store) (sent_of l.fn.sent))
          → StaysAlone w.stays (w.plain (value l.store) l.stations) (parcels_in (value l.store) (sent_of l.left)) × FreesNone (value l.fn.store) (value l.store);
      pool : SamePool (value l.fn.store) (value l.store);
    }

abbrev pub decreases-deliver_all-loop-next : goal.decreases-deliver_all-loop-next
decreases-deliver_all-loop-next g l = length (sent_of l.left)
