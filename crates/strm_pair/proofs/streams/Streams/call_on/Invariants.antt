use Rattle.std.specs.Bool.{OnTrue}
use Rattle.std.specs.Prelude.{◌≡◌}
use Rattle.strm_frame.specs.Hands.{HasRoom}
use Rattle.strm_laws.specs.StackCosts.{stands_of}
use Rattle.strm_pair.specs.Enabling.{AreFewEnabled}
use Rattle.strm_pair.specs.ModuleServed.{IsKeptAll, next_cost}
use Rattle.strm_pair.specs.Pairs.{state_in, AreBeside, SamePool}
use Rattle.strm_pair.proofs.CallsOn.{Along, FewAt, still_to_come}
use Rattle.strm_pair.proofs.streams.Streams.call_on.Given as goal

abbrev pub invariant-loop-call : goal.invariant-loop-call
invariant-loop-call g l =
    let value = g.B.Blocks.value in
    let st = state_in (value l.store) l.self in
    record {
      along : Along g.M.Behaves.does l.call.again l.here l.bytes (state_in (value l.fn.store) l.fn.self) st l.fn.told l.told;
      few : FewAt l.call.again l.here l.bytes (state_in (value l.fn.store) l.fn.self) (value l.store);
      room : OnTrue l.call.again (HasRoom (value l.store) (next_cost l.here st));
      beside : AreBeside (value l.store) l.self;
      hand : IsKeptAll (value l.store) l.self;
      pool : SamePool (value l.fn.store) (value l.store);
      enabled : AreFewEnabled st;
      stands : stands_of st ≡ stands_of (state_in (value l.fn.store) l.fn.self);
    }

abbrev pub decreases-loop-call : goal.decreases-loop-call
decreases-loop-call g l = still_to_come l.call.again l.here (state_in (g.B.Blocks.value l.store) l.self)
