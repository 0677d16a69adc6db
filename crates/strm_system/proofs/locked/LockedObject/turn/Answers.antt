use Rattle.std.proofs.Common.{IfOk, Err}
use Rattle.std.specs.Prelude.{Result, Ok}
use Rattle.strm_types.specs.declared.answers.Turn.{Turn}
use Rattle.strm_types.specs.declared.entries.Entry.TheVariants.{Turned}
use Rattle.strm_types.specs.declared.refusals.Refusal.{Refusal}
use Rattle.strm_laws.proofs.NoOwn.{none as no_own}
use Rattle.strm_laws.specs.Pair.{AddsEntry}
use Rattle.strm_locks.specs.Tallies.{Tallies}
use Rattle.strm_system.proofs.Tallying.{adds-tally}
use Rattle.strm_system.proofs.locked.LockedObject.turn.Goals as goal

pub returns-clause-tally : goal.returns-clause-tally
returns-clause-tally g c = at c.turn-turn.result c.turn-turn.ensures.adds
  where
    at : (r : Result Turn Refusal)
        → IfOk r (λ turn. AddsEntry no_own c.args.self.now.pair c.turn-turn.new.self (Turned c.args.name turn))
        → IfOk r (λ turn. Tallies c.args.self.now.pair c.turn-turn.new.self (Turned c.args.name turn))
    at (Err z) adds = adds
    at (Ok turn) adds = adds-tally c.args.self.now.pair c.turn-turn.new.self (Turned c.args.name turn) c.know.ensures.counts c.know-2.ensures.counts adds
