use Rattle.std.proofs.Common.{ℕ, IfOk, Err}
use Rattle.std.specs.Prelude.{Result, Ok}
use Rattle.strm_types.specs.declared.answers.Answer.{Answer}
use Rattle.strm_types.specs.declared.entries.Entry.TheVariants.{Called}
use Rattle.strm_types.specs.declared.refusals.Refusal.{Refusal}
use Rattle.strm_types.specs.Events.{request}
use Rattle.strm_types.specs.Journal.{reply_in}
use Rattle.strm_laws.proofs.NoOwn.{none as no_own}
use Rattle.strm_laws.specs.Pair.{AddsEntry}
use Rattle.strm_locks.specs.Tallies.{Tallies}
use Rattle.strm_system.proofs.Tallying.{adds-tally}
use Rattle.strm_system.proofs.locked.LockedObject.call.Goals as goal

pub returns-clause-tally : goal.returns-clause-tally
returns-clause-tally g c = at c.call-answer.result c.call-answer.ensures.adds
  where
    at : (r : Result (Answer ℕ) Refusal)
        → IfOk r (λ answer. AddsEntry no_own c.args.self.now.pair c.call-answer.new.self (Called c.args.caller (request c.args.event.now) (reply_in answer c.call-answer.new.out.items)))
        → IfOk r (λ answer. Tallies c.args.self.now.pair c.call-answer.new.self (Called c.args.caller (request c.args.event.now) (reply_in answer c.call-answer.new.out.items)))
    at (Err z) adds = adds
    at (Ok answer) adds =
        let entry = Called c.args.caller (request c.args.event.now) (reply_in answer c.call-answer.new.out.items) in
        adds-tally c.args.self.now.pair c.call-answer.new.self entry (c.know.ensures.counts, c.know.ensures.agrees) (c.know-2.ensures.counts, c.know-2.ensures.agrees) adds
