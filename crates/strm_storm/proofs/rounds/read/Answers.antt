use Rattle.std.proofs.Common.{rules, ◌≡◌, ℕ, false, true, ap, sym, ◌∙◌, subst}
use Rattle.std.specs.Prelude.{Ok}
use Rattle.strm_types.specs.declared.answers.Answer.{Answer}
use Rattle.strm_types.specs.declared.answers.Answer.TheVariants.{Bytes}
use Rattle.strm_types.specs.declared.events.Event.TheVariants.{Read}
use Rattle.strm_locks.specs.Ends.{Calls}
use Rattle.strm_locks.specs.Shares.{entry_of}
use Rattle.strm_storm.specs.Rounds.{Asks, word}
use Rattle.strm_storm.proofs.Calls.{asked_by}
use Rattle.strm_storm.proofs.rounds.read.Goals.{in-Bytes-eq3, in_default, in_default-2}
use Rattle.strm_storm.proofs.rounds.read.Goals as goal

pub returns-then-eq-clause-asks : goal.returns-then-eq-clause-asks
returns-then-eq-clause-asks g c =
    let three : Answer ℕ = Bytes 3 in
    let is : c.in_ok-answer.answer ≡ three = elim c.match-matches.branch [
      | in-Bytes-eq3 w ↦ w.in-Bytes-eq3.is ∙ ap (λ (n : ℕ). let a : Answer ℕ = Bytes n in a) (sym w.in-Bytes-eq3.field-0-is ∙ w.in-Bytes-eq3.field-0-test)
      | in_default w ↦ (let f : true ≡ false = sym c.if-matches.true ∙ w.matches-is in absurd (cc))
      | in_default-2 w ↦ (let f : true ≡ false = sym c.if-matches.true ∙ w.matches-is in absurd (cc))
    ] in
    let bytes : c.call.new.out.items ≡ word = search rules in
    let told = subst (λ x. Calls c.args.end.now.end (Read 16) c.new-out.result.items c.call.new.out.items (Ok x) c.call.new.end.end) is c.in_ok-answer.ensures.told in
    let asks = asked_by c.args.end.now c.call.new.end (Read 16) c.new-out.result.items c.call.new.out.items three c.call.ensures.pair told in
    subst (λ xs. Asks c.args.end.now c.call.new.end (entry_of c.args.end.now.end.caller (Read 16) xs three)) bytes asks
