use Rattle.std.proofs.Common.{rules, ◌≡◌, ℕ, ap, ◌∙◌, subst}
use Rattle.std.specs.Prelude.{Ok}
use Rattle.strm_types.specs.declared.answers.Answer.{Answer}
use Rattle.strm_types.specs.declared.answers.Answer.TheVariants.{Count}
use Rattle.strm_types.specs.declared.events.Event.TheVariants.{Write}
use Rattle.strm_locks.specs.Ends.{Calls}
use Rattle.strm_storm.specs.Rounds.{word}
use Rattle.strm_storm.proofs.Calls.{asked_by}
use Rattle.strm_storm.proofs.rounds.write.Goals as goal

pub returns-in-Count-eq3-clause-asks : goal.returns-in-Count-eq3-clause-asks
returns-in-Count-eq3-clause-asks g c =
    let three : Answer ℕ = Count 3 in
    let is : c.in_ok-call.field-0 ≡ three = c.in-Count-eq3.is ∙ ap (λ (n : ℕ). let a : Answer ℕ = Count n in a) c.in-Count-eq3.field-0-test in
    let bytes : c.as_slice-bytes.result.now ≡ word = search rules in
    let told = subst (λ xs. Calls c.args.end.now.end (Write xs) c.new.result.items c.call.new.out.items (Ok c.in_ok-call.field-0) c.call.new.end.end) bytes c.in_ok-call.ensures.told in
    asked_by c.args.end.now c.call.new.end (Write word) c.new.result.items c.call.new.out.items three c.call.ensures.pair (subst (λ x. Calls c.args.end.now.end (Write word) c.new.result.items c.call.new.out.items (Ok x) c.call.new.end.end) is told)
