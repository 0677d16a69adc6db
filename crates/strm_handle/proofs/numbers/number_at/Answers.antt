-- Each of these has a number.
use Rattle.std.proofs.Common.{◌≡◌, ◌∙◌, ℕ, zero, suc, true, List, [], ◌∷◌, Some, refl, sym, subst, arith}
use Rattle.std.proofs.lemmas.Bool.{ltb-true}
use Rattle.std.proofs.lemmas.Option.{slice_get_read}
use Rattle.std.specs.Prelude.{get_or, length, nat_lt, slice_get}
use Rattle.strm_types.specs.declared.names.QueueName.{QueueName}
use Rattle.strm_handle.specs.Numbers.{AreNumbered, has_number}
use Rattle.strm_handle.proofs.numbers.number_at.Goals as goal

-- the one at a place within the list
is-there : (names : List QueueName) (place : ℕ) (name : QueueName) → true ≡ nat_lt place (length names) → name ≡ get_or names place name → slice_get names place ≡ Some name
is-there names place name within is = slice_get_read names (length names) place name refl (ltb-true place (length names) (sym within)) is

has-at : (names : List QueueName) (place : ℕ) (name : QueueName) → AreNumbered names → slice_get names place ≡ Some name → has_number name.place ≡ true
has-at [] place name are is = absurd (cc)
has-at (n ∷ names) zero name are is = let same : n ≡ name = cc in subst (λ (q : QueueName). has_number q.place ≡ true) same are.0
has-at (n ∷ names) (suc place) name are is = has-at names place name are.1 is

pub returns-in-Some-clause-told : goal.returns-in-Some-clause-told
returns-in-Some-clause-told c =
    let there = is-there c.args.names.now c.args.place c.in-Some.name.now c.in-Some.ensures.lookup.0 c.in-Some.ensures.lookup.1 in
    c.queue_number.ensures.taken (has-at c.args.names.now c.args.place c.in-Some.name.now c.requires there) ∙ sym there

pub returns-in-Some-clause-few : goal.returns-in-Some-clause-few
returns-in-Some-clause-few c =
    let there = is-there c.args.names.now c.args.place c.in-Some.name.now c.in-Some.ensures.lookup.0 c.in-Some.ensures.lookup.1 in
    let few = c.queue_number.ensures.few (has-at c.args.names.now c.args.place c.in-Some.name.now c.requires there) in
    omega (arith, few)
