-- The module keeps nothing in hand where what it stands for has nothing under way.
use Rattle.std.specs.Prelude.{ℕ, ◌≡◌, false, [], length, Option, None, Some, IfSome}
use Rattle.std.proofs.Common.{refl, ap, arith}
use Rattle.strm_ldterm.specs.Prelude.{Way, Up, Down, StoreValue, token, QueuePair, InHand}
use Rattle.strm_ldterm.specs.declared.ldterm.Ldterm.{Ldterm}
use Rattle.strm_ldterm.specs.Served.{IsServed, MayBeServed}
use Rattle.strm_ldterm.specs.Stands.{cells_kept, times_kept, kept_in, keeps, ldterm_in, IsGathered, IsHeld, Paired, FitsQueues, HasInHand, keeps_itself, own_in}

-- a message that isn't there
none-shown : (s : StoreValue) (o : Option InHand) → kept_in s o ≡ None → o ≡ None
none-shown s None none = refl
none-shown s (Some m) none = absurd (cc none)

none-gathers : (s : StoreValue) (o : Option InHand) → IfSome o (λ m. IsGathered s (token m)) → cells_kept (kept_in s o) ≡ [] → o ≡ None
none-gathers s None are none = refl
none-gathers s (Some m) are none = let empty = ap length none in let some = are.some in absurd (omega arith)

none-kept : (o : Option InHand) (i : ℕ) → o ≡ None → times_kept o i ≡ 0
unfolding times_kept
none-kept o i none = ap (λ k. times_kept k i) none

-- no bytes are gathered exactly where no message is kept for them
pub gathered-none : (s : StoreValue) (x : Paired) → IsHeld s x → (ldterm_in s x).gathered ≡ [] → x.gathered ≡ None
gathered-none s x held empty = none-gathers s x.gathered held.gathers empty

pub none-gathered : (s : StoreValue) (x : Paired) → x.gathered ≡ None → (ldterm_in s x).gathered ≡ []
none-gathered s x none = ap (λ o. cells_kept (kept_in s o)) none

-- no message in work, and no bytes gathered: nothing is kept in hand
pub ldterm-rests : (s : StoreValue) (x : Paired) → IsHeld s x → (ldterm_in s x).in_work ≡ None → (ldterm_in s x).gathered ≡ [] → (i : ℕ) → keeps x i ≡ 0
ldterm-rests s x held work gathered i =
    let one = none-kept x.in_work i (none-shown s x.in_work work) in
    let two = none-kept x.gathered i (gathered-none s x held gathered) in
    omega arith

-- so it is where a turn may begin
pub served-rests : (s : StoreValue) (x : Paired) (way : Way) (i : ℕ) → IsHeld s x → IsServed way false (ldterm_in s x) → keeps x i ≡ 0
served-rests s x Up i held idle = ldterm-rests s x held idle.0 idle.1 i
served-rests s x Down i held idle = ldterm-rests s x held idle.0 idle.1 i

-- the same of the module by itself
own-none : (s : StoreValue) (x : Ldterm) (queues : QueuePair) (i : ℕ) → FitsQueues s x queues → (own_in s x).in_work ≡ None → (own_in s x).gathered ≡ [] → keeps_itself x i ≡ 0
own-none s x queues i held work gathered =
    let one = none-kept x.in_work i (none-shown s x.in_work work) in
    let two = none-kept x.gathered i (none-gathers s x.gathered held.gathers gathered) in
    omega arith

pub own-rests : (s : StoreValue) (x : Ldterm) (queues : Option QueuePair) (way : Way) (i : ℕ) → HasInHand s x queues → MayBeServed way false (own_in s x) → keeps_itself x i ≡ 0
own-rests s x None way i held idle = absurd held
own-rests s x (Some queues) Up i held idle = own-none s x queues i held idle.0 idle.1
own-rests s x (Some queues) Down i held idle = own-none s x queues i held idle.0 idle.1
