-- Where a pair of a host is found.
use Rattle.std.proofs.Common.{◌≡◌, ℕ, zero, suc, ◌<◌, List, [], ◌∷◌, length, refl, sym, ap, ◌∙◌, arith}
use Rattle.std.specs.Prelude.{Option, None, Some, IsSome, option_and_then, slice_get}
use Rattle.strm_locks.specs.Books.{LockId}
use Rattle.strm_locks.specs.Systems.{Plan}
use Rattle.strm_ends.specs.Members.{lock_in}

pub get_within : {A : Type 0} (xs : List A) (n : ℕ) (x : A) → slice_get xs n ≡ Some x → n < length xs
get_within [] n x is = absurd (cc)
get_within (y ∷ ys) zero x is = omega arith
get_within (y ∷ ys) (suc n) x is = let small = get_within ys n x is in omega (arith, small)

module _ (host : List Plan) (system pair : ℕ) where
  found_in : (o : Option Plan) (lock : LockId) → option_and_then (λ (p : Plan). slice_get p.locks pair) o ≡ Some lock → (plan : Plan) × (o ≡ Some plan)
  found_in None lock is = absurd (cc)
  found_in (Some plan) lock is = (plan, refl)

  -- a system of the host
  pub system_within : (lock : LockId) → lock_in host system pair ≡ Some lock → system < length host
  system_within lock is = let found = found_in (slice_get host system) lock is in get_within host system found.0 found.1

  -- a pair of the system that is lent
  pub in_system : (plan : Plan) (lock : LockId) → slice_get host system ≡ Some plan → lock_in host system pair ≡ Some lock → slice_get plan.locks pair ≡ Some lock
  in_system plan lock at is = sym (ap (λ (o : Option Plan). option_and_then (λ (p : Plan). slice_get p.locks pair) o) at) ∙ is

  pub of_system : (plan : Plan) → slice_get host system ≡ Some plan → lock_in host system pair ≡ slice_get plan.locks pair
  of_system plan at = ap (λ (o : Option Plan). option_and_then (λ (p : Plan). slice_get p.locks pair) o) at

  -- what stands there, where something does
  pub some_lock : (o : Option LockId) → IsSome o → (lock : LockId) × (o ≡ Some lock)
  some_lock None is = absurd (cc)
  some_lock (Some lock) is = (lock, refl)
