-- The two parts of a message in one buffer.
use Rattle.std.proofs.Common.{ℕ, ◌≡◌, ◌≤◌, ◌+◌, length, take, refl, sym, subst, arith}
use Rattle.std.proofs.lemmas.Bool.Decides.{nat_tests}
use Rattle.std.specs.Prelude.{Option, Some, nat_le, true}
use Rattle.std.proofs.lemmas.List.{take-take, drop-take, length-take-le}
use Rattle.strm_handle.specs.Calls.{HaveParts}

parts-over : (len other : ℕ) → HaveParts 3 len (Some len) (Some other)
parts-over len other bytes le =
    let most : length (take (len + other) bytes) ≡ len + other = length-take-le (len + other) bytes le in
    let within : len ≤ len + other = omega arith in
    let fits : nat_le len (len + other) ≡ true = grind (arith, nat_tests) in
    rw (most, fits, take-take len (len + other) bytes within, drop-take len other bytes) refl

pub both-parts : (len other : ℕ) (control body : Option ℕ) → control ≡ Some len → body ≡ Some other → HaveParts 3 len control body
both-parts len other control body first second =
    subst (λ o. HaveParts 3 len o body) (sym first) (subst (λ o. HaveParts 3 len (Some len) o) (sym second) (parts-over len other))
