-- The list of free data blocks: what taking one, giving one back and other changes of a count do to it.
use Rattle.std.proofs.Common.{ℕ, zero, suc, ◌≡◌, ◌≢◌, ◌≤◌, ◌<◌, ◌+◌, ◌-◌, Bool, true, false, cond, eqb, ltb, List, [], ◌∷◌, ◌++◌, length, get_or, refl, ap, ◌∙◌, arith}
use Rattle.std.proofs.Math.ListN.{set, length-set}
use Rattle.std.specs.Prelude.{count_by, replicate}
use Rattle.std.proofs.lemmas.Bool.Decides.{nat_tests}
use Rattle.std.proofs.lemmas.List.{get_or-set_same, get_or-set_other, get_or_past, length_push, length-replicate}
use Rattle.std.proofs.lemmas.List.Sums.{sum_by_push, sum_by-cons, sum_by-set, count_by-le-length}
use Rattle.strm_blocks.specs.Pool.{IsFreeList, times, is_named, is_there}

-- 1 where a test holds
one : Bool → ℕ
one b = cond b 1 0

times-push : (n d : ℕ) (xs : List ℕ) → times n (xs ++ d ∷ []) ≡ times n xs + cond (eqb d n) 1 0
times-push n d xs = sum_by_push (λ x. cond (eqb x n) 1 0) xs d

-- a member of the list has no reference
pub free-within : (free references : List ℕ) (d : ℕ) → IsFreeList (free ++ d ∷ []) references → d < length references
free-within free references d is = let p = times-push d d free in let l = is.listed d in grind (arith, nat_tests)

pub free-unnamed : (free references : List ℕ) (d : ℕ) → IsFreeList (free ++ d ∷ []) references → get_or references d 0 ≡ 0
free-unnamed free references d is = let p = times-push d d free in let l = is.listed d in grind (arith, nat_tests)

-- a data block that has a reference exists
pub named-within : (references : List ℕ) (d : ℕ) → 0 < get_or references d 0 → d < length references
named-within references d some = elim (ltb d (length references)) as (λ b. (ltb d (length references) ≡ b) → d < length references) [ true ↦ (λ e. grind (arith, nat_tests)) | false ↦ (λ e. absurd (let p = get_or_past references d 0 (grind (arith, nat_tests)) in omega arith)) ] refl

-- how a changed count changes how many have none
zeros-set : (references : List ℕ) (d v : ℕ) → d < length references → count_by (λ r. eqb r 0) (set references d v) + cond (eqb (get_or references d 0) 0) 1 0 ≡ count_by (λ r. eqb r 0) references + cond (eqb v 0) 1 0
zeros-set references d v within = sum_by-set (λ r. cond (eqb r 0) 1 0) references d v 0 within

-- one count of a list where another one changes
set_at : (references : List ℕ) (d v n : ℕ) → n ≡ d → d < length references → get_or (set references d v) n 0 ≡ v
set_at references d v n e within = ap (λ k. get_or (set references d v) k 0) e ∙ get_or-set_same references d v 0 within

-- all counts after one went down by one
pub released-one : (references : List ℕ) (d n : ℕ) → 0 < get_or references d 0 → get_or (set references d (get_or references d 0 - 1)) n 0 + cond (eqb d n) 1 0 ≡ get_or references n 0
released-one references d n some =
    let within = named-within references d some in
    elim (eqb d n) as (λ b. (eqb d n ≡ b) → get_or (set references d (get_or references d 0 - 1)) n 0 + cond b 1 0 ≡ get_or references n 0) [
      | true ↦ (λ e. let same : n ≡ d = grind (arith, nat_tests) in let g = set_at references d (get_or references d 0 - 1) n same within in let u : get_or references n 0 ≡ get_or references d 0 = ap (λ k. get_or references k 0) same in omega arith)
      | false ↦ (λ e. let other : n ≢ d = grind (arith, nat_tests) in let g = get_or-set_other references d n (get_or references d 0 - 1) 0 other in omega arith)
    ] refl

-- the free list after a member of it got a reference
pub IsFreeList-taken : (free references : List ℕ) (d v : ℕ) → 0 < v → IsFreeList (free ++ d ∷ []) references → IsFreeList free (set references d v)
IsFreeList-taken free references d v some is =
    let within = free-within free references d is in
    let unnamed = free-unnamed free references d is in
    record {
      listed = λ n. (let t = times-push n d free in let l = is.listed n in let s = length-set references d v in
          elim (eqb d n) as (λ b. (eqb d n ≡ b) → times n free + is_named (set references d v) n ≡ is_there (set references d v) n) [
            | true ↦ (λ e. let same : n ≡ d = grind (arith, nat_tests) in let g = set_at references d v n same within in let u : get_or references n 0 ≡ 0 = ap (λ k. get_or references k 0) same ∙ unnamed in grind (arith, nat_tests))
            | false ↦ (λ e. let other : n ≢ d = grind (arith, nat_tests) in let g = get_or-set_other references d n v 0 other in grind (arith, nat_tests))
          ] refl);
      counted = let z = zeros-set references d v within in let l = length_push free d in let c = is.counted in grind (arith, nat_tests);
    }

-- the free list after its newest member gave up its last reference
pub IsFreeList-released : (free references : List ℕ) (d : ℕ) → 0 < get_or references d 0 → IsFreeList free references → IsFreeList (free ++ d ∷ []) (set references d 0)
IsFreeList-released free references d some is =
    let within = named-within references d some in
    record {
      listed = λ n. (let t = times-push n d free in let l = is.listed n in let s = length-set references d 0 in
          elim (eqb d n) as (λ b. (eqb d n ≡ b) → times n (free ++ d ∷ []) + is_named (set references d 0) n ≡ is_there (set references d 0) n) [
            | true ↦ (λ e. let same : n ≡ d = grind (arith, nat_tests) in let g = set_at references d 0 n same within in let u : get_or references n 0 ≡ get_or references d 0 = ap (λ k. get_or references k 0) same in grind (arith, nat_tests))
            | false ↦ (λ e. let other : n ≢ d = grind (arith, nat_tests) in let g = get_or-set_other references d n 0 0 other in grind (arith, nat_tests))
          ] refl);
      counted = let z = zeros-set references d 0 within in let l = length_push free d in let c = is.counted in grind (arith, nat_tests);
    }

-- the free list while a count goes from some to some
pub IsFreeList-kept : (free references : List ℕ) (d v : ℕ) → 0 < get_or references d 0 → 0 < v → IsFreeList free references → IsFreeList free (set references d v)
IsFreeList-kept free references d v some more is =
    let within = named-within references d some in
    record {
      listed = λ n. (let l = is.listed n in let s = length-set references d v in
          elim (eqb d n) as (λ b. (eqb d n ≡ b) → times n free + is_named (set references d v) n ≡ is_there (set references d v) n) [
            | true ↦ (λ e. let same : n ≡ d = grind (arith, nat_tests) in let g = set_at references d v n same within in let u : get_or references n 0 ≡ get_or references d 0 = ap (λ k. get_or references k 0) same in grind (arith, nat_tests))
            | false ↦ (λ e. let other : n ≢ d = grind (arith, nat_tests) in let g = get_or-set_other references d n v 0 other in grind (arith, nat_tests))
          ] refl);
      counted = let z = zeros-set references d v within in let c = is.counted in grind (arith, nat_tests);
    }

-- fewer members than data blocks
pub free-few : (free references : List ℕ) → IsFreeList free references → length free ≤ length references
free-few free references is = let c = is.counted in omega (arith, count_by-le-length (λ r. eqb r 0) references)

-- with room for one more where a data block has a reference
pub free-fewer : (free references : List ℕ) (d : ℕ) → 0 < get_or references d 0 → IsFreeList free references → length free < length references
free-fewer free references d some is =
    let within = named-within references d some in
    let z = zeros-set references d 0 within in
    let c = is.counted in
    let s = length-set references d 0 in
    let b = count_by-le-length (λ r. eqb r 0) (set references d 0) in
    grind (arith, nat_tests)

-- a bound on all counts, where one changes
pub bounded-set : (references : List ℕ) (d v m : ℕ) → v ≤ m → ((n : ℕ) → get_or references n 0 ≤ m) → (n : ℕ) → get_or (set references d v) n 0 ≤ m
bounded-set references d v m le all n =
    elim (eqb d n) as (λ b. (eqb d n ≡ b) → get_or (set references d v) n 0 ≤ m) [
      | true ↦ (λ e. elim (ltb d (length references)) as (λ b. (ltb d (length references) ≡ b) → get_or (set references d v) n 0 ≤ m) [
        | true ↦ (λ w. let g = set_at references d v n (grind (arith, nat_tests)) (grind (arith, nat_tests)) in omega arith)
        | false ↦ (λ w. let g = get_or_past (set references d v) n 0 (let s = length-set references d v in grind (arith, nat_tests)) in omega arith)
      ] refl)
      | false ↦ (λ e. let g = get_or-set_other references d n v 0 (grind (arith, nat_tests)) in let a = all n in omega arith)
    ] refl

-- one more number in a list that has each below it once
pub times-next : (free : List ℕ) (k : ℕ) → ((n : ℕ) → times n free ≡ cond (ltb n k) 1 0) → (n : ℕ) → times n (free ++ k ∷ []) ≡ cond (ltb n (k + 1)) 1 0
times-next free k all n = let t = times-push n k free in let a = all n in grind (arith, nat_tests)

zeros-replicate : (count : ℕ) → count_by (λ r. eqb r 0) (replicate count 0) ≡ count
zeros-replicate zero = refl
zeros-replicate (suc count) = sum_by-cons (λ r. cond (eqb r 0) 1 0) 0 (replicate count 0) ∙ (let z = zeros-replicate count in omega arith)

pub get_or-zeros : (count n : ℕ) → get_or {A = ℕ} (replicate count 0) n 0 ≡ 0
get_or-zeros zero n = refl
get_or-zeros (suc count) zero = refl
get_or-zeros (suc count) (suc n) = get_or-zeros count n

-- the free list of data blocks that are all free
pub IsFreeList-new : (free : List ℕ) (count : ℕ) → ((n : ℕ) → times n free ≡ cond (ltb n count) 1 0) → length free ≡ count → IsFreeList free (replicate count 0)
IsFreeList-new free count all len = record {
  listed = λ n. let z = get_or-zeros count n in let a = all n in let l = length-replicate {A = ℕ} count 0 in grind (arith, nat_tests);
  counted = let z = zeros-replicate count in omega arith;
}

pub bounded-zeros : (count n : ℕ) → get_or (replicate count 0) n 0 ≤ 255
bounded-zeros count n = let z = get_or-zeros count n in omega arith

-- all counts, where one goes up by one, and where it goes down by one
pub count-more : (counts : List ℕ) (d v : ℕ) → d < length counts → v ≡ get_or counts d 0 + 1 → (n : ℕ) → get_or (set counts d v) n 0 ≡ get_or counts n 0 + cond (eqb d n) 1 0
count-more counts d v within more n =
    elim (eqb d n) as (λ b. (eqb d n ≡ b) → get_or (set counts d v) n 0 ≡ get_or counts n 0 + cond b 1 0) [
      | true ↦ (λ e. let same : n ≡ d = grind (arith, nat_tests) in let g = set_at counts d v n same within in let u : get_or counts n 0 ≡ get_or counts d 0 = ap (λ k. get_or counts k 0) same in omega arith)
      | false ↦ (λ e. let g = get_or-set_other counts d n v 0 (grind (arith, nat_tests)) in omega arith)
    ] refl

pub count-fewer : (counts : List ℕ) (d v : ℕ) → d < length counts → v + 1 ≡ get_or counts d 0 → (n : ℕ) → get_or (set counts d v) n 0 + cond (eqb d n) 1 0 ≡ get_or counts n 0
count-fewer counts d v within fewer n =
    elim (eqb d n) as (λ b. (eqb d n ≡ b) → get_or (set counts d v) n 0 + cond b 1 0 ≡ get_or counts n 0) [
      | true ↦ (λ e. let same : n ≡ d = grind (arith, nat_tests) in let g = set_at counts d v n same within in let u : get_or counts n 0 ≡ get_or counts d 0 = ap (λ k. get_or counts k 0) same in omega arith)
      | false ↦ (λ e. let g = get_or-set_other counts d n v 0 (grind (arith, nat_tests)) in omega arith)
    ] refl

-- a count that goes from none to one
pub count-taken : (counts : List ℕ) (d : ℕ) → d < length counts → get_or counts d 0 ≡ 0 → (n : ℕ) → get_or (set counts d 1) n 0 ≡ get_or counts n 0 + cond (eqb d n) 1 0
count-taken counts d within none = count-more counts d 1 within (omega arith)
