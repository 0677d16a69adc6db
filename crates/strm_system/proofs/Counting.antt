-- The counts of bytes by rule: what is told adds to that of reads what goes to readers, where none goes round.
use Rattle.std.proofs.Common.{ℕ, zero, suc, ◌≡◌, ◌+◌, ◌<◌, ◌≤◌, ◌%◌, ◌^◌, cond, List, [], ◌∷◌, length, refl, sym, ap, subst, arith, length-set}
use Rattle.std.specs.Prelude.{slice_index_or, slice_set, sum_by}
use Rattle.std.proofs.lemmas.List.Sums.{sum_by-cons}
use Rattle.strm_types.specs.declared.names.Dir.{Dir}
use Rattle.strm_types.specs.declared.names.Dir.TheVariants.{MasterToSlave, SlaveToMaster}
use Rattle.strm_types.specs.declared.rules.Fates.{Fates}
use Rattle.strm_types.specs.declared.rules.Rule.{Rule}
use Rattle.strm_types.specs.Deliver.{Fate, Goes, Comes, tallied}
use Rattle.strm_types.specs.Rules.{fates_of, made_more, number_of, told_more}
use Rattle.strm_locks.specs.Tallies.{bytes_read}
use Rattle.strm_system.proofs.Unread.{is_first, only_in, reads}

abbrev pub sum_of : List ℕ → ℕ
sum_of counts = sum_by (λ n. n) counts

-- one count of a list has grown, modulo 2^64
abbrev grown : ℕ → ℕ → List ℕ → List ℕ
grown k n counts = slice_set counts k ((slice_index_or counts k 0 + n) % 2 ^ 64)

-- the first count, which is that of reads, and what it gains
abbrev first : List ℕ → ℕ
first counts = slice_index_or counts 0 0

abbrev gain : ℕ → ℕ → ℕ
gain k n = cond (is_first k) n 0

first-grows : (k n : ℕ) (counts : List ℕ) → 0 < length counts → first counts + gain k n < 2 ^ 64 → first (grown k n counts) ≡ first counts + gain k n
first-grows k n [] some low = absurd (omega arith)
first-grows zero n (x ∷ xs) some low = omega (arith, low)
first-grows (suc k) n (x ∷ xs) some low = omega arith

grows-most : (k n : ℕ) (counts : List ℕ) → sum_of (grown k n counts) ≤ sum_of counts + n
grows-most k n [] = omega arith
grows-most zero n (x ∷ xs) = omega (arith, sum_by-cons (λ (m : ℕ). m) x xs, sum_by-cons (λ (m : ℕ). m) ((x + n) % 2 ^ 64) xs)
grows-most (suc k) n (x ∷ xs) = omega (arith, sum_by-cons (λ (m : ℕ). m) x xs, sum_by-cons (λ (m : ℕ). m) x (grown k n xs), grows-most k n xs)

-- the counts but the first grow by no more than is left for them
others-grow : (k n : ℕ) (counts : List ℕ) → 0 < length counts → sum_of (grown k n counts) + (first counts + gain k n) ≤ sum_of counts + n + first (grown k n counts)
others-grow k n [] some = absurd (omega arith)
others-grow zero n (x ∷ xs) some = omega (arith, sum_by-cons (λ (m : ℕ). m) x xs, sum_by-cons (λ (m : ℕ). m) ((x + n) % 2 ^ 64) xs)
others-grow (suc k) n (x ∷ xs) some = omega (arith, sum_by-cons (λ (m : ℕ). m) x xs, sum_by-cons (λ (m : ℕ). m) x (grown k n xs), grows-most k n xs)

-- how many bytes of a direction have gone, of what is told
abbrev pub gone_in : {C : Type 0} → Dir → List (Fate C) → ℕ
gone_in dir [] = 0
gone_in dir (Goes other rule xs ∷ told) = only_in dir other (length xs) + gone_in dir told
gone_in dir (Comes other xs ∷ told) = gone_in dir told

-- a direction has counts
abbrev HasCounts : Dir → Fates → Type 0
HasCounts dir f = 0 < length (fates_of dir f)

told-counts : (dir d : Dir) (rule : Rule) (n : ℕ) (f : Fates) → HasCounts dir f → HasCounts dir (told_more d rule n f)
told-counts MasterToSlave MasterToSlave rule n f some = subst (λ k. 0 < k) (sym (length-set f.from_master (number_of rule) _)) some
told-counts MasterToSlave SlaveToMaster rule n f some = some
told-counts SlaveToMaster MasterToSlave rule n f some = some
told-counts SlaveToMaster SlaveToMaster rule n f some = subst (λ k. 0 < k) (sym (length-set f.from_slave (number_of rule) _)) some

none-gained : (k : ℕ) → gain k 0 ≡ 0
none-gained zero = refl
none-gained (suc k) = refl

told-first : (dir d : Dir) (rule : Rule) (n : ℕ) (f : Fates) → HasCounts dir f → bytes_read dir f + gain (number_of rule) (only_in dir d n) < 2 ^ 64
    → bytes_read dir (told_more d rule n f) ≡ bytes_read dir f + gain (number_of rule) (only_in dir d n)
told-first MasterToSlave MasterToSlave rule n f some low = first-grows (number_of rule) n f.from_master some low
told-first MasterToSlave SlaveToMaster rule n f some low = omega (arith, none-gained (number_of rule))
told-first SlaveToMaster MasterToSlave rule n f some low = omega (arith, none-gained (number_of rule))
told-first SlaveToMaster SlaveToMaster rule n f some low = first-grows (number_of rule) n f.from_slave some low

told-others : (dir d : Dir) (rule : Rule) (n : ℕ) (f : Fates) → HasCounts dir f → let g = told_more d rule n f in
    sum_of (fates_of dir g) + (bytes_read dir f + gain (number_of rule) (only_in dir d n)) ≤ sum_of (fates_of dir f) + only_in dir d n + bytes_read dir g
told-others MasterToSlave MasterToSlave rule n f some = others-grow (number_of rule) n f.from_master some
told-others MasterToSlave SlaveToMaster rule n f some = omega (arith, none-gained (number_of rule))
told-others SlaveToMaster MasterToSlave rule n f some = omega (arith, none-gained (number_of rule))
told-others SlaveToMaster SlaveToMaster rule n f some = others-grow (number_of rule) n f.from_slave some

made-same : (dir d : Dir) (n : ℕ) (f : Fates) → fates_of dir (made_more d n f) ≡ fates_of dir f
made-same MasterToSlave MasterToSlave n f = refl
made-same MasterToSlave SlaveToMaster n f = refl
made-same SlaveToMaster MasterToSlave n f = refl
made-same SlaveToMaster SlaveToMaster n f = refl

module _ {C : Type 0} (dir : Dir) where
  -- the count of reads grows by what goes to readers, where there is room for it
  pub reads-grow : (told : List (Fate C)) (f : Fates) → HasCounts dir f → bytes_read dir f + reads dir told < 2 ^ 64 → bytes_read dir (tallied told f) ≡ bytes_read dir f + reads dir told
  reads-grow [] f some low = omega arith
  reads-grow (Goes d rule xs ∷ told) f some low =
      let here = told-first dir d rule (length xs) f some (omega (arith, low)) in
      omega (arith, here, reads-grow told (told_more d rule (length xs) f) (told-counts dir d rule (length xs) f some) (omega (arith, low, here)))
  reads-grow (Comes d xs ∷ told) f some low =
      let same = made-same dir d (length xs) f in
      let here = ap first same in
      omega (arith, here, reads-grow told (made_more d (length xs) f) (subst (λ counts. 0 < length counts) (sym same) some) (omega (arith, low, here)))

  -- the others grow by no more than has gone beside
  others-told : (told : List (Fate C)) (f : Fates) → HasCounts dir f → let g = tallied told f in
      sum_of (fates_of dir g) + (bytes_read dir f + reads dir told) ≤ sum_of (fates_of dir f) + gone_in dir told + bytes_read dir g
  others-told [] f some = omega arith
  others-told (Goes d rule xs ∷ told) f some =
      omega (arith, told-others dir d rule (length xs) f some, others-told told (told_more d rule (length xs) f) (told-counts dir d rule (length xs) f some))
  others-told (Comes d xs ∷ told) f some =
      let same = made-same dir d (length xs) f in
      omega (arith, ap first same, ap sum_of same, others-told told (made_more d (length xs) f) (subst (λ counts. 0 < length counts) (sym same) some))

  -- So where all counts together have grown by all that has gone, that of reads has by its part.
  pub all-grow : (told : List (Fate C)) (f : Fates) → HasCounts dir f → bytes_read dir (tallied told f) < 2 ^ 64 → sum_of (fates_of dir f) + gone_in dir told ≤ sum_of (fates_of dir (tallied told f))
      → bytes_read dir (tallied told f) ≡ bytes_read dir f + reads dir told
  all-grow told f some low full = reads-grow told f some (omega (arith, low, full, others-told told f some))
