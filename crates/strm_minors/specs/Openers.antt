-- Minor numbers and the openers that hold them (ptm(7D), pts(4)). A set of minors is a number with a bit for each.
use Rattle.std.specs.Prelude.{◌≡◌, ◌≢◌, ℕ, zero, suc, List, [], ◌∷◌, ◌++◌, ◌⊎◌, ◌↔◌}
use Rattle.std.specs.Int.{bit_at}
use Rattle.atomic_table.specs.Seated.{TableId}

-- a `Minors`: the table that has its word, and how many pairs there are
pub record MinorSpace : Type 0 where
  pub table : TableId
  pub pairs : ℕ

-- an opener: the table that has its word, the minors that it holds, and, in order, each minor that a claim of it found taken
pub record Holding : Type 0 where
  pub table : TableId
  pub held : ℕ
  pub passed : List ℕ

-- the opener is of this word
abbrev pub IsOf : MinorSpace → Holding → Type 0
IsOf space opener = opener.table ≡ space.table

abbrev pub Holds : Holding → ℕ → Type 0
Holds opener k = bit_at opener.held k ≡ 1

-- a new opener of a word: it holds nothing
abbrev pub opening : MinorSpace → Holding
opening space = record { table = space.table; held = 0; passed = [] }

-- the opener that found the minor k taken
abbrev pub passing : ℕ → Holding → Holding
passing k opener = record opener { passed = opener.passed ++ k ∷ [] }

-- 0, 1 and so on, without n
abbrev pub below : ℕ → List ℕ
below zero = []
below (suc n) = below n ++ n ∷ []

-- the opener that found each minor below n taken, one after the other from 0 up
abbrev pub past : ℕ → Holding → Holding
past n opener = record opener { passed = opener.passed ++ below n }

-- the opener comes to hold the minor k, which it did not hold; nothing else changes
pub record Gains (old new : Holding) (k : ℕ) : Type 0 where
  pub table : new.table ≡ old.table
  pub passed : new.passed ≡ old.passed
  pub before : bit_at old.held k ≡ 0
  pub gained : Holds new k
  pub others : (i : ℕ) → i ≢ k → bit_at new.held i ≡ bit_at old.held i

-- the opener gives up the minor k; nothing else changes
pub record Loses (old new : Holding) (k : ℕ) : Type 0 where
  pub table : new.table ≡ old.table
  pub passed : new.passed ≡ old.passed
  pub lost : bit_at new.held k ≡ 0
  pub others : (i : ℕ) → i ≢ k → bit_at new.held i ≡ bit_at old.held i

-- two openers with no minor in common are one, which holds the minors of both
pub record Unites (first second one : Holding) : Type 0 where
  pub table : one.table ≡ first.table
  pub passed : one.passed ≡ first.passed ++ second.passed
  pub apart : (k : ℕ) → Holds first k → ¬ Holds second k
  pub both : (k : ℕ) → Holds one k ↔ (Holds first k ⊎ Holds second k)
