-- The one or the other was found, and a value that stands in front or alone.
use Rattle.strm_script.proofs.Prelude.{◌≡◌, ℕ, List, [], ◌∷◌, ◌++◌, Option, None, Some, refl, ap, ◌∙◌, inl, inr, ◌⊎◌, append-nil}
use Rattle.strm_script.specs.Prelude.{Side, Master, Slave}
use Rattle.strm_script.specs.Script.{side_name}
use Rattle.strm_script.specs.Named.{either_of, after, at_end, whole}
use Rattle.strm_script.specs.ScriptReading.{Front, before, side_at}
use Rattle.strm_script.proofs.Grammar.{and_then-found, option_map-found, after-found}

-- the one or the other found it
pub either-found : {A : Type 0} (a b : Option A) (y : A) → either_of a b ≡ Some y → (a ≡ Some y) ⊎ (b ≡ Some y)
either-found None b y h = inr h
either-found (Some x) b y h = inl h

pub at_end-found : {A : Type 0} (x y : A) (line : List ℕ) → at_end x line ≡ Some y → (x ≡ y) × (line ≡ [])
at_end-found x y [] h = (cc, refl)
at_end-found x y (b ∷ line) h = absurd cc

pub whole-found : {A : Type 0} (word : List ℕ) (x y : A) (line : List ℕ) → whole word x line ≡ Some y → (x ≡ y) × (line ≡ word)
whole-found word x y line h =
    let f = and_then-found (at_end x) (after word line) y h in
    let end = at_end-found x y f.value f.second in
    (end.0, after-found word line f.value f.first ∙ ap (λ k. word ++ k) end.1 ∙ append-nil word)

-- a value stands in front, under its name
pub record Stands {A : Type 0} (name : A → List ℕ) (line : List ℕ) (found : Front A) : Type 0 where
  pub line_is : line ≡ name found.value ++ found.rest

pub before-found : {A : Type 0} (name : A → List ℕ) (x : A) (line : List ℕ) (found : Front A) → before (name x) x line ≡ Some found → Stands name line found
before-found name x line found h =
    let m = option_map-found (λ rest. record { value = x; rest = rest }) (after (name x) line) found h in
    record { line_is = after-found (name x) line m.value m.first ∙ ap (λ (f : Front _). name f.value ++ f.rest) m.second }

pub side-found : (line : List ℕ) (found : Front Side) → side_at line ≡ Some found → Stands side_name line found
unfolding side_at
side-found line found h = elim (either-found _ _ found h) [
  | inl a ↦ before-found side_name Master line found a
  | inr b ↦ before-found side_name Slave line found b
]
