-- Hands and jobs that are pushed.
use Rattle.std.proofs.Common.{◌≡◌, ◌≢◌, ℕ, zero, suc, ◌+◌, ◌*◌, List, [], ◌∷◌, ◌++◌, length, refl, sym, ap, ◌∙◌, subst, arith, length-append}
use native.Mathlib.Nat.{suc-mul}
use Rattle.std.proofs.lemmas.List.Elements.{All-head, All-push, All-rest}
use Rattle.std.specs.Prelude.{All}
use Rattle.strm_types.specs.declared.names.ModuleName.TheVariants.{Ldterm}
use Rattle.strm_locks.specs.Systems.{Plan, IsOne}
use Rattle.strm_storm.specs.declared.storms.hands.Hand.{Hand}
use Rattle.strm_storm.specs.Storms.{AreHands, AreOf, module_at}

-- a bit that isn't 0
pub other_module : (n : ℕ) → n ≢ 0 → Ldterm ≡ module_at n
other_module zero differs = absurd (differs refl)
other_module (suc n) differs = refl

module _ {P : Type 0} (system : Plan) where
  pub pushed_hand : (hands new : List (Hand P)) (h : Hand P) → new ≡ hands ++ h ∷ [] → AreHands system hands → IsOne system h.end → AreHands system new
  pushed_hand hands new h is all one = subst (λ (xs : List (Hand P)). AreHands system xs) (sym is) (All-push (λ (x : Hand P). IsOne system x.end) hands h all one)

  pub pushed : (n : ℕ) (hands new : List (Hand P)) (h : Hand P) → new ≡ hands ++ h ∷ [] → AreOf system n hands → IsOne system h.end → AreOf system (n + 1) new
  pushed n hands new h is all one = (
    pushed_hand hands new h is all.0 one,
    ap (λ (xs : List (Hand P)). length xs) is ∙ length-append hands (h ∷ []) ∙ ap (λ k. k + 1) all.1,
  )

  pub head_of : (h : Hand P) (rest all : List (Hand P)) → all ≡ h ∷ rest → AreHands system all → IsOne system h.end
  head_of h rest all is each = All-head (λ (x : Hand P). IsOne system x.end) h rest (subst (λ (xs : List (Hand P)). AreHands system xs) is each)

  pub rest_of : (h : Hand P) (rest all : List (Hand P)) → all ≡ h ∷ rest → AreHands system all → AreHands system rest
  rest_of h rest all is each = All-rest (λ (x : Hand P). IsOne system x.end) h rest all is each

-- one has gone from a list to the end of another
pub moved : {X Y : Type 0} → (xs ys : List X) (x : X) (zs new : List Y) (z : Y) (n : ℕ) → xs ≡ x ∷ ys → new ≡ zs ++ z ∷ [] → length zs + length xs ≡ n → length new + length ys ≡ n
moved {X} {Y} xs ys x zs new z n is now sum = let a = ap (λ (l : List X). length l) is in let b = ap (λ (l : List Y). length l) now ∙ length-append zs (z ∷ []) in omega (arith, a, b, sum)

-- one more of a list that all are so
pub kept_more : {X : Type 0} → (P : X → Type 0) (xs new : List X) (x : X) → new ≡ xs ++ x ∷ [] → All P xs → P x → All P new
kept_more {X} P xs new x is all one = subst (λ (ys : List X). All P ys) (sym is) (All-push P xs x all one)

-- a thread more is counted, of as many calls
pub counted_on : (n m old x new calls sum : ℕ) → n ≡ suc m → x ≡ calls → new ≡ old + x → old + n * calls ≡ sum → new + m * calls ≡ sum
counted_on n m old x new calls sum is each now all = let t : n * calls ≡ m * calls + calls = ap (λ k. k * calls) is ∙ suc-mul m calls in omega (arith, t, each, now, all)
