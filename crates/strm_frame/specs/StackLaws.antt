-- Modules that stand for the same where their lists do.
use Rattle.std.specs.Prelude.{ℕ, ◌≡◌, List, [], ◌∷◌, map}
use Rattle.std.specs.List.{AllByRecursion}
use Rattle.std.proofs.Common.{refl, ap, ◌∙◌, arith}
use Rattle.std.proofs.lemmas.List.Sums.{sum_by-cons}
use Rattle.strm_blocks.specs.Blocks.{StoreValue}
use Rattle.strm_frame.specs.Hands.{SameOwn}
use Rattle.strm_frame.specs.Stacks.{all_of, AreHeld}

module _ {X P : Type 0} (plain : StoreValue → X → P) (IsHeld : StoreValue → X → Type 0) (owns keeps : X → ℕ → ℕ)
    (frame : (s t : StoreValue) (x : X) → SameOwn s t (owns x) (keeps x) → IsHeld s x → (plain t x ≡ plain s x) × IsHeld t x) where
  -- each stays, where all that they own and keep does
  pub each-frame : (s t : StoreValue) (xs : List X) → SameOwn s t (all_of owns xs) (all_of keeps xs) → AllByRecursion (IsHeld s) xs →
      (map (plain t) xs ≡ map (plain s) xs) × AllByRecursion (IsHeld t) xs
  each-frame s t [] same held = (refl, tt)
  each-frame s t (x ∷ xs) same held =
      let here = frame s t x (record {
        lists = λ k some. same.lists k (let c = sum_by-cons (λ y. owns y k) x xs in omega arith);
        mblks = same.mblks;
        dblks = same.dblks;
        kept = λ i some. same.kept i (let c = sum_by-cons (λ y. keeps y i) x xs in omega arith);
      }) held.0 in
      let rest = each-frame s t xs (record {
        lists = λ k some. same.lists k (let c = sum_by-cons (λ y. owns y k) x xs in omega arith);
        mblks = same.mblks;
        dblks = same.dblks;
        kept = λ i some. same.kept i (let c = sum_by-cons (λ y. keeps y i) x xs in omega arith);
      }) held.1 in
      (ap (λ p. p ∷ map (plain t) xs) here.0 ∙ ap (λ ps. plain s x ∷ ps) rest.0, (here.1, rest.1))

  -- and all together
  pub stack-stays : (s t : StoreValue) (xs : List X) → SameOwn s t (all_of owns xs) (all_of keeps xs) → AreHeld IsHeld owns s xs →
      (map (plain t) xs ≡ map (plain s) xs) × AreHeld IsHeld owns t xs
  stack-stays s t xs same held = let r = each-frame s t xs same held.each in (r.0, record { each = r.1; apart = held.apart; order = held.order })
