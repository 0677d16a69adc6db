-- One of several modules acts, and the others stay.
use Rattle.strm_frame.proofs.Prelude.{ℕ, zero, suc, ◌≡◌, ◌≤◌, ◌<◌, ◌+◌, List, [], ◌∷◌, length, get_or, map, sym, ap, subst, ◌∙◌, arith, refl, sum_by}
use Rattle.strm_frame.proofs.Prelude.{sum_by-cons}
use Rattle.strm_frame.specs.Prelude.{StoreValue, IsStore, in_hand, times_in, Acted, change_among, act_among}
use Rattle.std.proofs.Math.ListN.{set}
use Rattle.std.specs.List.{AllByRecursion, refill}
use Rattle.std.proofs.lemmas.List.Sums.{sum_by-set}
use Rattle.strm_frame.specs.Hands.{AreIn, Handles, SamePool, SameOwn, OnlyOwn}
use Rattle.strm_frame.specs.Stacks.{all_of, AreHeld, LieInOrder}
use Rattle.strm_frame.specs.StackLaws.{each-frame}

-- one has no more than all
part-le : {X : Type 0} (f : X → ℕ) (xs : List X) (i : ℕ) (x d : X) → i < length xs → x ≡ get_or xs i d → f x ≤ sum_by f xs
part-le f [] i x d within is = absurd (omega arith)
part-le f (z ∷ xs) zero x d within is = let c = sum_by-cons f z xs in let e = ap f is in omega arith
part-le f (z ∷ xs) (suc i) x d within is = let c = sum_by-cons f z xs in let le = part-le f xs i x d (omega arith) is in omega arith

-- what one does that stands among others
module _ {C P : Type 0} (acts : P → Acted C P) {X : Type 0} (f : X → P) where
  pub act-state : (xs : List X) (i : ℕ) (x d : X) → i < length xs → x ≡ get_or xs i d → (act_among acts i (map f xs)).state ≡ set (map f xs) i (acts (f x)).state
  act-state [] i x d within is = absurd (omega arith)
  act-state (z ∷ xs) zero x d within is = ap (λ (w : X). (acts (f w)).state ∷ map f xs) (sym is)
  act-state (z ∷ xs) (suc i) x d within is = ap (λ ps. f z ∷ ps) (act-state xs i x d (omega arith) is)

  pub act-sent : (xs : List X) (i : ℕ) (x d : X) → i < length xs → x ≡ get_or xs i d → (act_among acts i (map f xs)).sent ≡ (acts (f x)).sent
  act-sent [] i x d within is = absurd (omega arith)
  act-sent (z ∷ xs) zero x d within is = ap (λ (w : X). (acts (f w)).sent) (sym is)
  act-sent (z ∷ xs) (suc i) x d within is = act-sent xs i x d (omega arith) is

  pub act-gone : (xs : List X) (i : ℕ) (x d : X) → i < length xs → x ≡ get_or xs i d → (act_among acts i (map f xs)).gone ≡ (acts (f x)).gone
  act-gone [] i x d within is = absurd (omega arith)
  act-gone (z ∷ xs) zero x d within is = ap (λ (w : X). (acts (f w)).gone) (sym is)
  act-gone (z ∷ xs) (suc i) x d within is = act-gone xs i x d (omega arith) is

  pub act-notes : (xs : List X) (i : ℕ) (x d : X) → i < length xs → x ≡ get_or xs i d → (act_among acts i (map f xs)).notes ≡ (acts (f x)).notes
  act-notes [] i x d within is = absurd (omega arith)
  act-notes (z ∷ xs) zero x d within is = ap (λ (w : X). (acts (f w)).notes) (sym is)
  act-notes (z ∷ xs) (suc i) x d within is = act-notes xs i x d (omega arith) is

-- and what becomes of one that changes, in one store
pub change-plain : {P : Type 0} (change : P → P) {X : Type 0} (f : X → P) (xs : List X) (i : ℕ) (x d y : X) → i < length xs → x ≡ get_or xs i d → f y ≡ change (f x) →
    map f (set xs i y) ≡ change_among change i (map f xs)
change-plain change f [] i x d y within is to = absurd (omega arith)
change-plain change f (z ∷ xs) zero x d y within is to = ap (λ p. p ∷ map f xs) (to ∙ ap (λ w. change (f w)) is)
change-plain change f (z ∷ xs) (suc i) x d y within is to = ap (λ ps. f z ∷ ps) (change-plain change f xs i x d y (omega arith) is to)

set-each : {X : Type 0} (Q : X → Type 0) (xs : List X) (i : ℕ) (y : X) → AllByRecursion Q xs → Q y → AllByRecursion Q (set xs i y)
set-each Q [] i y each new = tt
set-each Q (z ∷ xs) zero y each new = (new, each.1)
set-each Q (z ∷ xs) (suc i) y each new = (each.0, set-each Q xs i y each.1 new)

-- one takes the place of another that counts as much of each
pub set-same : {X : Type 0} (f : X → ℕ → ℕ) (xs : List X) (i : ℕ) (x d y : X) → i < length xs → x ≡ get_or xs i d → ((k : ℕ) → f y k ≡ f x k) → (k : ℕ) → all_of f (set xs i y) k ≡ all_of f xs k
set-same f xs i x d y within is same k = let a = sum_by-set (λ w. f w k) xs i y d within in let e = ap (λ w. f w k) is in let g = same k in omega arith

-- and so their lists come in the same order
set-order : {X : Type 0} (owns : X → ℕ → ℕ) (xs : List X) (i : ℕ) (x d y : X) → i < length xs → x ≡ get_or xs i d → ((k : ℕ) → owns y k ≡ owns x k) → LieInOrder owns xs → LieInOrder owns (set xs i y)
set-order owns [] i x d y within is same order = tt
set-order owns (z ∷ xs) zero x d y within is same order =
    (λ j k below own. order.0 j k below (let e = ap (λ w. owns w k) is in let g = same k in omega arith), order.1)
set-order owns (z ∷ xs) (suc i) x d y within is same order = (
  λ j k below own. order.0 j k (let e = set-same owns xs i x d y (omega arith) is same j in omega arith) own,
  set-order owns xs i x d y (omega arith) is same order.1,
)

pub change-held : {X : Type 0} (IsHeld : StoreValue → X → Type 0) (owns : X → ℕ → ℕ) (s : StoreValue) (xs : List X) (i : ℕ) (x d y : X) → i < length xs → x ≡ get_or xs i d →
    ((k : ℕ) → owns y k ≡ owns x k) → AreHeld IsHeld owns s xs → IsHeld s y → AreHeld IsHeld owns s (set xs i y)
change-held IsHeld owns s xs i x d y within is same held new = record {
  each = set-each (IsHeld s) xs i y held.each new;
  apart = λ j. let a = held.apart j in let e = sum_by-set (λ w. owns w j) xs i y d within in let f = ap (λ w. owns w j) is in let g = same j in omega arith;
  order = set-order owns xs i x d y within is same held.order;
}

-- nothing is in hand, and one that clears its queues keeps nothing
pub rest-in : (s : StoreValue) (keeps : ℕ → ℕ) → ((i : ℕ) → keeps i ≡ 0) → AreIn s (λ _. 0) keeps
rest-in s keeps none = record { apart = λ i. let e = none i in omega arith }

pub rest-hands : (s t : StoreValue) (kept keeps : ℕ → ℕ) → ((i : ℕ) → kept i ≡ 0) → ((i : ℕ) → keeps i ≡ 0) → t.hand ≡ s.hand → Handles s t (λ _. 0) kept keeps (λ _. 0)
rest-hands s t kept keeps none still same = record {
  counts = λ i. let a = none i in let b = still i in let e = ap (times_in i) same in omega arith;
  others = λ i gone k some. ap (λ h. in_hand (record s { hand = h }) i) same;
}

pub rest-part : {X : Type 0} (keeps : X → ℕ → ℕ) (xs : List X) (i : ℕ) (x d : X) → i < length xs → x ≡ get_or xs i d → ((j : ℕ) → all_of keeps xs j ≡ 0) → (j : ℕ) → keeps x j ≡ 0
rest-part keeps xs i x d within is none j = let e = none j in let le = part-le (λ w. keeps w j) xs i x d within is in omega arith

pub rest-set : {X : Type 0} (keeps : X → ℕ → ℕ) (xs : List X) (i : ℕ) (y d : X) → i < length xs → ((j : ℕ) → all_of keeps xs j ≡ 0) → ((j : ℕ) → keeps y j ≡ 0) → (j : ℕ) → all_of keeps (set xs i y) j ≡ 0
rest-set keeps xs i y d within none new j =
    let e = none j in let n = new j in let a = sum_by-set (λ w. keeps w j) xs i y d within in omega arith

pub own-all : {X : Type 0} (owns : X → ℕ → ℕ) (s t : StoreValue) (xs : List X) (i : ℕ) (x d y : X) → i < length xs → x ≡ get_or xs i d → OnlyOwn s t (owns x) (owns y) → OnlyOwn s t (all_of owns xs) (all_of owns (set xs i y))
own-all owns s t xs i x d y within is own = record {
  lists = λ k none. own.lists k (let le = part-le (λ w. owns w k) xs i x d within is in omega arith);
  owns_same = λ k. let a = sum_by-set (λ w. owns w k) xs i y d within in let f = ap (λ w. owns w k) is in let g = own.owns_same k in omega arith;
}

-- what is said of one
pub said-of : {X P A : Type 0} (f : X → P) (say : P → A) (xs : List X) (i : ℕ) (x d : X) (otherwise : A) → i < length xs → x ≡ get_or xs i d → get_or (map say (map f xs)) i otherwise ≡ say (f x)
said-of f say [] i x d otherwise within is = absurd (omega arith)
said-of f say (z ∷ xs) zero x d otherwise within is = ap (λ w. say (f w)) (sym is)
said-of f say (z ∷ xs) (suc i) x d otherwise within is = said-of f say xs i x d otherwise (omega arith) is

-- and of one that took its place
pub said-set : {X P A : Type 0} (f : X → P) (say : P → A) (xs : List X) (i : ℕ) (y : X) (otherwise : A) → i < length xs → get_or (map say (map f (set xs i y))) i otherwise ≡ say (f y)
said-set f say [] i y otherwise within = absurd (omega arith)
said-set f say (z ∷ xs) zero y otherwise within = refl
said-set f say (z ∷ xs) (suc i) y otherwise within = said-set f say xs i y otherwise (omega arith)

module _ {X P : Type 0} (plain : StoreValue → X → P) (IsHeld : StoreValue → X → Type 0) (owns keeps : X → ℕ → ℕ)
    (frame : (s t : StoreValue) (x : X) → SameOwn s t (owns x) (keeps x) → IsHeld s x → (plain t x ≡ plain s x) × IsHeld t x)
    (s t : StoreValue) (gone : ℕ → ℕ) (x d y : X) (sent : ℕ → ℕ) (st : IsStore s) (own : OnlyOwn s t (owns x) (owns y)) (hands : Handles s t gone (keeps x) (keeps y) sent) (pool : SamePool s t) where
  -- what others own and keep stays
  beside : (o k : ℕ → ℕ) → ((j : ℕ) → o j + owns x j ≤ 1) → ((i : ℕ) → gone i + (k i + keeps x i) ≤ times_in i s.hand) → SameOwn s t o k
  beside o k apart can = record {
    lists = λ j some. own.lists j (let a = apart j in omega arith);
    mblks = pool.mblks;
    dblks = pool.dblks;
    kept = λ i some. let a = can i in let few = st.apart i in hands.others i (omega arith) (omega arith) (omega arith);
  }

  set-plain : (xs : List X) (i : ℕ) → i < length xs → x ≡ get_or xs i d → ((j : ℕ) → all_of owns xs j ≤ 1) → ((j : ℕ) → gone j + all_of keeps xs j ≤ times_in j s.hand) →
      AllByRecursion (IsHeld s) xs → IsHeld t y →
      (map (plain t) (set xs i y) ≡ set (map (plain s) xs) i (plain t y)) × AllByRecursion (IsHeld t) (set xs i y)
  set-plain [] i within is apart can held new = absurd (omega arith)
  set-plain (z ∷ xs) zero within is apart can held new =
      let rest = each-frame plain IsHeld owns keeps frame s t xs (beside (all_of owns xs) (all_of keeps xs)
      (λ j. let a = apart j in let c = sum_by-cons (λ w. owns w j) z xs in let e = ap (λ w. owns w j) is in omega arith)
      (λ j. let a = can j in let c = sum_by-cons (λ w. keeps w j) z xs in let e = ap (λ w. keeps w j) is in omega arith)) held.1 in
      (ap (λ ps. plain t y ∷ ps) rest.0, (new, rest.1))
  set-plain (z ∷ xs) (suc i) within is apart can held new =
      let here = frame s t z (beside (owns z) (keeps z)
      (λ j. let a = apart j in let c = sum_by-cons (λ w. owns w j) z xs in let le = part-le (λ w. owns w j) xs i x d (omega arith) is in omega arith)
      (λ j. let a = can j in let c = sum_by-cons (λ w. keeps w j) z xs in let le = part-le (λ w. keeps w j) xs i x d (omega arith) is in omega arith)) held.0 in
      let rest = set-plain xs i (omega arith) is
      (λ j. let a = apart j in let c = sum_by-cons (λ w. owns w j) z xs in omega arith)
      (λ j. let a = can j in let c = sum_by-cons (λ w. keeps w j) z xs in omega arith) held.1 new in
      (ap (λ p. p ∷ map (plain t) (set xs i y)) here.0 ∙ ap (λ ps. plain s z ∷ ps) rest.0, (here.1, rest.1))

  module _ (xs : List X) (i : ℕ) (within : i < length xs) (is : x ≡ get_or xs i d) (held : AreHeld IsHeld owns s xs) (can : AreIn s gone (all_of keeps xs)) (new : IsHeld t y) where
    pub row-plain : map (plain t) (set xs i y) ≡ set (map (plain s) xs) i (plain t y)
    row-plain = (set-plain xs i within is held.apart can.apart held.each new).0

    pub row-held : AreHeld IsHeld owns t (set xs i y)
    row-held = record {
      each = (set-plain xs i within is held.apart can.apart held.each new).1;
      apart = λ j. let a = held.apart j in let e = sum_by-set (λ w. owns w j) xs i y d within in let f = ap (λ w. owns w j) is in let g = own.owns_same j in omega arith;
      order = set-order owns xs i x d y within is own.owns_same held.order;
    }

    pub row-hands : Handles s t gone (all_of keeps xs) (all_of keeps (set xs i y)) sent
    row-hands = record {
      counts = λ j. let c = hands.counts j in let e = sum_by-set (λ w. keeps w j) xs i y d within in let f = ap (λ w. keeps w j) is in omega arith;
      others = λ j apart none some. hands.others j apart (let le = part-le (λ w. keeps w j) xs i x d within is in omega arith) some;
    }

-- what is in hand beside all is so beside each
pub part-can : {X : Type 0} (keeps : X → ℕ → ℕ) (s : StoreValue) (gone : ℕ → ℕ) (xs : List X) (i : ℕ) (x d : X) → i < length xs → x ≡ get_or xs i d → AreIn s gone (all_of keeps xs) → AreIn s gone (keeps x)
part-can keeps s gone xs i x d within is can = record { apart = λ j. let a = can.apart j in let le = part-le (λ w. keeps w j) xs i x d within is in omega arith }

pub part-held : {X : Type 0} (IsHeld : StoreValue → X → Type 0) (s : StoreValue) (xs : List X) (i : ℕ) (x d : X) → i < length xs → x ≡ get_or xs i d → AllByRecursion (IsHeld s) xs → IsHeld s x
part-held IsHeld s [] i x d within is held = absurd (omega arith)
part-held IsHeld s (z ∷ xs) zero x d within is held = subst (IsHeld s) (sym is) held.0
part-held IsHeld s (z ∷ xs) (suc i) x d within is held = part-held IsHeld s xs i x d (omega arith) is held.1

-- a slice that was written back whole
pub refilled : {X : Type 0} (xs ys : List X) → length ys ≡ length xs → refill (length xs) xs ys ≡ ys
refilled [] [] same = refl
refilled [] (y ∷ ys) same = absurd (omega arith)
refilled (x ∷ xs) [] same = absurd (omega arith)
refilled (x ∷ xs) (y ∷ ys) same = ap (λ l. y ∷ l) (refilled xs ys (omega arith))
