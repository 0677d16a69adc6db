-- Cells that are told as made are the next ones of their direction, one after the other.
use Rattle.strm_laws.proofs.Prelude.{ℕ, zero, suc, ◌≡◌, ◌+◌, Bool, true, List, [], ◌∷◌, ◌++◌, length, refl, sym, ap, subst, ◌∙◌, arith, count_by}
use Rattle.strm_laws.proofs.Prelude.{count-join}
use Rattle.strm_laws.specs.Prelude.{Dir, MasterToSlave, SlaveToMaster, Cells, cells_made, cells_written, Carried, Fate, Goes, Comes, Parcel, Took}
use Rattle.strm_laws.specs.Prelude.{carried, in_turn, Message, Spot}
use Rattle.strm_laws.specs.Places.{weight_made}
use Rattle.strm_laws.specs.State.{State, book}

-- cells that are the next ones that are made in a direction, from the nth on
pub record AreNext {C : Type 0} (cells : Cells C) (dir : Dir) (n : ℕ) (xs : List C) : Type 0 where
  pub bytes : List ℕ
  pub is : xs ≡ cells_made cells dir n bytes

module _ {C : Type 0} (cells : Cells C) where
  -- of what is told, those of a direction go on from the nth to the mth
  abbrev pub InOrder : Dir → ℕ → List (Fate C) → ℕ → Type 0
  InOrder dir n [] m = n ≡ m
  InOrder dir n (Goes other rule xs ∷ told) m = InOrder dir n told m
  InOrder MasterToSlave n (Comes MasterToSlave xs ∷ told) m = AreNext cells MasterToSlave n xs × InOrder MasterToSlave (n + length xs) told m
  InOrder MasterToSlave n (Comes SlaveToMaster xs ∷ told) m = InOrder MasterToSlave n told m
  InOrder SlaveToMaster n (Comes MasterToSlave xs ∷ told) m = InOrder SlaveToMaster n told m
  InOrder SlaveToMaster n (Comes SlaveToMaster xs ∷ told) m = AreNext cells SlaveToMaster n xs × InOrder SlaveToMaster (n + length xs) told m

  pub order-append : (dir : Dir) (n m k : ℕ) (one two : List (Fate C)) → InOrder dir n one m → InOrder dir m two k → InOrder dir n (one ++ two) k
  order-append dir n m k [] two first second = subst (λ i. InOrder dir i two k) (sym first) second
  order-append dir n m k (Goes other rule xs ∷ one) two first second = order-append dir n m k one two first second
  order-append MasterToSlave n m k (Comes MasterToSlave xs ∷ one) two first second = (first.0, order-append MasterToSlave (n + length xs) m k one two first.1 second)
  order-append MasterToSlave n m k (Comes SlaveToMaster xs ∷ one) two first second = order-append MasterToSlave n m k one two first second
  order-append SlaveToMaster n m k (Comes MasterToSlave xs ∷ one) two first second = order-append SlaveToMaster n m k one two first second
  order-append SlaveToMaster n m k (Comes SlaveToMaster xs ∷ one) two first second = (first.0, order-append SlaveToMaster (n + length xs) m k one two first.1 second)

  no-cells : (xs : List C) → count_by (λ c. true) xs ≡ 0 → xs ≡ []
  no-cells [] none = refl
  no-cells (x ∷ xs) none = absurd (omega (arith, none, count-join (λ c. true) (x ∷ []) xs))

  no-bytes : (dir : Dir) (n : ℕ) (xs : List C) → xs ≡ [] → AreNext cells dir n xs
  no-bytes dir n xs none = record { bytes = []; is = none }

  -- where nothing is made, the count stays
  pub none-ordered : (dir : Dir) (n : ℕ) (told : List (Fate C)) → weight_made (λ d c. true) told ≡ 0 → InOrder dir n told n
  none-ordered dir n [] none = refl
  none-ordered dir n (Goes other rule xs ∷ told) none = none-ordered dir n told (omega (arith, none))
  none-ordered MasterToSlave n (Comes MasterToSlave xs ∷ told) none =
      let empty = no-cells xs (omega (arith, none)) in
      let long : length xs ≡ 0 = ap (λ (ys : List C). length ys) empty in
      (no-bytes MasterToSlave n xs empty, subst (λ k. InOrder MasterToSlave k told n) (let e : n ≡ n + length xs = omega (arith, long) in e) (none-ordered MasterToSlave n told (omega (arith, none))))
  none-ordered MasterToSlave n (Comes SlaveToMaster xs ∷ told) none = none-ordered MasterToSlave n told (omega (arith, none))
  none-ordered SlaveToMaster n (Comes MasterToSlave xs ∷ told) none = none-ordered SlaveToMaster n told (omega (arith, none))
  none-ordered SlaveToMaster n (Comes SlaveToMaster xs ∷ told) none =
      let empty = no-cells xs (omega (arith, none)) in
      let long : length xs ≡ 0 = ap (λ (ys : List C). length ys) empty in
      (no-bytes SlaveToMaster n xs empty, subst (λ k. InOrder SlaveToMaster k told n) (let e : n ≡ n + length xs = omega (arith, long) in e) (none-ordered SlaveToMaster n told (omega (arith, none))))

  -- The books of a pair gain what is told as made, and nothing is written.
  pub record BooksMade (s : State C) (told : List (Fate C)) (t : State C) : Type 0 where
    pub written : (dir : Dir) → (book dir t).written ≡ (book dir s).written
    pub made : (dir : Dir) → InOrder dir (book dir s).made told (book dir t).made

  pub books-both : (s t u : State C) (one two : List (Fate C)) → BooksMade s one t → BooksMade t two u → BooksMade s (one ++ two) u
  books-both s t u one two first second = record {
    written = λ dir. second.written dir ∙ first.written dir;
    made = λ dir. order-append dir (book dir s).made (book dir t).made (book dir u).made one two (first.made dir) (second.made dir);
  }

  pub books-none : (s t : State C) (told : List (Fate C)) → ((dir : Dir) → book dir t ≡ book dir s) → weight_made (λ d c. true) told ≡ 0 → BooksMade s told t
  books-none s t told same none = record {
    written = λ dir. ap (λ b. b.written) (same dir);
    made = λ dir. subst (λ n. InOrder dir (book dir s).made told n) (sym (ap (λ b. b.made) (same dir))) (none-ordered dir (book dir s).made told none);
  }

  -- what each put books, a delivery books
  module _ (put : Spot → Message C → State C → Took C (State C)) (books : (to : Spot) (m : Message C) (s : State C) → BooksMade s (put to m s).gone (put to m s).state) where
    pub in_turn-books : (carry : Parcel C → State C → Carried C (State C)) → ((q : Parcel C) (s : State C) → BooksMade s (carry q s).gone (carry q s).state) → (ps : List (Parcel C)) (s : State C) → BooksMade s (in_turn carry ps s).gone (in_turn carry ps s).state
    in_turn-books carry each [] s = record { written = λ dir. refl; made = λ dir. refl }
    in_turn-books carry each (q ∷ ps) s =
        let t = carry q s in
        let u = in_turn carry ps t.state in
        books-both s t.state u.state t.gone u.gone (each q s) (in_turn-books carry each ps t.state)

    pub carried-books : (hops : ℕ) (q : Parcel C) (s : State C) → BooksMade s (carried put hops q s).gone (carried put hops q s).state
    unfolding carried
    carried-books zero q s = record { written = λ dir. refl; made = λ dir. refl }
    carried-books (suc hops) q s =
        let t = put q.to q.message s in
        let u = in_turn (carried put hops) t.sent t.state in
        books-both s t.state u.state t.gone u.gone (books q.to q.message s) (in_turn-books (carried put hops) (carried-books hops) t.sent t.state)

-- How often a test is passed by cells that are numbered: among the first ones that are written in a direction, and that are made.
pub record Numbered {C : Type 0} (cells : Cells C) (p : Dir → C → Bool) : Type 0 where
  pub upto_written : Dir → ℕ → ℕ
  pub upto_made : Dir → ℕ → ℕ
  pub written : (dir : Dir) (n : ℕ) (bytes : List ℕ) → count_by (p dir) (cells_written cells dir n bytes) + upto_written dir n ≡ upto_written dir (n + length bytes)
  pub made : (dir : Dir) (n : ℕ) (bytes : List ℕ) → count_by (p dir) (cells_made cells dir n bytes) + upto_made dir n ≡ upto_made dir (n + length bytes)
