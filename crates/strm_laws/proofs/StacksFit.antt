-- What is reckoned of all stacks of modules holds of the one that stands, and so of a delivery from any spot.
use Rattle.strm_laws.proofs.Prelude.{ℕ, zero, suc, ◌≡◌, ◌<◌, ◌≤◌, ◌+◌, ◌-◌, Bool, true, false, cond, ◌⊎◌, inl, inr, List, [], ◌∷◌, length, refl, sym}
use Rattle.strm_laws.proofs.Prelude.{ap, ◌∙◌, arith, ◌==◌, ◌&&◌, ◌||◌, not, min, nat_le, count_by, sum_by, and_from, and_parts, nat_tests}
use Rattle.strm_laws.proofs.Prelude.{length-take}
use Rattle.strm_laws.specs.Prelude.{HOPS, MODULES, ModuleName, Side, Way, Up, Down, beyond, budget, same_module, At, Shape, Held, Asking, Acking}
use Rattle.strm_laws.specs.Prelude.{FlushR, FlushW, FlushRW, FlushMixed, Packed, Passing, is_flushing, Crossing, ToDriver, ToReaders, driver_does}
use Rattle.strm_laws.specs.Prelude.{head_does}
use Rattle.std.specs.List.{list_all}
use Rattle.strm_types.specs.declared.names.ModuleName.TheVariants as names
use Rattle.strm_laws.specs.SideCosts.{SideAt, SideCosts, all_stacks, are_once, arrives, behind_costs, costs, counted, crossings_fit, does_among, driver_most, front_on, fronts, is_once, nowhere, place_most, places_fit, readers_most, rises, shapes, side_budget, side_costs, side_does, side_drives, spot_fits, stack_fits, to_both, to_readers, ways}
use Rattle.strm_laws.specs.StackCosts.{EachOnce, Stands, stands_on, times_there}
use Rattle.strm_laws.proofs.OneSide.{both-across, sided}

-- one of a list
unfoldable pub Has : {A : Type 0} → List A → A → Type 0
Has [] x = ⊥
Has (y ∷ ys) x = (y ≡ x) ⊎ Has ys x

all-has : {A : Type 0} (p : A → Bool) (xs : List A) (x : A) → list_all p xs ≡ true → Has xs x → p x ≡ true
unfolding Has
all-has p (y ∷ ys) x all h = go (p y) refl all (λ rest t. all-has p ys x rest t) h
  where
    go : (b : Bool) → p y ≡ b → (b && list_all p ys) ≡ true → (list_all p ys ≡ true → Has ys x → p x ≡ true) → (y ≡ x) ⊎ Has ys x → p x ≡ true
    go true is all later h = elim h [ inl e ↦ sym (ap p e) ∙ is | inr t ↦ later all t ]
    go false is all later h = absurd (cc)
all-has p [] x all h = absurd h

le-split : (m n : ℕ) → m ≤ n → (m ≡ n) ⊎ (suc m ≤ n)
le-split zero zero le = inl refl
le-split zero (suc n) le = inr (omega arith)
le-split (suc m) zero le = absurd (omega (arith, le))
le-split (suc m) (suc n) le = elim (le-split m n (omega (arith, le))) [ inl e ↦ inl (ap suc e) | inr l ↦ inr (omega (arith, l)) ]

counted-has : (start k n : ℕ) → start ≤ n → n < start + k → Has (counted start k) n
unfolding Has
counted-has start zero n le lt = absurd (omega (arith, le, lt))
counted-has start (suc k) n le lt = elim (le-split start n le) [ inl e ↦ inl e | inr l ↦ inr (counted-has (suc start) k n l (omega (arith, lt))) ]

way-has : (way : Way) → Has ways way
unfolding Has
way-has Up = inl refl
way-has Down = inr (inl refl)

shape-has : (shape : Shape) → Has shapes shape
unfolding Has
shape-has Held = inl refl
shape-has Asking = inr (inl refl)
shape-has Acking = inr (inr (inl refl))
shape-has FlushR = inr (inr (inr (inl refl)))
shape-has FlushW = inr (inr (inr (inr (inl refl))))
shape-has FlushRW = inr (inr (inr (inr (inr (inl refl)))))
shape-has FlushMixed = inr (inr (inr (inr (inr (inr (inl refl))))))
shape-has Packed = inr (inr (inr (inr (inr (inr (inr (inl refl)))))))
shape-has Passing = inr (inr (inr (inr (inr (inr (inr (inr (inl refl))))))))

-- what is tested of all stacks of so many, whatever numbers a user's own modules have, is so of each
noughts : ℕ → List ℕ
noughts zero = []
noughts (suc k) = 0 ∷ noughts k

many-noughts : (k : ℕ) → length (noughts k) ≡ k
unfolding noughts
many-noughts zero = refl
many-noughts (suc k) = ap suc (many-noughts k)

abbrev AllFit : ℕ → (List ModuleName → Bool) → Type 0
AllFit k test = (ns : List ℕ) → length ns ≡ k → all_stacks ns test ≡ true

abbrev above : (List ModuleName → Bool) → ModuleName → List ModuleName → Bool
above test x on = test (x ∷ on)

-- those with this module on top
abbrev fits : (List ModuleName → Bool) → List ℕ → ModuleName → Bool
fits test ns x = all_stacks ns (above test x)

abbrev Fits : (List ModuleName → Bool) → List ℕ → ModuleName → Type 0
Fits test ns x = fits test ns x ≡ true

stack-has : (k : ℕ) (test : List ModuleName → Bool) (on : List ModuleName) → AllFit k test → length on ≤ k → test on ≡ true
stack-has zero test [] all low = all [] refl
stack-has zero test (x ∷ on) all low = absurd (omega (arith, low))
stack-has (suc k) test [] all low = (and_parts (test []) _ (all (0 ∷ noughts k) (ap suc (many-noughts k)))).0
stack-has (suc k) test (x ∷ on) all low = at x (λ y each. stack-has k (above test y) on each (omega (arith, low)))
  where
    parts : (n : ℕ) (ns : List ℕ) → length ns ≡ k
        → Fits test ns names.Ldterm × Fits test ns names.Ptem × Fits test ns names.Pckt × Fits test ns (names.Own n)
    parts n ns is =
        let ldterm = and_parts (fits test ns names.Ldterm) _ (and_parts (test []) _ (all (n ∷ ns) (ap suc is))).1 in
        let ptem = and_parts (fits test ns names.Ptem) _ ldterm.1 in
        let last = and_parts (fits test ns names.Pckt) _ ptem.1 in
        (ldterm.0, ptem.0, last.0, last.1)

    at : (x : ModuleName) → ((y : ModuleName) → AllFit k (above test y) → test (y ∷ on) ≡ true) → test (x ∷ on) ≡ true
    at names.Ldterm has = has names.Ldterm (λ ns is. (parts 0 ns is).0)
    at names.Ptem has = has names.Ptem (λ ns is. (parts 0 ns is).1)
    at names.Pckt has = has names.Pckt (λ ns is. (parts 0 ns is).2)
    at (names.Own n) has = has (names.Own n) (λ ns is. (parts n ns is).3)

low-of : (n k : ℕ) → nat_le n k ≡ true → n ≤ k
low-of n k is = let r : n ≤ k = grind (arith, nat_tests) in r

past-of : (n k : ℕ) → nat_le n k ≡ false → k < n
past-of n k is = let r : k < n = grind (arith, nat_tests) in r

at-most : (n k : ℕ) → n ≤ k → nat_le n k ≡ true
at-most n k low = grind (arith, nat_tests)

-- a module that stands once among all does among the first
count-front : (name : ModuleName) (on : List ModuleName) → count_by (λ n. same_module n name) (fronts on) ≡ times_there name on MODULES
count-front name [] = refl
count-front name (a ∷ []) = omega arith
count-front name (a ∷ b ∷ []) = omega arith
count-front name (a ∷ b ∷ c ∷ on) = omega arith

pub fronts-once : (on : List ModuleName) → EachOnce on → are_once (fronts on) ≡ true
fronts-once on each = and_from (is_once names.Ldterm (fronts on)) _ (one names.Ldterm) (and_from (is_once names.Ptem (fronts on)) _ (one names.Ptem) (one names.Pckt))
  where
    one : (name : ModuleName) → is_once name (fronts on) ≡ true
    one name = at-most (count_by (λ n. same_module n name) (fronts on)) 1 (omega (arith, each.once name MODULES, count-front name on))

-- behind the driver's place all places are alike
module _ (on : List ModuleName) (few : length on ≤ MODULES) (way : Way) (shape : Shape) where
  abbrev there : ℕ → SideAt
  there place = record { place = place; way = way; shape = shape }

  abbrev far_behind : Way → SideCosts
  far_behind way = behind_costs (length on) way 5 shape

  far : (place : ℕ) → 5 ≤ place → side_costs on (there place) ≡ far_behind way
  far place past = ap (λ b. at b (nat_le place (length on))) top ∙ ap (λ b. at false b) below ∙ by way
    where
      at : Bool → Bool → SideCosts
      at head stands = cond head (side_does 0 (head_does shape)) (cond stands (side_does place (does_among (place - 1) on way shape)) (behind_costs (length on) way place shape))

      top : (place == 0) ≡ false
      top = grind (arith, nat_tests)

      below : nat_le place (length on) ≡ false
      below = grind (arith, nat_tests)

      driver : (place == suc MODULES) ≡ false
      driver = grind (arith, nat_tests)

      by : (way : Way) → behind_costs (length on) way place shape ≡ behind_costs (length on) way 5 shape
      by Down = refl
      by Up = ap (λ b. cond (is_flushing shape && b) (side_drives (length on) (driver_does Up shape)) (record { own = 0; emits = rises (length on) shape ∷ []; across = [] })) driver

  pub far-alike : (place : ℕ) → 5 ≤ place → side_costs on (there place) ≡ side_costs on (there 5)
  far-alike place past = far place past ∙ sym (far 5 (omega arith))

budget-by : (over : ℕ → Crossing → ℕ) (on : List ModuleName) (hops : ℕ) (a b : SideAt) → side_costs on a ≡ side_costs on b → side_budget over on hops a ≡ side_budget over on hops b
unfolding side_budget
budget-by over on zero a b same = refl
budget-by over on (suc hops) a b same = ap (λ (d : SideCosts). min beyond (d.own + (sum_by (side_budget over on hops) d.emits + sum_by (over hops) d.across))) same

-- a stack that fits, at each place
module _ (once : Bool) (on : List ModuleName) (few : length on ≤ MODULES) (fit : places_fit once on ≡ true) where
  abbrev over : ℕ → Crossing → ℕ
  over = to_both (readers_most once) (driver_most once)

  near-most : (place : ℕ) (way : Way) (shape : Shape) → place ≤ 5 → side_budget over on HOPS (record { place = place; way = way; shape = shape }) ≤ place_most once way shape
  near-most place way shape low =
      low-of (side_budget over on HOPS (record { place = place; way = way; shape = shape })) (place_most once way shape)
      (all-has (λ s. spot_fits once on place way s) shapes shape
      (all-has (λ w. list_all (λ s. spot_fits once on place w s) shapes) ways way
      (all-has (λ p. list_all (λ w. list_all (λ s. spot_fits once on p w s) shapes) ways) (counted 0 6) place fit (counted-has 0 6 place (omega arith) (omega (arith, low))))
      (way-has way)) (shape-has shape))

  side-most : (a : SideAt) → side_budget over on HOPS a ≤ place_most once a.way a.shape
  side-most a = by (nat_le a.place 5) refl
    where
      by : (b : Bool) → nat_le a.place 5 ≡ b → side_budget over on HOPS a ≤ place_most once a.way a.shape
      by true is = near-most a.place a.way a.shape (low-of a.place 5 is)
      by false is =
          let past : 5 ≤ a.place = omega (arith, past-of a.place 5 is) in
          omega (arith, budget-by over on HOPS a (record { place = 5; way = a.way; shape = a.shape }) (far-alike on few a.way a.shape a.place past), near-most 5 a.way a.shape (omega arith))

fits-of : (once : Bool) (on : List ModuleName) → (once ≡ true → are_once on ≡ true) → stack_fits once on ≡ true → (crossings_fit once on && places_fit once on) ≡ true
fits-of true on stand is = sym (ap (λ b. (true && not b) || (crossings_fit true on && places_fit true on)) (stand refl)) ∙ is
fits-of false on stand is = is

-- the stacks that stand
abbrev StandsAs : Bool → Stands → Type 0
StandsAs once all = (side : Side) → once ≡ true → are_once (front_on side all) ≡ true

module _ (all : Stands) (once : Bool) (fit : AllFit MODULES (stack_fits once)) (stand : StandsAs once all) where
  few-front : (side : Side) → length (front_on side all) ≤ MODULES
  few-front side = omega (arith, length-take MODULES (stands_on side all))

  this : (side : Side) → (crossings_fit once (front_on side all) ≡ true) × (places_fit once (front_on side all) ≡ true)
  this side = and_parts (crossings_fit once (front_on side all)) _ (fits-of once (front_on side all) (stand side) (stack-has MODULES (stack_fits once) (front_on side all) fit (few-front side)))

  readers : (side : Side) → side_budget nowhere (front_on side all) 4 (arrives (front_on side all) ToReaders) ≤ readers_most once
  readers side = low-of _ (readers_most once) (and_parts (nat_le (side_budget nowhere (front_on side all) 4 (arrives (front_on side all) ToReaders)) (readers_most once)) _ (this side).0).0

  driver : (side : Side) → side_budget (to_readers (readers_most once)) (front_on side all) 5 (arrives (front_on side all) ToDriver) ≤ driver_most once
  driver side = low-of _ (driver_most once) (and_parts (nat_le (side_budget nowhere (front_on side all) 4 (arrives (front_on side all) ToReaders)) (readers_most once)) _ (this side).0).1

  pub budget-most : (a : At) → budget (costs all) HOPS a ≤ place_most once a.to.way a.shape
  budget-most a =
      let side = a.to.side in
      let at : SideAt = record { place = a.to.at; way = a.to.way; shape = a.shape } in
      omega (arith, sided all (to_both (readers_most once) (driver_most once)) side (both-across all once readers driver side) HOPS at, side-most once (front_on side all) (few-front side) (this side).1 at)
