-- Each kind of step keeps the rule of the word.
use Rattle.std.proofs.Common.{◌≡◌, ◌≢◌, ℕ, zero, suc, ◌+◌, ◌<◌, ◌≤◌, List, [], ◌∷◌, ◌++◌, get_or, set, sym, refl, ap, ◌∙◌, subst, arith, length-set, get_or-set_same}
use mathlib.Core.Logic.{dite}
use mathlib.Core.Option.{none, some, some-injective, some-ne-none}
use native.Mathlib.Decide.{ℕ_discrete, dec_le}
use lib.ListN.{get_elem?}
use lib.Bits.{bit_and}
use Rattle.std.specs.Int.{bit_at}
use Rattle.std.specs.Int.RustNames.{bit_or}
use Rattle.std.proofs.lemmas.Nat.Bits.{bit_at_and, bit_at_or, bit_at-lt, bit_at-zero, bit_at_above, same_from_bits}
use Rattle.atomic_table.specs.Table.{State, step, keeps, stepped, Allows, Splits, Joins}
use Rattle.strm_minors.specs.declared.view.View.{View}
use Rattle.strm_minors.specs.Rule.{knows, holds_in, holders, IsMarked, Mine, IsBit, tried, released, looked}

abbrev St : Type 0
St = State (Unit {0}) View

abbrev nobody : View
nobody = knows 0 0 []

nobody-holds : (k : ℕ) → holds_in nobody k ≡ 0
nobody-holds k = let z = bit_at-zero k in omega arith

holders-set : (k : ℕ) (vs : List View) (i : ℕ) (v w : View) → get_elem? vs i ≡ some v → holders (set vs i w) k + holds_in v k ≡ holders vs k + holds_in w k
holders-set k [] i v w at = absurd (some-ne-none v (sym at))
holders-set k (x ∷ xs) zero v w at = let is : holds_in x k ≡ holds_in v k = ap (λ y. holds_in y k) (some-injective x v at) in omega arith
holders-set k (x ∷ xs) (suc i) v w at = let rest = holders-set k xs i v w at in omega arith

holders-append : (k : ℕ) (vs ws : List View) → holders (vs ++ ws) k ≡ holders vs k + holders ws k
holders-append k [] ws = omega arith
holders-append k (x ∷ xs) ws = let rest = holders-append k xs ws in omega arith

-- a view is one of those that are counted
holders-at : (k : ℕ) (vs : List View) (i : ℕ) (v : View) → get_elem? vs i ≡ some v → holds_in v k ≤ holders vs k
holders-at k [] i v at = absurd (some-ne-none v (sym at))
holders-at k (x ∷ xs) zero v at = let is : holds_in x k ≡ holds_in v k = ap (λ y. holds_in y k) (some-injective x v at) in omega arith
holders-at k (x ∷ xs) (suc i) v at = let rest = holders-at k xs i v at in omega arith

-- The new view holds the minor k once more where its bit is set by the step, once less where it is cleared, and else as often.
abbrev Follows : ℕ → ℕ → View → View → ℕ → Type 0
Follows n n' v w k = bit_at n' k + holds_in v k ≡ bit_at n k + holds_in w k

-- a step that changes the word to n, and this view to w
moved : (pairs : ℕ) (s : St) → IsMarked pairs s → (id n : ℕ) (me : Mine) (w : View) → get_elem? s.views id ≡ some me.0
    → ((k : ℕ) → Follows (get_or s.words 0 0) n me.0 w k) → ((k : ℕ) → pairs ≤ k → bit_at n k ≡ 0) → IsMarked pairs (stepped s 0 n id me.1 w keeps)
moved pairs s rule id n me w at follows clear =
    let one = rule.one_word in let is : get_or (set s.words 0 n) 0 0 ≡ n = get_or-set_same s.words 0 n 0 (omega arith) in record {
      one_word = length-set s.words 0 n ∙ one;
      one_holder = λ k. let same : bit_at (get_or (set s.words 0 n) 0 0) k ≡ bit_at n k = ap (λ (x : ℕ). bit_at x k) is in
          let a = holders-set k s.views id me.0 w at in let b = rule.one_holder k in let c = follows k in omega arith;
      no_other = λ k far. ap (λ (x : ℕ). bit_at x k) is ∙ clear k far;
    }

-- a number with one bit has no second
one_bit : (b j k : ℕ) → IsBit b j → IsBit b k → k ≡ j
one_bit b j k x y = dite (ℕ_discrete k j) (λ e. e) (λ e. let a = x.others k e in let c = y.here in absurd (omega arith))

-- a try of the minor j, by a mask b with its bit alone
pub tries : (pairs slots id : ℕ) (me : Mine) (b j : ℕ) → IsBit b j → j < pairs → Allows (IsMarked pairs) slots id me 0 (λ n. bit_or n b) (tried (step slots 0 b 0 none) me)
tries pairs slots id me b j bit near s rule deep at small = let n : ℕ = get_or s.words 0 0 in
    let clear : (k : ℕ) → pairs ≤ k → bit_at (bit_or n b) k ≡ 0 = λ k far.
    (let other : k ≢ j = (λ e. let low : k < pairs = subst (λ (i : ℕ). i < pairs) (sym e) near in omega arith) in
    let x = bit_at_or n b k in let y = rule.no_other k far in let z = bit.others k other in omega arith) in
    dite (ℕ_discrete (bit_at n j) 0)
    (λ free. let w : View = knows (bit_or me.0.held b) me.0.joining me.0.passed in
    let not_held : holds_in me.0 j ≡ 0 = (let a = holders-at j s.views id me.0 at in let o = rule.one_holder j in omega arith) in (
      w,
      keeps,
      tt,
      moved pairs s rule id (bit_or n b) me w at
          (λ k. let x = bit_at_or n b k in let y = bit_at_or me.0.held b k in let bx = bit_at-lt n k in let by = bit_at-lt me.0.held k in
          dite (ℕ_discrete k j)
          (λ e. let h : bit_at b k ≡ 1 = ap (bit_at b) e ∙ bit.here in let c : bit_at n k ≡ 0 = ap (bit_at n) e ∙ free in
          let o : holds_in me.0 k ≡ 0 = ap (λ (i : ℕ). holds_in me.0 i) e ∙ not_held in omega arith)
          (λ e. let h = bit.others k e in omega arith))
          clear,
      (λ k other. let e = one_bit b j k bit other in record {
        free = λ _. ((let o : holds_in me.0 k ≡ 0 = ap (λ (i : ℕ). holds_in me.0 i) e ∙ not_held in omega arith), refl);
        taken = λ not. absurd (not (ap (bit_at n) e ∙ free));
      }),
    ))
    (λ taken. let w : View = knows me.0.held me.0.joining (me.0.passed ++ j ∷ []) in
    let same : bit_or n b ≡ n = same_from_bits (bit_or n b) n (λ k. let x = bit_at_or n b k in let bx = bit_at-lt n k in
    dite (ℕ_discrete k j)
    (λ e. let h : bit_at b k ≡ 1 = ap (bit_at b) e ∙ bit.here in let t : bit_at n k ≢ 0 = (λ z. taken (ap (bit_at n) (sym e) ∙ z)) in omega arith)
    (λ e. let h = bit.others k e in omega arith)) in (
      w,
      keeps,
      tt,
      moved pairs s rule id (bit_or n b) me w at (λ k. ap (λ (x : ℕ). bit_at x k + holds_in me.0 k) same) clear,
      (λ k other. let e = one_bit b j k bit other in record {
        free = λ c. absurd (taken (ap (bit_at n) (sym e) ∙ c));
        taken = λ _. ap (λ (i : ℕ). (knows me.0.held me.0.joining (me.0.passed ++ i ∷ []), me.1)) (sym e);
      }),
    ))

-- a release by a mask in which no bit is clear but of minors that this opener holds
pub releases : (pairs slots id : ℕ) (me : Mine) (mask : ℕ) → ((i : ℕ) → i < 64 → bit_at mask i ≡ 0 → bit_at me.0.held i ≡ 1)
    → Allows (IsMarked pairs) slots id me 0 (λ n. bit_and n mask) (released (step slots 0 mask 0 none) me)
releases pairs slots id me mask own s rule deep at small = let n : ℕ = get_or s.words 0 0 in
    let w : View = knows (bit_and me.0.held mask) me.0.joining me.0.passed in (
      w,
      keeps,
      tt,
      moved pairs s rule id (bit_and n mask) me w at
          (λ k. let x = bit_at_and n mask k in let y = bit_at_and me.0.held mask k in let bn = bit_at-lt n k in let bh = bit_at-lt me.0.held k in let bm = bit_at-lt mask k in
          let a = holders-at k s.views id me.0 at in let o = rule.one_holder k in
          dite (ℕ_discrete (bit_at mask k) 0)
          (λ goes. dite (dec_le 64 k) (λ far. let z = bit_at_above n 64 k small far in omega arith) (λ near. let h = own k (omega arith) goes in omega arith))
          (λ stays. omega arith))
          (λ k far. let x = bit_at_and n mask k in let y = rule.no_other k far in omega arith),
      refl,
    )

-- a seat that holds nothing is split off
pub splits : (pairs id : ℕ) (v : View) → Splits (IsMarked pairs) id v v nobody
splits pairs id v s rule at = record {
  one_word = rule.one_word;
  one_holder = λ k. let a = holders-append k (set s.views id v) (nobody ∷ []) in let b = nobody-holds k in let c = holders-set k s.views id v v at in
      let d = rule.one_holder k in omega arith;
  no_other = rule.no_other;
}

-- the second seat's minors are being joined to the first
pub joins : (pairs id : ℕ) (v : View) (other : ℕ) (w : View) (passed : List ℕ) → ((k : ℕ) → bit_at v.joining k ≡ 0) → ((k : ℕ) → bit_at w.joining k ≡ 0)
    → Joins (IsMarked pairs) id v other w (knows v.held w.held passed) nobody
joins pairs id v other w passed first second s rule at apart there = record {
  one_word = rule.one_word;
  one_holder = λ k. let both : View = knows v.held w.held passed in let a = holders-set k s.views id v both at in
      let b = holders-set k (set s.views id both) other w nobody there in let x = first k in let y = second k in let z = nobody-holds k in
      let d = rule.one_holder k in omega arith;
  no_other = rule.no_other;
}

-- a look at the word tells that what was joined had no minor in common
pub looks : (pairs slots id : ℕ) (me : Mine) → Allows (IsMarked pairs) slots id me 0 (λ n. n) (looked (step slots 0 0 0 none) me)
looks pairs slots id me s rule deep at small = let n : ℕ = get_or s.words 0 0 in let w : View = knows (bit_or me.0.held me.0.joining) 0 me.0.passed in
    let few : (k : ℕ) → bit_at me.0.held k + bit_at me.0.joining k < 2 = λ k. (let a = holders-at k s.views id me.0 at in let o = rule.one_holder k in
    let b = bit_at-lt n k in omega arith) in (
      w,
      keeps,
      tt,
      moved pairs s rule id n me w at (λ k. let x = bit_at_or me.0.held me.0.joining k in let z = bit_at-zero k in let f = few k in omega arith) rule.no_other,
      (few, refl),
    )
