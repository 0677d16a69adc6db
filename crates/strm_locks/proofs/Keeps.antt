-- Each step keeps the rule of a lock's table: what all views were told adds up to the book.
use Rattle.std.proofs.Common.{◌≡◌, ◌≢◌, ℕ, zero, suc, ◌+◌, ◌-◌, ◌<◌, eqb, List, [], ◌∷◌, ◌++◌, ⊎_elim, length, drop, get_or, set, sym, refl, ap, ◌∙◌, subst, arith, length-set, get_or-set_same, eq-eqb, ne_eqb}
use mathlib.Core.Logic.{dite}
use mathlib.Core.Option.{Option, none, some, some-injective, some-ne-none}
use native.Mathlib.Decide.{ℕ_discrete}
use lib.ListN.{get_elem?}
use lib.Seq.{set-get_or}
use Rattle.std.proofs.Math.Seq.{drop-append_seam, drop-length}
use prog.Atomic.{either}
use Rattle.atomic_table.specs.Table.{State, step, keeps, takes, gives, stepped, Allows, Enters, Splits, Joins, opening}
use Rattle.atomic_table.proofs.Lists.{set_again, set_here, at_set}
use Rattle.strm_types.specs.declared.limits.Config.{Config}
use Rattle.strm_types.specs.Journal.{PlainEntry}
use Rattle.strm_locks.specs.declared.end.TheConstants.{ALL_PARTS}
use Rattle.strm_locks.specs.declared.lock.TheConstants.{WORD}
use Rattle.strm_locks.specs.declared.view.View.{View}
use Rattle.strm_locks.specs.Books.{pick, nothing, plus, weigh, Fits, Book, Kept, closed_book}
use Rattle.strm_locks.specs.Rules.{fresh, total, AddsUp, Knows, Mine, holding, grown, leaving, closing, taken, given, emptied, passed, looked, sat, kept_half, split_half, joined, spent}
use Rattle.strm_locks.specs.Shares.{MayGive}
use Rattle.strm_locks.proofs.Sums.{total-set, total-append, total-at, total-two, total-none, total-alone, total-split, total-join, each_set, each_snoc, pick-plus, pick-minus, pick-nothing, same_told, weigh-append}

abbrev Locked : Type 0
Locked = State Kept View

abbrev word : Locked → ℕ
word s = get_or s.words WORD 0

-- a view without a part was told nothing
abbrev IsIdle : View → Type 0
IsIdle v = v.parts ≡ 0 → (v.told ≡ nothing) × (v.made ≡ [])

-- a view that holds the lock found this book
abbrev HasFound : Book → View → Type 0
HasFound b v = 0 < v.holds → v.found ≡ b

-- while one view holds the lock no other does
others_wait : {sizes : Config} (s : Locked) (r : AddsUp sizes s) (id : ℕ) (v : View) → get_elem? s.views id ≡ some v → v.holds ≡ 1 → (j : ℕ) (u : View) → j ≢ id → get_elem? s.views j ≡ some u → u.holds ≡ 0
others_wait s r id v at holds j u apart e = let a = total-two (λ x. x.holds) s.views id j v u apart at e in let b = r.holders in let c = r.bit in omega arith

-- what a seat learns where it finds the book
knows : {sizes : Config} (s : Locked) (r : AddsUp sizes s) (id : ℕ) (v : View) → get_elem? s.views id ≡ some v → Knows v r.book
knows s r id v at = record {
  below = λ i. let a = total-at (λ x. pick i x.told) s.views id v at in let b = r.totals i in omega arith;
  fits = r.fits;
  parts = let a = total-at (λ x. x.parts) s.views id v at in let b = r.parts in omega arith;
  whole = λ all.
      let others : (j : ℕ) (u : View) → j ≢ id → get_elem? s.views j ≡ some u → (u.told ≡ nothing) × (u.made ≡ []) =
      λ j u apart e. r.idle j u e (let a = total-two (λ x. x.parts) s.views id j v u apart at e in let b = r.parts in omega arith) in (
        same_told v.told r.book.totals (λ i. let a = total-alone (λ x. pick i x.told) s.views id v at (λ j u apart e. ap (pick i) (others j u apart e).0 ∙ pick-nothing i) in let b = r.totals i in omega arith),
        λ h. let a = total-alone (λ x. weigh h x.made) s.views id v at (λ j u apart e. ap (weigh h) (others j u apart e).1) in let b = r.history h in omega arith,
      );
  unopened = λ all. same_told r.book.totals nothing (λ i.
      let nobody : (j : ℕ) (u : View) → get_elem? s.views j ≡ some u → pick i u.told ≡ 0 =
      λ j u e. ap (pick i) (r.idle j u e (let a = total-at (λ x. x.parts) s.views j u e in let b = r.parts in omega arith)).0 ∙ pick-nothing i in
      let a = total-none (λ x. pick i x.told) s.views nobody in let b = r.totals i in let z = pick-nothing i in omega arith);
  seats = record { seats = s.views; totals = r.totals; history = r.history; parts = r.parts };
}

-- Views change, and no sum over them does: the word, the slot and the book stay
module _ {sizes : Config} (s : Locked) (r : AddsUp sizes s) (vs : List View) where
  abbrev Same : (View → ℕ) → Type 0
  Same f = total f vs ≡ total f s.views

  reseated : Same (λ v. v.holds) → ((i : ℕ) → Same (λ v. pick i v.told)) → ((h : PlainEntry → ℕ) → Same (λ v. weigh h v.made)) → Same (λ v. v.parts)
      → ((id : ℕ) (v : View) → get_elem? vs id ≡ some v → HasFound r.book v) → ((id : ℕ) (v : View) → get_elem? vs id ≡ some v → IsIdle v)
      → AddsUp sizes record { words = s.words; homes = s.homes; views = vs }
  reseated holders totals history parts found idle = record {
    book = r.book;
    has_word = r.has_word;
    bit = r.bit;
    at_home = r.at_home;
    holders = holders ∙ r.holders;
    found = found;
    totals = λ i. totals i ∙ r.totals i;
    history = λ h. history h ∙ r.history h;
    parts = let a = r.parts in omega (arith, parts);
    fits = r.fits;
    idle = idle;
  }

-- the word becomes n, this view becomes w and the book c
module _ {sizes : Config} (s : Locked) (r : AddsUp sizes s) (id n : ℕ) (homes' : List (Option Kept)) (v w : View) (c : Book) (at : get_elem? s.views id ≡ some v) where
  moved : n < 2 → (n ≡ 0 → (k : Kept) × (get_elem? homes' 0 ≡ some (some k)) × (k.book ≡ c) × (k.pair.limits ≡ sizes)) → w.holds + word s ≡ n + v.holds
      → HasFound c w → ((j : ℕ) (u : View) → j ≢ id → get_elem? s.views j ≡ some u → HasFound c u)
      → ((i : ℕ) → pick i w.told + pick i r.book.totals ≡ pick i v.told + pick i c.totals)
      → ((h : PlainEntry → ℕ) → weigh h w.made + weigh h r.book.history ≡ weigh h v.made + weigh h c.history)
      → w.parts + c.left ≡ v.parts + r.book.left → Fits c.totals → IsIdle w
      → AddsUp sizes record { words = set s.words WORD n; homes = homes'; views = set s.views id w }
  moved bit home holds mine others sums entries parts fits idle = let some_word = r.has_word in
      let now : get_or (set s.words WORD n) WORD 0 ≡ n = get_or-set_same s.words WORD n 0 (omega arith) in record {
        book = c;
        has_word = omega (arith, length-set s.words WORD n);
        bit = omega arith;
        at_home = λ z. home (sym now ∙ z);
        holders = let a = total-set (λ x. x.holds) s.views id v w at in let b = r.holders in omega arith;
        found = each_set (λ j u. HasFound c u) s.views id w mine others;
        totals = λ i. let a = total-set (λ x. pick i x.told) s.views id v w at in let b = r.totals i in let d = sums i in omega arith;
        history = λ h. let a = total-set (λ x. weigh h x.made) s.views id v w at in let b = r.history h in let d = entries h in omega arith;
        parts = let a = total-set (λ x. x.parts) s.views id v w at in let b = r.parts in omega arith;
        fits = fits;
        idle = each_set (λ j u. IsIdle u) s.views id w idle (λ j u apart e. r.idle j u e);
      }

-- a load changes nothing
unmoved : {sizes : Config} (s : Locked) → AddsUp sizes s → (id : ℕ) (me : Mine) → get_elem? s.views id ≡ some me.0 → AddsUp sizes (stepped s WORD (word s) id me.1 me.0 keeps)
unmoved {sizes} s r id me at = subst (λ (z : List ℕ × List View). AddsUp sizes record { words = z.0; homes = s.homes; views = z.1 }) (λ k. (sym (set-get_or s.words WORD 0) k, sym (set_again s.views id me.0 at) k)) r

pub starts : (sizes : Config) (k : Kept) (words : List ℕ) → WORD < length words → get_or words WORD 0 ≡ 0 → k.book ≡ closed_book → k.pair.limits ≡ sizes → AddsUp sizes (opening words (k ∷ []) (fresh sizes))
starts sizes k words has free shut sized = record {
  book = closed_book;
  has_word = has;
  bit = omega arith;
  at_home = λ _. (k, refl, shut, sized);
  holders = sym free;
  found = found;
  totals = λ i. let a = pick-nothing i in omega arith;
  history = λ h. refl;
  parts = refl;
  fits = λ i. let a = pick-nothing i in omega arith;
  idle = idle;
}
  where
    found : (id : ℕ) (v : View) → get_elem? (fresh sizes ∷ []) id ≡ some v → HasFound closed_book v
    found zero v e o = let is : 0 ≡ v.holds = ap (λ (x : View). x.holds) (some-injective _ _ e) in absurd (omega arith)
    found (suc i) v e o = absurd (some-ne-none v (sym e))

    idle : (id : ℕ) (v : View) → get_elem? (fresh sizes ∷ []) id ≡ some v → IsIdle v
    idle zero v e z = (ap (λ (x : View). x.told) (sym (some-injective _ _ e)), ap (λ (x : View). x.made) (sym (some-injective _ _ e)))
    idle (suc i) v e z = absurd (some-ne-none v (sym e))

pub sits : (sizes : Config) (slots : ℕ) → Enters (AddsUp sizes) slots WORD (λ n w. sat (step slots WORD 0 0 none) (fresh sizes, []) n (w, []))
sits sizes slots s r deep small = let vs : List View = s.views ++ fresh sizes ∷ [] in (
  fresh sizes,
  reseated s r vs (let a = total-append (λ x. x.holds) s.views (fresh sizes ∷ []) in omega arith)
      (λ i. let a = total-append (λ x. pick i x.told) s.views (fresh sizes ∷ []) in let z = pick-nothing i in omega arith)
      (λ h. let a = total-append (λ x. weigh h x.made) s.views (fresh sizes ∷ []) in omega arith)
      (let a = total-append (λ x. x.parts) s.views (fresh sizes ∷ []) in omega arith)
      (each_snoc (λ j u. HasFound r.book u) s.views (fresh sizes) r.found (λ j none_holds. absurd (omega arith)))
      (each_snoc (λ j u. IsIdle u) s.views (fresh sizes) r.idle (λ j _. (refl, refl))),
  refl,
)

pub takes_lock : (sizes : Config) (slots id : ℕ) (me : Mine) → me.0.sizes ≡ sizes → me.0.holds ≡ 0 → Allows (AddsUp sizes) slots id me WORD (λ x. either (eqb x 0) 1 x) (taken (step slots WORD 0 1 none) me)
takes_lock sizes slots id me sized free s r deep at small = dite (ℕ_discrete (word s) 0)
    (λ hit. let k : Kept = (r.at_home hit).0 in let same : k.book ≡ r.book = (r.at_home hit).2 in let w : View = holding me.0 k in (
      w,
      takes 0 k,
      (r.at_home hit).1,
      subst (λ b. AddsUp sizes (stepped s WORD (either b 1 (word s)) id me.1 w (takes 0 k))) (sym (eq-eqb (word s) 0 hit))
          (moved s r id 1 (set s.homes 0 none) me.0 w r.book at (omega arith) (λ z. absurd (omega arith)) (omega arith) (λ _. same)
          (λ j u apart e. r.found j u e) (λ i. refl) (λ h. refl) refl r.fits (r.idle id me.0 at)),
      ((λ _. (k, refl, subst (Knows me.0) (sym same) (knows s r id me.0 at), (r.at_home hit).3 ∙ sym sized)), λ not. absurd (not hit)),
    ))
    (λ miss. (
      me.0,
      keeps,
      tt,
      subst (λ b. AddsUp sizes (stepped s WORD (either b 1 (word s)) id me.1 me.0 keeps)) (sym (ne_eqb (word s) 0 miss)) (unmoved s r id me at),
      ((λ z. absurd (miss z)), λ _. refl),
    ))

-- a step that gives the lock back
abbrev Gives : Config → ℕ → ℕ → Mine → (Mine → ℕ → Mine → Type 0) → Type 0
Gives sizes slots id me then = Allows (AddsUp sizes) slots id me WORD (λ _. 0) (λ _. then me 0)

module _ (sizes : Config) (slots id : ℕ) (v : View) (k : Kept) (one : slots ≡ 1) (holds : v.holds ≡ 1) (sized : k.pair.limits ≡ sizes) where
  gives_at : MayGive v k.book → Gives sizes slots id (v, (0, k) ∷ []) (given (step slots WORD 0 0 none))
  gives_at g s r deep at small =
      let b : Book = v.found in let c : Book = k.book in let w : View = grown v b k in
      let same : b ≡ r.book = r.found id v at (omega arith) in
      let held : word s ≡ 1 = (let a = total-at (λ x. x.holds) s.views id v at in let o = r.holders in let t = r.bit in omega arith) in
      let more : drop (length b.history) c.history ≡ g.history.0 = ap (drop (length b.history)) g.history.1 ∙ drop-append_seam b.history g.history.0 in (
        w,
        gives,
        tt,
        moved s r id 0 (set s.homes 0 (some k)) v w c at (omega arith) (λ _. (k, set_here s.homes 0 (some k) (omega arith), refl, sized)) (omega arith) (λ z. absurd (omega arith))
            (λ j u apart e o. let t = others_wait s r id v at holds j u apart e in absurd (omega arith))
            (λ i. let a = pick-minus i (plus v.told c.totals) b.totals in let d = pick-plus i v.told c.totals in let x : pick i b.totals ≡ pick i r.book.totals = ap (λ (y : Book). pick i y.totals) same in let f = g.below i in omega arith)
            (λ h. let a = weigh-append h v.made (drop (length b.history) c.history) in let x : weigh h b.history ≡ weigh h r.book.history = ap (λ (y : Book). weigh h y.history) same in
            let m : weigh h (drop (length b.history) c.history) ≡ weigh h g.history.0 = ap (weigh h) more in let y : weigh h c.history ≡ weigh h (b.history ++ g.history.0) = ap (weigh h) g.history.1 in
            let z = weigh-append h b.history g.history.0 in omega arith)
            (let x : b.left ≡ r.book.left = ap (λ (y : Book). y.left) same in let f = g.left in omega arith)
            g.fits
            (λ z. ⊎_elim (λ (f : 0 < v.parts + b.left - c.left). absurd (omega arith))
            (λ (f : (c.totals ≡ b.totals) × (c.history ≡ b.history)). let was = r.idle id v at (let y = g.left in omega arith) in (
              same_told w.told nothing (λ i. let a = pick-minus i (plus v.told c.totals) b.totals in let d = pick-plus i v.told c.totals in let x : pick i c.totals ≡ pick i b.totals = ap (pick i) f.0 in
                  let o : pick i v.told ≡ pick i nothing = ap (pick i) was.0 in let y = pick-nothing i in omega arith),
              (λ j. was.1 j ++ (ap (drop (length b.history)) f.1 ∙ drop-length b.history) j),
            )) g.some_part),
        (λ k' e. ap (λ (l : List (ℕ × Kept)). let m : Mine = (grown v b (get_or l 0 (0, k)).1, []) in m) e),
      )

  empties_at : v.parts ≡ ALL_PARTS → k.book ≡ closed_book → Gives sizes slots id (v, (0, k) ∷ []) (emptied (step slots WORD 0 0 none))
  empties_at all shut s r deep at small =
      let known = knows s r id v at in let told = known.whole all in
      let held : word s ≡ 1 = (let a = total-at (λ x. x.holds) s.views id v at in let o = r.holders in let b = r.bit in omega arith) in (
        closing v k.pair,
        gives,
        tt,
        moved s r id 0 (set s.homes 0 (some k)) v (closing v k.pair) closed_book at (omega arith) (λ _. (k, set_here s.homes 0 (some k) (omega arith), shut, sized)) (omega arith) (λ z. absurd (omega arith))
            (λ j u apart e o. let i = others_wait s r id v at holds j u apart e in absurd (omega arith))
            (λ i. let a = pick-nothing i in let b : pick i v.told ≡ pick i r.book.totals = ap (pick i) told.0 in omega arith)
            (λ h. let b = told.1 h in omega arith)
            (let b = known.parts in omega arith)
            (λ i. let a = pick-nothing i in omega arith)
            (λ _. (refl, refl)),
        (λ k' e. ap (λ (l : List (ℕ × Kept)). let m : Mine = (closing v (get_or l 0 (0, k)).1.pair, []) in m) e),
      )

  passes_at : k.book ≡ v.found → Gives sizes slots id (v, (0, k) ∷ []) (passed (step slots WORD 0 0 none))
  passes_at still s r deep at small =
      let w : View = leaving v k.pair in let same : v.found ≡ r.book = r.found id v at (omega arith) in
      let held : word s ≡ 1 = (let a = total-at (λ x. x.holds) s.views id v at in let o = r.holders in let t = r.bit in omega arith) in (
        w,
        gives,
        tt,
        moved s r id 0 (set s.homes 0 (some k)) v w r.book at (omega arith) (λ _. (k, set_here s.homes 0 (some k) (omega arith), still ∙ same, sized)) (omega arith) (λ z. absurd (omega arith))
            (λ j u apart e o. let t = others_wait s r id v at holds j u apart e in absurd (omega arith))
            (λ i. refl) (λ h. refl) refl r.fits (r.idle id v at),
        (λ k' e. ap (λ (l : List (ℕ × Kept)). let m : Mine = (leaving v (get_or l 0 (0, k)).1.pair, []) in m) e),
      )

module _ (sizes : Config) (slots id : ℕ) (me : Mine) (k : Kept) (one : slots ≡ 1) (holds : me.0.holds ≡ 1) (has : me.1 ≡ (0, k) ∷ []) (sized : k.pair.limits ≡ sizes) where
  pub gives_lock : MayGive me.0 k.book → Gives sizes slots id me (given (step slots WORD 0 0 none))
  gives_lock g = subst (λ (l : List (ℕ × Kept)). Gives sizes slots id (me.0, l) (given (step slots WORD 0 0 none))) (sym has) (gives_at sizes slots id me.0 k one holds sized g)

  pub passes : k.book ≡ me.0.found → Gives sizes slots id me (passed (step slots WORD 0 0 none))
  passes still = subst (λ (l : List (ℕ × Kept)). Gives sizes slots id (me.0, l) (passed (step slots WORD 0 0 none))) (sym has) (passes_at sizes slots id me.0 k one holds sized still)

  pub empties : me.0.parts ≡ ALL_PARTS → k.book ≡ closed_book → Gives sizes slots id me (emptied (step slots WORD 0 0 none))
  empties all shut = subst (λ (l : List (ℕ × Kept)). Gives sizes slots id (me.0, l) (emptied (step slots WORD 0 0 none))) (sym has) (empties_at sizes slots id me.0 k one holds sized all shut)

pub looks : (sizes : Config) (slots id : ℕ) (me : Mine) → Allows (AddsUp sizes) slots id me WORD (λ n. n) (looked (step slots WORD 0 0 none) me)
looks sizes slots id me s r deep at small = let known = knows s r id me.0 at in
    (me.0, keeps, tt, unmoved s r id me at, (refl, (λ i. let a = known.below i in let b = known.fits i in omega arith), (let a = known.parts in omega arith)))

pub splits : (sizes : Config) (id : ℕ) (v : View) → v.holds ≡ 0 → Splits (AddsUp sizes) id v (kept_half v) (split_half v)
splits sizes id v free s r at = let w : View = kept_half v in let o : View = split_half v in let vs : List View = set s.views id w in
    let each : (f : View → ℕ) → f w + f o ≡ f v → total f (vs ++ o ∷ []) ≡ total f s.views = λ f halves. total-split f s.views id v w o at halves in
    reseated s r (vs ++ o ∷ []) (each (λ x. x.holds) (omega arith)) (λ i. each (λ x. pick i x.told) (let z = pick-nothing i in omega arith)) (λ h. each (λ x. weigh h x.made) (omega arith))
    (each (λ x. x.parts) (omega arith))
    (each_snoc (λ j u. HasFound r.book u) vs o (each_set (λ j u. HasFound r.book u) s.views id w (r.found id v at) (λ j u apart e. r.found j u e)) (λ j z. absurd (omega arith)))
    (each_snoc (λ j u. IsIdle u) vs o (each_set (λ j u. IsIdle u) s.views id w (λ z. r.idle id v at (omega arith)) (λ j u apart e. r.idle j u e)) (λ j z. (refl, refl)))

pub joins : (sizes : Config) (id : ℕ) (v : View) (other : ℕ) (u : View) → u.holds ≡ 0 → Joins (AddsUp sizes) id v other u (joined v u) spent
joins sizes id v other u free s r at apart there = let w : View = joined v u in let vs : List View = set s.views id w in
    let was : get_elem? s.views other ≡ some u = ⊎_elim (λ (t : (other ≡ id) × (w ≡ u)). absurd (apart t.0)) (λ (t : (other ≢ id) × (get_elem? s.views other ≡ some u)). t.1) (at_set s.views id other w u there) in
    let each : (f : View → ℕ) → f w + f spent ≡ f v + f u → total f (set vs other spent) ≡ total f s.views = λ f both. total-join f s.views id other v w u spent at there both in
    reseated s r (set vs other spent) (each (λ x. x.holds) (omega arith)) (λ i. each (λ x. pick i x.told) (let z = pick-nothing i in let p = pick-plus i v.told u.told in omega arith))
    (λ h. each (λ x. weigh h x.made) (let p = weigh-append h v.made u.made in omega arith)) (each (λ x. x.parts) (omega arith))
    (each_set (λ j x. HasFound r.book x) vs other spent (λ z. absurd (omega arith)) (λ j x _ e. each_set (λ j y. HasFound r.book y) s.views id w (r.found id v at) (λ i y _ g. r.found i y g) j x e))
    (each_set (λ j x. IsIdle x) vs other spent (λ z. (refl, refl)) (λ j x _ e. each_set (λ j y. IsIdle y) s.views id w
    (λ z. let a = r.idle id v at (omega arith) in let b = r.idle other u was (omega arith) in ((λ k. plus (a.0 k) (b.0 k)), (λ k. a.1 k ++ b.1 k))) (λ i y _ g. r.idle i y g) j x e))
