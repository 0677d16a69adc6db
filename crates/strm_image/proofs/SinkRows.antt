-- What a sink was given in pieces it was given as one.
use Rattle.std.proofs.Common.{◌≡◌, ◌∙◌, ℕ, zero, suc, ◌+◌, ◌-◌, ◌<◌, ◌≤◌, List, [], ◌∷◌, ◌++◌, length, take, drop, get_or, refl, sym, ap, arith, length-append}
use Rattle.std.specs.Prelude.{min}
use Rattle.std.specs.Borrow.{MutBor}
use Rattle.std.specs.List.{flat_map}
use Rattle.std.proofs.lemmas.Grind.{flat_map-append}
use Rattle.std.proofs.lemmas.List.Concat.{flat_map-cons}
use Rattle.std.proofs.lemmas.List.{append-nil, take_all, take_more}
use Rattle.strm_image.specs.Sinks.{Given, count_in, front_over, lent_in, most_counted, nothing_given, patch, place_in, put, replaced, sink_name}

abbrev of : MutBor (List ℕ) → ℕ → ℕ → Given
of lent filled count = record { bytes = lent; filled = filled; count = count }

given : (lent : MutBor (List ℕ)) {a b : List ℕ} {f h m n : ℕ} → a ≡ b → f ≡ h → m ≡ n → of (record lent { now = a }) f m ≡ of (record lent { now = b }) h n
given lent {a} {b} {f} {h} {m} {n} p q r =
    ap (λ xs. of (record lent { now = xs }) f m) p ∙ (ap (λ k. of (record lent { now = b }) k m) q ∙ ap (λ k. of (record lent { now = b }) h k) r)

-- ---- bytes over others, as a recursion

abbrev front : List ℕ → List ℕ → List ℕ
front [] lent = lent
front (x ∷ xs) [] = []
front (x ∷ xs) (y ∷ ys) = x ∷ front xs ys

abbrev laid : ℕ → List ℕ → List ℕ → List ℕ
laid zero bytes lent = front bytes lent
laid (suc k) bytes [] = []
laid (suc k) bytes (y ∷ ys) = y ∷ laid k bytes ys

take_none : {A : Type 0} (r : ℕ) → take {A = A} r [] ≡ []
take_none zero = refl
take_none (suc r) = refl

drop_none : {A : Type 0} (n : ℕ) → drop {A = A} n [] ≡ []
drop_none zero = refl
drop_none (suc n) = refl

front_is : (bytes lent : List ℕ) → take (length lent) bytes ++ drop (length bytes) lent ≡ front bytes lent
front_is [] lent = rw (take_none (length lent)) refl
front_is (x ∷ xs) [] = refl
front_is (x ∷ xs) (y ∷ ys) = ap (λ zs. x ∷ zs) (front_is xs ys)

laid_is : (k : ℕ) (bytes lent : List ℕ) → replaced k bytes lent ≡ laid k bytes lent
laid_is zero bytes lent =
    let e : length lent - 0 ≡ length lent = omega arith in
    let f : 0 + length bytes ≡ length bytes = omega arith in
    rw (e, f) (front_is bytes lent)
laid_is (suc k) bytes [] =
    let e : length {A = ℕ} [] - suc k ≡ 0 = omega arith in
    rw (e, drop_none (suc k + length bytes)) refl
laid_is (suc k) bytes (y ∷ ys) =
    let e : length (y ∷ ys) - suc k ≡ length ys - k = omega arith in
    let f : suc k + length bytes ≡ suc (k + length bytes) = omega arith in
    rw (e, f) (ap (λ zs. y ∷ zs) (laid_is k bytes ys))

front_empty : (bytes : List ℕ) → front bytes [] ≡ []
front_empty [] = refl
front_empty (x ∷ xs) = refl

laid_empty : (k : ℕ) (bytes : List ℕ) → laid k bytes [] ≡ []
laid_empty zero bytes = front_empty bytes
laid_empty (suc k) bytes = refl

front_length : (bytes lent : List ℕ) → length (front bytes lent) ≡ length lent
front_length [] lent = refl
front_length (x ∷ xs) [] = refl
front_length (x ∷ xs) (y ∷ ys) = ap suc (front_length xs ys)

laid_length : (k : ℕ) (bytes lent : List ℕ) → length (laid k bytes lent) ≡ length lent
laid_length zero bytes lent = front_length bytes lent
laid_length (suc k) bytes [] = refl
laid_length (suc k) bytes (y ∷ ys) = ap suc (laid_length k bytes ys)

laid_none : (k : ℕ) (lent : List ℕ) → laid k [] lent ≡ lent
laid_none zero lent = refl
laid_none (suc k) [] = refl
laid_none (suc k) (y ∷ ys) = ap (λ zs. y ∷ zs) (laid_none k ys)

front_both : (xs ys lent : List ℕ) → laid (min (length xs) (length lent)) ys (front xs lent) ≡ front (xs ++ ys) lent
front_both [] ys lent = let e : min (length {A = ℕ} []) (length lent) ≡ 0 = omega arith in rw e refl
front_both (x ∷ xs) ys [] = laid_empty (min (length (x ∷ xs)) 0) ys
front_both (x ∷ xs) ys (z ∷ zs) =
    let e : min (length (x ∷ xs)) (length (z ∷ zs)) ≡ suc (min (length xs) (length zs)) = omega arith in
    rw e (ap (λ ws. x ∷ ws) (front_both xs ys zs))

laid_both : (k : ℕ) (xs ys lent : List ℕ) → laid (k + min (length xs) (length lent - k)) ys (laid k xs lent) ≡ laid k (xs ++ ys) lent
laid_both zero xs ys lent = let e : 0 + min (length xs) (length lent - 0) ≡ min (length xs) (length lent) = omega arith in rw e (front_both xs ys lent)
laid_both (suc k) xs ys [] = laid_empty (suc k + min (length xs) (length {A = ℕ} [] - suc k)) ys
laid_both (suc k) xs ys (z ∷ zs) =
    let e : suc k + min (length xs) (length (z ∷ zs) - suc k) ≡ suc (k + min (length xs) (length zs - k)) = omega arith in
    rw e (ap (λ ws. z ∷ ws) (laid_both k xs ys zs))

front_again : (old new more lent : List ℕ) → length old ≡ length new → front new (front (old ++ more) lent) ≡ front (new ++ more) lent
front_again [] [] more lent same = refl
front_again [] (n ∷ ns) more lent same = absurd (omega (arith, same))
front_again (o ∷ os) [] more lent same = absurd (omega (arith, same))
front_again (o ∷ os) (n ∷ ns) more [] same = refl
front_again (o ∷ os) (n ∷ ns) more (y ∷ ys) same = ap (λ zs. n ∷ zs) (front_again os ns more ys (omega (arith, same)))

laid_over : (k : ℕ) (old new more lent : List ℕ) → length old ≡ length new → laid k new (laid k (old ++ more) lent) ≡ laid k (new ++ more) lent
laid_over zero old new more lent same = front_again old new more lent same
laid_over (suc k) old new more [] same = refl
laid_over (suc k) old new more (y ∷ ys) same = ap (λ zs. y ∷ zs) (laid_over k old new more ys same)

replaced_length : (k : ℕ) (bytes lent : List ℕ) → length (replaced k bytes lent) ≡ length lent
replaced_length k bytes lent = ap length (laid_is k bytes lent) ∙ laid_length k bytes lent

-- ---- what is put

pub put_nothing : (g : Given) → put [] g ≡ g
unfolding put
put_nothing g = given g.bytes (laid_is g.filled [] (lent_in g) ∙ laid_none g.filled (lent_in g)) (omega arith) (omega arith)

pub put_both : (xs ys : List ℕ) (g : Given) → put ys (put xs g) ≡ put (xs ++ ys) g
unfolding put
put_both xs ys g =
    let l = length-append xs ys in
    let k = replaced_length g.filled xs (lent_in g) in
    let room : ℕ = g.filled + min (length xs) (length (lent_in g) - g.filled) in
    given g.bytes
    (laid_is room ys (replaced g.filled xs (lent_in g))
    ∙ (ap (laid room ys) (laid_is g.filled xs (lent_in g))
    ∙ (laid_both g.filled xs ys (lent_in g) ∙ sym (laid_is g.filled (xs ++ ys) (lent_in g)))))
    (omega (arith, l, k))
    (omega (arith, l))

-- what was written at a place, with other bytes there
pub patch_put : (old new more : List ℕ) (g : Given) → length old ≡ length new → patch (place_in g) new (put (old ++ more) g) ≡ put (new ++ more) g
unfolding put patch
patch_put old new more g same =
    let l = length-append old more in
    let m = length-append new more in
    given g.bytes
    (laid_is g.filled new (replaced g.filled (old ++ more) (lent_in g))
    ∙ (ap (laid g.filled new) (laid_is g.filled (old ++ more) (lent_in g))
    ∙ (laid_over g.filled old new more (lent_in g) same ∙ sym (laid_is g.filled (new ++ more) (lent_in g)))))
    (omega (arith, l, m, same))
    (omega (arith, l, m, same))

pub put_is : (bytes : List ℕ) (g : Given) (now : List ℕ) (taken sum : ℕ) → now ≡ replaced g.filled bytes (lent_in g) → taken ≡ min (length bytes) (length (lent_in g) - g.filled)
    → sum ≡ min (g.count + length bytes) most_counted → g.count < 18446744073709551616 → of (record g.bytes { now = now }) (g.filled + taken) sum ≡ put bytes g
unfolding put
put_is bytes g now taken sum e t s most = given g.bytes e (omega (arith, t)) (omega (arith, s, most))

-- one of several values, behind those before it
pub put_next : {A : Type 0} (text : A → List ℕ) (xs : List A) (i : ℕ) (d : A) (before now : Given) → i < length xs → now ≡ put (flat_map text (take i xs)) before
    → put (text (get_or xs i d)) now ≡ put (flat_map text (take (i + 1) xs)) before
put_next text xs i d before now lt e =
    let front : List ℕ = flat_map text (take i xs) in
    let last : flat_map text (take (i + 1) xs) ≡ front ++ text (get_or xs i d) =
    ap (flat_map text) (take_more xs i d lt) ∙ (flat_map-append text (take i xs) (get_or xs i d ∷ []) ∙ ap (λ t. front ++ t) (flat_map-cons text (get_or xs i d) [] ∙ append-nil (text (get_or xs i d)))) in
    ap (λ g. put (text (get_or xs i d)) g) e ∙ (put_both front (text (get_or xs i d)) before ∙ ap (λ t. put t before) (sym last))

-- ---- what was put into a sink with nothing in it

pub name_put : (text : List ℕ) (g : Given) → sink_name (put text g) ≡ sink_name g
unfolding put
name_put text g = refl

pub lent_put : (text : List ℕ) (lent : MutBor (List ℕ)) (g : Given) → g ≡ put text (nothing_given lent) → lent_in g ≡ front_over text lent.now
unfolding put
lent_put text lent g e =
    let l : length lent.now - 0 ≡ length lent.now = omega arith in
    let m : 0 + length text ≡ length text = omega arith in
    rw (sym l, sym m) (ap lent_in e)

pub count_put : (text : List ℕ) (lent : MutBor (List ℕ)) (g : Given) → g ≡ put text (nothing_given lent) → count_in g ≡ min (length text) most_counted
unfolding put
count_put text lent g e = ap count_in e ∙ omega arith

-- ---- a text at the front of a buffer

pub front_length_is : (text before : List ℕ) → length (front_over text before) ≡ length before
front_length_is text before = ap length (front_is text before) ∙ front_length text before

front_takes : (text before : List ℕ) → length text ≤ length before → take (length text) (front text before) ≡ text
front_takes [] before few = refl
front_takes (x ∷ xs) [] few = absurd (omega (arith, few))
front_takes (x ∷ xs) (y ∷ ys) few = ap (λ zs. x ∷ zs) (front_takes xs ys (omega (arith, few)))

-- it stands there, where the buffer has room for it
pub front_taken : (text before : List ℕ) → length text ≤ length before → take (length text) (front_over text before) ≡ text
front_taken text before few = ap (take (length text)) (front_is text before) ∙ front_takes text before few

-- it fills a buffer of its length
pub front_fills : (text before : List ℕ) → length before ≡ length text → front_over text before ≡ text
front_fills text before same =
    sym (take_all (length text) (front_over text before) (omega (arith, front_length_is text before, same))) ∙ front_taken text before (omega (arith, same))
