-- Seats of workers, a row of them for each worker: one for each lock.
use Rattle.std.proofs.Common.{◌≡◌, ℕ, zero, suc, ◌+◌, ◌<◌, ◌≤◌, List, [], ◌∷◌, ◌++◌, get_or, set, take, length, refl, sym, ap, ◌∙◌, subst, arith, append_assoc}
use Rattle.std.proofs.lemmas.List.{length-map, map-append}
use Rattle.std.specs.Prelude.{Option, None, Some, map, slice_get, replicate}
use Rattle.std.proofs.lemmas.Nat.{mul-lt}
use Rattle.strm_types.specs.declared.limits.Config.{Config}
use Rattle.strm_locks.specs.declared.workers.Report.{Report}
use Rattle.strm_locks.specs.Books.{LockId}
use Rattle.strm_locks.specs.Reports.{AreAt, AreCrew, IsReportOf, Tours, Works, at_rest, both, nobody, total, visits_at}
use Rattle.strm_locks.specs.Turns.{Posted}
use Rattle.strm_locks.proofs.Reports.{times-sum}

abbrev value_or : {A : Type 0} → A → Option A → A
value_or d None = d
value_or d (Some x) = x

abbrev lock_in : Posted → LockId
lock_in p = p.lock

-- the seat at a place, and its lock

pub post_at : (a : List Posted) (n : ℕ) (d : Posted) → n < length a → d ≡ get_or a n d → slice_get a n ≡ Some d
post_at [] n d small is = absurd (omega arith)
post_at (x ∷ xs) zero d small is = ap (λ (y : Posted). let o : Option Posted = Some y in o) (sym is)
post_at (x ∷ xs) (suc n) d small is = post_at xs n d (omega arith) is

same_lock : (a : List Posted) (n : ℕ) (p : Posted) (l : LockId) → slice_get a n ≡ Some p → slice_get (map lock_in a) n ≡ Some l → p.lock ≡ l
same_lock [] n p l at there = absurd (cc)
same_lock (x ∷ xs) zero p l at there = sym (ap (λ (o : Option Posted). lock_in (value_or p o)) at) ∙ ap (value_or l) there
same_lock (x ∷ xs) (suc n) p l at there = same_lock xs n p l at there

pub post_of : (locks : List LockId) (a : List Posted) (n : ℕ) (p : Posted) (l : LockId) → AreAt locks a → slice_get a n ≡ Some p → slice_get locks n ≡ Some l → p.lock ≡ l
post_of locks a n p l own at there = same_lock a n p l at (ap (λ (ls : List LockId). slice_get ls n) own ∙ there)

pub within : (locks : List LockId) (a : List Posted) (n : ℕ) → AreAt locks a → n < length locks → n < length a
within locks a n own small = let x = ap (λ (ls : List LockId). length ls) own in omega (arith, x, length-map a lock_in)

stay : (a : List Posted) (n : ℕ) (p q : Posted) → slice_get a n ≡ Some p → q.lock ≡ p.lock → map lock_in (set a n q) ≡ map lock_in a
stay [] n p q at is = refl
stay (x ∷ xs) zero p q at is = ap (λ (l : LockId). l ∷ map lock_in xs) (is ∙ sym (ap (λ (o : Option Posted). lock_in (value_or p o)) at))
stay (x ∷ xs) (suc n) p q at is = ap (λ (ls : List LockId). x.lock ∷ ls) (stay xs n p q at is)

pub meets_own : (locks : List LockId) (a : List Posted) (n : ℕ) (p q : Posted) → AreAt locks a → slice_get a n ≡ Some p → q.lock ≡ p.lock → AreAt locks (set a n q)
meets_own locks a n p q own at is = stay a n p q at is ∙ own

-- a list that is mapped, up to one place and up to the next
pub snoc : {A B : Type 0} (f : A → B) (xs : List A) (n : ℕ) (x : A) → slice_get xs n ≡ Some x → map f (take (suc n) xs) ≡ map f (take n xs) ++ f x ∷ []
snoc f [] n x at = absurd (cc)
snoc f (y ∷ ys) zero x at = ap (λ o. f (value_or x o) ∷ []) at
snoc f (y ∷ ys) (suc n) x at = ap (λ zs. f y ∷ zs) (snoc f ys n x at)

pub whole : {A B : Type 0} (f : A → B) (xs : List A) (n : ℕ) → length xs ≤ n → map f (take n xs) ≡ map f xs
whole f [] zero long = refl
whole f [] (suc n) long = refl
whole f (x ∷ xs) zero long = absurd (omega arith)
whole f (x ∷ xs) (suc n) long = ap (λ zs. f x ∷ zs) (whole f xs n (omega arith))

-- the locks of pairs have the sizes of these, one more each time
pub sized_on : (X : Type 0) (f : X → Config) (locks' locks : List LockId) (lock : LockId) (rest' rest : List X) (x : X) (all : List Config) → locks' ≡ locks ++ lock ∷ [] → rest ≡ x ∷ rest' → lock.sizes ≡ f x
    → map (λ (l : LockId). l.sizes) locks ++ map f rest ≡ all → map (λ (l : LockId). l.sizes) locks' ++ map f rest' ≡ all
sized_on X f locks' locks lock rest' rest x all more is one was =
    let s : LockId → Config = λ l. l.sizes in
    ap (λ (ls : List LockId). map s ls ++ map f rest') more
    ∙ ap (λ (zs : List Config). zs ++ map f rest') (map-append s locks (lock ∷ []))
    ∙ append_assoc (map s locks) (s lock ∷ []) (map f rest')
    ∙ ap (λ (z : Config). map s locks ++ z ∷ map f rest') one
    ∙ ap (λ (ys : List X). map s locks ++ map f ys) (sym is)
    ∙ was

-- new workers are of their system
at_rest_own : (locks : List LockId) → AreAt locks (map at_rest locks)
at_rest_own [] = refl
at_rest_own (l ∷ ls) = ap (λ (xs : List LockId). l ∷ xs) (at_rest_own ls)

pub crew_own : (locks : List LockId) (n : ℕ) → AreCrew locks (replicate n (map at_rest locks))
crew_own locks zero = tt
crew_own locks (suc n) = (at_rest_own locks, crew_own locks n)

abbrev report : ℕ → ℕ → ℕ → ℕ → ℕ → Report
report started turns blocked refused idle = record { started = started; turns = turns; blocked = blocked; refused = refused; idle = idle }

both_nobody : (r : Report) → both nobody r ≡ r
both_nobody r = λ j. report ((let e : 0 + r.started ≡ r.started = omega arith in e) j) ((let e : 0 + r.turns ≡ r.turns = omega arith in e) j) ((let e : 0 + r.blocked ≡ r.blocked = omega arith in e) j)
    ((let e : 0 + r.refused ≡ r.refused = omega arith in e) j) ((let e : 0 + r.idle ≡ r.idle = omega arith in e) j)

nobody_both : (r : Report) → r ≡ both r nobody
nobody_both r = λ j. report ((let e : r.started ≡ r.started + 0 = omega arith in e) j) ((let e : r.turns ≡ r.turns + 0 = omega arith in e) j) ((let e : r.blocked ≡ r.blocked + 0 = omega arith in e) j)
    ((let e : r.refused ≡ r.refused + 0 = omega arith in e) j) ((let e : r.idle ≡ r.idle + 0 = omega arith in e) j)

both_assoc : (a b c : Report) → both (both a b) c ≡ both a (both b c)
both_assoc a b c = λ j. report ((let e : (a.started + b.started) + c.started ≡ a.started + (b.started + c.started) = omega arith in e) j) ((let e : (a.turns + b.turns) + c.turns ≡ a.turns + (b.turns + c.turns) = omega arith in e) j)
    ((let e : (a.blocked + b.blocked) + c.blocked ≡ a.blocked + (b.blocked + c.blocked) = omega arith in e) j) ((let e : (a.refused + b.refused) + c.refused ≡ a.refused + (b.refused + c.refused) = omega arith in e) j)
    ((let e : (a.idle + b.idle) + c.idle ≡ a.idle + (b.idle + c.idle) = omega arith in e) j)

pub some_visits : (pairs visits : ℕ) → 0 < pairs → visits ≡ visits_at pairs visits
some_visits zero visits some = absurd (omega arith)
some_visits (suc n) visits some = refl

pub no_visits : (pairs visits : ℕ) → pairs ≡ 0 → 0 ≡ visits_at pairs visits
no_visits zero visits none = refl
no_visits (suc n) visits none = absurd (omega arith)

visits_most : (pairs visits : ℕ) → visits_at pairs visits ≤ visits
visits_most zero visits = omega arith
visits_most (suc n) visits = omega arith

-- the numbers of two reports fit, as so few workers make so few visits
pub fits_both : (a b pairs visits : ℕ) (q s : Report) → a + b < 4294967296 → visits < 4294967296 → IsReportOf a (visits_at pairs visits) q → IsReportOf b (visits_at pairs visits) s
    → (q.turns + s.turns < 18446744073709551616) × (q.blocked + s.blocked < 18446744073709551616) × (q.refused + s.refused < 18446744073709551616) × (q.idle + s.idle < 18446744073709551616)
fits_both a b pairs visits q s few small one two =
    let v = visits_at pairs visits in
    let most = visits_most pairs visits in
    let all = mul-lt (a + b) v 4294967296 4294967296 few (omega arith) in
    let sum = times-sum a b v in
    let x = one.all in let y = two.all in let bx = one.blocked in let by = two.blocked in (
      omega arith,
      omega arith,
      omega arith,
      omega arith,
    )

total-snoc : (xs : List Report) (r : Report) → total (xs ++ r ∷ []) ≡ both (total xs) r
total-snoc [] r = sym (nobody_both r) ∙ sym (both_nobody r)
total-snoc (x ∷ xs) r = ap (λ (q : Report). both x q) (total-snoc xs r) ∙ sym (both_assoc x (total xs) r)

snoc_or : {A B : Type 0} (f : A → B) (xs : List A) (i : ℕ) (d : A) → i < length xs → map f (take (suc i) xs) ≡ map f (take i xs) ++ f (get_or xs i d) ∷ []
snoc_or f [] i d small = absurd (omega arith)
snoc_or f (y ∷ ys) zero d small = refl
snoc_or f (y ∷ ys) (suc i) d small = ap (λ zs. f y ∷ zs) (snoc_or f ys i d (omega arith))

-- what workers told so far, and one more
pub told_next : {H : Type 0} (report_in : H → Report) (xs : List H) (i : ℕ) (d : H) (now later : Report) → i < length xs → now ≡ total (map report_in (take i xs)) → later ≡ both now (report_in (get_or xs i d))
    → later ≡ total (map report_in (take (i + 1) xs))
told_next report_in xs i d now later small was more = let next : suc i ≡ i + 1 = omega arith in
    more
    ∙ ap (λ (r : Report). both r (report_in (get_or xs i d))) was
    ∙ sym (total-snoc (map report_in (take i xs)) (report_in (get_or xs i d)))
    ∙ ap (λ (rs : List Report). total rs) (sym (snoc_or report_in xs i d small))
    ∙ ap (λ (n : ℕ). total (map report_in (take n xs))) next

-- a crew by its workers, one after the other
module _ {H : Type 0} (posts : H → List Posted) (report_in : H → Report) where
  pub crew_each : (locks : List LockId) (hs : List H) → AreCrew locks (map posts hs) → (i : ℕ) (d : H) → i < length hs → AreAt locks (posts (get_or hs i d))
  crew_each locks [] own i d small = absurd (omega arith)
  crew_each locks (h ∷ hs) own zero d small = own.0
  crew_each locks (h ∷ hs) own (suc i) d small = crew_each locks hs own.1 i d (omega arith)

  pub crew_of : (locks : List LockId) (hs : List H) → ((i : ℕ) (d : H) → i < length hs → AreAt locks (posts (get_or hs i d))) → AreCrew locks (map posts hs)
  crew_of locks [] each = tt
  crew_of locks (h ∷ hs) each = (each 0 h (omega arith), crew_of locks hs (λ i d small. each (suc i) d (omega arith)))

  pub works_of : (pairs visits first : ℕ) (xs ys : List H) → length ys ≡ length xs
      → ((i : ℕ) (d : H) → i < length xs → Tours pairs (first + i) visits (posts (get_or xs i d)) (report_in (get_or ys i d)) (posts (get_or ys i d)))
      → Works pairs visits first (map posts xs) (total (map report_in ys)) (map posts ys)
  works_of pairs visits first [] [] same each = (refl, refl)
  works_of pairs visits first [] (y ∷ ys) same each = absurd (omega arith)
  works_of pairs visits first (x ∷ xs) [] same each = absurd (omega arith)
  works_of pairs visits first (x ∷ xs) (y ∷ ys) same each = let here : first + 0 ≡ first = omega arith in (
    posts y,
    map posts ys,
    report_in y,
    total (map report_in ys),
    refl,
    subst (λ (n : ℕ). Tours pairs n visits (posts x) (report_in y) (posts y)) here (each 0 x (omega arith)),
    works_of pairs visits (suc first) xs ys (omega arith) (λ i d small. let on : first + suc i ≡ suc first + i = omega arith in
        subst (λ (n : ℕ). Tours pairs n visits (posts (get_or xs i d)) (report_in (get_or ys i d)) (posts (get_or ys i d))) on (each (suc i) d (omega arith))),
    refl,
  )
