-- What a call under the lock tells its caller, by what it did to the book.
use Rattle.std.proofs.Common.{◌≡◌, ℕ, zero, suc, ◌+◌, ◌-◌, ◌<◌, ◌≤◌, List, [], ◌∷◌, ◌++◌, ◌⊎◌, inl, inr, ⊎_elim, refl, sym, ap, subst, ◌∙◌, arith, append-nil, drop, length}
use Rattle.std.proofs.Math.Seq.{drop-append_seam, drop-length}
use Rattle.std.specs.Prelude.{Result, Ok, Err, IsOk, IfOk, MatchOption, MatchResult, Option, None, Some}
use mathlib.Core.Logic.{dite}
use native.Mathlib.Decide.{ℕ_discrete}
use Rattle.atomic_table.specs.Table.{rest}
use Rattle.strm_types.specs.declared.answers.Answer.{Answer}
use Rattle.strm_types.specs.declared.answers.Turn.{Turn}
use Rattle.strm_types.specs.declared.entries.Entry.TheVariants.{Turned}
use Rattle.strm_types.specs.declared.events.Caller.{Caller}
use Rattle.strm_types.specs.declared.events.Event.TheVariants.{OpenMaster}
use Rattle.strm_types.specs.declared.limits.Config.{Config}
use Rattle.strm_types.specs.declared.refusals.NoMemory.{NoMemory}
use Rattle.strm_types.specs.declared.refusals.Refusal.{Refusal}
use Rattle.strm_types.specs.Events.{Request}
use Rattle.strm_types.specs.Journal.{PlainEntry}
use Rattle.strm_laws.proofs.NoOwn.{none as no_own}
use Rattle.strm_laws.specs.Pair.{PairState, AddsEntry, queue_refused}
use Rattle.strm_laws.proofs.Replay.{refused-by}
use Rattle.strm_image.specs.declared.trace.Trace.{Trace}
use Rattle.strm_locks.specs.declared.end.TheConstants.{ALL_PARTS}
use Rattle.strm_locks.specs.declared.held.Made.{Made}
use Rattle.strm_locks.specs.declared.told.Told.{Told}
use Rattle.strm_locks.specs.declared.view.View.{View}
use Rattle.strm_locks.specs.Ends.{Calls, IsTold, OpenedAs, Share}
use Rattle.strm_locks.specs.Books.{pick, nothing, plus, minus, IsBelow, IsCounted, Fits, Book, Kept, Adds, history_of, tally_of}
use Rattle.strm_locks.specs.Rules.{share, fresh, holding, leaving, grown, Knows, Mine}
use Rattle.strm_locks.specs.Shares.{Became, MayGive, Tells, Applied, Did, Does, Grew, IsPosted, IsSeated, Opens, Opened, Outcome, entry_of, opener}
use Rattle.strm_locks.specs.Turns.{Cuts, Visits}
use Rattle.strm_locks.proofs.Sums.{same_told, pick-minus, pick-nothing, pick-plus}

-- the view that is told what a call added to the book, and the one where nothing was added
grown_once : (v : View) (b : Book) (k : Kept) (e : PlainEntry) → Adds b e k.book → IsBelow b.totals k.book.totals
    → grown v b k ≡ share v.sizes (plus v.told (minus k.book.totals b.totals)) (v.made ++ e ∷ []) v.parts (v.met ++ k.pair ∷ [])
grown_once v b k e adds below = let c : Book = k.book in
    let sums : minus (plus v.told c.totals) b.totals ≡ plus v.told (minus c.totals b.totals) = same_told (minus (plus v.told c.totals) b.totals) (plus v.told (minus c.totals b.totals))
    (λ i. let a = pick-minus i (plus v.told c.totals) b.totals in let d = pick-plus i v.told c.totals in let x = pick-plus i v.told (minus c.totals b.totals) in let y = pick-minus i c.totals b.totals in let f = below i in omega arith) in
    let more : drop (length b.history) c.history ≡ e ∷ [] = ap (drop (length b.history)) adds.history ∙ drop-append_seam b.history (e ∷ []) in
    let parts : v.parts + b.left - c.left ≡ v.parts = (let p = adds.left in omega arith) in
    λ j. share v.sizes (sums j) (v.made ++ more j) (parts j) (v.met ++ k.pair ∷ [])

pub grown_none : (v : View) (b : Book) (k : Kept) → k.book ≡ b → grown v b k ≡ share v.sizes v.told v.made v.parts (v.met ++ k.pair ∷ [])
grown_none v b k same =
    let sums : minus (plus v.told b.totals) b.totals ≡ v.told = same_told (minus (plus v.told b.totals) b.totals) v.told
    (λ i. let a = pick-minus i (plus v.told b.totals) b.totals in let d = pick-plus i v.told b.totals in omega arith) in
    let more : v.made ++ drop (length b.history) b.history ≡ v.made = ap (λ l. v.made ++ l) (drop-length b.history) ∙ append-nil v.made in
    let parts : v.parts + b.left - b.left ≡ v.parts = omega arith in
    ap (λ (c : Book). share v.sizes (minus (plus v.told c.totals) b.totals) (v.made ++ drop (length b.history) c.history) (v.parts + b.left - c.left) (v.met ++ k.pair ∷ [])) same
    ∙ (λ j. share v.sizes (sums j) (more j) (parts j) (v.met ++ k.pair ∷ []))

-- an end's seat, by the view that it has
pub seated : (m : Mine) (z : Config) (t : Told) (xs : List PlainEntry) (n : ℕ) (ps : List PairState) → m ≡ (share z t xs n ps, []) → 0 < n → IsSeated m t n
seated m z t xs n ps is some_part = let sizes = sym (ap (λ (x : Mine). x.0.sizes) is) in let made = sym (ap (λ (x : Mine). x.0.made) is) in let met = sym (ap (λ (x : Mine). x.0.met) is) in
    record { shown = is ∙ (λ k. (share (sizes k) t (made k) n (met k), [])); some_part = some_part }

pub has_part : (m : Mine) (t : Told) (n : ℕ) → IsSeated m t n → 0 < m.0.parts
has_part m t n s = let is : m.0.parts ≡ n = ap (λ (x : Mine). x.0.parts) s.shown in let p = s.some_part in omega arith

-- the value of a seat that has taken one slot
abbrev pub first_of : {A : Type 0} → A → List (ℕ × A) → A
first_of d [] = d
first_of d (x ∷ xs) = x.1

-- what its holder does to the pair that a seat lends is done to the one that the seat has
pub lent : (slots : List (ℕ × Kept)) → (k : Kept) × (slots ≡ (0, k) ∷ []) → (k : Kept) × (slots ≡ (0, k) ∷ rest slots)
lent slots has = (has.0, has.1 ∙ ap (λ l. (0, has.0) ∷ rest l) (sym has.1))

pub became : (done : Kept → Kept → Type 0) (slots : List (ℕ × Kept)) (a b : Kept) → slots ≡ (0, a) ∷ rest slots → done a b → Became done slots ((0, b) ∷ rest slots)
became done slots a b is was k e = (b, ap (λ l. (0, b) ∷ rest l) e, subst (λ (x : Kept). done x b) (sym (ap (first_of k) (sym e ∙ is))) was)

module _ (a : Kept) (caller : Caller) (asked : Request) (before bytes : List ℕ) (b : Kept) where
  abbrev WasDone : Outcome → Type 0
  WasDone x = Did a caller asked before bytes x b

  more_history : (x : Outcome) → WasDone x → (more : List PlainEntry) × (b.book.history ≡ a.book.history ++ more)
  more_history (Ok y) d = (entry_of caller asked bytes y ∷ [], d.0.history)
  more_history (Err z) d = ([], ap (λ (k : Kept). k.book.history) d.0 ∙ sym (append-nil a.book.history))

  same_left : (x : Outcome) → WasDone x → b.book.left ≡ a.book.left
  same_left (Ok y) d = d.0.left
  same_left (Err z) d = ap (λ (k : Kept). k.book.left) d.0

  pub gives_applied : (v : View) (r : Outcome × Told) → 0 < v.parts → Applied a caller asked before bytes r b → MayGive (holding v a) b.book
  gives_applied v r some_part applied = let p = same_left r.0 applied.answer in record {
    below = applied.grew.below;
    fits = applied.grew.fits;
    history = more_history r.0 applied.answer;
    left = omega arith;
    some_part = inl (omega arith);
  }

  -- what the end was told then fits, as the book's numbers do
  pub fits_told : (v : View) (r : Outcome × Told) → Knows v a.book → Applied a caller asked before bytes r b → Fits (plus v.told r.1)
  fits_told v r knows applied i =
      let w : pick i r.1 ≡ pick i (minus b.book.totals a.book.totals) = ap (pick i) applied.grew.growth in
      let x = pick-minus i b.book.totals a.book.totals in let y = pick-plus i v.told r.1 in let z = knows.below i in let f = applied.grew.fits i in let g = applied.grew.below i in omega arith

  -- what the call does to the pair
  does : (x : Outcome) → WasDone x → Does a.pair caller asked before bytes x b.pair
  does (Ok y) d = d.1
  does (Err z) d = (ap (λ (k : Kept). k.pair) d.0, d.1, d.2)

  tells : (e : PlainEntry) (t : Told) → IsCounted a.book.totals.calls (history_of a.pair) → Adds a.book e b.book → Grew a.book t b.book → Tells a.pair e t
  tells e t counted adds grew =
      let n : t.calls ≡ b.book.totals.calls - a.book.totals.calls = ap (λ (x : Told). x.calls) grew.growth in
      let c = adds.calls in let f = grew.below 0 in record {
        calls = dite (ℕ_discrete a.book.totals.calls 18446744073709551615) (λ z. inr (omega (arith, counted), omega arith)) (λ z. inl (omega (arith, counted), omega (arith, counted)));
        bytes = λ i. let w : pick (suc i) t ≡ pick (suc i) (minus b.book.totals a.book.totals) = ap (pick (suc i)) grew.growth in
            let x = pick-minus (suc i) b.book.totals a.book.totals in let y = adds.bytes i in omega arith;
      }

  none : (i : ℕ) → pick i (minus a.book.totals a.book.totals) ≡ pick i nothing
  none i = let x = pick-minus i a.book.totals a.book.totals in let y = pick-nothing i in omega arith

  -- what the end is told of an answer, and of a refusal
  module _ (v : View) (t : Told) (m' : Mine) (counted : IsCounted a.book.totals.calls (history_of a.pair)) (grew : Grew a.book t b.book) (now : m' ≡ (grown (holding v a) a.book b, [])) where
    abbrev ToldOf : Outcome → Type 0
    ToldOf x = MatchResult x
        (λ y. let e : PlainEntry = entry_of caller asked bytes y in Tells a.pair e t × (m' ≡ (share v.sizes (plus v.told t) (v.made ++ e ∷ []) v.parts (v.met ++ a.pair ∷ [] ++ b.pair ∷ []), [])))
        (λ z. (t ≡ nothing) × (m' ≡ (share v.sizes v.told v.made v.parts (v.met ++ a.pair ∷ [] ++ b.pair ∷ []), [])))

    told_by : (x : Outcome) → WasDone x → ToldOf x
    told_by (Ok y) d = let e : PlainEntry = entry_of caller asked bytes y in (
      tells e t counted d.0 grew,
      now ∙ (λ k. ((grown_once (holding v a) a.book b e d.0 grew.below ∙ ap (λ (x : Told). share v.sizes (plus v.told x) (v.made ++ e ∷ []) v.parts (v.met ++ a.pair ∷ [] ++ b.pair ∷ [])) (sym grew.growth)) k, [])),
    )
    told_by (Err z) d = let same : b.book ≡ a.book = ap (λ (k : Kept). k.book) d.0 in (
      same_told t nothing (λ i. ap (pick i) grew.growth ∙ (ap (λ (y : Book). pick i (minus y.totals a.book.totals)) same ∙ none i)),
      now ∙ (λ k. (grown_none (holding v a) a.book b same k, [])),
    )

module _ (a : Kept) (asked : Request) (before bytes : List ℕ) (b : Kept) (e : Share) (me m' : Mine) (r : Outcome × Told) (p : Told) where
  -- the end that is told so: its seat, and what is told by its answer
  module _ (seat : IsSeated me e.told e.parts) (applied : Applied a e.caller asked before bytes r b) (now : m' ≡ (grown (holding me.0 a) a.book b, [])) (sum : p ≡ plus e.told r.1) where
    abbrev Was : Outcome → Type 0
    Was x = ToldOf a e.caller asked before bytes b me.0 r.1 m' applied.counted applied.grew now x

    abbrev after : List PairState
    after = me.0.met ++ a.pair ∷ [] ++ b.pair ∷ []

    was : (x : Outcome) → Was x → IsSeated m' p e.parts
    was (Ok y) d = seated m' me.0.sizes p (me.0.made ++ entry_of e.caller asked bytes y ∷ []) e.parts after (d.1 ∙ (λ k. (share me.0.sizes (told k) (me.0.made ++ entry_of e.caller asked bytes y ∷ []) (parts k) after, []))) seat.some_part
      where
        told : plus me.0.told r.1 ≡ p
        told = ap (λ (m : Mine). plus m.0.told r.1) seat.shown ∙ sym sum

        parts : me.0.parts ≡ e.parts
        parts = ap (λ (m : Mine). m.0.parts) seat.shown
    was (Err z) d = seated m' me.0.sizes p me.0.made e.parts after (d.1 ∙ (λ k. (share me.0.sizes (told k) me.0.made (parts k) after, []))) seat.some_part
      where
        same : e.told ≡ plus e.told r.1
        same = same_told e.told (plus e.told r.1) (λ i. let x = pick-plus i e.told r.1 in let y : pick i r.1 ≡ pick i nothing = ap (pick i) d.0 in let n = pick-nothing i in omega arith)

        told : me.0.told ≡ p
        told = ap (λ (m : Mine). m.0.told) seat.shown ∙ (same ∙ sym sum)

        parts : me.0.parts ≡ e.parts
        parts = ap (λ (m : Mine). m.0.parts) seat.shown

    done : Was r.0
    done = told_by a e.caller asked before bytes b me.0 r.1 m' applied.counted applied.grew now r.0 applied.answer

    pub call_seated : IsSeated m' p e.parts
    call_seated = was r.0 done

    module _ (e' : Share) (made : e.made ≡ me.0.made) (met : e.met ≡ me.0.met) (is : e' ≡ record e { told = p; made = m'.0.made; met = m'.0.met }) where
      passed : m'.0.met ≡ after → m'.0.met ≡ e.met ++ a.pair ∷ [] ++ b.pair ∷ []
      passed all = all ∙ ap (λ ps. ps ++ a.pair ∷ [] ++ b.pair ∷ []) (sym met)

      tells_end : (x : Outcome) → Was x → IsTold e a.pair asked bytes x b.pair e'
      tells_end (Ok y) d = let ps = passed (ap (λ (m : Mine). m.0.met) d.1) in (r.1, d.0, is ∙ (λ k. record e { told = sum k; made = list k; met = ps k }))
        where
          list : m'.0.made ≡ e.made ++ entry_of e.caller asked bytes y ∷ []
          list = ap (λ (m : Mine). m.0.made) d.1 ∙ ap (λ xs. xs ++ entry_of e.caller asked bytes y ∷ []) (sym made)
      tells_end (Err z) d = let ps = passed (ap (λ (m : Mine). m.0.met) d.1) in is ∙ (λ k. record e { told = told k; made = list k; met = ps k })
        where
          told : p ≡ e.told
          told = sum ∙ same_told (plus e.told r.1) e.told (λ i. let x = pick-plus i e.told r.1 in let y : pick i r.1 ≡ pick i nothing = ap (pick i) d.0 in let n = pick-nothing i in omega arith)

          list : m'.0.made ≡ e.made
          list = ap (λ (m : Mine). m.0.made) d.1 ∙ sym made

      pub call_told : a.pair.limits ≡ e.lock.sizes → Calls e asked before bytes r.0 e'
      call_told sized = record { found = a.pair; left = b.pair; sound = (applied.sound, sized); does = does a e.caller asked before bytes b r.0 applied.answer; told = tells_end r.0 done }

module _ (z : Config) (a : Kept) (bytes : List ℕ) (b : Kept) where
  opens_by : (x : Outcome) → Opens a bytes x b → ((more : List PlainEntry) × (b.book.history ≡ a.book.history ++ more)) × (b.book.left ≤ a.book.left)
      × ((0 < a.book.left - b.book.left) ⊎ ((b.book.totals ≡ a.book.totals) × (b.book.history ≡ a.book.history)))
  opens_by (Ok y) d = let p = d.0 in let q = d.3 in ((entry_of opener OpenMaster bytes y ∷ [], d.2.history), omega arith, inl (omega arith))
  opens_by (Err y) d = let same : b.book ≡ a.book = ap (λ (k : Kept). k.book) d.0 in let p : b.book.left ≡ a.book.left = ap (λ (y : Book). y.left) same in (
    ([], ap (λ (y : Book). y.history) same ∙ sym (append-nil a.book.history)),
    omega arith,
    inr (ap (λ (y : Book). y.totals) same, ap (λ (y : Book). y.history) same),
  )

  pub opens_gives : (r : Outcome × Told) → Opened a bytes r b → MayGive (holding (fresh z) a) b.book
  opens_gives r opened = let t = opens_by r.0 opened.answer in record {
    below = opened.grew.below;
    fits = opened.grew.fits;
    history = t.0;
    left = t.1;
    some_part = ⊎_elim (λ (x : 0 < a.book.left - b.book.left). inl (omega arith)) (λ x. inr x) t.2;
  }

  opens_told : (x : Answer ℕ) (t : Told) → Opens a bytes (Ok x) b → (a.book.left ≡ ALL_PARTS → a.book.totals ≡ nothing) → Grew a.book t b.book
      → (t ≡ tally_of (entry_of opener OpenMaster bytes x)) × (grown (holding (fresh z) a) a.book b ≡ share z t (entry_of opener OpenMaster bytes x ∷ []) ALL_PARTS (a.pair ∷ b.pair ∷ []))
  opens_told x t d unopened grew = let e : PlainEntry = entry_of opener OpenMaster bytes x in let p = d.0 in let q = d.3 in
      let none : a.book.totals ≡ nothing = unopened p in
      let at : (i : ℕ) → pick i a.book.totals ≡ 0 = λ i. ap (pick i) none ∙ pick-nothing i in
      let more : drop (length a.book.history) b.book.history ≡ e ∷ [] = ap (drop (length a.book.history)) d.2.history ∙ drop-append_seam a.book.history (e ∷ []) in
      let parts : 0 + a.book.left - b.book.left ≡ ALL_PARTS = omega arith in
      let sums : minus (plus nothing b.book.totals) a.book.totals ≡ t = same_told (minus (plus nothing b.book.totals) a.book.totals) (minus b.book.totals a.book.totals)
      (λ i. let x = pick-minus i (plus nothing b.book.totals) a.book.totals in let y = pick-plus i nothing b.book.totals in let z = pick-minus i b.book.totals a.book.totals in let n = pick-nothing i in omega arith) ∙ sym grew.growth in
      let calls : b.book.totals.calls ≡ 1 = (let n = d.2.calls in let z = at 0 in omega arith) in
      let told : t ≡ tally_of e = grew.growth ∙ same_told (minus b.book.totals a.book.totals) (tally_of e) (first calls) in (
        told,
        (λ k. share z (sums k) (more k) (parts k) (a.pair ∷ b.pair ∷ [])),
      )
    where
      first : b.book.totals.calls ≡ 1 → (i : ℕ) → pick i (minus b.book.totals a.book.totals) ≡ pick i (tally_of (entry_of opener OpenMaster bytes x))
      first calls zero = let z = ap (pick 0) (unopened d.0) in omega arith
      first calls (suc i) = let x = pick-minus (suc i) b.book.totals a.book.totals in let y = d.2.bytes i in omega arith

  pub opened_as : (r : Outcome × Told) (m' : Mine) → Opened a bytes r b → (a.book.left ≡ ALL_PARTS → a.book.totals ≡ nothing) → m' ≡ (grown (holding (fresh z) a) a.book b, [])
      → OpenedAs z a.pair b.pair bytes r.1 m' r.0
  opened_as r m' opened unopened now = at r.0 opened.answer
    where
      at : (x : Outcome) → Opens a bytes x b → OpenedAs z a.pair b.pair bytes r.1 m' x
      at (Ok y) d = let t = opens_told y r.1 d unopened opened.grew in (d.1, d.4, t.0, now ∙ (λ k. (t.1 k, [])))
      at (Err y) d = (ap (λ (k : Kept). k.pair) d.0, d.1, now ∙ (λ k. (grown_none (holding (fresh z) a) a.book b (ap (λ (k : Kept). k.book) d.0) k, [])))

-- what is done to a pair leaves its sizes

sized_by : (o : Option Refusal) (X : Type 0) (x : Result X Refusal) (p q : PairState) → MatchOption o (IsOk x) (λ r. (x ≡ Err r) × (q ≡ p)) → IfOk x (λ _. q.limits ≡ p.limits) → q.limits ≡ p.limits
sized_by o X x p q refused adds = at x refl adds
  where
    at : (y : Result X Refusal) → x ≡ y → IfOk y (λ _. q.limits ≡ p.limits) → q.limits ≡ p.limits
    at (Ok y) is adds = adds
    at (Err r) is adds = ap (λ (z : PairState). z.limits) (refused-by o x refused r is).1

if_ok : (X : Type 0) (x : Result X Refusal) (A B : X → Type 0) → ((y : X) → A y → B y) → IfOk x A → IfOk x B
if_ok X (Ok y) A B f a = f y a
if_ok X (Err r) A B f a = a

pub visits_sized : (p : PairState) (made : Option Made) (q : PairState) → Visits p made q → q.limits ≡ p.limits
visits_sized p None q v = ap (λ (z : PairState). z.limits) v.1
visits_sized p (Some m) q v = sized_by (queue_refused p m.queue) Turn m.answer p q v.refused (if_ok Turn m.answer (λ t. AddsEntry no_own p q (Turned m.queue t)) (λ _. q.limits ≡ p.limits) (λ t a. a.limits) v.adds)

pub cuts_sized : (p : PairState) (r : Result Trace NoMemory) (q : PairState) → Cuts p r q → q.limits ≡ p.limits
cuts_sized p (Ok t) q c = ap (λ (z : PairState). z.limits) c.1
cuts_sized p (Err e) q c = ap (λ (z : PairState). z.limits) c

pub did_sized : (a : Kept) (caller : Caller) (asked : Request) (before bytes : List ℕ) (x : Outcome) (b : Kept) → Did a caller asked before bytes x b → b.pair.limits ≡ a.pair.limits
did_sized a caller asked before bytes (Ok y) b d = d.1.adds.limits
did_sized a caller asked before bytes (Err z) b d = ap (λ (k : Kept). k.pair.limits) d.0

pub opens_sized : (a : Kept) (bytes : List ℕ) (x : Outcome) (b : Kept) → Opens a bytes x b → b.pair.limits ≡ a.pair.limits
opens_sized a bytes (Ok y) b d = d.4.adds.limits
opens_sized a bytes (Err z) b d = ap (λ (k : Kept). k.pair.limits) d.0

-- a seat that makes visits: behind one it was told nothing still
pub posted_on : (m : Mine) (k : Kept) (p : PairState) (m' : Mine) → IsPosted m → m' ≡ (leaving (holding m.0 k) p, []) → IsPosted m'
posted_on m k p m' is now =
    let to : m' ≡ (share m.0.sizes nothing [] 0 (m.0.met ++ k.pair ∷ [] ++ p ∷ []), []) = now ∙ ap (λ (x : Mine). let y : Mine = (leaving (holding x.0 k) p, []) in y) is in
    to ∙ (λ j. (share (sym (ap (λ (x : Mine). x.0.sizes) to) j) nothing [] 0 (sym (ap (λ (x : Mine). x.0.met) to) j), []))
