-- The rule of a lock's table, and what each kind of step tells the seat that takes it.
use Rattle.std.specs.Prelude.{◌≡◌, ◌≢◌, ℕ, ◌+◌, ◌-◌, ◌/◌, ◌<◌, ◌≤◌, List, [], ◌∷◌, ◌++◌, length, drop, slice_index}
use mathlib.Core.Option.{some}
use lib.ListN.{get_elem?}
use Rattle.atomic_table.specs.Table.{State, Me, Step}
use Rattle.strm_types.specs.declared.limits.Config.{Config}
use Rattle.strm_types.specs.Journal.{PlainEntry}
use Rattle.strm_laws.specs.Pair.{PairState}
use Rattle.strm_locks.specs.declared.end.TheConstants.{ALL_PARTS}
use Rattle.strm_locks.specs.declared.lock.TheConstants.{WORD}
use Rattle.strm_locks.specs.declared.told.Told.{Told}
use Rattle.strm_locks.specs.declared.view.View.{View}
use Rattle.strm_locks.specs.Books.{pick, nothing, plus, minus, weigh, IsReordered, IsBelow, Fits, Book, Kept, closed_book}

abbrev pub view : Config → Told → List PlainEntry → ℕ → ℕ → Book → List PairState → View
view sizes told made parts holds found met = record { sizes = sizes; told = told; made = made; parts = parts; holds = holds; found = found; met = met }

-- a view without the lock
abbrev pub share : Config → Told → List PlainEntry → ℕ → List PairState → View
share sizes told made parts met = view sizes told made parts 0 closed_book met

-- a view that was told nothing and met no pair, at a lock of a pair of these sizes
abbrev pub fresh : Config → View
fresh sizes = share sizes nothing [] 0 []

-- the view v with the lock, which found this pair with its book
abbrev pub holding : View → Kept → View
holding v k = view v.sizes v.told v.made v.parts 1 k.book (v.met ++ k.pair ∷ [])

-- the view v without the lock, which has left this pair
abbrev pub leaving : View → PairState → View
leaving v p = record v { holds = 0; found = closed_book; met = v.met ++ p ∷ [] }

-- the view of a seat that another took in
abbrev pub spent : View
spent = fresh record { mblks = 0; dblks = 0; journal_events = 0; journal_bytes = 0 }

-- f of each view, added up
abbrev pub total : (View → ℕ) → List View → ℕ
total f [] = 0
total f (v ∷ vs) = f v + total f vs

-- The rule, between any two steps: what all views were told adds up to the book. The word is 1 while one view holds the lock; the book is then the one that it found, else that of the pair in
-- the slot, which has these sizes. The views' entries are those of the history, each as often; their parts with those left in the book are all; and a view without a part was
-- told nothing.
pub record AddsUp (sizes : Config) (s : State Kept View) : Type 0 where
  pub book : Book
  pub has_word : WORD < length s.words
  pub bit : slice_index s.words WORD < 2
  pub at_home : slice_index s.words WORD ≡ 0 → (k : Kept) × (get_elem? s.homes 0 ≡ some (some k)) × (k.book ≡ book) × (k.pair.limits ≡ sizes)
  pub holders : total (λ v. v.holds) s.views ≡ slice_index s.words WORD
  pub found : (id : ℕ) (v : View) → get_elem? s.views id ≡ some v → 0 < v.holds → v.found ≡ book
  pub totals : (i : ℕ) → total (λ v. pick i v.told) s.views ≡ pick i book.totals
  pub history : (h : PlainEntry → ℕ) → total (λ v. weigh h v.made) s.views ≡ weigh h book.history
  pub parts : total (λ v. v.parts) s.views + book.left ≡ ALL_PARTS
  pub fits : Fits book.totals
  pub idle : (id : ℕ) (v : View) → get_elem? s.views id ≡ some v → v.parts ≡ 0 → (v.told ≡ nothing) × (v.made ≡ [])

-- What all seats were told adds up to the book, number by number; their entries are those of its history, each as often; and their parts with those that no end has are all.
pub record AreToldOf (b : Book) : Type 0 where
  pub seats : List View
  pub totals : (i : ℕ) → total (λ v. pick i v.told) seats ≡ pick i b.totals
  pub history : (h : PlainEntry → ℕ) → total (λ v. weigh h v.made) seats ≡ weigh h b.history
  pub parts : total (λ v. v.parts) seats + b.left ≡ ALL_PARTS

-- What a seat learns where it finds the book: it was told no more than the book has, and with all parts all that the book has; and nobody was told anything where no end has a part.
pub record Knows (v : View) (b : Book) : Type 0 where
  pub below : IsBelow v.told b.totals
  pub fits : Fits b.totals
  pub parts : v.parts + b.left ≤ ALL_PARTS
  pub whole : v.parts ≡ ALL_PARTS → (v.told ≡ b.totals) × IsReordered v.made b.history
  pub unopened : b.left ≡ ALL_PARTS → b.totals ≡ nothing
  pub seats : AreToldOf b

-- what a seat knows, with the slots that it has taken
abbrev pub Mine : Type 0
Mine = Me Kept View

-- the view v, which has left this pair and is told what its book has beyond the book b
abbrev pub grown : View → Book → Kept → View
grown v b k =
    let c = k.book in share v.sizes (minus (plus v.told c.totals) b.totals) (v.made ++ drop (length b.history) c.history) (v.parts + b.left - c.left) (v.met ++ k.pair ∷ [])

-- the view v, which has closed the book of this pair: it has nothing but what it met
abbrev pub closing : View → PairState → View
closing v p = share v.sizes nothing [] 0 (v.met ++ p ∷ [])

-- the lock is tried: where it was free the seat has it, with the pair, of the sizes that it knows, and its book
abbrev pub taken : Step Kept → Mine → ℕ → Mine → Type 0
taken st m n m' = (n ≡ 0 → (k : Kept) × (m' ≡ (holding m.0 k, (0, k) ∷ m.1)) × Knows m.0 k.book × (k.pair.limits ≡ m.0.sizes)) × (n ≢ 0 → m' ≡ m)

-- the lock is given back with a pair whose book may have grown
abbrev pub given : Step Kept → Mine → ℕ → Mine → Type 0
given st m n m' = (k : Kept) → m.1 ≡ (0, k) ∷ [] → m' ≡ (grown m.0 m.0.found k, [])

-- the lock is given back with a pair whose book was closed
abbrev pub emptied : Step Kept → Mine → ℕ → Mine → Type 0
emptied st m n m' = (k : Kept) → m.1 ≡ (0, k) ∷ [] → m' ≡ (closing m.0 k.pair, [])

-- the lock is given back at the end of a visit, with a pair whose book stayed: the pair that is left is met
abbrev pub passed : Step Kept → Mine → ℕ → Mine → Type 0
passed st m n m' = (k : Kept) → m.1 ≡ (0, k) ∷ [] → m' ≡ (leaving m.0 k.pair, [])

-- a look: the numbers of a seat fit
abbrev pub looked : Step Kept → Mine → ℕ → Mine → Type 0
looked st m n m' = (m' ≡ m) × Fits m.0.told × (m.0.parts ≤ ALL_PARTS)

-- a seat comes as it is made
abbrev pub sat : Step Kept → Mine → ℕ → Mine → Type 0
sat st m n m' = m' ≡ m

-- a seat is cut in two: the first keeps what was told and met, and the greater half of the parts
abbrev pub kept_half : View → View
kept_half v = view v.sizes v.told v.made (v.parts - v.parts / 2) v.holds v.found v.met

abbrev pub split_half : View → View
split_half v = share v.sizes nothing [] (v.parts / 2) []

-- two seats are joined
abbrev pub joined : View → View → View
joined v w = view v.sizes (plus v.told w.told) (v.made ++ w.made) (v.parts + w.parts) v.holds v.found (v.met ++ w.met)
