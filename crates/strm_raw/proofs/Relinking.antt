-- What stays of all messages where one message block gets another link.
use Rattle.std.proofs.Common.{ℕ, ◌≡◌, ◌≢◌, ◌<◌, cond, eqb, List, [], ◌∷◌, length, map, refl, sym, ap, ◌∙◌, arith, inl, inr}
use Rattle.std.proofs.Math.ListN.{set}
use Rattle.std.specs.Prelude.{sum_by, Option}
use Rattle.std.proofs.lemmas.Bool.{cases_eq}
use Rattle.std.proofs.lemmas.List.{get_or-set_same, get_or-set_other}
use Rattle.std.proofs.lemmas.List.Sums.{sum_by-cons}
use Rattle.strm_blocks.specs.Blocks.{Block}
use Rattle.strm_raw.specs.Numbered.{Nodes, Row, DataRow, row_at, data_at, no_row}
use Rattle.strm_raw.specs.Roster.{Msg}
use Rattle.strm_raw.specs.Raw.{ids, times, chain_of, held_of, block_no, shown, naming, breaks, broken, next_of}
use Rattle.strm_raw.proofs.Apart.{breaks-apart, apart-head, apart-tail}
use Rattle.strm_raw.proofs.Stocking.{shown-kept}

-- what a row has still stands in each place where another row that has it too stands in one of them
pub row-keeps : {B : Type 0} (g : Row → B) (rows : List Row) (i : ℕ) (r : Row) → i < length rows → g r ≡ g (row_at i rows) → (k : ℕ) → g (row_at k (set rows i r)) ≡ g (row_at k rows)
row-keeps g rows i r within same k = elim (cases_eq k i) [
  | inl e ↦ ap (λ j. g (row_at j (set rows i r))) e ∙ ap g (get_or-set_same rows i r no_row within) ∙ same ∙ ap (λ j. g (row_at j rows)) (sym e)
  | inr other ↦ ap g (get_or-set_other rows i k r no_row other)
]

pub sum-ext : (f g : ℕ → ℕ) → ((j : ℕ) → f j ≡ g j) → (xs : List ℕ) → sum_by f xs ≡ sum_by g xs
sum-ext f g same [] = refl
sum-ext f g same (j ∷ xs) = let s = same j in let ih = sum-ext f g same xs in omega (arith, sum_by-cons f j xs, sum_by-cons g j xs)

pub map-ext : {B : Type 0} (f g : ℕ → B) → ((j : ℕ) → f j ≡ g j) → (xs : List ℕ) → map f xs ≡ map g xs
map-ext f g same [] = refl
map-ext f g same (j ∷ xs) = λ k. same j k ∷ map-ext f g same xs k

module _ (v : Nodes) (i : ℕ) (within : i < length v.rows) (to : Option ℕ) where
  abbrev pub row : Row
  row = record (row_at i v.rows) { next = to }

  abbrev pub rows : List Row
  rows = set v.rows i row

  pub next-new : next_of rows i ≡ to
  next-new = ap (λ (x : Row). x.next) (get_or-set_same v.rows i row no_row within)

  pub next-old : (j : ℕ) → j ≢ i → next_of rows j ≡ next_of v.rows j
  next-old j other = ap (λ (x : Row). x.next) (get_or-set_other v.rows i j row no_row other)

  -- a message that doesn't have it, and the links of free blocks
  pub broken-old : (m : Msg) → times i (ids m) ≡ 0 → broken rows m ≡ broken v.rows m
  broken-old m z =
      ap (λ o. breaks (next_of rows) o m.tail) (next-old m.head (apart-head i m.head m.tail z))
      ∙ breaks-apart i (next_of v.rows) (next_of rows) next-old (next_of v.rows m.head) m.tail (apart-tail i m.head m.tail z)

  pub free-old : (from : Option ℕ) (xs : List ℕ) → times i xs ≡ 0 → breaks (next_of rows) from xs ≡ breaks (next_of v.rows) from xs
  free-old from xs out = breaks-apart i (next_of v.rows) (next_of rows) next-old from xs out

  -- which data block each names, and what each shows
  pub naming-same : (d : ℕ) (m : Msg) → naming rows d m ≡ naming v.rows d m
  naming-same d m = sum-ext _ _ (row-keeps (λ (y : Row). cond {A = ℕ} (eqb y.number d) 1 0) v.rows i row within refl) (ids m)

  module _ (datas : List DataRow) (bytes : (e : ℕ) → (data_at e datas).bytes ≡ (data_at e v.datas).bytes) where
    pub chain-same : (m : Msg) → chain_of (record v { rows = rows; datas = datas }) m ≡ chain_of v m
    chain-same m = map-ext (block_no (record v { rows = rows; datas = datas })) (block_no v) (λ j. shown-kept v.datas datas bytes (row_at j rows) ∙ row-keeps (shown v.datas) v.rows i row within refl j) (ids m)

    pub held-same : (m : Msg) → held_of (record v { rows = rows; datas = datas }) m ≡ held_of v m
    held-same m = ap (λ (c : List Block). record { name = m.head; chain = c }) (chain-same m)
