-- Output goes byte by byte, is bounded, and of plain bytes is the same however many were made before.
use Rattle.std.proofs.Common.{ℕ, ◌≡◌, ◌≤◌, ◌+◌, ◌-◌, ◌*◌, Bool, true, false, cond, List, [], ◌∷◌, ◌++◌, length, replicate, refl, sym, ap, ◌∙◌, arith, length-append}
use Rattle.std.specs.Prelude.{nat_le, ◌==◌, ◌&&◌}
use Rattle.std.proofs.lemmas.Bool.Decides.{nat_tests}
use Rattle.std.proofs.lemmas.List.{append_assoc, append-nil, length-replicate}
use Rattle.strm_types.specs.declared.names.Dir.{Dir}
use Rattle.strm_types.specs.declared.output.Given.{Given}
use Rattle.strm_types.specs.declared.output.Given.TheVariants.{Byte, Ended, Spaces, Nothing}
use Rattle.strm_types.specs.declared.output.Posted.{Posted}
use Rattle.strm_types.specs.declared.output.TheConstants.{COLUMN_MAX}
use Rattle.strm_types.specs.declared.rules.Rule.TheVariants.{Replaced}
use Rattle.strm_types.specs.declared.termios.Termios.{Termios}
use Rattle.strm_types.specs.Cells.{Cells, plain}
use Rattle.strm_types.specs.Deliver.{Fate, Goes, Comes}
use Rattle.strm_types.specs.Input.{made_of}
use Rattle.strm_types.specs.Keys.{newline}
use Rattle.strm_types.specs.Output.{Motion, Newline, Return, Tab, Backspace, Control, Printing, Output, given_for, made_for, motion_of, newline_column, post, posted_as, posts, raised, space, to_tab_stop, told_for, wrapped}
use Rattle.strm_types.specs.Termios.{ocrnl, onlcr, onlret, onocr, xtabs}
use Rattle.strm_types.proofs.MadeCells.{made-both, made-long, made-same}

-- a byte's output, in front of that of the bytes behind it
abbrev pub in_front : {E : Type 0} → List E → List (Fate E) → Output E → Output E
in_front given told more = record { given = given ++ more.given; column = more.column; told = told ++ more.told }

module _ {C : Type 0} (cells : Cells C) (dir : Dir) where
  -- as many cells are told as made as are made
  told-made : (given : Given) (made : ℕ) (c : C) → made_of (told_for cells dir given made c) ≡ made_for given
  told-made (Byte b) made c = refl
  told-made Ended made c = refl
  told-made (Spaces columns) made c = omega (arith, made-long cells dir made (replicate columns space), length-replicate columns space)
  told-made Nothing made c = refl

  pub posts-alone : (made : ℕ) (t : Termios) (column : ℕ) (c : C) → let p = post t column (cells.byte c) in
      posts cells dir made t column (c ∷ []) ≡ record { given = given_for cells dir p.given made c; column = p.column; told = told_for cells dir p.given made c }
  posts-alone made t column c =
      let p = post t column (cells.byte c) in
      ap (λ given. record { given = given; column = p.column; told = told_for cells dir p.given made c ++ [] }) (append-nil (given_for cells dir p.given made c))
      ∙ ap (λ told. record { given = given_for cells dir p.given made c; column = p.column; told = told }) (append-nil (told_for cells dir p.given made c))

  pub posts-join : (made : ℕ) (t : Termios) (column : ℕ) (xs ys : List C) →
      let first = posts cells dir made t column xs in
      posts cells dir made t column (xs ++ ys) ≡ in_front first.given first.told (posts cells dir (made + made_of first.told) t first.column ys)
  posts-join made t column [] ys = ap (λ n. posts cells dir n t column ys) (omega arith)
  posts-join made t column (c ∷ xs) ys =
      let p = post t column (cells.byte c) in
      let given = given_for cells dir p.given made c in
      let told = told_for cells dir p.given made c in
      let n = made + made_for p.given in
      let u = posts cells dir n t p.column xs in
      let count : n + made_of u.told ≡ made + made_of (told ++ u.told) = omega (arith, made-both told u.told, told-made p.given made c) in
      let more = posts cells dir (made + made_of (told ++ u.told)) t u.column ys in
      ap (λ v. in_front given told v) (posts-join n t p.column xs ys)
      ∙ ap (λ k. in_front given told (in_front u.given u.told (posts cells dir k t u.column ys))) count
      ∙ ap (λ g. record { given = g; column = more.column; told = told ++ (u.told ++ more.told) }) (sym (append_assoc given u.given more.given))
      ∙ ap (λ f. record { given = (given ++ u.given) ++ more.given; column = more.column; told = f }) (sym (append_assoc told u.told more.told))

-- bounds

wrapped-low : (n : ℕ) → n ≤ COLUMN_MAX + 8 → wrapped n ≤ COLUMN_MAX
wrapped-low n low = at (nat_le n COLUMN_MAX) refl
  where
    at : (is : Bool) → nat_le n COLUMN_MAX ≡ is → cond is n (n - 65528) ≤ COLUMN_MAX
    at true is = grind (arith, nat_tests)
    at false is = omega arith

-- What holds of a column and a number of cells that are made, by each line of the table.
posted-holds : (P : Posted → Type 0) (t : Termios) (column : ℕ)
    → ((b : ℕ) → P (record { given = Byte b; column = 0 })) → ((b : ℕ) → P (record { given = Byte b; column = column })) → P (record { given = Ended; column = 0 })
    → P (record { given = Nothing; column = 0 }) → ((b : ℕ) → P (record { given = Byte b; column = column - 1 })) → ((b : ℕ) → P (record { given = Byte b; column = wrapped (column + 1) }))
    → ((b : ℕ) → P (record { given = Byte b; column = wrapped (column + to_tab_stop column) })) → P (record { given = Spaces (to_tab_stop column); column = wrapped (column + to_tab_stop column) })
    → (m : Motion) (b : ℕ) → P (posted_as m t column b)
posted-holds P t column first stays ended nothing back on tab spaces m b = by m
  where
    newline-at : (returns : Bool) (c : ℕ) → P (record { given = Byte c; column = cond returns 0 column })
    newline-at true c = first c
    newline-at false c = stays c

    by : (m : Motion) → P (posted_as m t column b)
    by Newline = at (onlcr t)
      where
        at : (both : Bool) → P (cond both (record { given = Ended; column = 0 }) (record { given = Byte b; column = newline_column t column }))
        at true = ended
        at false = newline-at (onlret t) b
    by Return = at (ocrnl t) (onocr t && column == 0)
      where
        at : (mapped none : Bool) → P (cond mapped (record { given = Byte newline; column = newline_column t column }) (cond none (record { given = Nothing; column = 0 }) (record { given = Byte b; column = 0 })))
        at true none = newline-at (onlret t) newline
        at false true = nothing
        at false false = first b
    by Tab = at (xtabs t)
      where
        at : (expands : Bool) → P (record { given = cond expands (Spaces (to_tab_stop column)) (Byte b); column = wrapped (column + to_tab_stop column) })
        at true = spaces
        at false = tab b
    by Backspace = back b
    by Control = stays b
    by Printing = on b

post-low : (t : Termios) (column b : ℕ) → column ≤ COLUMN_MAX → (post t column b).column ≤ COLUMN_MAX
post-low t column b low = posted-holds (λ p. p.column ≤ COLUMN_MAX) t column
    (λ b. omega arith) (λ b. low) (omega arith) (omega arith) (λ b. omega arith) (λ b. wrapped-low (column + 1) (omega arith))
    (λ b. wrapped-low (column + to_tab_stop column) (omega arith)) (wrapped-low (column + to_tab_stop column) (omega arith)) (motion_of (raised t b)) (raised t b)

post-few : (t : Termios) (column b : ℕ) → made_for (post t column b).given ≤ 8
post-few t column b = posted-holds (λ p. made_for p.given ≤ 8) t column
    (λ b. omega arith) (λ b. omega arith) (omega arith) (omega arith) (λ b. omega arith) (λ b. omega arith) (λ b. omega arith) (omega arith) (motion_of (raised t b)) (raised t b)

module _ {C : Type 0} (cells : Cells C) (dir : Dir) where
  pub posts-low : (made : ℕ) (t : Termios) (column : ℕ) (xs : List C) → column ≤ COLUMN_MAX → (posts cells dir made t column xs).column ≤ COLUMN_MAX
  posts-low made t column [] low = low
  posts-low made t column (c ∷ xs) low = let p = post t column (cells.byte c) in posts-low (made + made_for p.given) t p.column xs (post-low t column (cells.byte c) low)

  given-few : (made : ℕ) (t : Termios) (column b : ℕ) (c : C) → length (given_for cells dir (post t column b).given made c) ≤ 8
  given-few made t column b c = posted-holds (λ p. length (given_for cells dir p.given made c) ≤ 8) t column
      (λ b. omega arith) (λ b. omega arith) (omega arith) (omega arith) (λ b. omega arith) (λ b. omega arith) (λ b. omega arith)
      (omega (arith, made-long cells dir made (replicate (to_tab_stop column) space), length-replicate (to_tab_stop column) space)) (motion_of (raised t b)) (raised t b)

  pub posts-few : (made : ℕ) (t : Termios) (column : ℕ) (xs : List C) → length (posts cells dir made t column xs).given ≤ 8 * length xs
  posts-few made t column [] = omega arith
  posts-few made t column (c ∷ xs) =
      let p = post t column (cells.byte c) in
      let more = posts-few (made + made_for p.given) t p.column xs in
      let given = given_for cells dir p.given made c in
      omega (arith, given-few made t column (cells.byte c) c, length-append given (posts cells dir (made + made_for p.given) t p.column xs).given)

  pub posts-make-few : (made : ℕ) (t : Termios) (column : ℕ) (xs : List C) → made_of (posts cells dir made t column xs).told ≤ 8 * length xs
  posts-make-few made t column [] = omega arith
  posts-make-few made t column (c ∷ xs) =
      let p = post t column (cells.byte c) in
      let more = posts-make-few (made + made_for p.given) t p.column xs in
      let told = told_for cells dir p.given made c in
      omega (arith, post-few t column (cells.byte c), told-made cells dir p.given made c, made-both told (posts cells dir (made + made_for p.given) t p.column xs).told)

-- plain bytes give the same, however many were made before
module _ (dir : Dir) where
  given-same : (given : Given) (a b : ℕ) (c : ℕ) → given_for plain dir given a c ≡ given_for plain dir given b c
  given-same (Byte x) a b c = refl
  given-same Ended a b c = refl
  given-same (Spaces columns) a b c = made-same dir a b (replicate columns space)
  given-same Nothing a b c = refl

  told-same : (given : Given) (a b : ℕ) (c : ℕ) → told_for plain dir given a c ≡ told_for plain dir given b c
  told-same (Byte x) a b c = refl
  told-same Ended a b c = refl
  told-same (Spaces columns) a b c = ap (λ xs. Comes dir xs ∷ Goes dir Replaced (c ∷ []) ∷ []) (made-same dir a b (replicate columns space))
  told-same Nothing a b c = refl

  pub posts-same : (a b : ℕ) (t : Termios) (column : ℕ) (xs : List ℕ) → posts plain dir a t column xs ≡ posts plain dir b t column xs
  posts-same a b t column [] = refl
  posts-same a b t column (c ∷ xs) =
      let p = post t column c in
      ap (λ u. in_front (given_for plain dir p.given a c) (told_for plain dir p.given a c) u) (posts-same (a + made_for p.given) (b + made_for p.given) t p.column xs)
      ∙ ap (λ g. in_front g (told_for plain dir p.given a c) (posts plain dir (b + made_for p.given) t p.column xs)) (given-same p.given a b c)
      ∙ ap (λ g. in_front (given_for plain dir p.given b c) g (posts plain dir (b + made_for p.given) t p.column xs)) (told-same p.given a b c)
