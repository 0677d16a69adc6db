-- Output on plain bytes: what a byte gives, what a run of printed bytes gives, and bytes that go out one after the other.
use Rattle.strm_ldterm.proofs.Prelude.{ℕ, suc, ◌≡◌, ◌≤◌, ◌<◌, ◌+◌, ◌-◌, Bool, true, false, cond, List, [], ◌∷◌, ◌++◌, length, take, drop, replicate}
use Rattle.strm_ldterm.proofs.Prelude.{refl, sym, ap, subst, ◌∙◌, arith, append_assoc, Option, None, Some, is_some, not, nat_le, nat_lt, ◌==◌, ◌&&◌}
use Rattle.strm_ldterm.proofs.Prelude.{and_parts, false≢true, nat_tests, drop-drop, in_front, posts-join, posts-same}
use Rattle.strm_ldterm.specs.Prelude.{Dir, Given, Byte, Ended, Spaces, Nothing, Posted, COLUMN_MAX, Spot, Termios, plain, is_control, tab, Acted}
use Rattle.strm_ldterm.specs.Prelude.{cells_left, left_of, made_of, carriage_return, newline, Message, cells_of, Output, post, posts, raised, space}
use Rattle.strm_ldterm.specs.Prelude.{told_for, wrapped, output_dir}
use Rattle.std.specs.List.{AllByRecursion}
use Rattle.std.proofs.Math.Seq.{take-add}
use Rattle.strm_types.specs.Ldterms as ldterms
use Rattle.strm_types.specs.Output.{Motion, Newline, Return, Tab, Backspace, Control, Printing, backspace, given_for, made_for, motion_of, posted_as}
use Rattle.strm_types.proofs.Outputs.{posts-alone, posts-low}
use Rattle.strm_types.specs.Termios.{olcuc}
use Rattle.strm_ldterm.specs.Posting.{bytes_given, is_printed, poured}
use Rattle.strm_ldterm.specs.Turns.{one_after}
use Rattle.strm_ldterm.proofs.EchoStands.{made-plain}

-- what a byte gives

given-plain : (dir : Dir) (given : Given) (c : ℕ) → given_for plain dir given 0 c ≡ bytes_given given
given-plain dir (Byte b) c = refl
given-plain dir Ended c = refl
given-plain dir (Spaces columns) c = made-plain dir 0 (replicate columns space)
given-plain dir Nothing c = refl

pub byte-out : (dir : Dir) (t : Termios) (column c : ℕ) → let p = post t column c in
    posts plain dir 0 t column (c ∷ []) ≡ record { given = bytes_given p.given; column = p.column; told = told_for plain dir p.given 0 c }
byte-out dir t column c =
    let p = post t column c in
    posts-alone plain dir 0 t column c ∙ ap (λ given. record { given = given; column = p.column; told = told_for plain dir p.given 0 c }) (given-plain dir p.given c)

-- printed bytes

printing : (b : ℕ) → is_control b ≡ false → motion_of b ≡ Printing
printing b out =
    let low : nat_lt b 32 ≡ false = grind (arith, nat_tests) in
    let n : (b == newline) ≡ false = grind (arith, nat_tests) in
    let r : (b == carriage_return) ≡ false = grind (arith, nat_tests) in
    let t : (b == tab) ≡ false = grind (arith, nat_tests) in
    let k : (b == backspace) ≡ false = grind (arith, nat_tests) in
    at (b == newline) (b == carriage_return) (b == tab) (b == backspace) (is_control b) n r t k out
  where
    at : (n r t k c : Bool) → n ≡ false → r ≡ false → t ≡ false → k ≡ false → c ≡ false
        → cond {A = Motion} n Newline (cond r Return (cond t Tab (cond k Backspace (cond c Control Printing)))) ≡ Printing
    at false false false false false n r t k c = refl
    at true _ _ _ _ n r t k c = absurd (false≢true (sym n))
    at false true _ _ _ n r t k c = absurd (false≢true (sym r))
    at false false true _ _ n r t k c = absurd (false≢true (sym t))
    at false false false true _ n r t k c = absurd (false≢true (sym k))
    at false false false false true n r t k c = absurd (false≢true (sym c))

pub not-false : (b : Bool) → not b ≡ true → b ≡ false
not-false true is = absurd (false≢true is)
not-false false is = refl

same-byte : (a b : ℕ) → (a == b) ≡ true → a ≡ b
same-byte a b is = grind (arith, nat_tests)

printed : (t : Termios) (column b : ℕ) → is_printed t b ≡ true → post t column b ≡ record { given = Byte b; column = wrapped (column + 1) }
printed t column b is =
    let parts = and_parts (not (is_control b)) (raised t b == b) is in
    ap (λ out. posted_as (motion_of out) t column out) (same-byte (raised t b) b parts.1)
    ∙ ap (λ m. posted_as m t column b) (printing b (not-false (is_control b) parts.0))

wrapped-low : (n : ℕ) → n ≤ COLUMN_MAX → wrapped n ≡ n
wrapped-low n low = let e : nat_le n COLUMN_MAX ≡ true = grind (arith, nat_tests) in ap (λ b. cond b n (n - 65528)) e

wrapped-high : (n : ℕ) → COLUMN_MAX < n → wrapped n ≡ n - 65528
wrapped-high n high = let e : nat_le n COLUMN_MAX ≡ false = grind (arith, nat_tests) in ap (λ b. cond b n (n - 65528)) e

-- a column, and so many more
wrapped-on : (column more : ℕ) → column ≤ COLUMN_MAX → more ≤ 256 → wrapped (wrapped (column + 1) + more) ≡ wrapped (column + suc more)
wrapped-on column more low few = at (nat_le (column + 1) COLUMN_MAX) refl
  where
    at : (is : Bool) → nat_le (column + 1) COLUMN_MAX ≡ is → wrapped (cond is (column + 1) (column + 1 - 65528) + more) ≡ wrapped (column + suc more)
    at true is = let same : column + 1 + more ≡ column + suc more = omega arith in ap wrapped same
    at false is =
        let last : column ≡ 65535 = grind (arith, nat_tests) in
        let first : column + 1 - 65528 + more ≤ COLUMN_MAX = omega arith in
        let second : COLUMN_MAX < column + suc more = omega arith in
        let same : column + 1 - 65528 + more ≡ column + suc more - 65528 = omega arith in
        wrapped-low (column + 1 - 65528 + more) first ∙ same ∙ sym (wrapped-high (column + suc more) second)

pub run-out : (dir : Dir) (t : Termios) (column : ℕ) (run : List ℕ) → column ≤ COLUMN_MAX → length run ≤ 256 → AllByRecursion (λ b. is_printed t b ≡ true) run
    → posts plain dir 0 t column run ≡ record { given = run; column = wrapped (column + length run); told = [] }
run-out dir t column [] low few all = ap (λ n. record { given = []; column = n; told = [] }) (let none : column + 0 ≡ column = omega arith in sym (wrapped-low (column + 0) (omega arith) ∙ none))
run-out dir t column (b ∷ run) low few all =
    let one = printed t column b all.0 in
    let next : wrapped (column + 1) ≤ COLUMN_MAX = subst (λ (p : Posted). p.column ≤ COLUMN_MAX) one (posts-low plain dir 0 t column (b ∷ []) low) in
    ap (λ (p : Posted). in_front (given_for plain dir p.given 0 b) (told_for plain dir p.given 0 b) (posts plain dir (0 + made_for p.given) t p.column run)) one
    ∙ ap (λ u. in_front (b ∷ []) [] u) (run-out dir t (wrapped (column + 1)) run next (omega arith) all.1)
    ∙ ap (λ n. record { given = b ∷ run; column = n; told = [] }) (wrapped-on column (length run) low (omega arith))

-- where no letter is raised, each byte is that is no control byte
pub all-printed : (t : Termios) (run : List ℕ) → olcuc t ≡ false → AllByRecursion (λ b. is_control b ≡ false) run → AllByRecursion (λ b. is_printed t b ≡ true) run
all-printed t [] off all = tt
all-printed t (b ∷ run) off all = (one, all-printed t run off all.1)
  where
    one : is_printed t b ≡ true
    one =
        ap (λ c. not c && (raised t b == b)) all.0
        ∙ ap (λ o. cond (o && (nat_le 97 b && nat_le b 122)) (b - 32) b == b) off
        ∙ (let same : (b == b) ≡ true = grind (arith, nat_tests) in same)

-- bytes go out one after the other

pub left-cells : (rest : List ℕ) (m : Message ℕ) → cells_of (left_of rest m) ≡ rest
unfolding cells_of
left-cells rest m = refl

module _ (here : Spot) where
  abbrev Acts : Type 0
  Acts = Acted ℕ (ldterms.Discipline ℕ)

  abbrev dir : Dir
  dir = output_dir plain here

  -- what goes out, and what is left
  abbrev out : Message ℕ → ldterms.Discipline ℕ → List ℕ → Output ℕ → Acts
  out m p left u = record { state = record p { in_work = Some (left_of left m); gathered = p.gathered ++ u.given; column = u.column }; notes = []; sent = []; gone = u.told }

  pours-at : (m : Message ℕ) (a b : ℕ) (p : ldterms.Discipline ℕ) → let q : ldterms.Discipline ℕ = record p { in_work = Some m } in one_after (poured here a q) (poured here b) ≡ poured here (a + b) q
  pours-at m a b p =
      let xs = cells_of m in
      let t = p.termios in
      let left = drop a xs in
      let u = posts plain dir 0 t p.column (take a xs) in
      let v : List ℕ → Output ℕ = λ cells. posts plain dir 0 t u.column (take b cells) in
      let both : List ℕ → Output ℕ → Acts = λ rest w. record {
        state = record p { in_work = Some (left_of rest m); gathered = (p.gathered ++ u.given) ++ w.given; column = w.column };
        notes = [];
        sent = [];
        gone = u.told ++ w.told;
      } in
      ap (λ cells. both (drop b cells) (v cells)) (left-cells left m)
      ∙ ap (λ g. record (both (drop b left) (v left)) { state = record p { in_work = Some (left_of (drop b left) m); gathered = g; column = (v left).column } }) (append_assoc p.gathered u.given (v left).given)
      ∙ ap (λ w. out m p (drop b left) (in_front u.given u.told w)) (posts-same dir 0 (0 + made_of u.told) t u.column (take b left))
      ∙ ap (λ w. out m p (drop b left) w) (sym (posts-join plain dir 0 t p.column (take a xs) (take b left)))
      ∙ ap (λ cells. out m p (drop b left) (posts plain dir 0 t p.column cells)) (sym (take-add a b xs))
      ∙ ap (λ rest. out m p rest (posts plain dir 0 t p.column (take (a + b) xs))) (drop-drop b a xs)

  -- where a message is in work
  pub pours-both : (a b : ℕ) (p : ldterms.Discipline ℕ) → is_some p.in_work ≡ true → one_after (poured here a p) (poured here b) ≡ poured here (a + b) p
  pours-both a b p some = at p.in_work some
    where
      at : (work : Option (Message ℕ)) → is_some work ≡ true → let q : ldterms.Discipline ℕ = record p { in_work = work } in one_after (poured here a q) (poured here b) ≡ poured here (a + b) q
      at None some = absurd (false≢true some)
      at (Some m) some = pours-at m a b p

  -- a message stays in work
  pub pours-work : (n : ℕ) (p : ldterms.Discipline ℕ) → is_some p.in_work ≡ true → is_some (poured here n p).state.in_work ≡ true
  pours-work n p some = at p.in_work some
    where
      at : (work : Option (Message ℕ)) → is_some work ≡ true → let q : ldterms.Discipline ℕ = record p { in_work = work } in is_some (poured here n q).state.in_work ≡ true
      at None some = absurd (false≢true some)
      at (Some m) some = refl

  -- of which so much is left
  pub pours-left : (n : ℕ) (p : ldterms.Discipline ℕ) → is_some p.in_work ≡ true → cells_left (poured here n p).state ≡ drop n (cells_left p)
  pours-left n p some = at p.in_work some
    where
      at : (work : Option (Message ℕ)) → is_some work ≡ true → let q : ldterms.Discipline ℕ = record p { in_work = work } in cells_left (poured here n q).state ≡ drop n (cells_left q)
      at None some = absurd (false≢true some)
      at (Some m) some = left-cells (drop n (cells_of m)) m
