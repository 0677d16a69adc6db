-- Bytes that go out one after the other into a buffer: runs of printed ones, and others.
use Rattle.strm_ldterm.proofs.Prelude.{ℕ, ◌≡◌, ◌≤◌, ◌+◌, true, List, [], ◌∷◌, ◌++◌, length, take, drop, refl, sym, ap, ◌∙◌, arith, append-nil}
use Rattle.strm_ldterm.proofs.Prelude.{append_assoc, length-append, length-drop, in_front, posts-join, posts-same}
use Rattle.strm_ldterm.specs.Prelude.{Dir, Posted, COLUMN_MAX, Fates, Spot, Termios, plain, tallied, made_of, Output, post, posts, told_for, wrapped}
use Rattle.strm_ldterm.specs.Prelude.{output_dir}
use Rattle.std.proofs.Math.Seq.{take-add, take-length}
use Rattle.std.specs.List.{AllByRecursion}
use Rattle.strm_ldterm.specs.declared.output_runs.Flow.{Flow}
use Rattle.strm_ldterm.specs.Posting.{FlowsAs, bytes_given, is_printed}
use Rattle.strm_ldterm.proofs.Pouring.{byte-out, run-out}
use Rattle.strm_ldterm.proofs.Strikes.{told-append}

-- the first bytes, and those behind them
out-both : (dir : Dir) (t : Termios) (column a b : ℕ) (xs : List ℕ) → let u = posts plain dir 0 t column (take a xs) in
    posts plain dir 0 t column (take (a + b) xs) ≡ in_front u.given u.told (posts plain dir 0 t u.column (take b (drop a xs)))
out-both dir t column a b xs =
    let u = posts plain dir 0 t column (take a xs) in
    ap (posts plain dir 0 t column) (take-add a b xs)
    ∙ posts-join plain dir 0 t column (take a xs) (take b (drop a xs))
    ∙ ap (in_front u.given u.told) (posts-same dir (0 + made_of u.told) 0 t u.column (take b (drop a xs)))

-- they give no more than all of them
pub out-fewer : (dir : Dir) (t : Termios) (column a b : ℕ) (xs : List ℕ) → length (posts plain dir 0 t column (take a xs)).given ≤ length (posts plain dir 0 t column (take (a + b) xs)).given
out-fewer dir t column a b xs =
    let u = posts plain dir 0 t column (take a xs) in
    let v = posts plain dir 0 t u.column (take b (drop a xs)) in
    omega (arith, ap (λ (w : Output ℕ). length w.given) (out-both dir t column a b xs), length-append u.given v.given)

pub flows-none : (here : Spot) (t : Termios) (bytes : List ℕ) (x : Flow) (f : Fates) → FlowsAs here t bytes 0 x x f f
flows-none here t bytes x f = record { within = omega arith; given = sym (append-nil x.given.items); column = refl; told = refl }

-- and others behind them
pub flows-joined : (here : Spot) (t : Termios) (bytes : List ℕ) (n k : ℕ) (x y z : Flow) (f f1 f2 : Fates) → FlowsAs here t bytes n x y f f1 → FlowsAs here t (drop n bytes) k y z f1 f2 → FlowsAs here t bytes (n + k) x z f f2
flows-joined here t bytes n k x y z f f1 f2 first second =
    let dir = output_dir plain here in
    let v = posts plain dir 0 t x.column (take n bytes) in
    let u = posts plain dir 0 t y.column (take k (drop n bytes)) in
    let whole : posts plain dir 0 t x.column (take (n + k) bytes) ≡ in_front v.given v.told u =
    out-both dir t x.column n k bytes ∙ ap (λ c. in_front v.given v.told (posts plain dir 0 t c (take k (drop n bytes)))) (sym first.column) in
    record {
      within = (let w = first.within in let o = second.within in omega (arith, length-drop n bytes));
      given = second.given ∙ ap (λ l. l ++ u.given) first.given ∙ append_assoc x.given.items v.given u.given ∙ sym (ap (λ (w : Output ℕ). x.given.items ++ w.given) whole);
      column = second.column ∙ sym (ap (λ (w : Output ℕ). w.column) whole);
      told = second.told ∙ ap (tallied u.told) first.told ∙ sym (told-append v.told u.told f) ∙ sym (ap (λ (w : Output ℕ). tallied w.told f) whole);
    }

-- printed ones, all of them
pub flows-run : (here : Spot) (t : Termios) (bytes : List ℕ) (x y : Flow) (f : Fates) → length bytes ≤ 256 → AllByRecursion (λ b. is_printed t b ≡ true) bytes → x.column ≤ COLUMN_MAX
    → y.given.items ≡ x.given.items ++ bytes → y.column ≡ wrapped (x.column + length bytes) → FlowsAs here t bytes (length bytes) x y f f
flows-run here t bytes x y f few all low given column =
    let dir = output_dir plain here in
    let out = ap (posts plain dir 0 t x.column) (take-length bytes) ∙ run-out dir t x.column bytes low few all in
    record {
      within = omega arith;
      given = given ∙ sym (ap (λ (w : Output ℕ). x.given.items ++ w.given) out);
      column = column ∙ sym (ap (λ (w : Output ℕ). w.column) out);
      told = sym (ap (λ (w : Output ℕ). tallied w.told f) out);
    }

-- the first of more
pub flows-front : (here : Spot) (t : Termios) (bytes front : List ℕ) (n : ℕ) (x y : Flow) (f f1 : Fates) → front ≡ take n bytes → n ≤ length bytes → FlowsAs here t front (length front) x y f f1 → FlowsAs here t bytes n x y f f1
flows-front here t bytes front n x y f f1 is within so =
    let same : take (length front) front ≡ take n bytes = take-length front ∙ is in
    let out = λ (l : List ℕ). posts plain (output_dir plain here) 0 t x.column l in
    record {
      within = within;
      given = so.given ∙ ap (λ l. x.given.items ++ (out l).given) same;
      column = so.column ∙ ap (λ l. (out l).column) same;
      told = so.told ∙ ap (λ l. tallied (out l).told f) same;
    }

-- a byte
pub flows-byte : (here : Spot) (t : Termios) (b : ℕ) (x y : Flow) (f f1 : Fates) (p : Posted) → p ≡ post t x.column b → y.given.items ≡ x.given.items ++ bytes_given p.given → y.column ≡ p.column
    → f1 ≡ tallied (told_for plain (output_dir plain here) p.given 0 b) f → FlowsAs here t (b ∷ []) 1 x y f f1
flows-byte here t b x y f f1 p is given column told =
    let dir = output_dir plain here in
    let of : Posted → Output ℕ = λ q. record { given = bytes_given q.given; column = q.column; told = told_for plain dir q.given 0 b } in
    let out = byte-out dir t x.column b ∙ ap of (sym is) in
    record {
      within = omega arith;
      given = given ∙ sym (ap (λ (w : Output ℕ). x.given.items ++ w.given) out);
      column = column ∙ sym (ap (λ (w : Output ℕ). w.column) out);
      told = told ∙ sym (ap (λ (w : Output ℕ). tallied w.told f) out);
    }

-- where none went out nothing was given
pub flows-some : (here : Spot) (t : Termios) (bytes : List ℕ) (n : ℕ) (x y : Flow) (f f1 : Fates) → FlowsAs here t bytes n x y f f1 → n ≡ 0 → length y.given.items ≡ length x.given.items
flows-some here t bytes n x y f f1 so none =
    let out : n ≡ 0 → (posts plain (output_dir plain here) 0 t x.column (take n bytes)).given ≡ [] = λ e. ap (λ k. (posts plain (output_dir plain here) 0 t x.column (take k bytes)).given) e in
    ap length so.given ∙ ap (λ l. length (x.given.items ++ l)) (out none) ∙ ap length (append-nil x.given.items)

-- what is given is few
pub flows-few : (here : Spot) (t : Termios) (bytes : List ℕ) (n : ℕ) (x y : Flow) (f f1 : Fates) → FlowsAs here t bytes n x y f f1 → x.given.items ≡ [] → length y.given.items ≤ 256
    → length (posts plain (output_dir plain here) 0 t x.column (take n bytes)).given ≤ 256
flows-few here t bytes n x y f f1 so none few =
    let u = posts plain (output_dir plain here) 0 t x.column (take n bytes) in
    omega (arith, few, ap length (so.given ∙ ap (λ l. l ++ u.given) none))
