-- What a read gives, discards and drops, and what it leaves, is what stood there.
use Rattle.std.proofs.Common.{ℕ, ◌≡◌, ◌≤◌, ◌+◌, Bool, true, false, List, [], ◌∷◌, ◌++◌, length, refl, sym, ap, ◌∙◌, arith, length-append}
use Rattle.std.specs.Prelude.{count_by, ◌==◌, ◌||◌, nat_lt}
use Rattle.std.proofs.lemmas.Bool.Decides.{nat_tests}
use Rattle.std.proofs.lemmas.List.{length-take}
use Rattle.strm_types.specs.declared.modes.ReadMode.{ReadMode}
use Rattle.strm_types.specs.declared.modes.ReadMode.TheVariants.{ByteStream, MessageKeep, MessageDiscard}
use Rattle.strm_types.specs.declared.modes.ControlMode.{ControlMode}
use Rattle.strm_types.specs.declared.modes.ControlMode.TheVariants.{Refuse, Data}
use Rattle.strm_types.specs.Message.{Message, cells_of, weight_of}
use Rattle.strm_types.specs.Queue.{weight}
use Rattle.strm_types.specs.Reads.{Drawn, stopped, emptied_of, front_of, and_more, drawn, head_draw, shown, offered, control_gone, all_cells, rest_after, no_cells, is_refused, is_passed, wanted_after}
use Rattle.strm_types.proofs.Weights.{weight-put_back}
use Rattle.strm_types.proofs.Drawing.{of-each, no-cells-none, count-joined, weight-joined, weight-one, weight-all, weight-offered, weight-rest_after, weight-parted}

-- the cells that pass a test, in all that a read draws
abbrev drawn_weight : {C : Type 0} → (C → Bool) → Drawn C → ℕ
drawn_weight p d = count_by p d.given + (count_by p d.discarded + (count_by p d.dropped + weight p d.left))

module _ {C : Type 0} (p : C → Bool) where
  weight-front : (read : ReadMode) (n : ℕ) (dropped : List C) (m : Message C) (q : List (Message C)) → drawn_weight p (front_of read n dropped m q) ≡ count_by p dropped + count_by p (cells_of m) + weight p q
  weight-front ByteStream n dropped m q = omega (arith, weight-put_back p (rest_after n m) q, weight-rest_after p n m)
  weight-front MessageKeep n dropped m q = omega (arith, weight-put_back p (rest_after n m) q, weight-rest_after p n m)
  weight-front MessageDiscard n dropped m q = omega (arith, weight-parted p n (cells_of m))

  pub weight-drawn : (read : ReadMode) (control : ControlMode) (begun : Bool) (n : ℕ) (passed q : List (Message C)) → drawn_weight p (drawn read control begun n passed q) ≡ weight p passed + weight p q
  weight-drawn read control begun n passed [] = omega arith
  weight-drawn read control begun n passed (m ∷ q) =
      let gone = all_cells passed ++ control_gone control m in
      let cells = offered control m in
      let all : count_by p gone + count_by p cells ≡ weight p passed + weight_of p m = omega (arith, count-joined p (all_cells passed) (control_gone control m), weight-all p passed, weight-offered p control m) in
      let more = drawn read control true (wanted_after read n (length cells)) [] q in
      of-each (λ (d : Drawn C). drawn_weight p d ≡ weight p passed + weight p (m ∷ q))
      (n == 0 || is_refused control m) (is_passed control m) (no_cells cells) begun (nat_lt n (length cells))
      (stopped (passed ++ m ∷ q)) (drawn read control begun n (passed ++ m ∷ []) q) (emptied_of gone q) (front_of read n gone (shown control m) q) (and_more cells gone more)
      (omega (arith, weight-joined p passed (m ∷ q)))
      (λ is. weight-drawn read control begun n (passed ++ m ∷ []) q ∙ omega (arith, weight-joined p passed (m ∷ []), weight-one p m q, weight-one p m []))
      (λ is. omega (arith, all, weight-one p m q, ap (λ xs. count_by p xs) (no-cells-none cells is)))
      (λ is. weight-front read n gone (shown control m) q ∙ omega (arith, all, weight-one p m q))
      (λ is. omega (arith, weight-drawn read control true (wanted_after read n (length cells)) [] q, all, weight-one p m q, count-joined p cells more.given, count-joined p gone more.dropped))

  pub head_draw-keeps : (read : ReadMode) (control : ControlMode) (n : ℕ) (q : List (Message C)) → drawn_weight p (head_draw read control n q) ≡ weight p q
  head_draw-keeps read control n q = weight-drawn read control false n [] q ∙ (let e : 0 + weight p q ≡ weight p q = omega arith in e)

after-less : (read : ReadMode) (n size : ℕ) → size ≤ n → size + wanted_after read n size ≤ n
after-less ByteStream n size le = omega arith
after-less MessageKeep n size le = omega arith
after-less MessageDiscard n size le = omega arith

-- nothing is discarded but under RMSGD
abbrev Keeping : Type 0 → ReadMode → Type 0
Keeping C read = (n : ℕ) (dropped : List C) (m : Message C) (q : List (Message C)) → (front_of read n dropped m q).discarded ≡ []

-- nothing is dropped but under RPROTDIS, the one mode that passes messages over
abbrev NeverDrops : Type 0 → ControlMode → Type 0
NeverDrops C control = (m : Message C) → (control_gone control m ≡ []) × (is_passed control m ≡ false)

module _ {C : Type 0} where
  front-given : (read : ReadMode) (n : ℕ) (dropped : List C) (m : Message C) (q : List (Message C)) → length (front_of read n dropped m q).given ≤ n
  front-given ByteStream n dropped m q = omega (arith, length-take n (cells_of m))
  front-given MessageKeep n dropped m q = omega (arith, length-take n (cells_of m))
  front-given MessageDiscard n dropped m q = omega (arith, length-take n (cells_of m))

  -- a read gives no more than was asked for
  drawn-most : (read : ReadMode) (control : ControlMode) (begun : Bool) (n : ℕ) (passed q : List (Message C)) → length (drawn read control begun n passed q).given ≤ n
  drawn-most read control begun n passed [] = omega arith
  drawn-most read control begun n passed (m ∷ q) =
      let gone = all_cells passed ++ control_gone control m in
      let cells = offered control m in
      let more = drawn read control true (wanted_after read n (length cells)) [] q in
      of-each (λ (d : Drawn C). length d.given ≤ n)
      (n == 0 || is_refused control m) (is_passed control m) (no_cells cells) begun (nat_lt n (length cells))
      (stopped (passed ++ m ∷ q)) (drawn read control begun n (passed ++ m ∷ []) q) (emptied_of gone q) (front_of read n gone (shown control m) q) (and_more cells gone more)
      (omega arith)
      (λ is. drawn-most read control begun n (passed ++ m ∷ []) q)
      (λ is. omega arith)
      (λ is. front-given read n gone (shown control m) q)
      (λ is. let fits : length cells ≤ n = grind (arith, nat_tests) in
      omega (arith, length-append cells more.given, drawn-most read control true (wanted_after read n (length cells)) [] q, after-less read n (length cells) fits))

  pub head_draw-most : (read : ReadMode) (control : ControlMode) (n : ℕ) (q : List (Message C)) → length (head_draw read control n q).given ≤ n
  head_draw-most read control n q = drawn-most read control false n [] q

  drawn-keeping : (read : ReadMode) → Keeping C read → (control : ControlMode) (begun : Bool) (n : ℕ) (passed q : List (Message C)) → (drawn read control begun n passed q).discarded ≡ []
  drawn-keeping read keeping control begun n passed [] = refl
  drawn-keeping read keeping control begun n passed (m ∷ q) =
      let gone = all_cells passed ++ control_gone control m in
      let cells = offered control m in
      let more = drawn read control true (wanted_after read n (length cells)) [] q in
      of-each (λ (d : Drawn C). d.discarded ≡ [])
      (n == 0 || is_refused control m) (is_passed control m) (no_cells cells) begun (nat_lt n (length cells))
      (stopped (passed ++ m ∷ q)) (drawn read control begun n (passed ++ m ∷ []) q) (emptied_of gone q) (front_of read n gone (shown control m) q) (and_more cells gone more)
      refl
      (λ is. drawn-keeping read keeping control begun n (passed ++ m ∷ []) q)
      (λ is. refl)
      (λ is. keeping n gone (shown control m) q)
      (λ is. drawn-keeping read keeping control true (wanted_after read n (length cells)) [] q)

  pub stream-keeps : (control : ControlMode) (n : ℕ) (q : List (Message C)) → (head_draw ByteStream control n q).discarded ≡ []
  stream-keeps control n q = drawn-keeping ByteStream (λ k dropped m rest. refl) control false n [] q

  pub keep-keeps : (control : ControlMode) (n : ℕ) (q : List (Message C)) → (head_draw MessageKeep control n q).discarded ≡ []
  keep-keeps control n q = drawn-keeping MessageKeep (λ k dropped m rest. refl) control false n [] q

  front-dropped : (read : ReadMode) (n : ℕ) (dropped : List C) (m : Message C) (q : List (Message C)) → (front_of read n dropped m q).dropped ≡ dropped
  front-dropped ByteStream n dropped m q = refl
  front-dropped MessageKeep n dropped m q = refl
  front-dropped MessageDiscard n dropped m q = refl

  drawn-never : (control : ControlMode) → NeverDrops C control → (read : ReadMode) (begun : Bool) (n : ℕ) (q : List (Message C)) → (drawn read control begun n [] q).dropped ≡ []
  drawn-never control never read begun n [] = refl
  drawn-never control never read begun n (m ∷ q) =
      let gone = control_gone control m in
      let cells = offered control m in
      let more = drawn read control true (wanted_after read n (length cells)) [] q in
      of-each (λ (d : Drawn C). d.dropped ≡ [])
      (n == 0 || is_refused control m) (is_passed control m) (no_cells cells) begun (nat_lt n (length cells))
      (stopped (m ∷ q)) (drawn read control begun n (m ∷ []) q) (emptied_of gone q) (front_of read n gone (shown control m) q) (and_more cells gone more)
      refl
      (λ is. absurd (let e : true ≡ false = sym is ∙ (never m).1 in cc))
      (λ is. (never m).0)
      (λ is. front-dropped read n gone (shown control m) q ∙ (never m).0)
      (λ is. ap (λ xs. xs ++ more.dropped) (never m).0 ∙ drawn-never control never read true (wanted_after read n (length cells)) q)

  pub refuse-never : (read : ReadMode) (n : ℕ) (q : List (Message C)) → (head_draw read Refuse n q).dropped ≡ []
  refuse-never read n q = drawn-never Refuse (λ m. (refl, refl)) read false n q

  pub data-never : (read : ReadMode) (n : ℕ) (q : List (Message C)) → (head_draw read Data n q).dropped ≡ []
  data-never read n q = drawn-never Data (λ m. (refl, refl)) read false n q
