-- What the steps of a read come to together.
use Rattle.strm_head.proofs.Prelude.{ℕ, ◌≡◌, ◌<◌, ◌+◌, Bool, true, List, ◌++◌, length, sym, ap, ◌∙◌, arith, append-nil, append_assoc, length-append}
use Rattle.strm_head.specs.Prelude.{ReadMode, ControlMode, Message, Drawn, stopped}
use Rattle.strm_head.specs.Drawing.{drawn_on, Stepped}
use Rattle.strm_head.proofs.Draws.{drawn-none}

module _ (read : ReadMode) (control : ControlMode) (begun : Bool) (wanted more discarded : ℕ) (old new : List (Message ℕ)) (out out' : List ℕ) (st : Stepped read control begun wanted more discarded old new out out') where
  pub next-given : (total : List ℕ) → out ++ (drawn_on read control begun wanted old).given ≡ total → out' ++ (drawn_on read control true more new).given ≡ total
  next-given total is =
      ap (λ xs. xs ++ (drawn_on read control true more new).given) st.given ∙ append_assoc out st.piece (drawn_on read control true more new).given
      ∙ ap (λ (d : Drawn ℕ). out ++ d.given) (sym st.rest) ∙ is

  pub next-discarded : (so_far total : ℕ) → so_far ≡ 0 → so_far + length (drawn_on read control begun wanted old).discarded ≡ total → discarded + length (drawn_on read control true more new).discarded ≡ total
  next-discarded so_far total none is =
      omega (arith, none, is, ap (λ (d : Drawn ℕ). length d.discarded) st.rest, length-append st.gone (drawn_on read control true more new).discarded, st.count)

  pub next-left : (total : List (Message ℕ)) → (drawn_on read control begun wanted old).left ≡ total → (drawn_on read control true more new).left ≡ total
  next-left total is = ap (λ (d : Drawn ℕ). d.left) (sym st.rest) ∙ is

  pub next-none : 0 < more → discarded ≡ 0
  next-none some = st.count ∙ ap length (st.kept some)

-- where nothing more is wanted, that is all
module _ (read : ReadMode) (control : ControlMode) (begun : Bool) (wanted : ℕ) (q : List (Message ℕ)) (none : wanted ≡ 0) where
  all-drawn : drawn_on read control begun wanted q ≡ stopped q
  all-drawn = ap (λ n. drawn_on read control begun n q) none ∙ drawn-none read control begun q

  pub all-given : (out total : List ℕ) → out ++ (drawn_on read control begun wanted q).given ≡ total → out ≡ total
  all-given out total is = sym (append-nil out) ∙ ap (λ (d : Drawn ℕ). out ++ d.given) (sym all-drawn) ∙ is

  pub all-discarded : (so_far total : ℕ) → so_far + length (drawn_on read control begun wanted q).discarded ≡ total → so_far ≡ total
  all-discarded so_far total is = omega (arith, is, ap (λ (d : Drawn ℕ). length d.discarded) all-drawn)

  pub all-left : (total : List (Message ℕ)) → (drawn_on read control begun wanted q).left ≡ total → q ≡ total
  all-left total is = ap (λ (d : Drawn ℕ). d.left) (sym all-drawn) ∙ is
