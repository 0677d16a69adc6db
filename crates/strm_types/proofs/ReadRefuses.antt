-- A read that is refused takes nothing, and a read of messages gives bytes of one.
use Rattle.std.proofs.Common.{ℕ, ◌≡◌, ◌≤◌, ◌⊎◌, inl, inr, Bool, true, false, cond, List, [], ◌∷◌, ◌++◌, length, take, refl, sym, ap, subst, ◌∙◌, arith, append_assoc, append-nil}
use Rattle.std.specs.Prelude.{◌==◌, ◌||◌, ◌&&◌, nat_lt, None, Some}
use Rattle.std.proofs.lemmas.Bool.Decides.{nat_tests}
use Rattle.std.proofs.lemmas.List.{take_all}
use Rattle.strm_types.specs.declared.modes.ReadMode.{ReadMode}
use Rattle.strm_types.specs.declared.modes.ReadMode.TheVariants.{MessageKeep, MessageDiscard}
use Rattle.strm_types.specs.declared.modes.ControlMode.{ControlMode}
use Rattle.strm_types.specs.declared.refusals.Refusal.{Refusal}
use Rattle.strm_types.specs.declared.refusals.Refusal.TheVariants.{Eagain, Ebadmsg}
use Rattle.strm_types.specs.Message.{Message, cells_of}
use Rattle.strm_types.specs.Reads.{Drawn, stopped, emptied_of, front_of, and_more, drawn, head_draw, shown, offered, control_gone, all_cells, no_cells, is_refused, is_passed, wanted_after, finds_none, starts_refused, takes_none, read_refusal, OfOneMessage}
use Rattle.strm_types.proofs.Drawing.{of-each}

or-true : (b : Bool) → (b || true) ≡ true
or-true true = refl
or-true false = refl

stop-or-pass : {A : Type 0} (stop : Bool) (s p other : A) → p ≡ s → cond stop s (cond true p other) ≡ s
stop-or-pass true s p other is = refl
stop-or-pass false s p other is = is

and-left : (a b : Bool) → (a && b) ≡ true → a ≡ true
and-left true b is = refl
and-left false b is = is

and-right : (a b : Bool) → (a && b) ≡ true → b ≡ true
and-right true b is = is
and-right false b is = absurd (cc)

not-some : {A : Type 0} (x : A) (R : Type 0) → None ≡ Some x → R
not-some x R is = absurd (cc)

-- a read that ends with its message
pub record EndsWithMessage (C : Type 0) (read : ReadMode) : Type 0 where
  pub none : (n size : ℕ) → wanted_after read n size ≡ 0
  pub front : (n : ℕ) (dropped : List C) (m : Message C) (q : List (Message C)) → (front_of read n dropped m q).given ≡ take n (cells_of m)

module _ {C : Type 0} where
  -- where a read finds nothing, all messages are passed over, and stay
  drawn-finds-none : (read : ReadMode) (control : ControlMode) (begun : Bool) (n : ℕ) (passed q : List (Message C)) → finds_none control q ≡ true → drawn read control begun n passed q ≡ stopped (passed ++ q)
  drawn-finds-none read control begun n passed [] none = ap stopped (sym (append-nil passed))
  drawn-finds-none read control begun n passed (m ∷ q) none =
      let pass = and-left (is_passed control m) (finds_none control q) none in
      let rest = drawn-finds-none read control begun n (passed ++ m ∷ []) q (and-right (is_passed control m) (finds_none control q) none) ∙ ap stopped (append_assoc passed (m ∷ []) q) in
      let gone = all_cells passed ++ control_gone control m in
      let cells = offered control m in
      let other = cond (no_cells cells) (cond begun (stopped (passed ++ m ∷ q)) (emptied_of gone q)) (cond (nat_lt n (length cells)) (front_of read n gone (shown control m) q) (and_more cells gone (drawn read control true (wanted_after read n (length cells)) [] q))) in
      rw pass (stop-or-pass (n == 0 || is_refused control m) (stopped (passed ++ m ∷ q)) (drawn read control begun n (passed ++ m ∷ []) q) other rest)

  -- at a control part under RPROTNORM a read takes nothing
  drawn-refused : (read : ReadMode) (control : ControlMode) (n : ℕ) (q : List (Message C)) → starts_refused control q ≡ true → head_draw read control n q ≡ stopped q
  drawn-refused read control n [] refused = refl
  drawn-refused read control n (m ∷ q) refused = rw (refused, or-true (n == 0)) refl

  refused-at : (read : ReadMode) (control : ControlMode) (n : ℕ) (q : List (Message C)) (refusal : Refusal) (zero none at_end starts : Bool)
      → finds_none control q ≡ none → starts_refused control q ≡ starts → cond zero None (cond none (cond at_end None (Some Eagain)) (cond starts (Some Ebadmsg) None)) ≡ Some refusal → head_draw read control n q ≡ stopped q
  refused-at read control n q refusal true none at_end starts no_data first is = not-some refusal _ is
  refused-at read control n q refusal false true true starts no_data first is = not-some refusal _ is
  refused-at read control n q refusal false true false starts no_data first is = drawn-finds-none read control false n [] q no_data
  refused-at read control n q refusal false false at_end true no_data first is = drawn-refused read control n q first
  refused-at read control n q refusal false false at_end false no_data first is = not-some refusal _ is

  pub refused-none : (read : ReadMode) (control : ControlMode) (at_end : Bool) (n : ℕ) (q : List (Message C)) (refusal : Refusal) → read_refusal control at_end n q ≡ Some refusal → head_draw read control n q ≡ stopped q
  refused-none read control at_end n q refusal is = refused-at read control n q refusal (n == 0) (finds_none control q) at_end (starts_refused control q) refl refl is

  -- where a read has nothing to take, all stays
  stopped-at : (read : ReadMode) (control : ControlMode) (n : ℕ) (q : List (Message C)) (zero none starts : Bool)
      → (n == 0) ≡ zero → finds_none control q ≡ none → starts_refused control q ≡ starts → (zero || (none || starts)) ≡ true → head_draw read control n q ≡ stopped q
  stopped-at read control n [] true none starts zero_is none_is starts_is is = refl
  stopped-at read control n (m ∷ q) true none starts zero_is none_is starts_is is = rw zero_is refl
  stopped-at read control n q false true starts zero_is none_is starts_is is = drawn-finds-none read control false n [] q none_is
  stopped-at read control n q false false true zero_is none_is starts_is is = drawn-refused read control n q starts_is
  stopped-at read control n q false false false zero_is none_is starts_is is = absurd (cc)

  pub takes-none : (read : ReadMode) (control : ControlMode) (n : ℕ) (q : List (Message C)) → takes_none control n q ≡ true → head_draw read control n q ≡ stopped q
  takes-none read control n q is = stopped-at read control n q (n == 0) (finds_none control q) (starts_refused control q) refl refl refl is

  -- nothing is given where nothing is wanted
  pub drawn-none : (read : ReadMode) (control : ControlMode) (begun : Bool) (q : List (Message C)) → (drawn read control begun 0 [] q).given ≡ []
  drawn-none read control begun [] = refl
  drawn-none read control begun (m ∷ q) = refl

  abbrev One : ControlMode → ℕ → List (Message C) → List C → Type 0
  One control n q given = (given ≡ []) ⊎ OfOneMessage control n q given

  drawn-one : (read : ReadMode) → EndsWithMessage C read → (control : ControlMode) (begun : Bool) (n : ℕ) (passed q : List (Message C)) → One control n (passed ++ q) (drawn read control begun n passed q).given
  drawn-one read ends control begun n passed [] = inl refl
  drawn-one read ends control begun n passed (m ∷ q) =
      let gone = all_cells passed ++ control_gone control m in
      let cells = offered control m in
      let more = drawn read control true (wanted_after read n (length cells)) [] q in
      of-each (λ (d : Drawn C). One control n (passed ++ m ∷ q) d.given)
      (n == 0 || is_refused control m) (is_passed control m) (no_cells cells) begun (nat_lt n (length cells))
      (stopped (passed ++ m ∷ q)) (drawn read control begun n (passed ++ m ∷ []) q) (emptied_of gone q) (front_of read n gone (shown control m) q) (and_more cells gone more)
      (inl refl)
      (λ is. subst (λ all. One control n all (drawn read control begun n (passed ++ m ∷ []) q).given) (append_assoc passed (m ∷ []) q) (drawn-one read ends control begun n (passed ++ m ∷ []) q))
      (λ is. inl refl)
      (λ is. inr (record { before = passed; message = m; behind = q; stands = refl; front = ends.front n gone (shown control m) q }))
      (λ is. let fits : length cells ≤ n = grind (arith, nat_tests) in
      let no_more : more.given ≡ [] = ap (λ k. (drawn read control true k [] q).given) (ends.none n (length cells)) ∙ drawn-none read control true q in
      inr (record { before = passed; message = m; behind = q; stands = refl; front = ap (λ xs. cells ++ xs) no_more ∙ append-nil cells ∙ sym (take_all n cells fits) }))

  pub keep-one : (control : ControlMode) (n : ℕ) (q : List (Message C)) → One control n q (head_draw MessageKeep control n q).given
  keep-one control n q = drawn-one MessageKeep (record { none = λ k size. refl; front = λ k dropped m rest. refl }) control false n [] q

  pub discard-one : (control : ControlMode) (n : ℕ) (q : List (Message C)) → One control n q (head_draw MessageDiscard control n q).given
  discard-one control n q = drawn-one MessageDiscard (record { none = λ k size. refl; front = λ k dropped m rest. refl }) control false n [] q
