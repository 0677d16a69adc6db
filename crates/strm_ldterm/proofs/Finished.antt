-- What the module keeps in hand, and lets go at the end of a call.
use Rattle.strm_ldterm.proofs.Prelude.{ℕ, ◌≡◌, ◌+◌, true, false, cond, List, [], ◌∷◌, length, refl, sym, ap, subst, ◌∙◌, arith, Option, None, Some}
use Rattle.strm_ldterm.proofs.Prelude.{IfSome, false≢true, data_in, data-shown, data_in-cells, one-parts, one-chains}
use Rattle.strm_ldterm.specs.Prelude.{Up, Fates, Spot, toward, onward, back_on, cells_left, sends, Message, cells_of, data_message, is_none_left}
use Rattle.strm_ldterm.specs.Prelude.{gathered_up, StoreValue, in_hand, token, InHand, data_bytes, Sent, once, AreIn, CanPut, message_in, times_sent}
use Rattle.strm_types.specs.Cells as cells
use Rattle.strm_types.specs.Queue as plain
use Rattle.strm_ldterm.specs.Stands.{ldterm_in, kept_in, cells_kept, times_kept, keeps, IsHeld, IsData, IsOrdinary, IsGathered, Paired}
use Rattle.strm_ldterm.specs.Does.{Alters, Proceeds}
use Rattle.strm_ldterm.proofs.Flushed.{alters-none}
use Rattle.strm_ldterm.proofs.Proceeding.{proceeds-alters}

none-is-left : {A : Type 0} (l : List A) → length l ≡ 0 → is_none_left l ≡ true
none-is-left [] is = refl
none-is-left (x ∷ l) is = absurd (omega arith)

some-is-left : {A : Type 0} (l : List A) → (length l ≡ 0 → ⊥) → is_none_left l ≡ false
some-is-left [] some = absurd (some refl)
some-is-left (x ∷ l) some = refl

-- what goes back to a queue
pub back-none : (o : Option (Message ℕ)) (m : Message ℕ) (q : plain.Queue ℕ) → o ≡ Some m → length (cells_of m) ≡ 0 → back_on o q ≡ q
back-none o m q there none =
    ap (λ v. back_on v q) there ∙ ap (λ v. cond {A = plain.Queue ℕ} v q (record q { messages = plain.put_back m q.messages })) (none-is-left (cells_of m) none)

pub back-some : (o : Option (Message ℕ)) (m : Message ℕ) (q : plain.Queue ℕ) → o ≡ Some m → (length (cells_of m) ≡ 0 → ⊥) → back_on o q ≡ record q { messages = plain.put_back m q.messages }
back-some o m q there some =
    ap (λ v. back_on v q) there ∙ ap (λ v. cond {A = plain.Queue ℕ} v q (record q { messages = plain.put_back m q.messages })) (some-is-left (cells_of m) some)

-- an ordinary message of data is one
pub ordinary-shown : (s : StoreValue) (i : ℕ) → IsOrdinary s i → message_in s i ≡ data_message (cells_of (message_in s i))
unfolding data_message
ordinary-shown s i is =
    let chain = in_hand s i in
    let bytes = data_bytes chain in
    let shown = data-shown chain is.are.chain.some is.are.kind ∙ ap (λ b. data_in b bytes) is.band in
    shown ∙ ap (λ l. data_in 0 l) (sym (ap cells_of shown ∙ data_in-cells 0 bytes))

pub up-none : (here : Spot) (l : List ℕ) → length l ≡ 0 → gathered_up cells.plain here l ≡ []
up-none here [] none = refl
up-none here (b ∷ l) none = absurd (omega arith)

pub up-some : (here : Spot) (l : List ℕ) → (length l ≡ 0 → ⊥) → gathered_up cells.plain here l ≡ onward Up here (data_message l) ∷ []
up-some here [] some = absurd (some refl)
up-some here (b ∷ l) some = refl

module _ (s : StoreValue) (x : Paired) (m : InHand) where
  -- the message in work
  module _ (there : x.in_work ≡ Some m) where
    pub work-splits : (j : ℕ) → keeps x j ≡ once (token m) j + keeps (record x { in_work = None }) j
    unfolding times_kept
    work-splits j = let e = ap (λ o. times_kept o j) there in omega arith

    pub work-shown : kept_in s x.in_work ≡ Some (message_in s (token m))
    work-shown = ap (kept_in s) there

    pub work-cells : cells_left (ldterm_in s x) ≡ cells_of (message_in s (token m))
    work-cells = ap (λ (o : Option (Message ℕ)). cells_left (record (ldterm_in s x) { in_work = o })) work-shown

    pub work-is : IsHeld s x → IsData s (token m)
    work-is held = subst (λ o. IfSome o (λ y. IsData s (token y))) there held.work

    pub work-can : AreIn s (λ _. 0) (keeps x) → CanPut s (token m) (keeps (record x { in_work = None }))
    work-can kept = record { apart = λ j. let a = kept.apart j in let e = work-splits j in omega arith }

    pub work-held : IsHeld s x → IsHeld s (record x { in_work = None })
    work-held held = record {
      read = held.read;
      write = held.write;
      apart = held.apart;
      work = tt;
      gathers = held.gathers;
      echoes = λ on busy. absurd (false≢true busy);
      once_each = λ j. let few = held.once_each j in let e = work-splits j in omega arith;
    }

  -- what is gathered
  module _ (there : x.gathered ≡ Some m) where
    pub gathered-splits : (j : ℕ) → keeps x j ≡ once (token m) j + keeps (record x { gathered = None }) j
    unfolding times_kept
    gathered-splits j = let e = ap (λ o. times_kept o j) there in omega arith

    pub gathered-shown : cells_kept (kept_in s x.gathered) ≡ cells_of (message_in s (token m))
    gathered-shown = ap (λ o. cells_kept (kept_in s o)) there

    pub gathered-is : IsHeld s x → IsGathered s (token m)
    gathered-is held = subst (λ o. IfSome o (λ y. IsGathered s (token y))) there held.gathers

    pub gathered-held : IsHeld s x → IsHeld s (record x { gathered = None })
    gathered-held held = record {
      read = held.read;
      write = held.write;
      apart = held.apart;
      work = held.work;
      gathers = tt;
      echoes = held.echoes;
      once_each = λ j. let few = held.once_each j in let e = gathered-splits j in omega arith;
    }

    -- it goes up
    pub gathered-sent : (here to : Spot) (f : Fates) → IsHeld s x → to ≡ toward Up here
        → Proceeds s s x (record x { gathered = None }) 0 [] (record { to = to; message = m } ∷ []) f f (sends (gathered_up cells.plain here (cells_kept (kept_in s x.gathered))) (record (ldterm_in s x) { gathered = [] }))
    unfolding times_sent
    gathered-sent here to f held place =
        let z : Sent = record { to = to; message = m } in
        let is = (gathered-is held).are in
        let some = (gathered-is held).some in
        record {
          state = refl;
          noted = refl;
          parcels =
              one-parts s z (z ∷ []) refl
              ∙ ap (λ (spot : Spot). record { to = spot; message = message_in s (token m) } ∷ []) place
              ∙ ap (λ (w : Message ℕ). onward Up here w ∷ []) (ordinary-shown s (token m) is)
              ∙ sym (ap (gathered_up cells.plain here) gathered-shown ∙ up-some here (cells_of (message_in s (token m))) (λ none. omega arith));
          told = refl;
          held = gathered-held held;
          own = record { lists = λ k none. refl; owns_same = λ k. refl };
          chains = one-chains s z (z ∷ []) refl is.are.chain;
          hands = record { counts = λ j. let e = gathered-splits j in omega arith; others = λ j gone kept some. refl };
          mblks = omega arith;
          dblks = omega arith;
          pool = record { mblks = refl; dblks = refl };
        }

module _ (s : StoreValue) (x : Paired) (here : Spot) (f : Fates) where
  quiet : (t : StoreValue) (y : Paired) → Alters s t x y → ldterm_in t y ≡ record (ldterm_in s x) { gathered = [] } → length (cells_kept (kept_in s x.gathered)) ≡ 0
      → Proceeds s t x y 0 [] [] f f (sends (gathered_up cells.plain here (cells_kept (kept_in s x.gathered))) (record (ldterm_in s x) { gathered = [] }))
  quiet t y alters is none =
      subst (λ ps. Proceeds s t x y 0 [] [] f f (sends ps (record (ldterm_in s x) { gathered = [] }))) (sym (up-none here (cells_kept (kept_in s x.gathered)) none))
      (proceeds-alters s t x y f (record (ldterm_in s x) { gathered = [] }) alters is)

  -- nothing was gathered
  pub gathered-none : x.gathered ≡ None → IsHeld s x
      → Proceeds s s x (record x { gathered = None }) 0 [] [] f f (sends (gathered_up cells.plain here (cells_kept (kept_in s x.gathered))) (record (ldterm_in s x) { gathered = [] }))
  gathered-none there held =
      quiet s (record x { gathered = None }) (subst (λ o. Alters s s x (record x { gathered = o })) there (alters-none s x held)) refl
      (ap (λ o. length (cells_kept (kept_in s o))) there)
