-- A byte of the message in work that begins.
use Rattle.strm_ldterm.proofs.Prelude.{ℕ, ◌≡◌, ◌+◌, Bool, true, false, cond, List, [], ◌∷◌, drop, refl, sym, ap, subst, ◌∙◌, arith, Option, None}
use Rattle.strm_ldterm.proofs.Prelude.{Some, is_some, option_map, slice_index_or, ◌&&◌}
use Rattle.strm_ldterm.specs.Prelude.{Down, Fates, Spot, Acted, toward, onward, is_data_kind, cells_left, left_of, with_left, restarts, sends}
use Rattle.strm_ldterm.specs.Prelude.{Message, cells_of, bare, begins, stroke_at, StoreValue, IsStore, token, message_of, Sent, once, AreIn, HasRoom}
use Rattle.strm_ldterm.specs.Prelude.{SameOwn, message_in, times_sent, parcels_in, AreChains, InHand}
use Rattle.std.specs.Prelude.{map, MatchOption}
use Rattle.strm_types.specs.declared.kinds.MsgKind.TheVariants.{Start}
use Rattle.strm_types.specs.Cells as cells
use Rattle.strm_types.specs.Ldterms as ldterms
use Rattle.strm_ldterm.specs.declared.ldterm.Stage.TheVariants.{Begun}
use Rattle.strm_ldterm.specs.Becoming.{Becomes}
use Rattle.strm_ldterm.specs.Does.{Alters, Proceeds}
use Rattle.strm_ldterm.specs.Frames.{ldterm-frame}
use Rattle.strm_ldterm.specs.Sending.{MadeOne}
use Rattle.strm_ldterm.specs.Stands.{ldterm_in, kept_in, times_kept, owns, keeps, EndsPlain, IsHeld, Paired}
use Rattle.strm_ldterm.proofs.Finished.{work-splits, work-shown, work-is, work-held}
use Rattle.strm_ldterm.proofs.Flushed.{alters-none}
use Rattle.strm_ldterm.proofs.Proceeding.{proceeds-alters}
use Rattle.strm_ldterm.proofs.Sends.{sends-made, sends-none}
use Rattle.strm_ldterm.proofs.Skipped.{left-all, left-none}

-- Another message has come for the one in work.
module _ (s t : StoreValue) (x : Paired) (m r : InHand) (now : Message ℕ) (there : x.in_work ≡ Some m) (st : IsStore t) (held : IsHeld s x) (kept : AreIn s (λ _. 0) (keeps x)) (b : Becomes s t (token m) (token r) now) where
  rest-same : SameOwn s t (owns (record x { in_work = None })) (keeps (record x { in_work = None }))
  rest-same = record {
    lists = λ k some. ap (λ ls. slice_index_or ls k []) b.lists;
    mblks = b.hands.pool.mblks;
    dblks = b.hands.pool.dblks;
    kept = λ j some. let e = work-splits s x m there j in let few = held.once_each j in let a = kept.apart j in b.hands.others j (omega arith) (omega arith);
  }

  framed : (ldterm_in t (record x { in_work = None }) ≡ ldterm_in s (record x { in_work = None })) × IsHeld t (record x { in_work = None })
  framed = ldterm-frame s t (record x { in_work = None }) rest-same (work-held s x m there held)

  come-splits : (j : ℕ) → keeps (record x { in_work = Some r }) j ≡ once (token r) j + keeps (record x { in_work = None }) j
  unfolding times_kept
  come-splits j = omega arith

  pub work-comes : (f : Fates) → Proceeds s t x (record x { in_work = Some r }) 0 [] [] f f (sends [] (record (ldterm_in s x) { in_work = Some now }))
  unfolding times_sent parcels_in AreChains
  work-comes f = record {
    state =
        ap (λ (p : ldterms.Discipline ℕ). record p { in_work = Some (message_in t (token r)) }) framed.0
        ∙ ap (λ (w : Message ℕ). record (ldterm_in s x) { in_work = Some w }) b.shows;
    noted = refl;
    parcels = refl;
    told = refl;
    held = record {
      read = framed.1.read;
      write = framed.1.write;
      apart = framed.1.apart;
      work = b.is;
      gathers = framed.1.gathers;
      echoes = λ on busy. subst (λ ls. EndsPlain (map message_of (slice_index_or ls x.write_queue.list []))) (sym b.lists) (held.echoes on (ap is_some there));
      once_each = λ j.
          let c = b.hands.counts j in let e = work-splits s x m there j in let a = kept.apart j in let few = st.apart j in let d = come-splits j in omega arith;
    };
    own = record { lists = λ k none. ap (λ ls. slice_index_or ls k []) b.lists; owns_same = λ k. refl };
    chains = tt;
    hands = record {
      counts = λ j. let c = b.hands.counts j in let e = work-splits s x m there j in let d = come-splits j in omega arith;
      others = λ j gone none some. let e = work-splits s x m there j in b.hands.others j (omega arith) some;
    };
    mblks = b.hands.mblks;
    dblks = b.hands.dblks;
    pool = b.hands.pool;
  }

module _ (s : StoreValue) (x : Paired) where
  -- nothing is in work
  pub idle-cells : x.in_work ≡ None → cells_left (ldterm_in s x) ≡ []
  idle-cells none = ap (λ o. cells_left (record (ldterm_in s x) { in_work = kept_in s o })) none

  pub idle-left : x.in_work ≡ None → (rest : List ℕ) → with_left rest (ldterm_in s x) ≡ ldterm_in s x
  idle-left none rest =
      ap (λ o. record (ldterm_in s x) { in_work = option_map (left_of rest) (kept_in s o) }) none
      ∙ sym (ap (λ o. record (ldterm_in s x) { in_work = kept_in s o }) none)

  pub idle-proceeds : x.in_work ≡ None → (f : Fates) → IsHeld s x → (rest : List ℕ)
      → Proceeds s s x (record x { in_work = None }) 0 [] [] f f (sends [] (with_left rest (ldterm_in s x)))
  idle-proceeds none f held rest =
      let p = ldterm_in s x in
      proceeds-alters s s x (record x { in_work = None }) f (with_left rest p) (subst (λ o. Alters s s x (record x { in_work = o })) none (alters-none s x held))
      (sym (ap (λ o. record p { in_work = option_map (left_of rest) (kept_in s o) }) none))

  -- a message is
  module _ (m : InHand) (there : x.in_work ≡ Some m) where
    pub busy-cells : cells_left (ldterm_in s x) ≡ cells_of (message_in s (token m))
    busy-cells = ap (λ o. cells_left (record (ldterm_in s x) { in_work = o })) (work-shown s x m there)

    pub busy-left : (n : ℕ) → with_left (drop n (cells_left (ldterm_in s x))) (ldterm_in s x)
        ≡ record (ldterm_in s x) { in_work = Some (left_of (drop n (cells_of (message_in s (token m)))) (message_in s (token m))) }
    busy-left n =
        ap (λ c. with_left (drop n c) (ldterm_in s x)) busy-cells
        ∙ ap (λ o. record (ldterm_in s x) { in_work = option_map (left_of (drop n (cells_of (message_in s (token m))))) o }) (work-shown s x m there)

    -- all that is left of it is the message
    pub busy-all : IsHeld s x → with_left (cells_left (ldterm_in s x)) (ldterm_in s x) ≡ ldterm_in s x
    busy-all held =
        busy-left 0
        ∙ ap (λ (w : Message ℕ). record (ldterm_in s x) { in_work = Some w }) (left-all s (token m) (work-is s x m there held))
        ∙ sym (ap (λ o. record (ldterm_in s x) { in_work = o }) (work-shown s x m there))

    pub busy-byte : (o : Option ℕ) → IsHeld s x → MatchOption o (cells_of (message_in s (token m)) ≡ []) (λ byte. cells_of (message_in s (token m)) ≡ byte ∷ drop 1 (cells_of (message_in s (token m))))
        → MatchOption o ((cells_left (ldterm_in s x) ≡ []) × (with_left (drop 1 (cells_left (ldterm_in s x))) (ldterm_in s x) ≡ ldterm_in s x))
        (λ byte. cells_left (ldterm_in s x) ≡ byte ∷ drop 1 (cells_left (ldterm_in s x)))
    busy-byte None held none = (
      busy-cells ∙ none,
      busy-left 1 ∙ ap (λ (w : Message ℕ). record (ldterm_in s x) { in_work = Some w }) (left-none s (token m) (work-is s x m there held) none)
          ∙ sym (ap (λ o. record (ldterm_in s x) { in_work = o }) (work-shown s x m there)),
    )
    busy-byte (Some byte) held is = busy-cells ∙ is ∙ ap (λ c. byte ∷ drop 1 c) (sym busy-cells)

-- A byte begins, and starts output or doesn't.
module _ (s : StoreValue) (x : Paired) (here : Spot) (byte : ℕ) (v : Bool) (sent : List Sent) (f : Fates) (held : IsHeld s x)
    (is : v ≡ (x.stopped && restarts x.termios (stroke_at cells.plain here byte (ldterm_in s x)))) where
  by : Bool → Acted ℕ (ldterms.Discipline ℕ)
  by w = cond w
      (sends (onward Down here (bare Start []) ∷ []) (record (ldterm_in s x) { stopped = false; stage = ldterms.Begun true byte }))
      (sends [] (record (ldterm_in s x) { stage = ldterms.Begun false byte }))

  held-by : (stopped : Bool) → IsHeld s (record x { stopped = stopped; stage = Begun v byte })
  held-by stopped = record { read = held.read; write = held.write; apart = held.apart; work = held.work; gathers = held.gathers; echoes = held.echoes; once_each = held.once_each }

  pub begins-quiet : v ≡ false → sent ≡ [] → Proceeds s s x (record x { stage = Begun v byte }) 1 [] sent f f (begins cells.plain here byte (ldterm_in s x))
  unfolding by
  begins-quiet quiet none =
      subst (λ w. Proceeds s s x (record x { stage = Begun v byte }) 1 [] sent f f (by w)) (sym quiet ∙ is)
      (sends-none s x (record x { stage = Begun v byte }) sent f f 1 (by false) (held-by x.stopped) (λ k. refl) (λ i. refl) none
      (ap (λ w. record (ldterm_in s x) { stage = ldterms.Begun w byte }) quiet) refl refl refl)

  pub begins-starts : (t : StoreValue) (z : Sent) → v ≡ true → AreIn s (λ _. 0) (keeps x) → MadeOne s t (token z.message) (bare Start []) → sent ≡ z ∷ [] → z.to ≡ toward Down here
      → Proceeds s t x (record x { stopped = false; stage = Begun v byte }) 1 [] sent f f (begins cells.plain here byte (ldterm_in s x))
  unfolding by
  begins-starts t z starts kept made one place =
      subst (λ w. Proceeds s t x (record x { stopped = false; stage = Begun v byte }) 1 [] sent f f (by w)) (sym starts ∙ is)
      (sends-made s t x (record x { stopped = false; stage = Begun v byte }) z sent f f (bare Start []) (toward Down here) (by true) (held-by false) kept (λ k. refl) (λ i. refl) made one place
      (ap (λ w. record (ldterm_in s x) { stopped = false; stage = ldterms.Begun w byte }) starts) refl refl refl)

-- more blocks may be taken than are
pub takes-more : (s t : StoreValue) (x y : Paired) (n : ℕ) (sent : List Sent) (f f' : Fates) (is : Acted ℕ (ldterms.Discipline ℕ)) → Proceeds s t x y n [] sent f f' is → Proceeds s t x y (n + 1) [] sent f f' is
takes-more s t x y n sent f f' is did = record {
  state = did.state;
  noted = did.noted;
  parcels = did.parcels;
  told = did.told;
  held = did.held;
  own = did.own;
  chains = did.chains;
  hands = did.hands;
  mblks = (let m = did.mblks in omega arith);
  dblks = (let m = did.dblks in omega arith);
  pool = did.pool;
}

pub room-stays : (s t : StoreValue) (x y : Paired) (sent : List Sent) (f f' : Fates) (is : Acted ℕ (ldterms.Discipline ℕ)) (n : ℕ) → Proceeds s t x y 0 [] sent f f' is → HasRoom s n → HasRoom t n
room-stays s t x y sent f f' is n did room = record { mblks = (let a = did.mblks in let b = room.mblks in omega arith); dblks = (let a = did.dblks in let b = room.dblks in omega arith) }

pub start-plain : is_data_kind Start ≡ false
unfolding is_data_kind
start-plain = refl
