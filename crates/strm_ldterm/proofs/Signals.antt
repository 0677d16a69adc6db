-- Signal keys, step by step.
use Rattle.strm_ldterm.proofs.Prelude.{ℕ, ◌≡◌, ◌+◌, Bool, true, false, cond, List, [], ◌∷◌, ◌++◌, refl, sym, subst, arith, append-nil, None}
use Rattle.strm_ldterm.specs.Prelude.{Pcsig, Up, Fates, FlushAsked, Flushed, SignalKey, Spot, plain, Acted, onward, is_data_kind, flush_message}
use Rattle.strm_ldterm.specs.Prelude.{flush_bytes, sends, both, line_flushed, lost, bare, gathered_up, signals, noflsh, StoreValue, IsStore, Sent}
use Rattle.strm_ldterm.specs.Prelude.{AreIn, HasRoom}
use Rattle.strm_types.specs.declared.kinds.MsgKind.TheVariants.{Flush}
use Rattle.strm_types.specs.Ldterms as ldterms
use Rattle.strm_ldterm.specs.Does.{Flushes, Proceeds}
use Rattle.strm_ldterm.specs.Stands.{ldterm_in, keeps, Paired}
use Rattle.strm_ldterm.proofs.Proceeding.{proceeds-alters, proceeds-kept, proceeds-both}
use Rattle.strm_ldterm.proofs.Begun.{takes-more}
use Rattle.strm_ldterm.proofs.Sends.{tells}

pub flush-plain : is_data_kind Flush ≡ false
unfolding is_data_kind
flush-plain = refl

pub signal-plain : is_data_kind Pcsig ≡ false
unfolding is_data_kind
signal-plain = refl

-- the line goes
pub line-proceeds : (s : StoreValue) (x y : Paired) (here : Spot) (f f' : Fates) → Flushes s s x y [] f f' (line_flushed here None (ldterm_in s x))
    → Proceeds s s x y 0 [] [] f f' (line_flushed here None (ldterm_in s x))
line-proceeds s x y here f f' did =
    let p = ldterm_in s x in
    tells s s x y 0 [] f f' (sends [] (record p { line = [] })) (lost plain here Flushed p.line) (proceeds-alters s s x y f (record p { line = [] }) did.alters did.state) did.told

-- and then a flush goes up
pub flush-proceeds : (s t : StoreValue) (x y : Paired) (z : Sent) (here : Spot) (bytes : List ℕ) (f f' : Fates) → IsStore s → AreIn s (λ _. 0) (keeps x) → Flushes s s x y [] f f' (line_flushed here None (ldterm_in s x))
    → Proceeds s t y y 1 [] (z ∷ []) f' f' (sends (onward Up here (flush_message bytes) ∷ []) (ldterm_in s y))
    → Proceeds s t x y 1 [] (z ∷ []) f f' (record (sends (onward Up here (flush_message bytes) ∷ []) (record (ldterm_in s x) { line = [] })) { gone = lost plain here Flushed (ldterm_in s x).line })
flush-proceeds s t x y z here bytes f f' st kept did sent =
    let p = ldterm_in s x in
    let next = λ (q : ldterms.Discipline ℕ). sends (onward Up here (flush_message bytes) ∷ []) q in
    let all = proceeds-both s s t x y y 0 1 [] (z ∷ []) f f' f' (line_flushed here None p) next st kept (line-proceeds s x y here f f' did) sent in
    subst (λ l. Proceeds s t x y 1 [] (z ∷ []) f f' (record (sends (onward Up here (flush_message bytes) ∷ []) (record p { line = [] })) { gone = l })) (append-nil (lost plain here Flushed p.line)) all

-- What was gathered goes up, and then the signal, with a flush before it or without one.
module _ (s t : StoreValue) (x y : Paired) (here : Spot) (asked : FlushAsked) (signal byte : ℕ) (a : List Sent) (f : Fates) (st : IsStore t) (kept : AreIn s (λ _. 0) (keeps x))
    (did : Proceeds s t x y 0 [] a f f (sends (gathered_up plain here (ldterm_in s x).gathered) (record (ldterm_in s x) { gathered = [] }))) where
  abbrev keyed : ldterms.Discipline ℕ → Acted ℕ (ldterms.Discipline ℕ)
  keyed q = record (sends (onward Up here (bare Pcsig (signal ∷ [])) ∷ []) q) { gone = lost plain here SignalKey (byte ∷ []) }

  abbrev flushed : ldterms.Discipline ℕ → Acted ℕ (ldterms.Discipline ℕ)
  flushed q = record (sends (onward Up here (flush_message (flush_bytes asked)) ∷ []) (record q { line = [] })) { gone = lost plain here Flushed q.line }

  abbrev first : Acted ℕ (ldterms.Discipline ℕ)
  first = sends (gathered_up plain here (ldterm_in s x).gathered) (record (ldterm_in s x) { gathered = [] })

  abbrev by : Bool → Acted ℕ (ldterms.Discipline ℕ)
  by v = cond v (both first keyed) (both first (λ q. both (flushed q) keyed))

  pub signal-keeps : (u : StoreValue) (z : Sent) (f1 : Fates) → noflsh x.termios ≡ true → Proceeds t u y y 1 [] (z ∷ []) f f1 (keyed (ldterm_in t y))
      → Proceeds s u x y 2 [] (a ++ z ∷ []) f f1 (signals plain here asked signal byte (ldterm_in s x))
  signal-keeps u z f1 is sent =
      subst (λ v. Proceeds s u x y 2 [] (a ++ z ∷ []) f f1 (by v)) (sym is)
      (takes-more s u x y 1 (a ++ z ∷ []) f f1 (both first keyed) (proceeds-both s t u x y y 0 1 a (z ∷ []) f f f1 first keyed st kept did sent))

  pub signal-flushes : (u v : StoreValue) (w : Paired) (z z' : Sent) (f1 f2 : Fates) → noflsh x.termios ≡ false → IsStore u → Proceeds t u y w 1 [] (z ∷ []) f f1 (flushed (ldterm_in t y))
      → Proceeds u v w w 1 [] (z' ∷ []) f1 f2 (keyed (ldterm_in u w)) → Proceeds s v x w 2 [] (a ++ z ∷ z' ∷ []) f f2 (signals plain here asked signal byte (ldterm_in s x))
  signal-flushes u v w z z' f1 f2 is st' flush sent =
      let kept' = proceeds-kept s t x y 0 a f f first kept did in
      let inner = proceeds-both t u v y w w 1 1 (z ∷ []) (z' ∷ []) f f1 f2 (flushed (ldterm_in t y)) keyed st' kept' flush sent in
      subst (λ b. Proceeds s v x w 2 [] (a ++ z ∷ z' ∷ []) f f2 (by b)) (sym is)
      (proceeds-both s t v x y w 0 2 a (z ∷ z' ∷ []) f f f2 first (λ q. both (flushed q) keyed) st kept did inner)

-- what is free still
pub room-behind : (s t : StoreValue) (x y : Paired) (n k : ℕ) (sent : List Sent) (f f' : Fates) (is : Acted ℕ (ldterms.Discipline ℕ)) → Proceeds s t x y n [] sent f f' is → HasRoom s (n + k) → HasRoom t k
room-behind s t x y n k sent f f' is did room = record { mblks = (let a = did.mblks in let b = room.mblks in omega arith); dblks = (let a = did.dblks in let b = room.dblks in omega arith) }

pub room-one : (s : StoreValue) → HasRoom s 2 → HasRoom s 1
room-one s room = record { mblks = (let b = room.mblks in omega arith); dblks = (let b = room.dblks in omega arith) }
