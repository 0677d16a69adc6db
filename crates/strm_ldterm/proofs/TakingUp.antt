-- An answer that is taken up, step by step, on a store.
use Rattle.strm_ldterm.proofs.Prelude.{ℕ, ◌≡◌, ◌≤◌, ◌+◌, Bool, true, false, cond, List, [], ◌∷◌, ◌++◌, length, refl, sym, ap, subst, ◌∙◌, arith}
use Rattle.strm_ldterm.proofs.Prelude.{append-nil, None, once-self, one-chains, one-parts}
use Rattle.strm_ldterm.specs.Prelude.{TCSETSF, Setopts, Up, Fates, Note, Spot, Termios, Acted, Parcel, toward, onward, is_data_kind, flush_message}
use Rattle.strm_ldterm.specs.Prelude.{both, read_flushed, sends, data_message, ends_lines, line_up, read_mode_of, up_alone, StoreValue, IsStore}
use Rattle.strm_ldterm.specs.Prelude.{in_hand, token, message_of, IsChain, Acts, Sent, AreIn, CanPut, HasRoom, message_in, sent_of, times_sent}
use Rattle.strm_ldterm.specs.Prelude.{parcels_in, AreChains}
use Rattle.std.proofs.Common.{◌==◌}
use Rattle.std.proofs.lemmas.List.{append_assoc}
use Rattle.strm_types.specs.Flushing.{read_flush}
use Rattle.strm_types.specs.Ldterms as ldterms
use Rattle.strm_types.specs.Options.{mode_message}
use Rattle.strm_types.specs.TakenUp.{input_flushed, taken_up}
use Rattle.strm_types.specs.Termios.{tostop}
use Rattle.strm_ldterm.specs.Stands.{ldterm_in, keeps, IsHeld, Paired}
use Rattle.strm_ldterm.specs.Does.{Does, Flushes, Proceeds, Puts}
use Rattle.strm_ldterm.specs.TakingUp.{flush_takes, line_takes, termios_set}
use Rattle.strm_frame.proofs.WidePools.{frees-spends, spends-free}
use Rattle.strm_ldterm.proofs.Joining.{with-notes}
use Rattle.strm_ldterm.proofs.Passing.{read-sends}
use Rattle.strm_ldterm.proofs.Proceeding.{chains-joined, parcels-joined, proceeds-both, times-joined}
use Rattle.strm_ldterm.proofs.Sends.{sends-none, times-one}

pub can-kept : (s : StoreValue) (x : Paired) (i : ℕ) → CanPut s i (keeps x) → AreIn s (λ _. 0) (keeps x)
can-kept s x i can = record { apart = λ j. let a = can.apart j in omega arith }

-- a put that takes no block
pub does-puts : (s t : StoreValue) (x x' : Paired) (i most : ℕ) (acts : Acts) (f f' : Fates) (is : Acted ℕ (ldterms.Discipline ℕ)) → Does s t x x' i acts f f' is
    → Puts s t x x' i most acts f f' is
does-puts s t x x' i most acts f f' is did = record {
  state = did.state;
  notes = did.notes;
  sent = did.sent;
  told = did.told;
  held = did.held;
  own = did.own;
  chains = did.chains;
  hands = did.hands;
  spends = frees-spends s t did.pool did.frees most;
  pool = did.pool;
}

-- what was flushed, where nothing is sent
pub flushes-proceeds : (s t : StoreValue) (x y : Paired) (notes : List Note) (f f' : Fates) (a : Acted ℕ (ldterms.Discipline ℕ)) → Flushes s t x y notes f f' a → a.sent ≡ [] → Proceeds s t x y 0 notes [] f f' a
unfolding times_sent parcels_in AreChains
flushes-proceeds s t x y notes f f' a did none = record {
  state = did.state;
  noted = did.noted;
  parcels = sym none;
  told = did.told;
  held = did.alters.held;
  own = did.alters.own;
  chains = tt;
  hands = record { counts = λ i. let c = did.alters.hands.counts i in omega arith; others = λ i gone kept some. did.alters.hands.others i gone kept some };
  mblks = (let m = did.alters.frees.mblks in omega arith);
  dblks = (let m = did.alters.frees.dblks in omega arith);
  pool = did.alters.pool;
}

-- one step that may note something, and then another one
pub noted-both : (s t u : StoreValue) (x y z : Paired) (n k : ℕ) (notes : List Note) (a b : List Sent) (f f1 f2 : Fates) (is : Acted ℕ (ldterms.Discipline ℕ)) (next : ldterms.Discipline ℕ → Acted ℕ (ldterms.Discipline ℕ))
    → IsStore t → AreIn s (λ _. 0) (keeps x) → (next is.state).notes ≡ [] → Proceeds s t x y n notes a f f1 is → Proceeds t u y z k [] b f1 f2 (next (ldterm_in t y))
    → Proceeds s u x z (n + k) notes (a ++ b) f f2 (both is next)
noted-both s t u x y z n k notes a b f f1 f2 is next st kept none first second =
    let bare = record is { notes = [] } in
    let quiet = with-notes s t x y n notes a f f1 is [] first in
    let all = proceeds-both s t u x y z n k a b f f1 f2 bare next st kept quiet second in
    let noted = with-notes s u x z (n + k) [] (a ++ b) f f2 (both bare next) notes all in
    subst (λ v. Proceeds s u x z (n + k) notes (a ++ b) f f2 (record (both bare next) { notes = v })) (first.noted ∙ sym (append-nil is.notes) ∙ ap (λ v. is.notes ++ v) (sym none)) noted

-- and the message goes on last
pub puts-behind : (s u : StoreValue) (x z : Paired) (last : Sent) (here : Spot) (takes most : ℕ) (notes : List Note) (sent : List Sent) (acts : Acts) (f f' : Fates) (a : Acted ℕ (ldterms.Discipline ℕ)) (all : List (Parcel ℕ))
    → IsStore s → CanPut s (token last.message) (keeps x) → IsChain (in_hand s (token last.message)) → last.to ≡ toward Up here → Proceeds s u x z takes notes sent f f' a
    → acts.notes.items ≡ notes → sent_of acts.sent ≡ sent ++ last ∷ [] → a.sent ++ onward Up here (message_in s (token last.message)) ∷ [] ≡ all → takes ≤ most
    → Puts s u x z (token last.message) most acts f f' (record a { sent = all })
puts-behind s u x z last here takes most notes sent acts f f' a all st can chain place did noted sent_is same few =
    let i = token last.message in
    let stays : in_hand u i ≡ in_hand s i = (let c = can.apart i in let few = st.apart i in let one = once-self i in did.hands.others i refl (omega arith) (omega arith)) in
    record {
      state = did.state;
      notes = noted ∙ did.noted;
      sent =
          ap (parcels_in u) sent_is ∙ parcels-joined u sent (last ∷ [])
          ∙ ap (λ l. l ++ parcels_in u (last ∷ [])) did.parcels
          ∙ ap (λ l. a.sent ++ l) (one-parts u last (last ∷ []) refl ∙ ap (λ chain. record { to = last.to; message = message_of chain } ∷ []) stays ∙ ap (λ spot. record { to = spot; message = message_in s i } ∷ []) place)
          ∙ same;
      told = did.told;
      held = did.held;
      own = did.own;
      chains = subst (AreChains u) (sym sent_is) (chains-joined u sent (last ∷ []) did.chains (one-chains u last (last ∷ []) refl (subst IsChain (sym stays) chain)));
      hands = record {
        counts = λ j.
            let c = did.hands.counts j in
            let e = ap (λ l. times_sent j l) sent_is in
            let t = times-joined j sent (last ∷ []) in
            let o = times-one j last (last ∷ []) refl in
            omega arith;
        others = λ j gone kept some. did.hands.others j refl kept some;
      };
      spends = spends-free s u did.pool most 0 (omega (arith, did.mblks, few)) (omega (arith, did.dblks, few));
      pool = did.pool;
    }

-- what is kept is in hand still, and so many blocks are free
pub noted-kept : (s t : StoreValue) (x y : Paired) (n : ℕ) (notes : List Note) (a : List Sent) (f f' : Fates) (is : Acted ℕ (ldterms.Discipline ℕ)) → AreIn s (λ _. 0) (keeps x) → Proceeds s t x y n notes a f f' is
    → AreIn t (λ _. 0) (keeps y)
noted-kept s t x y n notes a f f' is kept did = record { apart = λ i. let c = did.hands.counts i in let k = kept.apart i in omega arith }

pub noted-room : (s t : StoreValue) (x y : Paired) (n k : ℕ) (notes : List Note) (a : List Sent) (f f' : Fates) (is : Acted ℕ (ldterms.Discipline ℕ)) → Proceeds s t x y n notes a f f' is → HasRoom s (n + k) → HasRoom t k
noted-room s t x y n k notes a f f' is did room = record { mblks = (let a = did.mblks in let b = room.mblks in omega arith); dblks = (let a = did.dblks in let b = room.dblks in omega arith) }

-- input is flushed, where the command says so
abbrev told : Spot → ldterms.Discipline ℕ → Acted ℕ (ldterms.Discipline ℕ)
told here p = sends (onward Up here (flush_message (read_flush None)) ∷ []) p

abbrev flushed_by : Bool → Spot → ldterms.Discipline ℕ → Acted ℕ (ldterms.Discipline ℕ)
flushed_by flushes here p = cond flushes (both (read_flushed here up_alone p) (told here)) (sends [] p)

pub input-flushes : (s t u : StoreValue) (x y : Paired) (here : Spot) (command : ℕ) (z : Sent) (notes : List Note) (f f' : Fates) → IsStore t → AreIn s (λ _. 0) (keeps x) → (command == TCSETSF) ≡ true
    → Flushes s t x y notes f f' (read_flushed here up_alone (ldterm_in s x)) → Proceeds t u y y 1 [] (z ∷ []) f' f' (told here (ldterm_in t y))
    → Proceeds s u x y (flush_takes command) notes (z ∷ []) f f' (input_flushed here command (ldterm_in s x))
input-flushes s t u x y here command z notes f f' st kept is did sent =
    let p = ldterm_in s x in
    let first = flushes-proceeds s t x y notes f f' (read_flushed here up_alone p) did (read-sends here up_alone p) in
    let all = noted-both s t u x y y 0 1 notes [] (z ∷ []) f f' f' (read_flushed here up_alone p) (told here) st kept refl first sent in
    subst (λ (b : Bool). Proceeds s u x y (cond b 1 0) notes (z ∷ []) f f' (flushed_by b here p)) (sym is) all

pub input-stays : (s : StoreValue) (x : Paired) (here : Spot) (command : ℕ) (notes : List Note) (f : Fates) → (command == TCSETSF) ≡ false → Proceeds s s x x 0 notes [] f f (sends [] (ldterm_in s x))
    → Proceeds s s x x (flush_takes command) notes [] f f (input_flushed here command (ldterm_in s x))
input-stays s x here command notes f is same = subst (λ (b : Bool). Proceeds s s x x (cond b 1 0) notes [] f f (flushed_by b here (ldterm_in s x))) (sym is) same

-- With the line flushed none goes up: two blocks are enough in any case.
flushed-line : (s t : StoreValue) (x y : Paired) (here : Spot) (command : ℕ) → ldterm_in t y ≡ (input_flushed here command (ldterm_in s x)).state → flush_takes command + line_takes y.line ≤ 1
flushed-line s t x y here command same = at (command == TCSETSF) (ap (λ (p : ldterms.Discipline ℕ). p.line) same)
  where
    at : (b : Bool) → y.line ≡ (flushed_by b here (ldterm_in s x)).state.line → cond {A = ℕ} b 1 0 + line_takes y.line ≤ 1
    at true line = let none = ap length line in omega arith
    at false line = omega arith

module _ (s t : StoreValue) (x y : Paired) (here : Spot) (command : ℕ) (notes : List Note) (a : List Sent) (f f1 : Fates)
    (did : Proceeds s t x y (flush_takes command) notes a f f1 (input_flushed here command (ldterm_in s x))) where
  pub takes-two : flush_takes command + (line_takes y.line + 1) ≤ 2
  takes-two = let few = flushed-line s t x y here command did.state in omega arith

  pub room-left : HasRoom s 2 → HasRoom t (line_takes y.line + 1)
  room-left room =
      let few = takes-two in
      record { mblks = (let a = did.mblks in let b = room.mblks in omega arith); dblks = (let a = did.dblks in let b = room.dblks in omega arith) }

-- the whole, where the message goes on last
pub takes-up : (s t u v : StoreValue) (x y z : Paired) (here : Spot) (command most : ℕ) (termios : Termios) (notes : List Note) (a b : List Sent) (mode last : Sent) (acts : Acts) (f f1 : Fates)
    → IsStore s → IsStore t → IsStore u → CanPut s (token last.message) (keeps x) → IsChain (in_hand s (token last.message)) → last.to ≡ toward Up here
    → Proceeds s t x y (flush_takes command) notes a f f1 (input_flushed here command (ldterm_in s x))
    → Proceeds t u y z (line_takes y.line) [] b f1 f1 (termios_set here termios (ldterm_in t y))
    → Proceeds u v z z 1 [] (mode ∷ []) f1 f1 (sends (onward Up here (mode_message (read_mode_of termios) (tostop termios)) ∷ []) (ldterm_in u z))
    → acts.notes.items ≡ notes → sent_of acts.sent ≡ a ++ (b ++ mode ∷ last ∷ []) → 2 ≤ most
    → Puts s v x z (token last.message) most acts f f1 (taken_up here command termios (message_in s (token last.message)) (ldterm_in s x))
takes-up s t u v x y z here command most termios notes a b mode last acts f f1 st st_t st_u can chain place flush set told noted sent_is few =
    let p = ldterm_in s x in
    let kept = can-kept s x (token last.message) can in
    let kept_t = noted-kept s t x y (flush_takes command) notes a f f1 (input_flushed here command p) kept flush in
    let modes : ldterms.Discipline ℕ → Acted ℕ (ldterms.Discipline ℕ) = λ r. sends (onward Up here (mode_message (read_mode_of termios) (tostop termios)) ∷ []) r in
    let inner = proceeds-both t u v y z z (line_takes y.line) 1 b (mode ∷ []) f1 f1 f1 (termios_set here termios (ldterm_in t y)) modes st_u kept_t set told in
    let next : ldterms.Discipline ℕ → Acted ℕ (ldterms.Discipline ℕ) = λ q. both (termios_set here termios q) modes in
    let whole = noted-both s t v x y z (flush_takes command) (line_takes y.line + 1) notes a (b ++ mode ∷ []) f f1 f1 (input_flushed here command p) next st_t kept refl flush inner in
    let two = takes-two s t x y here command notes a f f1 flush in
    let q = (input_flushed here command p).state in
    let up : List (Parcel ℕ) = cond (ends_lines q.termios termios) (line_up here q.line) [] in
    puts-behind s v x z last here (flush_takes command + (line_takes y.line + 1)) most notes (a ++ (b ++ mode ∷ [])) acts f f1 (both (input_flushed here command p) next) _ st can chain place whole noted
    (sent_is ∙ ap (λ l. a ++ l) (sym (append_assoc b (mode ∷ []) (last ∷ []))) ∙ sym (append_assoc a (b ++ mode ∷ []) (last ∷ [])))
    (append_assoc (input_flushed here command p).sent (up ++ onward Up here (mode_message (read_mode_of termios) (tostop termios)) ∷ []) (onward Up here (message_in s (token last.message)) ∷ [])
    ∙ ap (λ l. (input_flushed here command p).sent ++ l) (append_assoc up (onward Up here (mode_message (read_mode_of termios) (tostop termios)) ∷ []) (onward Up here (message_in s (token last.message)) ∷ [])))
    (omega (arith, two, few))

-- the termios and the line are beside what it holds
pub held-set : (s : StoreValue) (x : Paired) (termios : Termios) (line : List ℕ) → IsHeld s x → IsHeld s (record x { termios = termios; line = line })
held-set s x termios line h = record { read = h.read; write = h.write; apart = h.apart; work = h.work; gathers = h.gathers; echoes = h.echoes; once_each = h.once_each }

-- Where lines are made still, or none is there, nothing goes up.
module _ (s : StoreValue) (x : Paired) (here : Spot) (termios : Termios) (f : Fates) (held : IsHeld s x) where
  abbrev set_by : Bool → Acted ℕ (ldterms.Discipline ℕ)
  set_by ends = let p = ldterm_in s x in sends (cond ends (line_up here p.line) []) (record p { termios = termios; line = cond ends [] p.line })

  none-up : (ends : Bool) → x.line ≡ cond ends [] x.line → [] ≡ cond ends (line_up here x.line) [] → Proceeds s s x (record x { termios = termios }) (line_takes x.line) [] [] f f (set_by ends)
  none-up ends line sent =
      sends-none s x (record x { termios = termios }) [] f f (line_takes x.line) (set_by ends) (held-set s x termios x.line held) (λ k. refl) (λ i. refl) refl
      (ap (λ (l : List ℕ). record (ldterm_in s x) { termios = termios; line = l }) line) refl sent refl

  pub termios-none : ends_lines x.termios termios ≡ false → Proceeds s s x (record x { termios = termios }) (line_takes x.line) [] [] f f (termios_set here termios (ldterm_in s x))
  termios-none is = subst (λ b. Proceeds s s x (record x { termios = termios }) (line_takes x.line) [] [] f f (set_by b)) (sym is) (none-up false refl refl)

  pub line-none : length x.line ≡ 0 → Proceeds s s x (record x { termios = termios }) (line_takes x.line) [] [] f f (termios_set here termios (ldterm_in s x))
  line-none none = let both = at (ends_lines x.termios termios) x.line none in none-up (ends_lines x.termios termios) both.0 both.1
    where
      at : (ends : Bool) (line : List ℕ) → length line ≡ 0 → (line ≡ cond ends [] line) × ([] ≡ cond ends (line_up here line) [])
      at true [] none = (refl, refl)
      at false [] none = (refl, refl)
      at ends (c ∷ more) none = absurd (omega arith)

-- Where they end one goes up in a block.
pub line-sent : (s t : StoreValue) (x y : Paired) (z : Sent) (here : Spot) (termios : Termios) (f : Fates) → ends_lines x.termios termios ≡ true → (length x.line ≡ 0 → ⊥)
    → (let p = ldterm_in s x in Proceeds s t x y 1 [] (z ∷ []) f f (sends (onward Up here (data_message p.line) ∷ []) (record p { termios = termios; line = [] })))
    → Proceeds s t x y (line_takes x.line) [] (z ∷ []) f f (termios_set here termios (ldterm_in s x))
line-sent s t x y z here termios f is some did =
    let p = ldterm_in s x in
    subst (λ (b : Bool). Proceeds s t x y (line_takes x.line) [] (z ∷ []) f f (sends (cond b (line_up here p.line) []) (record p { termios = termios; line = cond b [] p.line }))) (sym is)
    (at x.line some did)
  where
    at : (line : List ℕ) → (length line ≡ 0 → ⊥) → (let p = ldterm_in s x in Proceeds s t x y 1 [] (z ∷ []) f f (sends (onward Up here (data_message line) ∷ []) (record p { termios = termios; line = [] })))
        → (let p = ldterm_in s x in Proceeds s t x y (line_takes line) [] (z ∷ []) f f (sends (line_up here line) (record p { termios = termios; line = [] })))
    at [] some did = absurd (some refl)
    at (c ∷ more) some did = subst (λ n. Proceeds s t x y n [] (z ∷ []) f f (sends (onward Up here (data_message (c ∷ more)) ∷ []) (record (ldterm_in s x) { termios = termios; line = [] }))) (omega arith) did

-- an M_SETOPTS has no data
pub mode-plain : is_data_kind Setopts ≡ false
unfolding is_data_kind
mode-plain = refl
