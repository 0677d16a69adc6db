-- Puts at the module, step by step.
use Rattle.strm_ldterm.proofs.Prelude.{ℕ, ◌≡◌, ◌<◌, Bool, true, false, cond, List, [], ◌∷◌, refl, sym, ap, subst, ◌∙◌, arith, ◌&&◌, nat_lt, and_parts}
use Rattle.strm_ldterm.proofs.Prelude.{nat_tests, once-self, no-parts, none-chains, one-parts, one-chains, shifts-joined}
use Rattle.strm_ldterm.specs.Prelude.{Up, Down, Fates, Note, Enable, Acted, toward, onward, queued_at, sends, Message, is_high_priority, rank_of}
use Rattle.strm_ldterm.specs.Prelude.{StoreValue, IsStore, in_hand, dropped, token, Queue, queue_in, messages_on, Changes, FreesBlocks, Acts, once}
use Rattle.strm_ldterm.specs.Prelude.{CanPut, Hands, message_in, sent_of, Sent, IsChain, Spot}
use Rattle.strm_types.specs.Ldterms as ldterms
use Rattle.strm_types.specs.Queue as plain
use Rattle.strm_frame.proofs.Handing.{none-hands, one-hands}
use Rattle.strm_ldterm.specs.Stands.{ldterm_in, keeps, EndsPlain, IsHeld, Paired}
use Rattle.strm_ldterm.specs.Does.{Alters, Does}
use Rattle.strm_ldterm.specs.Frames.{ldterm-frame}
use Rattle.strm_ldterm.proofs.Beside.{held-quieter, read-plain, read-held, read-own, write-plain, write-held, write-own, without-same}
use Rattle.strm_ldterm.proofs.Last.{ends-put, low-rank}

-- a message of a band above 0 has a rank above 0
above : (m : Message ℕ) → is_high_priority m.kind ≡ false → nat_lt 0 m.band ≡ true → 0 < rank_of m
above m low more = let rank = low-rank m low in let some : 0 < m.band = grind (arith, nat_tests) in omega arith

-- a message in hand that is put on a queue
joined-hands : (s t : StoreValue) (i : ℕ) (q q' : Queue) (k k' : ℕ → ℕ) → IsStore s → CanPut s i k → ((j : ℕ) → k' j ≡ k j) → Changes (dropped s i) t q q' → FreesBlocks s t → Hands s t i k k' (λ _. 0)
joined-hands s t i q q' k k' st can same changes frees =
    let h = shifts-joined s t i q q' st (record { apart = λ j. let a = can.apart j in omega arith }) changes frees in
    record { counts = λ j. let c = h.counts j in let e = same j in omega arith; others = λ j gone kept some. h.others j gone some }

module _ (s t : StoreValue) (x : Paired) (i : ℕ) (q' : Queue) (acts : Acts) (f : Fates) (note : Bool) (st : IsStore s) (held : IsHeld s x) (can : CanPut s i (keeps x))
    (frees : FreesBlocks s t) (none : sent_of acts.sent ≡ []) where
  framed : (ldterm_in (dropped s i) x ≡ ldterm_in s x) × IsHeld (dropped s i) x
  framed = ldterm-frame s (dropped s i) x (without-same s x i st can) held

  pub waits-up : Changes (dropped s i) t x.read_queue q' → queue_in t q' ≡ plain.put_on (message_in s i) (queue_in s x.read_queue) → note ≡ plain.put_enables (message_in s i) (queue_in s x.read_queue)
      → acts.notes.items ≡ cond note (Enable Up ∷ []) [] → Does s t x (record x { read_queue = q' }) i acts f f (queued_at Up (message_in s i) (ldterm_in s x))
  waits-up changes is enables noted =
      let h = shifts-joined s t i x.read_queue q' st (record { apart = λ j. let a = can.apart j in omega arith }) changes frees in
      record {
        state =
            read-plain (dropped s i) t x q' framed.1 changes
            ∙ ap (λ (p : ldterms.Discipline ℕ). record p { read_queue = queue_in t q' }) framed.0
            ∙ ap (λ (q : plain.Queue ℕ). record (ldterm_in s x) { read_queue = q }) is;
        notes = noted ∙ ap (λ v. cond {A = List Note} v (Enable Up ∷ []) []) enables;
        sent = no-parts t (sent_of acts.sent) none;
        told = refl;
        held = read-held (dropped s i) t x q' framed.1 changes;
        own = (let own = read-own (dropped s i) t x q' framed.1 changes in record { lists = own.lists; owns_same = own.owns_same });
        chains = none-chains t (sent_of acts.sent) none;
        hands = none-hands s t (once i) (keeps x) (keeps x) (sent_of acts.sent) none (joined-hands s t i x.read_queue q' (keeps x) (keeps x) st can (λ j. refl) changes frees);
        frees = frees;
        pool = h.pool;
      }

  -- one of band 0 ends the turn's echo, and another one stands before it
  pub waits-down : (v : Bool) → v ≡ (x.echoing && nat_lt 0 (message_in s i).band) → is_high_priority (message_in s i).kind ≡ false
      → Changes (dropped s i) t x.write_queue q' → queue_in t q' ≡ plain.put_on (message_in s i) (queue_in s x.write_queue) → note ≡ plain.put_enables (message_in s i) (queue_in s x.write_queue)
      → acts.notes.items ≡ cond note (Enable Down ∷ []) [] → Does s t x (record x { echoing = v; write_queue = q' }) i acts f f (queued_at Down (message_in s i) (ldterm_in s x))
  waits-down v stays low changes is enables noted =
      let h = shifts-joined s t i x.write_queue q' st (record { apart = λ j. let a = can.apart j in omega arith }) changes frees in
      let p = ldterm_in s x in
      let m = message_in s i in
      let on : v ≡ true → (x.echoing ≡ true) × (nat_lt 0 m.band ≡ true) = λ is. and_parts x.echoing (nat_lt 0 m.band) (sym stays ∙ is) in
      let quieter = held-quieter (dropped s i) x v (λ is. (on is).0) framed.1 in
      record {
        state =
            write-plain (dropped s i) t (record x { echoing = v }) q' quieter changes
            ∙ ap (λ (y : ldterms.Discipline ℕ). record y { write_queue = queue_in t q'; echoing = v }) framed.0
            ∙ ap (λ (q : plain.Queue ℕ). record p { write_queue = q; echoing = v }) is
            ∙ ap (λ (w : Bool). record p { write_queue = plain.put_on m p.write_queue; echoing = w }) stays;
        notes = noted ∙ ap (λ w. cond {A = List Note} w (Enable Down ∷ []) []) enables;
        sent = no-parts t (sent_of acts.sent) none;
        told = refl;
        held = write-held (dropped s i) t (record x { echoing = v }) q' quieter changes (λ still busy.
            subst EndsPlain (sym (ap (λ (q : plain.Queue ℕ). q.messages) is))
            (ends-put m (messages_on s x.write_queue.list) (above m low (on still).1) (held.echoes (on still).0 busy)));
        own = (let own = write-own (dropped s i) t (record x { echoing = v }) q' quieter changes in record { lists = own.lists; owns_same = own.owns_same });
        chains = none-chains t (sent_of acts.sent) none;
        hands = none-hands s t (once i) (keeps x) (keeps x) (sent_of acts.sent) none (joined-hands s t i x.write_queue q' (keeps x) (keeps x) st can (λ j. refl) changes frees);
        frees = frees;
        pool = h.pool;
      }

-- after the module has altered
module _ (s u : StoreValue) (x y : Paired) (i : ℕ) (st : IsStore s) (can : CanPut s i (keeps x)) (alters : Alters s u x y) where
  pub still-can : CanPut u i (keeps y)
  still-can = record { apart = λ j. let a = can.apart j in let c = alters.hands.counts j in omega arith }

  not-kept : keeps x i ≡ 0
  not-kept = let a = can.apart i in let few = st.apart i in let one = once-self i in omega arith

  pub still-chain : in_hand u i ≡ in_hand s i
  still-chain = let a = can.apart i in let one = once-self i in alters.hands.others i refl not-kept (omega arith)

  pub alters-does : (t : StoreValue) (x' : Paired) (acts : Acts) (f f' : Fates) (is is' : Acted ℕ (ldterms.Discipline ℕ)) → Does u t y x' i acts f f' is → is ≡ is' → Does s t x x' i acts f f' is'
  alters-does t x' acts f f' is is' does same =
      subst (λ v. Does s t x x' i acts f f' v) same (record {
        state = does.state;
        notes = does.notes;
        sent = does.sent;
        told = does.told;
        held = does.held;
        own = record {
          lists = λ k none. does.own.lists k (alters.own.owns_same k ∙ none) ∙ alters.own.lists k none;
          owns_same = λ k. does.own.owns_same k ∙ alters.own.owns_same k;
        };
        chains = does.chains;
        hands = record {
          counts = λ j. let a = alters.hands.counts j in let d = does.hands.counts j in omega arith;
          others = λ j gone kept some.
              let a = alters.hands.counts j in let few = alters.fewer j in
              does.hands.others j gone (omega arith) (omega arith) ∙ alters.hands.others j refl kept some;
        };
        frees = record { mblks = (let a = alters.frees.mblks in let b = does.frees.mblks in omega arith); dblks = (let a = alters.frees.dblks in let b = does.frees.dblks in omega arith) };
        pool = record { mblks = does.pool.mblks ∙ alters.pool.mblks; dblks = does.pool.dblks ∙ alters.pool.dblks };
      })

-- a message that passes
pub passes-does : (s : StoreValue) (x : Paired) (z : Sent) (acts : Acts) (f : Fates) (here : Spot) (notes : List Note) → IsHeld s x → IsChain (in_hand s (token z.message)) → z.to ≡ toward here.way here
    → sent_of acts.sent ≡ z ∷ [] → acts.notes.items ≡ notes
    → Does s s x x (token z.message) acts f f (record (sends (onward here.way here (message_in s (token z.message)) ∷ []) (ldterm_in s x)) { notes = notes })
passes-does s x z acts f here notes held chain to one noted = record {
  state = refl;
  notes = noted;
  sent = one-parts s z (sent_of acts.sent) one ∙ ap (λ (spot : Spot). record { to = spot; message = message_in s (token z.message) } ∷ []) to;
  told = refl;
  held = held;
  own = record { lists = λ k none. refl; owns_same = λ k. refl };
  chains = one-chains s z (sent_of acts.sent) one chain;
  hands = one-hands s z (keeps x) (sent_of acts.sent) one;
  frees = record { mblks = omega arith; dblks = omega arith };
  pool = record { mblks = refl; dblks = refl };
}
