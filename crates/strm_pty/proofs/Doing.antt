-- Puts at drivers, step by step.
use Rattle.strm_pty.proofs.Prelude.{ℕ, ◌≡◌, ◌≢◌, ◌≤◌, ◌<◌, ◌+◌, List, [], ◌∷◌, ◌++◌, refl, sym, ap, subst, ◌∙◌, arith, None}
use Rattle.strm_pty.proofs.Prelude.{stays-chain, once-self, parcels-same, chains-same, one-parts, one-chains, no-parts}
use Rattle.strm_pty.proofs.Prelude.{none-chains, shifts-both, shifts-as, shifts-freed}
use Rattle.strm_pty.specs.Prelude.{MsgKind, Fates, Note, Acted, Parcel, tallied, Message, Block, StoreValue, IsStore, IsInHand, in_hand, held}
use Rattle.strm_pty.specs.Prelude.{dropped, times_in, token, Queue, queue_in, IsReady, Acts, Sent, once, Shifts, HasRoom, sent_of, times_sent}
use Rattle.strm_pty.specs.Prelude.{parcels_in, AreChains}
use Rattle.std.specs.Prelude.{slice_index_or}
use Rattle.strm_types.specs.Queue as plain
use Rattle.strm_msg.specs.Messages.{AreMessages}
use Rattle.strm_queue.specs.Kept.{AreCounted}
use Rattle.strm_frame.specs.Outboxes.{parcel_in}
use Rattle.strm_frame.proofs.Shifting.{shifts-none}
pub use Rattle.strm_frame.proofs.Handing.{can-of, once-none, times-held}
use Rattle.strm_pty.specs.Does.{OnlyQueue, Does, Alters, Makes, Swaps, MadeOne}

-- where no list changed
pub same-queue : (s t : StoreValue) (q : Queue) → t.lists ≡ s.lists → queue_in t q ≡ queue_in s q
same-queue s t q same = ap (λ ls. queue_in (record s { lists = ls }) q) same

pub same-ready : (s t : StoreValue) (q : Queue) → t.lists ≡ s.lists → IsReady s q → IsReady t q
same-ready s t q same ready = record {
  messages = subst (λ ls. AreMessages (slice_index_or ls q.list [])) (sym same) ready.messages;
  counted = subst (λ ls. AreCounted q.flows (slice_index_or ls q.list [])) (sym same) ready.counted;
}

pub same-only : (s t : StoreValue) (q : Queue) → t.lists ≡ s.lists → IsReady s q → OnlyQueue s t q q
same-only s t q same ready = record {
  ready = same-ready s t q same ready;
  list = refl;
  others = λ k ne. ap (λ ls. slice_index_or ls k []) same;
}

pub only-both : (s t u : StoreValue) (q q' q'' : Queue) → OnlyQueue s t q q' → OnlyQueue t u q' q'' → OnlyQueue s u q q''
only-both s t u q q' q'' first second = record {
  ready = second.ready;
  list = second.list ∙ first.list;
  others = λ k ne. second.others k (λ e. ne (e ∙ first.list)) ∙ first.others k ne;
}

pub times-none : (i : ℕ) (made : List Sent) → made ≡ [] → times_sent i made ≡ 0
unfolding times_sent
times-none i made none = ap (times_sent i) none

pub times-one : (i : ℕ) (x : Sent) (made : List Sent) → made ≡ x ∷ [] → times_sent i made ≡ once (token x.message) i + 0
unfolding times_sent
times-one i x made one = ap (times_sent i) one

pub times-append : (i : ℕ) (a b : List Sent) → times_sent i (a ++ b) ≡ times_sent i a + times_sent i b
unfolding times_sent
times-append i [] b = omega arith
times-append i (x ∷ a) b = let ih = times-append i a b in omega arith

pub parcels-append : (s : StoreValue) (a b : List Sent) → parcels_in s (a ++ b) ≡ parcels_in s a ++ parcels_in s b
unfolding parcels_in
parcels-append s [] b = refl
parcels-append s (x ∷ a) b = ap (λ ps. parcel_in s x ∷ ps) (parcels-append s a b)

pub chains-append : (s : StoreValue) (a b : List Sent) → AreChains s a → AreChains s b → AreChains s (a ++ b)
unfolding AreChains
chains-append s [] b first second = second
chains-append s (x ∷ a) b first second = (first.0, chains-append s a b first.1 second)

-- a message was freed, and nothing is sent
pub swaps-freed : (s t : StoreValue) (i : ℕ) (made : List Sent) → IsStore s → IsInHand s i → t ≡ dropped s i → made ≡ [] → Swaps s t i 0 made []
swaps-freed s t i made st is after none = record {
  lists = ap (λ v. v.lists) after;
  hands = shifts-as s t (once i) (λ _. 0) (once i) (λ j. times_sent j made) 0 0
      (subst (λ v. Shifts s v (once i) (λ _. 0) 0) (sym after) (shifts-freed s i st (can-of s i is))) (λ j. refl) (λ j. sym (times-none j made none)) (omega arith);
  sent = no-parts t made none;
  chains = none-chains t made none;
}

-- nothing was made
pub makes-none : (s : StoreValue) (n : ℕ) (made : List Sent) → made ≡ [] → Makes s s n made []
makes-none s n made none = record {
  lists = refl;
  hands = shifts-as s s (λ _. 0) (λ _. 0) (λ _. 0) (λ j. times_sent j made) 0 n (shifts-none s) (λ j. refl) (λ j. sym (times-none j made none)) (omega arith);
  sent = no-parts s made none;
  chains = none-chains s made none;
}

-- one message was made, which is sent to a spot
pub makes-one : (s t : StoreValue) (x : Sent) (kind : MsgKind) (bytes : List ℕ) (made : List Sent) (p : Parcel ℕ) → MadeOne s t (token x.message) kind bytes → made ≡ x ∷ []
    → ◌≡◌ {A = Parcel ℕ} (record { to = x.to; message = record { kind = kind; band = 0; control = None; body = None; plain = bytes } }) p → Makes s t 1 made (p ∷ [])
makes-one s t x kind bytes made p m one is =
    let n = token x.message in
    record {
      lists = ap (λ v. v.lists) m.after;
      hands = record {
        counts = λ j.
            let a = ap (λ v. times_in j v.hand) m.after in
            let h = times-held s n (in_hand t n) j in
            let o = times-one j x made one in
            omega arith;
        others = λ j none some. ap (λ v. in_hand v j) m.after ∙ stays-chain s n (in_hand t n) j (λ e. (let f = m.fresh in let w = ap (λ k. times_in k s.hand) e in absurd (omega arith)));
        mblks = (let r = m.room_m in omega arith);
        dblks = (let r = m.room_d in omega arith);
        pool = record { mblks = ap (λ v. v.mblks) m.after; dblks = ap (λ v. v.dblks) m.after };
      };
      sent = one-parts t x made one ∙ ap (λ (w : Message ℕ). record { to = x.to; message = w } ∷ []) m.shows ∙ ap (λ w. w ∷ []) is;
      chains = one-chains t x made one m.chain;
    }

-- one after the other
pub makes-both : (s t u : StoreValue) (n k : ℕ) (a b : List Sent) (ps qs : List (Parcel ℕ)) → Makes s t n a ps → Makes t u k b qs → Makes s u (n + k) (a ++ b) (ps ++ qs)
makes-both s t u n k a b ps qs first second =
    let stays : (i : ℕ) → 0 < times_sent i a → in_hand u i ≡ in_hand t i = λ i some. second.hands.others i refl (let c = first.hands.counts i in omega arith) in
    record {
      lists = second.lists ∙ first.lists;
      hands = shifts-as s u (λ _. 0) (λ i. times_sent i a + times_sent i b) (λ _. 0) (λ i. times_sent i (a ++ b)) (n + k) (n + k)
          (shifts-both s t u (λ _. 0) (λ i. times_sent i a) (λ _. 0) (λ i. times_sent i b) n k first.hands second.hands) (λ i. refl) (λ i. sym (times-append i a b)) (omega arith);
      sent = parcels-append u a b ∙ ap (λ xs. xs ++ parcels_in u b) (parcels-same t u a stays ∙ first.sent) ∙ ap (λ xs. ps ++ xs) second.sent;
      chains = chains-append u a b (chains-same t u a stays first.chains) second.chains;
    }

-- what was made of a message stays, and others were made behind it
pub stays-behind : (s t u : StoreValue) (m n k : ℕ) (a b : List Sent) (ps qs : List (Parcel ℕ)) → IsInHand s m → Swaps s t m n a ps → Makes t u k b qs
    → (i : ℕ) → 0 < times_sent i a → in_hand u i ≡ in_hand t i
stays-behind s t u m n k a b ps qs is first second i some = second.hands.others i refl (let c = first.hands.counts i in let there = (can-of s m is).apart i in omega arith)

pub swaps-both : (s t u : StoreValue) (m n k : ℕ) (a b : List Sent) (ps qs : List (Parcel ℕ)) → IsInHand s m → Swaps s t m n a ps → Makes t u k b qs → Swaps s u m (n + k) (a ++ b) (ps ++ qs)
swaps-both s t u m n k a b ps qs is first second =
    let stays = stays-behind s t u m n k a b ps qs is first second in
    record {
      lists = second.lists ∙ first.lists;
      hands = shifts-as s u (λ i. once m i + 0) (λ i. times_sent i a + times_sent i b) (once m) (λ i. times_sent i (a ++ b)) (n + k) (n + k)
          (shifts-both s t u (once m) (λ i. times_sent i a) (λ _. 0) (λ i. times_sent i b) n k first.hands second.hands) (λ i. omega arith) (λ i. sym (times-append i a b)) (omega arith);
      sent = parcels-append u a b ∙ ap (λ xs. xs ++ parcels_in u b) (parcels-same t u a stays ∙ first.sent) ∙ ap (λ xs. ps ++ xs) second.sent;
      chains = chains-append u a b (chains-same t u a stays first.chains) second.chains;
    }

-- a message was freed, and then others were made
pub swaps-then : (s t u : StoreValue) (m k : ℕ) (none made : List Sent) (ps : List (Parcel ℕ)) → Swaps s t m 0 none [] → Makes t u k made ps → none ≡ [] → Swaps s u m k made ps
swaps-then s t u m k none made ps first second is = record {
  lists = second.lists ∙ first.lists;
  hands = shifts-as s u (λ i. once m i + 0) (λ i. times_sent i none + times_sent i made) (once m) (λ i. times_sent i made) (0 + k) k
      (shifts-both s t u (once m) (λ i. times_sent i none) (λ _. 0) (λ i. times_sent i made) 0 k first.hands second.hands) (λ i. omega arith) (λ i. let z = times-none i none is in omega arith) (omega arith);
  sent = second.sent;
  chains = second.chains;
}

-- the message is freed, and the others are made behind that
pub freed-then : (s t u : StoreValue) (i k : ℕ) (made : List Sent) (ps : List (Parcel ℕ)) → IsStore s → IsInHand s i → t ≡ dropped s i → Makes t u k made ps → Swaps s u i k made ps
freed-then s t u i k made ps st is after makes = swaps-then s t u i k [] made ps (swaps-freed s t i [] st is after refl) makes refl

-- that is a put that does nothing with its queue
pub swaps-does : (s t : StoreValue) (q : Queue) (m n k : ℕ) (acts : Acts) (f : Fates) (ps : List (Parcel ℕ)) → IsReady s q → acts.notes.items ≡ [] → Swaps s t m n (sent_of acts.sent) ps → n ≤ k
    → Does s t q q m k acts f f (record { state = queue_in s q; notes = []; sent = ps; gone = [] })
swaps-does s t q m n k acts f ps ready none swaps le = record {
  state = same-queue s t q swaps.lists;
  notes = none;
  sent = swaps.sent;
  told = refl;
  chains = swaps.chains;
  only = same-only s t q swaps.lists ready;
  hands = shifts-as s t (once m) (λ i. times_sent i (sent_of acts.sent)) (once m) (λ i. times_sent i (sent_of acts.sent)) n k swaps.hands (λ i. refl) (λ i. refl) le;
}

-- more blocks may have been taken than were
pub does-more : (s t : StoreValue) (q q' : Queue) (m n k : ℕ) (acts : Acts) (f f' : Fates) (is : Acted ℕ (plain.Queue ℕ)) → n ≤ k → Does s t q q' m n acts f f' is → Does s t q q' m k acts f f' is
does-more s t q q' m n k acts f f' is le does = record {
  state = does.state;
  notes = does.notes;
  sent = does.sent;
  told = does.told;
  chains = does.chains;
  only = does.only;
  hands = shifts-as s t (once m) (λ i. times_sent i (sent_of acts.sent)) (once m) (λ i. times_sent i (sent_of acts.sent)) n k does.hands (λ i. refl) (λ i. refl) le;
}

-- a message was freed, the queue flushed, and others were made
pub flush-does : (s t u v : StoreValue) (q q' : Queue) (m k : ℕ) (none made : List Sent) (ps : List (Parcel ℕ)) (notes : List Note) (f f' : Fates) (own : plain.Queue ℕ → Acted ℕ (plain.Queue ℕ)) (acts : Acts)
    → IsReady s q → Swaps s t m 0 none [] → none ≡ [] → Alters t u q q' notes f f' (own (queue_in t q)) → Makes u v k made ps → acts.notes.items ≡ notes → sent_of acts.sent ≡ made
    → Does s v q q' m k acts f f' (record (own (queue_in s q)) { sent = ps })
flush-does s t u v q q' m k none made ps notes f f' own acts ready freed is alters makes noted sent =
    let same = same-queue s t q freed.lists in
    record {
      state = same-queue u v q' makes.lists ∙ alters.state ∙ ap (λ p. (own p).state) same;
      notes = noted ∙ alters.noted ∙ ap (λ p. (own p).notes) same;
      sent = ap (λ xs. parcels_in v xs) sent ∙ makes.sent;
      told = alters.told ∙ ap (λ p. tallied (own p).gone f) same;
      chains = subst (λ xs. AreChains v xs) (sym sent) makes.chains;
      only = only-both s u v q q' q' (only-both s t u q q q' (same-only s t q freed.lists ready) alters.only) (same-only u v q' makes.lists alters.only.ready);
      hands =
          let first = shifts-both s t u (once m) (λ i. times_sent i none) (λ _. 0) (λ _. 0) 0 0 freed.hands alters.hands in
          let all = shifts-both s u v (λ i. once m i + 0) (λ i. times_sent i none + 0) (λ _. 0) (λ i. times_sent i made) (0 + 0) k first makes.hands in
          shifts-as s v (λ i. (once m i + 0) + 0) (λ i. (times_sent i none + 0) + times_sent i made) (once m) (λ i. times_sent i (sent_of acts.sent)) (0 + 0 + k) k all
          (λ i. omega arith) (λ i. let z = times-none i none is in let e = ap (λ xs. times_sent i xs) sent in omega arith) (omega arith);
    }

-- room behind what is freed, altered and made
pub room-left : (s t : StoreValue) (gone come : ℕ → ℕ) (n k : ℕ) → Shifts s t gone come n → HasRoom s (n + k) → HasRoom t k
room-left s t gone come n k hands room = record { mblks = (let a = hands.mblks in let b = room.mblks in omega arith); dblks = (let a = hands.dblks in let b = room.dblks in omega arith) }

-- behind a message that was freed, and a queue that was altered
pub room-kept : (s t u : StoreValue) (i k : ℕ) (come : ℕ → ℕ) → Swaps s t i 0 [] [] → Shifts t u (λ _. 0) come 0 → HasRoom s k → HasRoom u k
room-kept s t u i k come freed hands room = record {
  mblks = (let a = freed.hands.mblks in let b = hands.mblks in let c = room.mblks in omega arith);
  dblks = (let a = freed.hands.dblks in let b = hands.dblks in let c = room.dblks in omega arith);
}

pub room-less : (s : StoreValue) (n k : ℕ) → k ≤ n → HasRoom s n → HasRoom s k
room-less s n k le room = record { mblks = (let c = room.mblks in omega arith); dblks = (let c = room.dblks in omega arith) }

-- behind a message that was freed alone
pub room-freed : (s t : StoreValue) (i n k : ℕ) → IsStore s → IsInHand s i → t ≡ dropped s i → k ≤ n → HasRoom s n → HasRoom t k
room-freed s t i n k st is after le room =
    let freed = subst (λ v. Shifts s v (once i) (λ _. 0) 0) (sym after) (shifts-freed s i st (can-of s i is)) in
    record { mblks = (let a = freed.mblks in let b = room.mblks in omega arith); dblks = (let a = freed.dblks in let b = room.dblks in omega arith) }
