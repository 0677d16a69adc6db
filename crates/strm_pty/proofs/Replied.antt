-- Puts at ptem, step by step.
use Rattle.strm_pty.proofs.Prelude.{ℕ, ◌≡◌, ◌<◌, ◌≤◌, Bool, true, false, cond, List, [], ◌∷◌, refl, sym, ap, subst, ◌∙◌, take, arith, Option, Some}
use Rattle.strm_pty.proofs.Prelude.{one-chains, one-parts}
use Rattle.strm_pty.specs.Prelude.{Ioctl, Iocack, Ioc, MODULES, Up, Down, Spot, ack_message, payload, telling_message, is_asked, Acted, Parcel}
use Rattle.strm_pty.specs.Prelude.{toward, onward, is_data_kind, nak_message, read_ioc, Message, own_at, ptem_does, window_signal, StoreValue}
use Rattle.strm_pty.specs.Prelude.{in_hand, token, IsChain, Acts, Sent, HasRoom, message_in, sent_of}
use Rattle.strm_types.specs.declared.kinds.MsgKind.TheVariants.{Pcsig}
use Rattle.strm_types.specs.declared.winsize.Winsize.{Winsize}
use Rattle.strm_types.specs.Ptems as plain
use Rattle.strm_types.specs.Ptems.{acks, asked_above, asked_below, asked_by_header, asked_on_way, naks, ptem_passes, ptem_puts, ptem_sends, set_above}
use Rattle.strm_types.specs.Winsizes.{same_winsize}
use Rattle.strm_frame.proofs.Behind.{all-said, first-tell, read_of}
use Rattle.strm_frame.proofs.Handing.{one-hands}
use Rattle.strm_frame.proofs.Shifting.{shifts-spends}
use Rattle.strm_pty.specs.declared.ptem.Ptem.{Ptem}
use Rattle.strm_pty.specs.Beside.{Answers, MayAnswer, MayPass, ptem_in}
use Rattle.strm_pty.specs.Does.{Makes, Swaps}
use Rattle.strm_pty.proofs.Costing.{above-own, below-own}
use Rattle.strm_pty.proofs.Doing.{makes-none, room-less}

-- the kinds that ptem makes have no parts
pub ack-plain : is_data_kind Iocack ≡ false
unfolding is_data_kind
ack-plain = refl

pub ioctl-plain : is_data_kind Ioctl ≡ false
unfolding is_data_kind
ioctl-plain = refl

pub signal-plain : is_data_kind Pcsig ≡ false
unfolding is_data_kind
signal-plain = refl

-- what becomes of it then, and else
module _ (here : Spot) (m : Message ℕ) (p : plain.Ptem) where
  abbrev by_asked : Bool → Acted ℕ plain.Ptem
  by_asked asked = cond asked (asked_by_header here (read_ioc m.plain) m p) (ptem_passes here m p)

  pub puts-other : is_asked m ≡ false → ptem_puts here m p ≡ ptem_passes here m p
  puts-other is = ap by_asked is

  pub puts-above : (ioc : Ioc) → is_asked m ≡ true → read_ioc m.plain ≡ Some ioc → here.way ≡ Down → ptem_puts here m p ≡ asked_above here ioc (payload m.plain) m p
  puts-above ioc is header way = ap by_asked is ∙ ap (λ o. asked_by_header here o m p) header ∙ ap (λ w. asked_on_way w here ioc (payload m.plain) m p) way

  pub puts-below : (ioc : Ioc) → is_asked m ≡ true → read_ioc m.plain ≡ Some ioc → here.way ≡ Up → ptem_puts here m p ≡ asked_below here ioc (payload m.plain) m p
  puts-below ioc is header way = ap by_asked is ∙ ap (λ o. asked_by_header here o m p) header ∙ ap (λ w. asked_on_way w here ioc (payload m.plain) m p) way

-- the same messages to the same spots
pub makes-as : (s t : StoreValue) (n : ℕ) (a b : List Sent) (ps qs : List (Parcel ℕ)) → Makes s t n a ps → b ≡ a → ps ≡ qs → Makes s t n b qs
makes-as s t n a b ps qs makes made is = subst (λ xs. Makes s t n b xs) is (subst (λ xs. Makes s t n xs ps) (sym made) makes)

pub no-signal : (s : StoreValue) (here : Spot) (v w : Winsize) → same_winsize v w ≡ true → Makes s s 1 [] (window_signal here v w)
no-signal s here v w is = rw is (makes-none s 1 [] refl)

-- an M_IOCTL was freed, and what is sent was made
pub swaps-answers : (s t : StoreValue) (x : Ptem) (i n most : ℕ) (acts : Acts) (ps : List (Parcel ℕ)) → acts.notes.items ≡ [] → Swaps s t i n (sent_of acts.sent) ps
    → n ≤ most → Answers s t x i most acts (ptem_sends ps (ptem_in x))
swaps-answers s t x i n most acts ps none swaps few = record {
  state = refl;
  notes = none;
  sent = swaps.sent;
  lists = swaps.lists;
  chains = swaps.chains;
  hands = record {
    counts = λ j. let c = swaps.hands.counts j in omega arith;
    others = λ j gone kept some. swaps.hands.others j gone some;
  };
  spends = (let c = shifts-spends s t _ _ n swaps.hands in record { mblks = omega (arith, c.mblks, few); dblks = omega (arith, c.dblks, few) });
  pool = swaps.hands.pool;
}

-- a message goes on
pub passes-answers : (s : StoreValue) (x : Ptem) (sent : Sent) (acts : Acts) (here : Spot) → acts.notes.items ≡ [] → sent_of acts.sent ≡ sent ∷ [] → sent.to ≡ toward here.way here
    → IsChain (in_hand s (token sent.message)) → 0 < here.at → here.at ≤ MODULES
    → Answers s s x (token sent.message) (own_at ptem_does here (message_in s (token sent.message))) acts (ptem_passes here (message_in s (token sent.message)) (ptem_in x))
passes-answers s x sent acts here none one place chain some few =
    let m = message_in s (token sent.message) in
    record {
      state = refl;
      notes = none;
      sent = one-parts s sent (sent_of acts.sent) one ∙ ap (λ (to : Spot). record { to = to; message = m } ∷ []) place;
      lists = refl;
      chains = one-chains s sent (sent_of acts.sent) one chain;
      hands = one-hands s sent (λ _. 0) (sent_of acts.sent) one;
      spends = record { mblks = omega arith; dblks = omega arith };
      pool = record { mblks = refl; dblks = refl };
    }

-- an M_IOCTL that is put may be answered
module _ (s : StoreValue) (i : ℕ) (here : Spot) (passes : MayPass s i here) (room : HasRoom s (own_at ptem_does here (message_in s i))) (asked : is_asked (message_in s i) ≡ true) where
  pub may-above : here.way ≡ Down → MayAnswer s i here Down
  may-above way = record {
    passes = passes;
    asked = asked;
    goes = way;
    room = room-less s (own_at ptem_does here (message_in s i)) 3 (omega (arith, above-own here (message_in s i) asked way)) room;
  }

  pub may-below : here.way ≡ Up → MayAnswer s i here Up
  may-below way = record {
    passes = passes;
    asked = asked;
    goes = way;
    room = room-less s (own_at ptem_does here (message_in s i)) 2 (omega (arith, below-own here (message_in s i) asked way)) room;
  }

-- what was read of the first bytes of a payload is read of it all, and where that says something, they are it all
module _ {A : Type 0} (read : List ℕ → Option A) (k : ℕ) (p bytes : List ℕ) (said : Option A) (less : k < 36) (is : said ≡ read_of read k bytes) (first : bytes ≡ take 36 p) where
  pub read-all : (o : Option A) → said ≡ o → read_of read k p ≡ o
  read-all o says = sym (first-tell read k 36 p less) ∙ ap (read_of read k) (sym first) ∙ sym is ∙ says

  pub read-whole : (v : A) → said ≡ Some v → bytes ≡ p
  read-whole v says = first ∙ all-said read k 36 p v less (ap (read_of read k) (sym first) ∙ sym is ∙ says)

-- an M_IOCTL was freed, and its answer was made
module _ (s t : StoreValue) (i : ℕ) (here : Spot) (ioc : Ioc) (acts : Acts) (none : acts.notes.items ≡ []) where
  pub ack-answers : (x : Ptem) (bytes given : List ℕ) → MayAnswer s i here Down → bytes ≡ given → Swaps s t i 1 (sent_of acts.sent) (onward Up here (ack_message ioc bytes) ∷ [])
      → Answers s t x i (own_at ptem_does here (message_in s i)) acts (acks Up here ioc given (ptem_in x))
  ack-answers x bytes given may is swaps =
      swaps-answers s t x i 1 (own_at ptem_does here (message_in s i)) acts (onward Up here (ack_message ioc given) ∷ []) none
      (subst (λ xs. Swaps s t i 1 (sent_of acts.sent) (onward Up here (ack_message ioc xs) ∷ [])) is swaps)
      (omega (arith, above-own here (message_in s i) may.asked may.goes))

  pub refuse-above : (x : Ptem) → MayAnswer s i here Down → Swaps s t i 1 (sent_of acts.sent) (onward Up here (nak_message ioc) ∷ [])
      → Answers s t x i (own_at ptem_does here (message_in s i)) acts (naks Up here ioc (ptem_in x))
  refuse-above x may swaps =
      swaps-answers s t x i 1 (own_at ptem_does here (message_in s i)) acts (onward Up here (nak_message ioc) ∷ []) none swaps
      (omega (arith, above-own here (message_in s i) may.asked may.goes))

  pub refuse-below : (x : Ptem) → MayAnswer s i here Up → Swaps s t i 1 (sent_of acts.sent) (onward Down here (nak_message ioc) ∷ [])
      → Answers s t x i (own_at ptem_does here (message_in s i)) acts (naks Down here ioc (ptem_in x))
  refuse-below x may swaps =
      swaps-answers s t x i 1 (own_at ptem_does here (message_in s i)) acts (onward Down here (nak_message ioc) ∷ []) none swaps
      (omega (arith, below-own here (message_in s i) may.asked may.goes))

  -- what it set is told, too
  pub set-answers : (x x' : Ptem) (bytes given : List ℕ) → MayAnswer s i here Down → bytes ≡ given
      → Swaps s t i 3 (sent_of acts.sent) (onward Up here (ack_message ioc bytes) ∷ (onward Down here (telling_message ioc bytes) ∷ window_signal here x.window x'.window))
      → Answers s t x' i (own_at ptem_does here (message_in s i)) acts (set_above here ioc given (ptem_in x) (ptem_in x'))
  set-answers x x' bytes given may is swaps =
      let sends = λ (xs : List ℕ). onward Up here (ack_message ioc xs) ∷ (onward Down here (telling_message ioc xs) ∷ window_signal here x.window x'.window) in
      swaps-answers s t x' i 3 (own_at ptem_does here (message_in s i)) acts (sends given) none
      (subst (λ xs. Swaps s t i 3 (sent_of acts.sent) (sends xs)) is swaps)
      (omega (arith, above-own here (message_in s i) may.asked may.goes))
