-- Messages that are made in one block, and that the module sends on.
use Rattle.strm_ldterm.proofs.Prelude.{ℕ, ◌≡◌, ◌≤◌, ◌<◌, ◌+◌, ◌-◌, cond, eqb, true, false, List, [], ◌∷◌, ◌++◌, length, take, refl, sym, ap, subst}
use Rattle.strm_ldterm.proofs.Prelude.{◌∙◌, arith, inl, inr, nat_lt, nat_tests, take_all, sum_by-cons, data-shown, data_in, data-all, data-control}
use Rattle.strm_ldterm.proofs.Prelude.{stays-chain, held-changed, chunk-one, once-self, one-parts, one-chains, no-parts, none-chains}
use Rattle.strm_ldterm.specs.Prelude.{MsgKind, Data, Dir, Up, Fates, Note, Spot, plain, Acted, Fate, Parcel, tallied, is_data_kind, Message}
use Rattle.strm_ldterm.specs.Prelude.{data_message, direction_at, told_more, bare, lost, chunk_count, Block, Held, StoreValue, IsStore, IsInHand}
use Rattle.strm_ldterm.specs.Prelude.{IsFreshName, in_hand, list_at, held, changed, times_in, free_m, free_d, written, extended, token, bytes_of}
use Rattle.strm_ldterm.specs.Prelude.{data_bytes, MadeOf, TooFew, message_of, IsChain, Sent, once, AreIn, SameOwn, HasRoom, times_sent}
use Rattle.std.specs.Prelude.{min}
use Rattle.strm_types.specs.declared.kinds.MsgKind.TheVariants.{Stop}
use Rattle.strm_types.specs.declared.rules.Rule.{Rule}
use Rattle.strm_types.specs.Ldterms as ldterms
use Rattle.strm_blocks.specs.Blocks.{references, copy_of, filled_block, taken_by}
use Rattle.strm_blocks.specs.Outcomes.{Copied, NoneFree}
use Rattle.strm_blocks.proofs.Laws.{in_hand-held}
use Rattle.strm_msg.specs.Made.{copies_of, pieces}
use Rattle.strm_msg.proofs.Counts.{references-held, free_m-held, free_d-fresh}
use Rattle.strm_msg.proofs.MadePlain.{made-plain}
use Rattle.strm_msg.proofs.Making.{names-one}
use Rattle.strm_msg.proofs.Pieces.{length-pieces}
use Rattle.strm_ldterm.specs.Stands.{ldterm_in, owns, keeps, IsHeld, Paired}
use Rattle.strm_ldterm.specs.Does.{Proceeds}
use Rattle.strm_ldterm.specs.Frames.{ldterm-frame}
use Rattle.strm_ldterm.specs.Sending.{MadeOne}

-- there is room for one block
pub never-few : (s t : StoreValue) (n : ℕ) → n ≤ 256 → HasRoom s 1 → TooFew s t (chunk_count n) → ⊥
never-few s t n few room fails =
    let one = chunk-one n few in
    elim fails.few [ inl m ↦ absurd (let r = room.mblks in omega arith) | inr d ↦ absurd (let r = room.dblks in omega arith) ]

pub never-none : (s t : StoreValue) → HasRoom s 1 → NoneFree s t → ⊥
never-none s t room fails = elim fails.none [ inl m ↦ absurd (let r = room.mblks in omega arith) | inr d ↦ absurd (let r = room.dblks in omega arith) ]

pub made-bare : (s t : StoreValue) (i : ℕ) (kind : MsgKind) (bytes : List ℕ) → is_data_kind kind ≡ false → length bytes ≤ 256 → MadeOf s t i kind 0 bytes → MadeOne s t i (bare kind bytes)
made-bare s t i kind bytes none few m =
    let chain = copies_of m.made.numbers (pieces kind 0 bytes) in
    let here : in_hand t i ≡ chain = ap (λ v. in_hand v i) m.made.after ∙ in_hand-held s i chain in
    let long : length (pieces kind 0 bytes) ≡ 1 = length-pieces kind 0 bytes (chunk_count (length bytes)) ∙ chunk-one (length bytes) few in
    let plain = made-plain kind s t i bytes none m in
    record {
      fresh = m.made.fresh_name;
      after = m.made.after ∙ ap (λ c. held s i c) (sym here);
      room_m = ap (λ n. free_m t + n) (sym long) ∙ m.made.room_m;
      room_d = ap (λ n. free_d t + n) (sym long) ∙ m.made.room_d;
      chain = plain.one;
      shows = plain.is;
    }

-- one M_DATA block of band 0 that shows these bytes
append-none : (xs : List ℕ) → xs ++ [] ≡ xs
append-none [] = refl
append-none (x ∷ xs) = ap (λ ys. x ∷ ys) (append-none xs)

data-chain : (b : Block) → b.kind ≡ Data → b.band ≡ 0 → IsChain (b ∷ [])
data-chain b kind band = record {
  some = omega arith;
  all_data = λ k. (kind, tt);
  parted = λ control. absurd (let no = data-control b.kind kind in cc);
  high = λ high. band;
  low = omega (arith, band);
}

data-shows : (b : Block) → b.kind ≡ Data → b.band ≡ 0 → message_of (b ∷ []) ≡ data_message b.bytes
unfolding data_message
data-shows b kind band =
    data-shown (b ∷ []) (omega arith) kind ∙ ap (λ n. data_in n (data_bytes (b ∷ []))) band
    ∙ ap (λ xs. data_in 0 xs) (ap bytes_of (data-all (b ∷ []) (kind, tt)) ∙ append-none b.bytes)

made-data : (s t : StoreValue) (i : ℕ) (b : Block) → IsFreshName s i → b.number < s.dblks → references s b.number ≡ 0 → 0 < free_m s → t ≡ held s i (b ∷ []) → b.kind ≡ Data → b.band ≡ 0 → MadeOne s t i (data_message b.bytes)
made-data s t i b fresh exists none room after kind band =
    let here : in_hand t i ≡ b ∷ [] = ap (λ v. in_hand v i) after ∙ in_hand-held s i (b ∷ []) in
    record {
      fresh = fresh;
      after = after ∙ ap (λ c. held s i c) (sym here);
      room_m = ap (λ v. free_m v + 1) after ∙ free_m-held s i (b ∷ []) (omega arith);
      room_d = ap (λ v. free_d v + 1) after ∙ free_d-fresh s i b exists none;
      chain = subst IsChain (sym here) (data-chain b kind band);
      shows = ap (λ c. message_of c) here ∙ data-shows b kind band;
    }

-- Bytes are written into a new block, and others behind them, where all of them fit.
pub made-line : (s t u : StoreValue) (i n : ℕ) (line ending : List ℕ) → length line + length ending ≤ 256 → Copied s t i (filled_block Data 0 line) → n ≡ taken_by t (in_hand t i) (length ending)
    → u ≡ changed t i (extended (take n ending) (in_hand t i)) → MadeOne s u i (data_message (line ++ ending))
made-line s t u i n line ending few made count after =
    let copy = copy_of made.number (filled_block Data 0 line) in
    let here : in_hand t i ≡ copy ∷ [] = ap (λ v. in_hand v i) made.after ∙ in_hand-held s i (copy ∷ []) in
    let refs : references t made.number ≡ 1 =
    ap (λ v. references v made.number) made.after ∙ references-held s i (copy ∷ []) made.number ∙ (let one = names-one made.number copy in let none = made.fresh_number in let hit : eqb made.number made.number ≡ true = grind (arith, nat_tests) in let is = ap (λ v. cond {A = ℕ} v 1 0) hit in omega arith) in
    let all : n ≡ length ending =
    count ∙ ap (λ c. taken_by t c (length ending)) here ∙ ap (λ r. cond {A = ℕ} (nat_lt 1 r) 0 (min (length ending) (256 - length line))) refs ∙ (omega arith) in
    let chain : extended (take n ending) (in_hand t i) ≡ written ending copy ∷ [] =
    ap (λ c. extended (take n ending) c) here ∙ ap (λ xs. written xs copy ∷ []) (take_all n ending (omega arith)) in
    made-data s u i (written ending copy) made.fresh_name made.exists made.fresh_number made.room_m
    (after ∙ ap (λ v. changed v i (extended (take n ending) (in_hand t i))) made.after ∙ held-changed s i (copy ∷ []) (extended (take n ending) (in_hand t i)) ∙ ap (λ c. held s i c) chain) refl refl

-- a message that came
times-held : (s : StoreValue) (i : ℕ) (chain : List Block) (j : ℕ) → times_in j (held s i chain).hand ≡ once i j + times_in j s.hand
unfolding once
times-held s i chain j = sum_by-cons (λ (h : Held). cond (eqb h.name j) 1 0) (record { name = i; chain = chain }) s.hand

pub times-one : (i : ℕ) (z : Sent) (sent : List Sent) → sent ≡ z ∷ [] → times_sent i sent ≡ once (token z.message) i
unfolding times_sent
times-one i z sent one = let e = ap (times_sent i) one in omega arith

times-none : (i : ℕ) (sent : List Sent) → sent ≡ [] → times_sent i sent ≡ 0
unfolding times_sent
times-none i sent none = ap (times_sent i) none

-- what the module keeps is as it was, where a message was made
module _ (s t : StoreValue) (x : Paired) (i : ℕ) (m : Message ℕ) (made : MadeOne s t i m) where
  made-stays : (j : ℕ) → 0 < times_in j s.hand → in_hand t j ≡ in_hand s j
  made-stays j some =
      ap (λ v. in_hand v j) made.after ∙ stays-chain s i (in_hand t i) j (λ e. (let f = made.fresh in let w = ap (λ k. times_in k s.hand) e in absurd (omega arith)))

  pub made-same : AreIn s (λ _. 0) (keeps x) → SameOwn s t (owns x) (keeps x)
  made-same kept = record {
    lists = λ k some. ap (λ v. list_at v k) made.after;
    mblks = ap (λ v. v.mblks) made.after;
    dblks = ap (λ v. v.dblks) made.after;
    kept = λ j some. made-stays j (let a = kept.apart j in omega arith);
  }

-- The module has changed beside its lists and what it keeps, and one message was made that is sent on.
pub sends-made : (s t : StoreValue) (x y : Paired) (z : Sent) (sent : List Sent) (f f' : Fates) (m : Message ℕ) (to : Spot) (is : Acted ℕ (ldterms.Discipline ℕ)) → IsHeld s y → AreIn s (λ _. 0) (keeps y)
    → ((k : ℕ) → owns y k ≡ owns x k) → ((i : ℕ) → keeps y i ≡ keeps x i) → MadeOne s t (token z.message) m → sent ≡ z ∷ [] → z.to ≡ to → ldterm_in s y ≡ is.state → [] ≡ is.notes
    → ◌≡◌ {A = List (Parcel ℕ)} (record { to = to; message = m } ∷ []) is.sent → f' ≡ tallied is.gone f → Proceeds s t x y 1 [] sent f f' is
sends-made s t x y z sent f f' m to is holds kept own keep made one place state notes parcels told =
    let i = token z.message in
    let same = made-same s t y i m made kept in
    let framed = ldterm-frame s t y same holds in
    record {
      state = framed.0 ∙ state;
      noted = notes;
      parcels =
          one-parts t z sent one ∙ ap (λ (w : Message ℕ). record { to = z.to; message = w } ∷ []) made.shows
          ∙ ap (λ (w : Spot). record { to = w; message = m } ∷ []) place ∙ parcels;
      told = told;
      held = framed.1;
      own = record { lists = λ k none. ap (λ v. list_at v k) made.after; owns_same = own };
      chains = one-chains t z sent one made.chain;
      hands = record {
        counts = λ j.
            let a = ap (λ v. times_in j v.hand) made.after in
            let h = times-held s i (in_hand t i) j in
            let o = times-one j z sent one in
            let e = keep j in
            omega arith;
        others = λ j gone none some. made-stays s t y i m made j some;
      };
      mblks = (let r = made.room_m in omega arith);
      dblks = (let r = made.room_d in omega arith);
      pool = record { mblks = same.mblks; dblks = same.dblks };
    }

-- It has changed, and nothing is sent.
pub sends-none : (s : StoreValue) (x y : Paired) (sent : List Sent) (f f' : Fates) (takes : ℕ) (is : Acted ℕ (ldterms.Discipline ℕ)) → IsHeld s y → ((k : ℕ) → owns y k ≡ owns x k) → ((i : ℕ) → keeps y i ≡ keeps x i)
    → sent ≡ [] → ldterm_in s y ≡ is.state → [] ≡ is.notes → [] ≡ is.sent → f' ≡ tallied is.gone f → Proceeds s s x y takes [] sent f f' is
sends-none s x y sent f f' takes is holds own keep none state notes parcels told = record {
  state = state;
  noted = notes;
  parcels = no-parts s sent none ∙ parcels;
  told = told;
  held = holds;
  own = record { lists = λ k none. refl; owns_same = own };
  chains = none-chains s sent none;
  hands = record { counts = λ j. let o = times-none j sent none in let e = keep j in omega arith; others = λ j gone none some. refl };
  mblks = omega arith;
  dblks = omega arith;
  pool = record { mblks = refl; dblks = refl };
}

-- whether output is stopped, and the line, are beside what it holds
pub held-stopped : (s : StoreValue) (x : Paired) → IsHeld s x → IsHeld s (record x { stopped = true })
held-stopped s x h = record { read = h.read; write = h.write; apart = h.apart; work = h.work; gathers = h.gathers; echoes = h.echoes; once_each = h.once_each }

pub held-line : (s : StoreValue) (x : Paired) (line : List ℕ) → IsHeld s x → IsHeld s (record x { line = line })
held-line s x line h = record { read = h.read; write = h.write; apart = h.apart; work = h.work; gathers = h.gathers; echoes = h.echoes; once_each = h.once_each }

-- what a key tells beside what is sent
pub tells : (s t : StoreValue) (x y : Paired) (takes : ℕ) (sent : List Sent) (f f' : Fates) (is : Acted ℕ (ldterms.Discipline ℕ)) (gone : List (Fate ℕ)) → Proceeds s t x y takes [] sent f f is → f' ≡ tallied gone f
    → Proceeds s t x y takes [] sent f f' (record is { gone = gone })
tells s t x y takes sent f f' is gone did told = record {
  state = did.state;
  noted = did.noted;
  parcels = did.parcels;
  told = told;
  held = did.held;
  own = did.own;
  chains = did.chains;
  hands = did.hands;
  mblks = did.mblks;
  dblks = did.dblks;
  pool = did.pool;
}

-- Behind a stage of a turn: what is kept is in hand, what was sent is beside it, and what wasn't taken is free.
module _ (s t : StoreValue) (x y : Paired) (takes : ℕ) (notes : List Note) (sent : List Sent) (f f' : Fates) (is : Acted ℕ (ldterms.Discipline ℕ)) (did : Proceeds s t x y takes notes sent f f' is) where
  pub proceeds-kept : AreIn s (λ _. 0) (keeps x) → AreIn t (λ _. 0) (keeps y)
  proceeds-kept kept = record { apart = λ i. let c = did.hands.counts i in let a = kept.apart i in omega arith }

  pub proceeds-sent : AreIn s (λ _. 0) (keeps x) → (i : ℕ) → times_sent i sent ≤ times_in i t.hand
  proceeds-sent kept i = let c = did.hands.counts i in let a = kept.apart i in omega arith

  pub proceeds-room : (n more : ℕ) → takes + more ≤ n → HasRoom s n → HasRoom t more
  proceeds-room n more few room = record { mblks = (let r = room.mblks in let d = did.mblks in omega arith); dblks = (let r = room.dblks in let d = did.dblks in omega arith) }

-- the first message that is sent is in hand
pub first-in_hand : (s : StoreValue) (sent rest : List Sent) (z : Sent) → IsStore s → sent ≡ z ∷ rest → ((i : ℕ) → times_sent i sent ≤ times_in i s.hand) → IsInHand s (token z.message)
unfolding times_sent
first-in_hand s sent rest z st first within =
    let i = token z.message in
    let e = ap (times_sent i) first in let some = within i in let few = st.apart i in let one = once-self i in
    omega arith

pub stop-plain : is_data_kind Stop ≡ false
unfolding is_data_kind
stop-plain = refl

-- a key goes by its rule
pub key-told : (here : Spot) (rule : Rule) (byte : ℕ) (d : Dir) (f f' : Fates) → f' ≡ told_more d rule 1 f → d ≡ direction_at Up here.side → f' ≡ tallied (lost plain here rule (byte ∷ [])) f
key-told here rule byte d f f' told is = told ∙ ap (λ d. told_more d rule 1 f) is
