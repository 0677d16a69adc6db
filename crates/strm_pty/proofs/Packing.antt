-- Puts at pckt, step by step.
use Rattle.strm_pty.proofs.Prelude.{ℕ, suc, ◌≡◌, ◌≢◌, ◌≤◌, ◌+◌, Bool, true, false, cond, List, [], ◌∷◌, ◌++◌, length, refl, sym, ap, subst, ◌∙◌}
use Rattle.strm_pty.proofs.Prelude.{arith, false≢true, sum_by-cons, IsInHand-dropped, in_hand-changed, in_hand-changed_other, in_hand-dropped}
use Rattle.strm_pty.proofs.Prelude.{total-changed, total-dropped, used-is, free_m-is, references-is, kind-is, changed-in_hand, held-apart, held-chain}
use Rattle.strm_pty.proofs.Prelude.{held-is, stays, stays-chain, times-replaced, retyped-length, one-chains, one-parts, shifts-as, shifts-both}
use Rattle.strm_pty.proofs.Prelude.{shifts-freed}
use Rattle.strm_pty.specs.Prelude.{MsgKind, Up, Fates, Spot, cells_made, plain, Acted, Parcel, tallied, toward, onward, is_data_kind, asked_by}
use Rattle.strm_pty.specs.Prelude.{is_flush, kind_number, Message, is_held, is_packed, is_stop_or_start, pckt_packs, writers_flush, Block, StoreValue}
use Rattle.strm_pty.specs.Prelude.{IsStore, IsInHand, block_at, in_hand, dropped, changed, times_in, copy_of, filled_block, names_of, references}
use Rattle.strm_pty.specs.Prelude.{total, used, token, Copied, message_of, IsChain, retyped, FreesNone, Acts, Sent, once, Shifts, message_in, sent_of}
use Rattle.strm_pty.specs.Prelude.{times_sent}
use Rattle.std.proofs.Common.{zero, ◌==◌}
use Rattle.strm_types.specs.declared.kinds.MsgKind.TheVariants as kinds
use Rattle.strm_types.specs.declared.names.Dir.{Dir}
use Rattle.strm_types.specs.Costs.{packet_blocks}
use Rattle.strm_types.specs.Pckts.{Pckt, flush_passed, is_flush_passed}
use Rattle.strm_types.specs.Rules.{made_more}
use Rattle.strm_types.proofs.MadeCells.{made-long}
use Rattle.strm_blocks.proofs.Laws.{free_d-same}
use Rattle.strm_msg.proofs.Hands.{dropped-changed}
use Rattle.strm_msg.proofs.Making.{Made-one}
use Rattle.strm_pty.specs.Does.{Makes, Swaps}
use Rattle.strm_pty.specs.Packs.{Becomes, Packs, packet_of}
use Rattle.strm_pty.proofs.Doing.{can-of, swaps-both, times-held, times-one}
use Rattle.strm_pty.proofs.Packed.{alone-chain, alone-shown, full-chain, full-shown}

-- M_DATA and M_PROTO have a data part in their packet, and aren't M_FLUSH
held-full : (kind : MsgKind) → is_held kind ≡ true → is_stop_or_start kind ≡ false
unfolding is_held
held-full kinds.Data is = refl
held-full kinds.Proto is = refl
held-full _ is = absurd (cc)

held-alone : (kind : MsgKind) (bytes : List ℕ) → is_held kind ≡ true → is_flush_passed kind bytes ≡ false
unfolding is_held
held-alone kinds.Data bytes is = refl
held-alone kinds.Proto bytes is = refl
held-alone _ bytes is = absurd (cc)

-- another kind leaves the data blocks
names-retyped : (n : ℕ) (kind : MsgKind) (chain : List Block) (d : ℕ) → names_of d (retyped n kind chain) ≡ names_of d chain
names-retyped zero kind chain d = refl
names-retyped (suc n) kind [] d = refl
names-retyped (suc n) kind (b ∷ chain) d =
    let old = sum_by-cons (λ (x : Block). cond (x.number == d) 1 0) b chain in
    let new = sum_by-cons (λ (x : Block). cond (x.number == d) 1 0) (record b { kind = kind }) (retyped n kind chain) in
    let rest = names-retyped n kind chain d in
    omega arith

-- A block came beside a message in hand.
module _ (s t : StoreValue) (i f : ℕ) (b : Block) (is : IsInHand s i) (st : IsStore t) (copied : Copied s t f b) where
  abbrev front : Block
  front = copy_of copied.number b

  apart : f ≢ i
  apart = held-apart s f (front ∷ []) i copied.fresh_name is

  pub still-there : IsInHand t i
  still-there = ap (λ v. times_in i v.hand) copied.after ∙ stays s f (front ∷ []) i copied.fresh_name is

  pub still-chain : in_hand t i ≡ in_hand s i
  still-chain = ap (λ v. in_hand v i) copied.after ∙ stays-chain s f (front ∷ []) i apart

  pub front-there : IsInHand t f
  front-there = ap (λ v. times_in f v.hand) copied.after ∙ held-is s f (front ∷ []) copied.fresh_name

  pub front-is : in_hand t f ≡ front ∷ []
  front-is = ap (λ v. in_hand v f) copied.after ∙ held-chain s f (front ∷ [])

  shifts-front : Shifts s t (λ _. 0) (once f) 1
  shifts-front =
      let made = Made-one copied in
      record {
        counts = λ j. let a = ap (λ v. times_in j v.hand) copied.after in let h = times-held s f (front ∷ []) j in omega arith;
        others = λ j none some. ap (λ v. in_hand v j) copied.after ∙ stays-chain s f (front ∷ []) j (λ e. (let fresh = copied.fresh_name in let w = ap (λ k. times_in k s.hand) e in absurd (omega arith)));
        mblks = (let r = made.room_m in omega arith);
        dblks = (let r = made.room_d in omega arith);
        pool = record { mblks = ap (λ v. v.mblks) copied.after; dblks = ap (λ v. v.dblks) copied.after };
      }

  -- the message goes
  pub shifts-alone : Shifts s (dropped t i) (once i) (once f) 1
  shifts-alone = shifts-as s (dropped t i) (λ j. 0 + once i j) (λ j. once f j + 0) (once i) (once f) (1 + 0) 1
      (shifts-both s t (dropped t i) (λ _. 0) (once f) (once i) (λ _. 0) 1 0 shifts-front (shifts-freed t i st (can-of t i still-there))) (λ j. omega arith) (λ j. omega arith) (omega arith)

  pub alone-is : in_hand (dropped t i) f ≡ front ∷ []
  alone-is = in_hand-dropped t i f (λ e. apart (sym e)) ∙ front-is

  -- or it is hung behind the block, so many of its blocks with another kind
  module _ (n : ℕ) (kind : MsgKind) where
    abbrev left : StoreValue
    left = dropped t i

    abbrev behind : List Block
    behind = retyped n kind (in_hand s i)

    abbrev pub joined : StoreValue
    joined = changed left f (front ∷ behind)

    left-there : IsInHand left f
    left-there = IsInHand-dropped t i f (λ e. apart (sym e)) front-there

    pub joined-is : in_hand joined f ≡ front ∷ behind
    joined-is = in_hand-changed left f (front ∷ behind) left-there

    -- as many blocks are in use, and the same ones
    sum-same : (weigh : List Block → ℕ) → weigh (front ∷ behind) ≡ weigh (front ∷ []) + weigh behind → weigh behind ≡ weigh (in_hand s i) → total weigh joined ≡ total weigh t
    sum-same weigh parts same =
        let a = total-changed weigh left f (front ∷ behind) left-there in
        let b = total-dropped weigh t i still-there in
        let c = ap weigh alone-is in
        let d = ap weigh still-chain in
        omega arith

    used-same : used joined ≡ used t
    used-same =
        let long = retyped-length n kind (in_hand s i) in
        used-is joined ∙ sum-same (λ c. length c) (omega arith) long ∙ sym (used-is t)

    references-same : (d : ℕ) → references joined d ≡ references t d
    references-same d =
        let all = sum_by-cons (λ (x : Block). cond (x.number == d) 1 0) front behind in
        let one = sum_by-cons (λ (x : Block). cond (x.number == d) 1 0) front [] in
        references-is joined d ∙ sum-same (names_of d) (omega arith) (names-retyped n kind (in_hand s i) d) ∙ sym (references-is t d)

    pub shifts-joined : Shifts s joined (once i) (once f) 1
    shifts-joined = record {
      counts = λ j. let a = shifts-alone.counts j in let r = times-replaced f j (front ∷ behind) left.hand in omega arith;
      others = λ j none some.
          in_hand-changed_other left f j (front ∷ behind) (λ e. (let fresh = copied.fresh_name in let w = ap (λ k. times_in k s.hand) e in absurd (omega arith)))
          ∙ shifts-alone.others j none some;
      mblks = (let a = shifts-front.mblks in let m = free_m-is joined in let n = free_m-is t in let u = used-same in omega arith);
      dblks = (let a = shifts-front.dblks in let d = free_d-same t joined refl references-same in omega arith);
      pool = record { mblks = shifts-alone.pool.mblks; dblks = shifts-alone.pool.dblks };
    }

    -- and none has become free
    pub joined-none : FreesNone s joined
    joined-none =
        let made = Made-one copied in (
          (let r = made.room_m in let m = free_m-is joined in let n = free_m-is t in let u = used-same in omega arith),
          (let r = made.room_d in let d = free_d-same t joined refl references-same in omega arith),
        )

    -- that is what the calls lead to
    pub joined-after : (u v : StoreValue) → u ≡ changed t i (retyped n kind (in_hand t i)) → v ≡ changed (dropped u i) f (in_hand u f ++ in_hand u i) → v ≡ joined
    joined-after u v typed linked =
        let now : u ≡ changed t i behind = typed ∙ ap (λ c. changed t i (retyped n kind c)) still-chain in
        let first : in_hand u f ≡ front ∷ [] = ap (λ w. in_hand w f) now ∙ in_hand-changed_other t i f behind (λ e. apart (sym e)) ∙ front-is in
        let second : in_hand u i ≡ behind = ap (λ w. in_hand w i) now ∙ in_hand-changed t i behind still-there in
        linked ∙ ap (λ c. changed (dropped u i) f (c ++ in_hand u i)) first ∙ ap (λ c. changed (dropped u i) f (front ∷ c)) second
        ∙ ap (λ w. changed (dropped w i) f (front ∷ behind)) now ∙ ap (λ w. changed w f (front ∷ behind)) (dropped-changed t i behind)

-- A message in hand became its packet. The block has its band, and the number of its kind.
module _ (s t : StoreValue) (i f : ℕ) (is : IsInHand s i) (one : IsChain (in_hand s i)) (st : IsStore t) (band byte : ℕ) (kind : MsgKind)
    (came : Copied s t f (filled_block kinds.Proto band (byte ∷ []))) (band_is : band ≡ (block_at 0 (in_hand s i)).band) (byte_is : byte ≡ kind_number kind) (kind_is : kind ≡ (block_at 0 (in_hand s i)).kind) where
  abbrev first : Block
  first = block_at 0 (in_hand s i)

  copied : Copied s t f (filled_block kinds.Proto first.band (kind_number first.kind ∷ []))
  copied =
      subst (λ k. Copied s t f (filled_block kinds.Proto k (kind_number first.kind ∷ []))) band_is
      (subst (λ k. Copied s t f (filled_block kinds.Proto band (k ∷ []))) (byte_is ∙ ap kind_number kind_is) came)

  pub became-alone : (u : StoreValue) (here : Spot) → is_stop_or_start kind ≡ true → u ≡ dropped t i → Becomes s u i f (packet_of here (message_in s i))
  became-alone u here stops freed =
      let b = filled_block kinds.Proto first.band (kind_number first.kind ∷ []) in
      let alone : in_hand (dropped t i) f ≡ copy_of copied.number b ∷ [] = alone-is s t i f b is st copied in
      subst (λ v. Becomes s v i f (packet_of here (message_in s i))) (sym freed) (record {
        lists = ap (λ v. v.lists) copied.after;
        hands = shifts-alone s t i f b is st copied;
        blocks = λ held. absurd (false≢true (sym (held-full (message_in s i).kind held) ∙ ap is_stop_or_start (kind-is (in_hand s i) ∙ sym kind_is) ∙ stops));
        chain = subst IsChain (sym alone) (alone-chain (in_hand s i) one here copied.number);
        shows = ap message_of alone ∙ alone-shown (in_hand s i) one here copied.number (ap is_stop_or_start (sym kind_is) ∙ stops);
      })

  -- the block may be hung in front
  pub both-there : (u : StoreValue) (n : ℕ) (new : MsgKind) → u ≡ changed t i (retyped n new (in_hand t i)) → IsInHand u f × IsInHand u i
  both-there u n new typed =
      let b = filled_block kinds.Proto first.band (kind_number first.kind ∷ []) in
      let chain = retyped n new (in_hand t i) in
      (subst (λ v. IsInHand v f) (sym typed) (changed-in_hand t i chain f (front-there s t i f b is st copied)), subst (λ v. IsInHand v i) (sym typed) (changed-in_hand t i chain i (still-there s t i f b is st copied)))

  pub there-apart : f ≢ i
  there-apart = held-apart s f [] i copied.fresh_name is

  pub became-full : (u v : StoreValue) (n : ℕ) (here : Spot) → is_stop_or_start kind ≡ false → n ≡ length (in_hand t i) → u ≡ changed t i (retyped n kinds.Data (in_hand t i))
      → v ≡ changed (dropped u i) f (in_hand u f ++ in_hand u i) → Becomes s v i f (packet_of here (message_in s i))
  became-full u v n here other long typed linked =
      let b = filled_block kinds.Proto first.band (kind_number first.kind ∷ []) in
      let whole : n ≡ length (in_hand s i) = long ∙ ap (λ c. length c) (still-chain s t i f b is st copied) in
      let all : in_hand (joined s t i f b is st copied n kinds.Data) f ≡ copy_of copied.number b ∷ retyped (length (in_hand s i)) kinds.Data (in_hand s i) =
      joined-is s t i f b is st copied n kinds.Data ∙ ap (λ k. copy_of copied.number b ∷ retyped k kinds.Data (in_hand s i)) whole in
      subst (λ w. Becomes s w i f (packet_of here (message_in s i))) (sym (joined-after s t i f b is st copied n kinds.Data u v typed linked)) (record {
        lists = ap (λ v. v.lists) copied.after;
        hands = shifts-joined s t i f b is st copied n kinds.Data;
        blocks = λ held. joined-none s t i f b is st copied n kinds.Data;
        chain = subst IsChain (sym all) (full-chain (in_hand s i) one here copied.number);
        shows = ap message_of all ∙ full-shown (in_hand s i) one here copied.number (ap is_stop_or_start (sym kind_is) ∙ other);
      })

-- it is sent on
pub becomes-swaps : (s t : StoreValue) (i : ℕ) (x : Sent) (p : Parcel ℕ) → Becomes s t i (token x.message) p.message → x.to ≡ p.to → Swaps s t i 1 (x ∷ []) (p ∷ [])
becomes-swaps s t i x p became place = record {
  lists = became.lists;
  hands = shifts-as s t (once i) (once (token x.message)) (once i) (λ j. times_sent j (x ∷ [])) 1 1 became.hands (λ j. refl) (λ j. let o = times-one j x (x ∷ []) refl in omega arith) (omega arith);
  sent = one-parts t x (x ∷ []) refl ∙ ap (λ (m : Message ℕ). record { to = x.to; message = m } ∷ []) became.shows ∙ ap (λ (to : Spot). record { to = to; message = p.message } ∷ []) place;
  chains = one-chains t x (x ∷ []) refl became.chain;
}

-- and so is a message that passes
pub passes-swaps : (s : StoreValue) (x : Sent) (sent : List Sent) (here : Spot) → sent ≡ x ∷ [] → x.to ≡ toward here.way here → IsChain (in_hand s (token x.message))
    → Swaps s s (token x.message) 0 sent (onward here.way here (message_in s (token x.message)) ∷ [])
passes-swaps s x sent here is place chain = record {
  lists = refl;
  hands = record { counts = λ j. let o = times-one j x sent is in omega arith; others = λ j none some. refl; mblks = omega arith; dblks = omega arith; pool = record { mblks = refl; dblks = refl } };
  sent = one-parts s x sent is ∙ ap (λ (to : Spot). record { to = to; message = message_in s (token x.message) } ∷ []) place;
  chains = one-chains s x sent is chain;
}

swaps-as : (s t : StoreValue) (i n k : ℕ) (a b : List Sent) (ps qs : List (Parcel ℕ)) → Swaps s t i n a ps → b ≡ a → ps ≡ qs → n ≡ k → Swaps s t i k b qs
swaps-as s t i n k a b ps qs swaps same is takes = subst (λ m. Swaps s t i m b qs) takes (subst (λ xs. Swaps s t i n b xs) is (subst (λ xs. Swaps s t i n xs ps) (sym same) swaps))

-- what is told of the bytes that are made
pub told-made : (dir dir' : Dir) (n : ℕ) (bytes : List ℕ) (f f' : Fates) → f' ≡ made_more dir n f → dir ≡ dir' → n ≡ suc (length bytes) → f' ≡ made_more dir' (suc (length (cells_made plain dir' 1 bytes))) f
told-made dir dir' n bytes f f' told same many = told ∙ ap (λ d. made_more d n f) same ∙ ap (λ k. made_more dir' k f) (many ∙ ap suc (sym (made-long plain dir' 1 bytes)))

-- by the kind of a message
pub is-flush : (kind : MsgKind) → is_flush kind ≡ true → kind ≡ kinds.Flush
is-flush kinds.Flush is = refl
is-flush _ is = absurd (cc)

pub flush-packed : (kind : MsgKind) → is_flush kind ≡ true → is_packed kind ≡ true
flush-packed kinds.Flush is = refl
flush-packed _ is = absurd (cc)

pub flush-goes : (kind : MsgKind) (bytes : List ℕ) → is_flush kind ≡ true → is_flush_passed kind bytes ≡ (asked_by bytes).for_write
flush-goes kinds.Flush bytes is = refl
flush-goes _ bytes is = absurd (cc)

pub others-stay : (kind : MsgKind) (bytes : List ℕ) → is_flush kind ≡ false → is_flush_passed kind bytes ≡ false
others-stay kinds.Flush bytes is = absurd (cc)
others-stay _ bytes is = refl

pub flush-plain : (kind : MsgKind) → is_flush kind ≡ true → is_data_kind kind ≡ false
unfolding is_data_kind
flush-plain kinds.Flush is = refl
flush-plain _ is = absurd (cc)

module _ (kind : MsgKind) (bytes : List ℕ) (packed : is_packed kind ≡ true) where
  pub takes-some : 1 ≤ packet_blocks kind bytes
  takes-some = subst (λ b. 1 ≤ cond b (cond (is_flush_passed kind bytes) 2 1) 0) (sym packed) (at (is_flush_passed kind bytes))
    where
      at : (goes : Bool) → 1 ≤ cond goes 2 1
      at true = omega arith
      at false = omega arith

  pub takes-one : is_flush_passed kind bytes ≡ false → 1 ≡ packet_blocks kind bytes
  takes-one stays = sym (ap (λ b. cond b (cond (is_flush_passed kind bytes) 2 1) 0) packed ∙ ap (λ b. cond {A = ℕ} b 2 1) stays)

  pub takes-two : is_flush_passed kind bytes ≡ true → 2 ≡ packet_blocks kind bytes
  takes-two goes = sym (ap (λ b. cond b (cond (is_flush_passed kind bytes) 2 1) 0) packed ∙ ap (λ b. cond {A = ℕ} b 2 1) goes)

-- The packet is sent, alone or with what is passed of an M_FLUSH.
module _ (s t : StoreValue) (i : ℕ) (here : Spot) (x : Sent) (acts : Acts) (f f' : Fates) (packed : is_packed (message_in s i).kind ≡ true)
    (sends : Swaps s t i 1 (x ∷ []) (onward Up here (packet_of here (message_in s i)) ∷ [])) (blocks : is_held (message_in s i).kind ≡ true → FreesNone s t) (none : acts.notes.items ≡ []) where
  abbrev m : Message ℕ
  m = message_in s i

  abbrev says : Acted ℕ Pckt
  says = pckt_packs plain 0 here m

  abbrev sent_with : List (Parcel ℕ) → List (Parcel ℕ)
  sent_with passed = onward Up here (packet_of here m) ∷ passed

  pub packs-one : is_flush_passed m.kind m.plain ≡ false → sent_of acts.sent ≡ x ∷ [] → f' ≡ tallied says.gone f → Packs s t i (packet_blocks m.kind m.plain) acts f f' says
  packs-one stays one told = record {
    notes = none;
    told = told;
    swaps = swaps-as s t i 1 (packet_blocks m.kind m.plain) (x ∷ []) (sent_of acts.sent) (sent_with []) (sent_with (flush_passed here m.kind m.plain)) sends one
        (ap (λ b. sent_with (cond b (writers_flush here (asked_by m.plain) ∷ []) [])) (sym stays)) (takes-one m.kind m.plain packed stays);
    blocks = blocks;
  }

  pub packs-two : (u : StoreValue) (y : Sent) → IsInHand s i → Makes t u 1 (y ∷ []) (writers_flush here (asked_by m.plain) ∷ []) → is_flush_passed m.kind m.plain ≡ true → sent_of acts.sent ≡ x ∷ y ∷ []
      → f' ≡ tallied says.gone f → Packs s u i (packet_blocks m.kind m.plain) acts f f' says
  packs-two u y is makes goes two told = record {
    notes = none;
    told = told;
    swaps = swaps-as s u i (1 + 1) (packet_blocks m.kind m.plain) (x ∷ y ∷ []) (sent_of acts.sent) (sent_with (writers_flush here (asked_by m.plain) ∷ [])) (sent_with (flush_passed here m.kind m.plain))
        (swaps-both s t u i 1 1 (x ∷ []) (y ∷ []) (sent_with []) (writers_flush here (asked_by m.plain) ∷ []) is sends makes) two
        (ap (λ b. sent_with (cond b (writers_flush here (asked_by m.plain) ∷ []) [])) (sym goes)) (takes-two m.kind m.plain packed goes);
    blocks = λ held. absurd (false≢true (sym (held-alone m.kind m.plain held) ∙ goes));
  }

-- the same in other words
pub packs-as : (s t : StoreValue) (i n k : ℕ) (acts : Acts) (f f' : Fates) (is is' : Acted ℕ Pckt) → Packs s t i n acts f f' is → n ≡ k → is ≡ is' → Packs s t i k acts f f' is'
packs-as s t i n k acts f f' is is' packs takes same = subst (λ m. Packs s t i m acts f f' is') takes (subst (λ does. Packs s t i n acts f f' does) same packs)

-- what is not packed takes nothing
pub takes-none : (kind : MsgKind) (bytes : List ℕ) → is_packed kind ≡ false → 0 ≡ packet_blocks kind bytes
takes-none kind bytes other = sym (ap (λ b. cond b (cond (is_flush_passed kind bytes) 2 1) 0) other)

-- a test of the kind of a message in hand
pub kind-test : (test : MsgKind → Bool) (s : StoreValue) (i : ℕ) (kind : MsgKind) (said v : Bool) → kind ≡ (block_at 0 (in_hand s i)).kind → said ≡ test kind → said ≡ v → test (message_in s i).kind ≡ v
kind-test test s i kind said v kind_is says is = ap test (kind-is (in_hand s i) ∙ sym kind_is) ∙ sym says ∙ is
