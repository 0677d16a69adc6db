-- A chain whose blocks without bytes were freed is what the plain message leaves.
use Rattle.strm_head.proofs.Prelude.{ℕ, ◌≡◌, ◌<◌, inl, inr, Bool, true, false, cond, List, [], ◌∷◌, ◌++◌, length, refl, sym, ap, subst, ◌∙◌, arith}
use Rattle.strm_head.proofs.Prelude.{append-nil, length-append, None, nat_lt, unwrap_or, Option, nil_from_length, control-none, control-front}
use Rattle.strm_head.proofs.Prelude.{data-all, data-behind, data-control, data_in}
use Rattle.strm_head.specs.Prelude.{MsgKind, is_data_kind, is_control_kind, Message, part, band_of, is_high_priority, part_left, rest_with, Block}
use Rattle.strm_head.specs.Prelude.{block_at, bytes_of, control_blocks, data_blocks, control_bytes, data_bytes, length_of_part, without_emptied}
use Rattle.strm_head.specs.Prelude.{message_of, part_of, AreData, IsChain}
use Rattle.std.specs.Prelude.{Some}
use Rattle.std.specs.List.{AllByRecursion}
use Rattle.std.proofs.Math.Decide.{dec_le}
use Rattle.std.proofs.lemmas.List.Elements.{filter-append}
use Rattle.strm_types.specs.declared.kinds.MsgKind.TheVariants as kinds
use Rattle.strm_blocks.specs.Blocks.{banded}
use Rattle.strm_msg.specs.Emptied.{filled_blocks}
use Rattle.strm_msg.specs.Messages.{IsParted}
use Rattle.strm_msg.proofs.AdjustingBytes.{bytes-append}
use Rattle.strm_msg.proofs.Chains.{data-or-control}
use Rattle.strm_msg.proofs.Chains.{data-shown}
use Rattle.strm_msg.proofs.Filled.{filled-bytes, filled-goes}
use Rattle.strm_head.proofs.Seen.{parts-shown}

-- blocks of one kind
abbrev pub Of : MsgKind → List Block → Type 0
Of kind blocks = AllByRecursion (λ b. b.kind ≡ kind) blocks

control-data : (k : MsgKind) → is_control_kind k ≡ true → is_data_kind k ≡ true
unfolding is_data_kind is_control_kind
control-data kinds.Proto is = refl
control-data kinds.Pcproto is = refl
control-data _ is = absurd (cc)

pub data-low : is_high_priority kinds.Data ≡ true → ⊥
unfolding is_high_priority
data-low is = absurd (cc)

pub first-kind : (k : MsgKind) (front behind : List Block) → 0 < length front → Of k front → (block_at 0 (front ++ behind)).kind ≡ k
first-kind k [] behind some all = absurd (omega arith)
first-kind k (x ∷ front) behind some all = all.0

-- parts
pub part-bytes : (blocks : List Block) → part (part_of blocks) ≡ bytes_of blocks
part-bytes [] = refl
part-bytes (x ∷ blocks) = refl

part-some : (blocks : List Block) → 0 < length blocks → part_of blocks ≡ Some (bytes_of blocks)
part-some [] some = absurd (omega arith)
part-some (x ∷ blocks) some = refl

left-some : (bytes : List ℕ) → 0 < length bytes → part_left bytes ≡ Some bytes
left-some [] some = absurd (omega arith)
left-some (b ∷ bytes) some = refl

rest-control : (control body : List ℕ) (m : Message ℕ) → 0 < length control → rest_with control body m ≡ record m { control = Some control; body = part_left body }
rest-control [] body m some = absurd (omega arith)
rest-control (c ∷ control) body m some = refl

pub band-same : (m : Message ℕ) → (is_high_priority m.kind ≡ true → m.band ≡ 0) → band_of m ≡ m.band
unfolding band_of
band-same m high = at (is_high_priority m.kind) high
  where
    at : (b : Bool) → (b ≡ true → m.band ≡ 0) → cond b 0 m.band ≡ m.band
    at true is = sym (is refl)
    at false is = refl

pub band-low : (band : ℕ) (bytes : List ℕ) → band_of (data_in band bytes) ≡ band
band-low band bytes = band-same (data_in band bytes) (λ high. absurd (data-low high))

-- how many bytes a part has
pub part-length : (blocks : List Block) → unwrap_or (length_of_part blocks) 0 ≡ length (bytes_of blocks)
part-length [] = refl
part-length (x ∷ blocks) = refl

-- a message with both parts
abbrev pub parts_in : MsgKind → ℕ → List ℕ → Option (List ℕ) → Message ℕ
parts_in k band control body = record { kind = k; band = band; control = Some control; body = body; plain = [] }

module _ (k : MsgKind) (front behind : List Block) (some : 0 < length front) (is : is_control_kind k ≡ true) (of_kind : Of k front) (of_data : AreData behind) where
  pub both-message : message_of (front ++ behind) ≡ parts_in k (block_at 0 (front ++ behind)).band (bytes_of front) (part_of behind)
  both-message =
      let chain = front ++ behind in
      let kind = first-kind k front behind some of_kind in
      parts-shown chain (ap is_data_kind kind ∙ control-data k is)
      ∙ ap (λ kk. record { kind = kk; band = (block_at 0 chain).band; control = part_of (control_blocks chain); body = part_of (data_blocks chain); plain = [] }) kind
      ∙ ap (λ xs. record { kind = k; band = (block_at 0 chain).band; control = part_of xs; body = part_of (data_blocks chain); plain = [] }) (control-front k front behind is of_kind of_data)
      ∙ ap (λ o. record { kind = k; band = (block_at 0 chain).band; control = o; body = part_of (data_blocks chain); plain = [] }) (part-some front some)
      ∙ ap (λ xs. parts_in k (block_at 0 chain).band (bytes_of front) (part_of xs)) (data-behind k front behind is of_kind of_data)

  pub both-chain : (is_high_priority k ≡ true → (block_at 0 (front ++ behind)).band ≡ 0) → (block_at 0 (front ++ behind)).band < 256 → IsChain (front ++ behind)
  both-chain high low =
      let kind = first-kind k front behind some of_kind in
      record {
        some = omega (arith, some, length-append front behind);
        all_data = λ m_data. absurd (let no : is_control_kind k ≡ false = data-control k (sym kind ∙ m_data) in cc);
        parted = λ control. record { front = front; behind = behind; joined = refl; some = some; of_kind = subst (λ kk. Of kk front) (sym kind) of_kind; of_data = of_data };
        high = λ up. high (ap is_high_priority (sym kind) ∙ up);
        low = low;
      }

-- or one of M_DATA blocks alone
module _ (blocks : List Block) (some : 0 < length blocks) (all : AreData blocks) where
  data-kind : (block_at 0 blocks).kind ≡ kinds.Data
  data-kind = ap (λ xs. (block_at 0 xs).kind) (sym (append-nil blocks)) ∙ first-kind kinds.Data blocks [] some all

  pub data-message : message_of blocks ≡ data_in (block_at 0 blocks).band (bytes_of blocks)
  data-message = data-shown blocks some data-kind ∙ ap (λ xs. data_in (block_at 0 blocks).band (bytes_of xs)) (data-all blocks all)

  data-chain : (block_at 0 blocks).band < 256 → IsChain blocks
  data-chain low = record {
    some = some;
    all_data = λ m_data. all;
    parted = λ control. absurd (let no : is_control_kind (block_at 0 blocks).kind ≡ false = data-control (block_at 0 blocks).kind data-kind in cc);
    high = λ up. absurd (data-low (ap is_high_priority (sym data-kind) ∙ up));
    low = low;
  }

-- the blocks that show bytes
filled-of : (k : MsgKind) (blocks : List Block) → Of k blocks → Of k (filled_blocks blocks)
filled-of k [] all = tt
filled-of k (x ∷ blocks) all = at (filled-of k blocks all.1) (nat_lt 0 (length x.bytes))
  where
    at : Of k (filled_blocks blocks) → (v : Bool) → Of k (cond v (x ∷ filled_blocks blocks) (filled_blocks blocks))
    at rest true = (all.0, rest)
    at rest false = rest

filled-more : (blocks : List Block) → 0 < length (bytes_of blocks) → 0 < length (filled_blocks blocks)
filled-more blocks some = at (filled_blocks blocks) (filled-bytes blocks)
  where
    at : (xs : List Block) → bytes_of xs ≡ bytes_of blocks → 0 < length xs
    at [] same = absurd (omega (arith, some, ap length same))
    at (x ∷ xs) same = omega arith

filled-none : (blocks : List Block) → length (bytes_of blocks) ≡ 0 → filled_blocks blocks ≡ []
filled-none [] none = refl
filled-none (x ∷ blocks) none =
    let both = length-append x.bytes (bytes_of blocks) in
    filled-goes x blocks (omega (arith, none, both)) ∙ filled-none blocks (omega (arith, none, both))

-- a chain that has another band
banded-bytes : (n : ℕ) (chain : List Block) → bytes_of (banded n chain) ≡ bytes_of chain
banded-bytes n [] = refl
banded-bytes n (x ∷ chain) = refl

banded-of : (k : MsgKind) (n : ℕ) (chain : List Block) → Of k chain → Of k (banded n chain)
banded-of k n [] all = tt
banded-of k n (x ∷ chain) all = all

banded-some : (n : ℕ) (chain : List Block) → 0 < length chain → 0 < length (banded n chain)
banded-some n [] some = some
banded-some n (x ∷ chain) some = omega arith

banded-both : (n : ℕ) (front behind : List Block) → 0 < length front → banded n (front ++ behind) ≡ banded n front ++ behind
banded-both n [] behind some = absurd (omega (arith, some))
banded-both n (x ∷ front) behind some = refl

banded-band : (n : ℕ) (front behind : List Block) → 0 < length front → (block_at 0 (banded n front ++ behind)).band ≡ n
banded-band n [] behind some = absurd (omega (arith, some))
banded-band n (x ∷ front) behind some = refl

filled-part : (blocks : List Block) → part_of (filled_blocks blocks) ≡ part_left (bytes_of blocks)
filled-part blocks = elim (dec_le 1 (length (bytes_of blocks))) [
  | yes some ↦
      (let more : 0 < length (bytes_of blocks) = omega (arith, some) in
      let there = filled-more blocks more in
      part-some (filled_blocks blocks) there ∙ ap Some (filled-bytes blocks) ∙ sym (left-some (bytes_of blocks) more))
  | no none ↦
      (let zero : length (bytes_of blocks) ≡ 0 = omega (arith, none) in
      ap part_of (filled-none blocks zero) ∙ ap part_left (sym (nil_from_length (bytes_of blocks) zero)))
]

-- What is left of a chain: a message, with each part that has bytes. It is M_DATA, or of the kind that it had.
pub record Remains (chain : List Block) : Type 0 where
  pub one : IsChain (without_emptied chain)
  pub shows : message_of (without_emptied chain) ≡ rest_with (control_bytes chain) (data_bytes chain) (message_of chain)
  pub kind : (test : MsgKind → Bool) → test kinds.Data ≡ true → test (block_at 0 chain).kind ≡ true → test (block_at 0 (without_emptied chain)).kind ≡ true

module _ (chain : List Block) (one : IsChain chain) where
  abbrev low : ℕ
  low = (block_at 0 chain).band

  -- of M_DATA blocks alone
  as-data : (blocks : List Block) → AreData blocks → 0 < length (bytes_of blocks) → filled_blocks chain ≡ filled_blocks blocks → control_bytes chain ≡ [] → data_bytes chain ≡ bytes_of blocks → band_of (message_of chain) ≡ low → (message_of chain).plain ≡ [] → Remains chain
  as-data blocks all some same none body own plain =
      let rest = banded low (filled_blocks blocks) in
      let there : without_emptied chain ≡ rest = ap (banded low) same in
      let filled = banded-some low (filled_blocks blocks) (filled-more blocks some) in
      let of_data = banded-of kinds.Data low (filled_blocks blocks) (filled-of kinds.Data blocks all) in
      let band_is : (block_at 0 rest).band ≡ low = ap (λ xs. (block_at 0 xs).band) (sym (append-nil rest)) ∙ banded-band low (filled_blocks blocks) [] (filled-more blocks some) in
      record {
        one = subst IsChain (sym there) (data-chain rest filled of_data (omega (arith, band_is, one.low)));
        shows = ap message_of there ∙ data-message rest filled of_data ∙ ap (λ b. data_in b (bytes_of rest)) band_is
            ∙ ap (data_in low) (banded-bytes low (filled_blocks blocks) ∙ filled-bytes blocks)
            ∙ sym (ap (λ xs. rest_with xs (data_bytes chain) (message_of chain)) none ∙ ap (λ xs. rest_with [] xs (message_of chain)) body
            ∙ ap (λ b. record { kind = kinds.Data; band = b; control = None; body = Some (bytes_of blocks); plain = (message_of chain).plain }) own
            ∙ ap (λ xs. record { kind = kinds.Data; band = low; control = None; body = Some (bytes_of blocks); plain = xs }) plain);
        kind = λ test passes was. ap (λ xs. test (block_at 0 xs).kind) there ∙ ap test (data-kind rest filled of_data) ∙ passes;
      }

  from-data : AreData chain → 0 < length (bytes_of chain) → Remains chain
  from-data all some =
      let m = data-message chain one.some all in
      as-data chain all some refl (ap bytes_of (control-none chain all)) (ap bytes_of (data-all chain all))
      (ap band_of m ∙ band-low low (bytes_of chain)) (ap (λ (x : Message ℕ). x.plain) m)

  module _ (k : MsgKind) (kind : (block_at 0 chain).kind ≡ k) (is : is_control_kind k ≡ true) (p : IsParted k chain) where
    abbrev both : Message ℕ
    both = parts_in k low (bytes_of p.front) (part_of p.behind)

    high : is_high_priority k ≡ true → low ≡ 0
    high up = one.high (ap is_high_priority kind ∙ up)

    m-is : message_of chain ≡ both
    m-is =
        ap message_of p.joined ∙ both-message k p.front p.behind p.some is p.of_kind p.of_data
        ∙ ap (λ xs. parts_in k (block_at 0 xs).band (bytes_of p.front) (part_of p.behind)) (sym p.joined)

    control-is : control_bytes chain ≡ bytes_of p.front
    control-is = ap bytes_of (ap control_blocks p.joined ∙ control-front k p.front p.behind is p.of_kind p.of_data)

    body-is : data_bytes chain ≡ bytes_of p.behind
    body-is = ap bytes_of (ap data_blocks p.joined ∙ data-behind k p.front p.behind is p.of_kind p.of_data)

    filled-is : filled_blocks chain ≡ filled_blocks p.front ++ filled_blocks p.behind
    filled-is = ap filled_blocks p.joined ∙ filter-append (λ (b : Block). nat_lt 0 (length b.bytes)) p.front p.behind

    -- where bytes of the control part are left
    as-control : 0 < length (bytes_of p.front) → Remains chain
    as-control some =
        let front = banded low (filled_blocks p.front) in
        let behind = filled_blocks p.behind in
        let there : without_emptied chain ≡ front ++ behind = ap (banded low) filled-is ∙ banded-both low (filled_blocks p.front) behind (filled-more p.front some) in
        let filled = banded-some low (filled_blocks p.front) (filled-more p.front some) in
        let of_kind = banded-of k low (filled_blocks p.front) (filled-of k p.front p.of_kind) in
        let of_data = filled-of kinds.Data p.behind p.of_data in
        let band_is = banded-band low (filled_blocks p.front) behind (filled-more p.front some) in
        record {
          one = subst IsChain (sym there) (both-chain k front behind filled is of_kind of_data (λ up. band_is ∙ high up) (omega (arith, band_is, one.low)));
          shows = ap message_of there ∙ both-message k front behind filled is of_kind of_data
              ∙ ap (λ b. parts_in k b (bytes_of front) (part_of behind)) band_is
              ∙ ap (λ xs. parts_in k low xs (part_of behind)) (banded-bytes low (filled_blocks p.front) ∙ filled-bytes p.front)
              ∙ ap (parts_in k low (bytes_of p.front)) (filled-part p.behind)
              ∙ sym (ap (rest_with (control_bytes chain) (data_bytes chain)) m-is ∙ ap (λ xs. rest_with xs (data_bytes chain) both) control-is
              ∙ ap (λ xs. rest_with (bytes_of p.front) xs both) body-is ∙ rest-control (bytes_of p.front) (bytes_of p.behind) both some);
          kind = λ test passes was. ap (λ xs. test (block_at 0 xs).kind) there ∙ ap test (first-kind k front behind filled of_kind ∙ sym kind) ∙ was;
        }

    from-parted : 0 < length (bytes_of chain) → Remains chain
    from-parted some = elim (dec_le 1 (length (bytes_of p.front))) [
      | yes more ↦ as-control (omega (arith, more))
      | no none ↦
          (let zero : length (bytes_of p.front) ≡ 0 = omega (arith, none) in
          let whole = ap length (ap bytes_of p.joined ∙ bytes-append p.front p.behind) in
          as-data p.behind p.of_data (omega (arith, some, whole, zero, length-append (bytes_of p.front) (bytes_of p.behind)))
          (filled-is ∙ ap (λ xs. xs ++ filled_blocks p.behind) (filled-none p.front zero)) (control-is ∙ nil_from_length (bytes_of p.front) zero) body-is
          (ap band_of m-is ∙ band-same both high) (ap (λ (x : Message ℕ). x.plain) m-is))
    ]

  pub remains : is_data_kind (block_at 0 chain).kind ≡ true → 0 < length (bytes_of chain) → Remains chain
  remains readable some = elim (data-or-control (block_at 0 chain).kind readable) [
    | inl m_data ↦ from-data (one.all_data m_data) some
    | inr control ↦ from-parted (block_at 0 chain).kind refl control (one.parted control) some
  ]
