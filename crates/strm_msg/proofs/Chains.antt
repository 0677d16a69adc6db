-- What well-formed chains stand for.
use Rattle.std.proofs.Common.{ℕ, ◌≡◌, ◌<◌, ◌+◌, ◌-◌, ◌⊎◌, inl, inr, Bool, true, false, cond, List, [], ◌∷◌, ◌++◌, length, map, drop, refl, sym, ap, ◌∙◌, arith, add-zero, zero-add}
use Rattle.std.specs.Prelude.{sum_by, None, Some}
use Rattle.std.specs.List.{AllByRecursion}
use Rattle.std.proofs.lemmas.List.{length-append}
use Rattle.std.proofs.lemmas.List.Sums.{sum_by-cons, sum_by-append}
use Rattle.strm_types.specs.declared.kinds.MsgKind.{MsgKind}
use Rattle.strm_types.specs.declared.kinds.MsgKind.TheVariants as kinds
use Rattle.strm_types.specs.Message.{Message, part, rank_of, size_of, cells_of, is_high_priority}
use Rattle.strm_types.specs.Flush.{is_data_kind}
use Rattle.strm_types.specs.Queue as plain
use Rattle.strm_types.specs.Head.{rest_of}
use Rattle.strm_types.proofs.Ranked.{put-map, put_back-map}
use Rattle.strm_blocks.specs.Blocks as blocks
use Rattle.strm_blocks.specs.Blocks.{Block, block_at, trimmed_head}
use Rattle.strm_types.specs.Kinds.{is_control_kind, is_body_kind}
use Rattle.strm_msg.specs.Bytes.{bytes_of, control_blocks, data_blocks, data_bytes}
use Rattle.strm_msg.specs.Messages.{message_of, part_of, AreData, IsParted, IsChain}
use Rattle.strm_msg.specs.Taken.{without_data}
use Rattle.strm_msg.proofs.AdjustingBytes.{bytes-append}
use Rattle.strm_msg.proofs.Parts.{control-blocks-cons}
use Rattle.strm_msg.proofs.Taking.{data-without, length-without}

-- a message with parts, or one without
abbrev parts_in : List Block → Message ℕ
parts_in chain = record { kind = (block_at 0 chain).kind; band = (block_at 0 chain).band; control = part_of (control_blocks chain); body = part_of (data_blocks chain); plain = [] }

abbrev whole_in : List Block → Message ℕ
whole_in chain = record { kind = (block_at 0 chain).kind; band = (block_at 0 chain).band; control = None; body = None; plain = bytes_of chain }

abbrev either : Bool → List Block → Message ℕ
either v chain = cond v (parts_in chain) (whole_in chain)

message-is : (chain : List Block) → message_of chain ≡ either (is_data_kind (block_at 0 chain).kind) chain
unfolding message_of
message-is chain = refl

pub kind-is : (chain : List Block) → (message_of chain).kind ≡ (block_at 0 chain).kind
unfolding message_of
kind-is chain = elim (is_data_kind (block_at 0 chain).kind) as (λ v. (either v chain).kind ≡ (block_at 0 chain).kind) [ true ↦ refl | false ↦ refl ]

pub band-is : (chain : List Block) → (message_of chain).band ≡ (block_at 0 chain).band
unfolding message_of
band-is chain = elim (is_data_kind (block_at 0 chain).kind) as (λ v. (either v chain).band ≡ (block_at 0 chain).band) [ true ↦ refl | false ↦ refl ]

-- a chain's rank is that of its message
pub rank-same : (chain : List Block) → rank_of (message_of chain) ≡ blocks.rank_of chain
unfolding rank_of is_high_priority
rank-same [] = rw (kind-is [], band-is []) refl
rank-same (b ∷ chain) = rw (kind-is (b ∷ chain), band-is (b ∷ chain)) refl

-- so puts of chains are puts of messages
pub put-chains : (chain : List Block) (q : List (List Block)) → map message_of (blocks.put chain q) ≡ plain.put (message_of chain) (map message_of q)
put-chains chain q = put-map message_of blocks.rank_of rank_of rank-same chain q

pub put_back-chains : (chain : List Block) (q : List (List Block)) → map message_of (blocks.put_back chain q) ≡ plain.put_back (message_of chain) (map message_of q)
put_back-chains chain q = put_back-map message_of blocks.rank_of rank_of rank-same chain q

-- how many bytes the blocks of a chain have
pub bytes-sum : (chain : List Block) → length (bytes_of chain) ≡ sum_by (λ b. length b.bytes) chain
bytes-sum [] = refl
bytes-sum (b ∷ chain) = omega (arith, bytes-sum chain, length-append b.bytes (bytes_of chain), sum_by-cons (λ (x : Block). length x.bytes) b chain)

-- a kind of data is M_DATA or one of a control part
pub data-or-control : (k : MsgKind) → is_data_kind k ≡ true → (k ≡ kinds.Data) ⊎ (is_control_kind k ≡ true)
unfolding is_data_kind is_control_kind
data-or-control kinds.Data is = inl refl
data-or-control kinds.Proto is = inr refl
data-or-control kinds.Pcproto is = inr refl
data-or-control kinds.Sig is = absurd (cc)
data-or-control kinds.Ctl is = absurd (cc)
data-or-control kinds.Ioctl is = absurd (cc)
data-or-control kinds.Setopts is = absurd (cc)
data-or-control kinds.Iocack is = absurd (cc)
data-or-control kinds.Iocnak is = absurd (cc)
data-or-control kinds.Pcsig is = absurd (cc)
data-or-control kinds.Read is = absurd (cc)
data-or-control kinds.Flush is = absurd (cc)
data-or-control kinds.Stop is = absurd (cc)
data-or-control kinds.Start is = absurd (cc)
data-or-control kinds.Hangup is = absurd (cc)
data-or-control kinds.Error is = absurd (cc)

data-body : (k : MsgKind) → k ≡ kinds.Data → is_body_kind k ≡ true
unfolding is_body_kind
data-body k is = rw is refl

pub data-control : (k : MsgKind) → k ≡ kinds.Data → is_control_kind k ≡ false
unfolding is_control_kind
data-control k is = rw is refl

data-kind : (k : MsgKind) → k ≡ kinds.Data → is_data_kind k ≡ true
unfolding is_data_kind
data-kind k is = rw is refl

-- a control kind is no body kind
pub control-body : (k : MsgKind) → is_control_kind k ≡ true → is_body_kind k ≡ false
unfolding is_control_kind is_body_kind
control-body kinds.Data is = absurd (cc)
control-body _ is = refl

-- M_DATA blocks are all body
pub control-none : (chain : List Block) → AreData chain → control_blocks chain ≡ []
control-none [] all = refl
control-none (b ∷ chain) all = control-blocks-cons b chain ∙ ap (λ v. cond v (b ∷ control_blocks chain) []) (data-control b.kind all.0)

pub data-all : (chain : List Block) → AreData chain → data_blocks chain ≡ chain
data-all [] all = refl
data-all (b ∷ chain) all =
    ap (λ v. cond v (b ∷ data_blocks chain) (data_blocks chain)) (data-body b.kind all.0) ∙ ap (λ xs. b ∷ xs) (data-all chain all.1)

-- blocks of a control kind in front of them are the control part
pub control-front : (k : MsgKind) (front behind : List Block) → is_control_kind k ≡ true → AllByRecursion (λ b. b.kind ≡ k) front → AreData behind → control_blocks (front ++ behind) ≡ front
control-front k [] behind is of_kind tail = control-none behind tail
control-front k (b ∷ front) behind is of_kind tail =
    control-blocks-cons b (front ++ behind)
    ∙ ap (λ v. cond v (b ∷ control_blocks (front ++ behind)) []) (ap is_control_kind of_kind.0 ∙ is)
    ∙ ap (λ xs. b ∷ xs) (control-front k front behind is of_kind.1 tail)

pub data-behind : (k : MsgKind) (front behind : List Block) → is_control_kind k ≡ true → AllByRecursion (λ b. b.kind ≡ k) front → AreData behind → data_blocks (front ++ behind) ≡ behind
data-behind k [] behind is of_kind tail = data-all behind tail
data-behind k (b ∷ front) behind is of_kind tail =
    ap (λ v. cond v (b ∷ data_blocks (front ++ behind)) (data_blocks (front ++ behind))) (ap is_body_kind of_kind.0 ∙ control-body k is)
    ∙ data-behind k front behind is of_kind.1 tail

-- the bytes of a part, absent or not
part-size : (xs : List Block) → length (part (part_of xs)) ≡ sum_by (λ b. length b.bytes) xs
part-size [] = refl
part-size (b ∷ xs) = bytes-sum (b ∷ xs)

size-parts : (chain : List Block) → size_of (parts_in chain) ≡ sum_by (λ b. length b.bytes) (control_blocks chain) + sum_by (λ b. length b.bytes) (data_blocks chain)
unfolding size_of cells_of
size-parts chain = omega (arith, length-append (part (part_of (control_blocks chain))) (part (part_of (data_blocks chain))), part-size (control_blocks chain), part-size (data_blocks chain))

size-whole : (chain : List Block) → size_of (whole_in chain) ≡ sum_by (λ b. length b.bytes) chain
unfolding size_of cells_of
size-whole chain = zero-add (length (bytes_of chain)) ∙ bytes-sum chain

size-data : (chain : List Block) → AreData chain → size_of (parts_in chain) ≡ sum_by (λ b. length b.bytes) chain
size-data chain all = size-parts chain ∙ ap (λ xs. sum_by (λ (b : Block). length b.bytes) xs + sum_by (λ b. length b.bytes) (data_blocks chain)) (control-none chain all)
    ∙ zero-add (sum_by (λ (b : Block). length b.bytes) (data_blocks chain)) ∙ ap (λ xs. sum_by (λ (b : Block). length b.bytes) xs) (data-all chain all)

size-parted : (k : MsgKind) (chain : List Block) → is_control_kind k ≡ true → IsParted k chain → size_of (parts_in chain) ≡ sum_by (λ b. length b.bytes) chain
size-parted k chain is p =
    let control : control_blocks chain ≡ p.front = ap control_blocks p.joined ∙ control-front k p.front p.behind is p.of_kind p.of_data in
    let body : data_blocks chain ≡ p.behind = ap data_blocks p.joined ∙ data-behind k p.front p.behind is p.of_kind p.of_data in
    let sum : sum_by (λ (b : Block). length b.bytes) chain ≡ sum_by (λ b. length b.bytes) (p.front ++ p.behind) = ap (λ xs. sum_by (λ (b : Block). length b.bytes) xs) p.joined in
    size-parts chain ∙ ap (λ xs. sum_by (λ (b : Block). length b.bytes) xs + sum_by (λ b. length b.bytes) (data_blocks chain)) control
    ∙ ap (λ xs. sum_by (λ (b : Block). length b.bytes) p.front + sum_by (λ b. length b.bytes) xs) body
    ∙ sym (sum ∙ sum_by-append (λ (b : Block). length b.bytes) p.front p.behind)

size-at : (chain : List Block) (v : Bool) → is_data_kind (block_at 0 chain).kind ≡ v → IsChain chain → size_of (either v chain) ≡ sum_by (λ b. length b.bytes) chain
size-at chain false is one = size-whole chain
size-at chain true is one = elim (data-or-control (block_at 0 chain).kind is) [
  | inl is_data ↦ size-data chain (one.all_data is_data)
  | inr control ↦ size-parted (block_at 0 chain).kind chain control (one.parted control)
]

-- The message that a chain stands for has all bytes of its blocks.
pub size-shown : (chain : List Block) → IsChain chain → size_of (message_of chain) ≡ sum_by (λ b. length b.bytes) chain
size-shown chain one = ap size_of (message-is chain) ∙ size-at chain (is_data_kind (block_at 0 chain).kind) refl one

-- The cells of a message with parts are all bytes of its blocks.
cells-parts : (chain : List Block) → cells_of (parts_in chain) ≡ bytes_of (control_blocks chain) ++ bytes_of (data_blocks chain)
unfolding cells_of
cells-parts chain = ap (λ xs. xs ++ part (part_of (data_blocks chain))) (part-bytes (control_blocks chain)) ∙ ap (λ xs. bytes_of (control_blocks chain) ++ xs) (part-bytes (data_blocks chain))
  where
    part-bytes : (xs : List Block) → part (part_of xs) ≡ bytes_of xs
    part-bytes [] = refl
    part-bytes (b ∷ xs) = refl

cells-data : (chain : List Block) → AreData chain → cells_of (parts_in chain) ≡ bytes_of chain
cells-data chain all =
    cells-parts chain ∙ ap (λ xs. bytes_of xs ++ bytes_of (data_blocks chain)) (control-none chain all) ∙ ap (λ xs. bytes_of xs) (data-all chain all)

cells-parted : (k : MsgKind) (chain : List Block) → is_control_kind k ≡ true → IsParted k chain → cells_of (parts_in chain) ≡ bytes_of chain
cells-parted k chain is p =
    let control : control_blocks chain ≡ p.front = ap control_blocks p.joined ∙ control-front k p.front p.behind is p.of_kind p.of_data in
    let body : data_blocks chain ≡ p.behind = ap data_blocks p.joined ∙ data-behind k p.front p.behind is p.of_kind p.of_data in
    cells-parts chain ∙ ap (λ xs. bytes_of xs ++ bytes_of (data_blocks chain)) control ∙ ap (λ xs. bytes_of p.front ++ bytes_of xs) body
    ∙ sym (bytes-append p.front p.behind) ∙ ap (λ xs. bytes_of xs) (sym p.joined)

pub cells-shown : (chain : List Block) → IsChain chain → is_data_kind (block_at 0 chain).kind ≡ true → cells_of (message_of chain) ≡ bytes_of chain
cells-shown chain one is =
    ap cells_of (message-is chain ∙ ap (λ v. either v chain) is)
    ∙ elim (data-or-control (block_at 0 chain).kind is) [
      | inl is_data ↦ cells-data chain (one.all_data is_data)
      | inr control ↦ cells-parted (block_at 0 chain).kind chain control (one.parted control)
    ]

-- an M_DATA message of any band
abbrev pub data_in : ℕ → List ℕ → Message ℕ
data_in band bytes = record { kind = kinds.Data; band = band; control = None; body = Some bytes; plain = [] }

pub data-shown : (chain : List Block) → 0 < length chain → (block_at 0 chain).kind ≡ kinds.Data → message_of chain ≡ data_in (block_at 0 chain).band (data_bytes chain)
data-shown [] some is = absurd (omega arith)
data-shown (b ∷ chain) some is =
    let control : control_blocks (b ∷ chain) ≡ [] = control-blocks-cons b chain ∙ ap (λ v. cond v (b ∷ control_blocks chain) []) (data-control b.kind is) in
    let body : part_of (data_blocks (b ∷ chain)) ≡ Some (data_bytes (b ∷ chain)) =
    let by_kind : data_blocks (b ∷ chain) ≡ b ∷ data_blocks chain = ap (λ v. cond v (b ∷ data_blocks chain) (data_blocks chain)) (data-body b.kind is) in
    ap part_of by_kind ∙ ap (λ xs. Some (bytes_of xs)) (sym by_kind) in
    message-is (b ∷ chain) ∙ ap (λ v. either v (b ∷ chain)) (data-kind b.kind is)
    ∙ ap (λ k. record { kind = k; band = b.band; control = part_of (control_blocks (b ∷ chain)); body = part_of (data_blocks (b ∷ chain)); plain = [] }) is
    ∙ ap (λ xs. record { kind = kinds.Data; band = b.band; control = part_of xs; body = part_of (data_blocks (b ∷ chain)); plain = [] }) control
    ∙ ap (λ xs. record { kind = kinds.Data; band = b.band; control = None; body = xs; plain = [] }) body

pub data_in-cells : (band : ℕ) (bytes : List ℕ) → cells_of (data_in band bytes) ≡ bytes
unfolding cells_of
data_in-cells band bytes = refl

pub data_in-size : (band : ℕ) (bytes : List ℕ) → size_of (data_in band bytes) ≡ length bytes
unfolding size_of cells_of
data_in-size band bytes = add-zero (length bytes)

pub data_in-rest : (n band : ℕ) (bytes : List ℕ) → rest_of n (data_in band bytes) ≡ data_in band (drop n bytes)
unfolding cells_of
data_in-rest n band bytes = refl

-- Data bytes that are taken from an M_DATA message leave one.
first-without : (n : ℕ) (chain : List Block) → 0 < length chain → (block_at 0 (without_data n chain)).kind ≡ (block_at 0 chain).kind
first-without n [] some = absurd (omega arith)
first-without n (b ∷ chain) some = elim (is_body_kind b.kind) as (λ v. (block_at 0 (cond v (trimmed_head n b ∷ without_data (n - length b.bytes) chain) (b ∷ without_data n chain))).kind ≡ b.kind) [ true ↦ refl | false ↦ refl ]

band-without : (n : ℕ) (chain : List Block) → 0 < length chain → (block_at 0 (without_data n chain)).band ≡ (block_at 0 chain).band
band-without n [] some = absurd (omega arith)
band-without n (b ∷ chain) some = elim (is_body_kind b.kind) as (λ v. (block_at 0 (cond v (trimmed_head n b ∷ without_data (n - length b.bytes) chain) (b ∷ without_data n chain))).band ≡ b.band) [ true ↦ refl | false ↦ refl ]

all-without : (n : ℕ) (chain : List Block) → AreData chain → AreData (without_data n chain)
all-without n [] all = tt
all-without n (b ∷ chain) all =
    rw (data-body b.kind all.0) (all.0, all-without (n - length b.bytes) chain all.1)

pub chain-without : (n : ℕ) (chain : List Block) → IsChain chain → (block_at 0 chain).kind ≡ kinds.Data → IsChain (without_data n chain)
chain-without n chain one is =
    let kind = first-without n chain one.some ∙ is in
    let band = band-without n chain one.some in
    record {
      some = omega (arith, length-without n chain, one.some);
      all_data = λ k. all-without n chain (one.all_data is);
      parted = λ control. absurd (let no = data-control (block_at 0 (without_data n chain)).kind kind in cc);
      high = λ high. band ∙ one.high (ap is_high_priority (is ∙ sym kind) ∙ high);
      low = omega (arith, band, one.low);
    }

pub kind-without : (n : ℕ) (chain : List Block) → IsChain chain → (block_at 0 (without_data n chain)).kind ≡ (block_at 0 chain).kind
kind-without n chain one = first-without n chain one.some

pub rest-without : (n : ℕ) (chain : List Block) → IsChain chain → (block_at 0 chain).kind ≡ kinds.Data → message_of (without_data n chain) ≡ rest_of n (message_of chain)
rest-without n chain one is =
    let kind = first-without n chain one.some ∙ is in
    data-shown (without_data n chain) (omega (arith, length-without n chain, one.some)) kind
    ∙ ap (λ b. data_in b (data_bytes (without_data n chain))) (band-without n chain one.some)
    ∙ ap (λ xs. data_in (block_at 0 chain).band xs) (data-without n chain)
    ∙ sym (ap (rest_of n) (data-shown chain one.some is) ∙ data_in-rest n (block_at 0 chain).band (data_bytes chain))
