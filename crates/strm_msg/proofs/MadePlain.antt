-- What a message of another kind than M_DATA, M_PROTO and M_PCPROTO stands for, and which messages have parts.
use Rattle.std.proofs.Common.{ℕ, zero, suc, ◌≡◌, ◌<◌, ◌⊎◌, Bool, true, false, cond, List, [], ◌∷◌, length, map, refl, sym, ap, ◌∙◌, arith, inl, inr}
use Rattle.std.specs.Prelude.{◌||◌, None}
use Rattle.strm_types.specs.declared.kinds.MsgKind.{MsgKind}
use Rattle.strm_types.specs.declared.kinds.MsgKind.TheVariants as kinds
use Rattle.strm_types.specs.Flush.{is_data_kind}
use Rattle.strm_types.specs.Kinds.{is_control_kind, is_body_kind}
use Rattle.strm_types.specs.Message.{Message, cells_of, size_of, is_part, has_parts}
use Rattle.strm_types.specs.Write.{chunk_count, chunks_of}
use Rattle.strm_blocks.specs.Blocks.{Block, StoreValue, block_at, in_hand}
use Rattle.strm_blocks.proofs.Laws.{in_hand-held}
use Rattle.strm_msg.specs.Bytes.{bytes_of, control_blocks, data_blocks}
use Rattle.strm_msg.specs.Made.{MadeOf, copies_of, piece, pieces}
use Rattle.strm_msg.specs.Messages.{message_of, part_of, IsChain}
use Rattle.strm_msg.proofs.Parts.{control-blocks-cons}
use Rattle.strm_msg.proofs.Pieces.{length-pieces, chunk-some}

-- a message with parts, or one without
abbrev parts_in : List Block → Message ℕ
parts_in chain = record { kind = (block_at 0 chain).kind; band = (block_at 0 chain).band; control = part_of (control_blocks chain); body = part_of (data_blocks chain); plain = [] }

abbrev whole_in : List Block → Message ℕ
whole_in chain = record { kind = (block_at 0 chain).kind; band = (block_at 0 chain).band; control = None; body = None; plain = bytes_of chain }

message-is : (chain : List Block) → message_of chain ≡ cond (is_data_kind (block_at 0 chain).kind) (parts_in chain) (whole_in chain)
unfolding message_of
message-is chain = refl

-- a message of those three kinds has parts, and no other one has
control-some : (b : Block) (chain : List Block) → is_control_kind b.kind ≡ true → has_parts (parts_in (b ∷ chain)) ≡ true
control-some b chain is = ap (λ xs. is_part (part_of xs) || is_part (part_of (data_blocks (b ∷ chain)))) (control-blocks-cons b chain ∙ ap (λ v. cond v (b ∷ control_blocks chain) []) is)

or-true : (v : Bool) → (v || true) ≡ true
or-true v = elim v as (λ w. (w || true) ≡ true) [ true ↦ refl | false ↦ refl ]

body-some : (b : Block) (chain : List Block) → is_body_kind b.kind ≡ true → has_parts (parts_in (b ∷ chain)) ≡ true
body-some b chain is =
    let front = is_part (part_of (control_blocks (b ∷ chain))) in
    ap (λ v. front || is_part (part_of (cond v (b ∷ data_blocks chain) (data_blocks chain)))) is ∙ or-true front

-- a kind of those three is M_DATA or one of a control part
body-or-control : (k : MsgKind) → is_data_kind k ≡ true → (is_body_kind k ≡ true) ⊎ (is_control_kind k ≡ true)
unfolding is_data_kind is_body_kind is_control_kind
body-or-control kinds.Data is = inl refl
body-or-control kinds.Proto is = inr refl
body-or-control kinds.Pcproto is = inr refl
body-or-control _ is = absurd (cc)

some-parts : (b : Block) (chain : List Block) → is_data_kind b.kind ≡ true → has_parts (parts_in (b ∷ chain)) ≡ true
some-parts b chain is = elim (body-or-control b.kind is) [ inl body ↦ body-some b chain body | inr control ↦ control-some b chain control ]

pub parts-same : (chain : List Block) → IsChain chain → has_parts (message_of chain) ≡ is_data_kind (block_at 0 chain).kind
parts-same [] one = absurd (let s = one.some in omega arith)
parts-same (b ∷ chain) one =
    ap (λ m. has_parts m) (message-is (b ∷ chain))
    ∙ (elim (is_data_kind b.kind) as (λ v. is_data_kind b.kind ≡ v → has_parts (cond v (parts_in (b ∷ chain)) (whole_in (b ∷ chain))) ≡ v) [ true ↦ λ is. some-parts b chain is | false ↦ λ is. refl ]) refl

-- the bytes of one with parts are those of its cells, and no other one has cells
pub plain-none : (chain : List Block) → is_data_kind (block_at 0 chain).kind ≡ true → length (message_of chain).plain ≡ 0
plain-none chain is = ap (λ m. length m.plain) (message-is chain ∙ ap (λ v. cond v (parts_in chain) (whole_in chain)) is)

pub booked-data : (chain : List Block) → is_data_kind (block_at 0 chain).kind ≡ true → length (cells_of (message_of chain)) ≡ size_of (message_of chain)
unfolding size_of
booked-data chain is = let none = plain-none chain is in omega arith

pub plain-is : (chain : List Block) → is_data_kind (block_at 0 chain).kind ≡ false → message_of chain ≡ whole_in chain
plain-is chain is = message-is chain ∙ ap (λ v. cond v (parts_in chain) (whole_in chain)) is

pub booked-none : (chain : List Block) → is_data_kind (block_at 0 chain).kind ≡ false → length (cells_of (message_of chain)) ≡ 0
unfolding cells_of
booked-none chain is = ap (λ m. length (cells_of m)) (plain-is chain is)

-- a message without parts, of a kind, of band 0, with these bytes
pub record IsPlainOf (kind : MsgKind) (chain : List Block) (bytes : List ℕ) : Type 0 where
  pub one : IsChain chain
  pub is : message_of chain ≡ record { kind = kind; band = 0; control = None; body = None; plain = bytes }

-- the first copy is one of the first block
record First (kind : MsgKind) (band : ℕ) (chain : List Block) : Type 0 where
  some : 0 < length chain
  kind_is : (block_at 0 chain).kind ≡ kind
  band_is : (block_at 0 chain).band ≡ band

first-copy : (kind : MsgKind) (band count : ℕ) (bytes numbers : List ℕ) → 0 < count → length numbers ≡ count → First kind band (copies_of numbers (map (piece kind band) (chunks_of count bytes)))
first-copy kind band zero bytes numbers some is = absurd (omega arith)
first-copy kind band (suc count) bytes [] some is = absurd (omega arith)
first-copy kind band (suc count) bytes (d ∷ numbers) some is = record { some = omega arith; kind_is = refl; band_is = refl }

data-true : (k : MsgKind) → k ≡ kinds.Data → is_data_kind k ≡ true
unfolding is_data_kind
data-true k is = rw is refl

control-true : (k : MsgKind) → is_control_kind k ≡ true → is_data_kind k ≡ true
unfolding is_data_kind is_control_kind
control-true kinds.Proto is = refl
control-true kinds.Pcproto is = refl
control-true _ is = absurd (cc)

is-plain : (kind : MsgKind) (chain : List Block) (bytes : List ℕ) → is_data_kind kind ≡ false → First kind 0 chain → bytes_of chain ≡ bytes → IsPlainOf kind chain bytes
is-plain kind chain bytes none first shown =
    let no = ap is_data_kind first.kind_is ∙ none in
    record {
      one = record {
        some = first.some;
        all_data = λ k. absurd (let yes = data-true (block_at 0 chain).kind k in cc);
        parted = λ control. absurd (let yes = control-true (block_at 0 chain).kind control in cc);
        high = λ high. first.band_is;
        low = omega (arith, first.band_is);
      };
      is = plain-is chain no ∙ plain-parts (block_at 0 chain).kind kind (block_at 0 chain).band 0 (bytes_of chain) bytes first.kind_is first.band_is shown;
    }
  where
    plain-parts : (k k' : MsgKind) (b b' : ℕ) (xs ys : List ℕ) → k ≡ k' → b ≡ b' → xs ≡ ys →
        ◌≡◌ {A = Message ℕ} (record { kind = k; band = b; control = None; body = None; plain = xs }) (record { kind = k'; band = b'; control = None; body = None; plain = ys })
    plain-parts k k' b b' xs ys ke be xe = rw (ke, be, xe) refl

-- a message that was made of bytes is one
pub made-plain : (kind : MsgKind) (old new : StoreValue) (i : ℕ) (bytes : List ℕ) → is_data_kind kind ≡ false → MadeOf old new i kind 0 bytes → IsPlainOf kind (in_hand new i) bytes
made-plain kind old new i bytes none m =
    let count = chunk_count (length bytes) in
    let chain = copies_of m.made.numbers (pieces kind 0 bytes) in
    let long : length m.made.numbers ≡ count = m.made.count ∙ length-pieces kind 0 bytes count in
    let here : in_hand new i ≡ chain = ap (λ v. in_hand v i) m.made.after ∙ in_hand-held old i chain in
    rw here (is-plain kind chain bytes none (first-copy kind 0 count bytes m.made.numbers (chunk-some (length bytes)) long) (ap bytes_of (sym here) ∙ m.shows))
