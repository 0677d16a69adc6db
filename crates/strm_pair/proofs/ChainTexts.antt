-- The text of a message is written block by block.
use Rattle.strm_pair.proofs.Prelude.{ℕ, ◌≡◌, ◌<◌, ◌+◌, inl, inr, Bool, true, false, cond, List, [], ◌∷◌, ◌++◌, length, drop, refl, sym, ap, ◌∙◌}
use Rattle.strm_pair.proofs.Prelude.{arith, append-nil, append_assoc, length-append, sum_by, Option, None, Some, sum_by-cons, sum_by-append}
use Rattle.strm_pair.proofs.Prelude.{control-body, control-front, data-all, data-behind, data-or-control, put_both}
use Rattle.strm_pair.specs.Prelude.{MsgKind, Data, is_data_kind, is_body_kind, is_control_kind, kind_number, Block, block_at, SeenBlock, seen_in}
use Rattle.strm_pair.specs.Prelude.{Second, flag, message, control_blocks, data_blocks, message_of, part_of, AreData, IsChain, Given, patch, place_in}
use Rattle.strm_pair.specs.Prelude.{put}
use Rattle.std.specs.Int.{to_be_bytes, w32}
use Rattle.std.specs.List.{AllByRecursion}
use Rattle.strm_blocks.specs.Outcomes.{told}
use Rattle.strm_image.specs.Codes.{kind}
use Rattle.strm_image.specs.Messages.{part}
use Rattle.strm_image.proofs.MessageRows.{no_control}
use Rattle.strm_msg.specs.Bytes.{bytes_of}
use Rattle.strm_msg.proofs.Chains.{control-none, data-control}
use Rattle.strm_image.proofs.SinkRows.{patch_put}
use Rattle.strm_pair.specs.Writings.{absent, begun, continued, ended, extended, longer, part_begun, written}
use Rattle.strm_pair.specs.declared.images.texts.Writing.{Writing}

abbrev pub tells : Writing → List SeenBlock → Writing
tells = told written (λ w. true)

-- what is told in two parts
pub tells_both : (w : Writing) (xs ys : List SeenBlock) → tells w (xs ++ ys) ≡ tells (tells w xs) ys
tells_both w [] ys = refl
tells_both w (x ∷ xs) ys = tells_both (written w x) xs ys

pub seen_both : (xs ys : List Block) → seen_in false (xs ++ ys) ≡ seen_in false xs ++ seen_in false ys
seen_both [] ys = refl
seen_both (x ∷ xs) ys = ap (λ zs. record { first = false; kind = x.kind; band = x.band; bytes = x.bytes } ∷ zs) (seen_both xs ys)

-- the text of a part that is there, behind its flag
abbrev pub spelled : List ℕ → List ℕ
spelled bytes = to_be_bytes w32 (length bytes) ++ bytes

-- A part stands at the end, behind the text in front of it: its length is where it is patched.
pub record IsOpen (front body : List ℕ) (g : Given) (control : Bool) (w : Writing) : Type 0 where
  pub out : w.out ≡ put (front ++ spelled body) g
  pub at : w.at ≡ place_in (put front g)
  pub length : w.length ≡ length body
  pub in_control : w.in_control ≡ control

pub open_begun : (front : List ℕ) (g : Given) (w : Writing) → w.out ≡ put front g → IsOpen (front ++ 1 ∷ []) [] g w.in_control (part_begun w)
unfolding part_begun
open_begun front g w is =
    let one : put (1 ∷ []) w.out ≡ put (front ++ 1 ∷ []) g = ap (put (1 ∷ [])) is ∙ put_both front (1 ∷ []) g in
    record {
      out = ap (put (0 ∷ 0 ∷ 0 ∷ 0 ∷ [])) one ∙ put_both (front ++ 1 ∷ []) (0 ∷ 0 ∷ 0 ∷ 0 ∷ []) g;
      at = ap place_in one;
      length = refl;
      in_control = refl;
    }

be_same : (m n : ℕ) → length (to_be_bytes w32 m) ≡ length (to_be_bytes w32 n)
be_same m n = refl

pub open_extended : (front body bytes : List ℕ) (g : Given) (control : Bool) (w : Writing) → IsOpen front body g control w → length body + length bytes < 4294967296 → IsOpen front (body ++ bytes) g control (extended bytes w)
unfolding extended
open_extended front body bytes g control w is few =
    let h = put front g in
    let n : longer w.length bytes ≡ length (body ++ bytes) = let l = is.length in let a = length-append body bytes in omega (arith, l, a, few) in
    let out : w.out ≡ put (spelled body) h = is.out ∙ sym (put_both front (spelled body) g) in
    let new = to_be_bytes w32 (length (body ++ bytes)) in
    let patched : patch w.at (to_be_bytes w32 (longer w.length bytes)) w.out ≡ put (new ++ body) h =
    ap (λ k. patch w.at (to_be_bytes w32 k) w.out) n ∙ ap (λ a. patch a new w.out) is.at ∙ ap (patch (place_in h) new) out
    ∙ patch_put (to_be_bytes w32 (length body)) new body h (be_same (length body) (length (body ++ bytes))) in
    record {
      out = ap (put bytes) patched ∙ put_both (new ++ body) bytes h ∙ put_both front ((new ++ body) ++ bytes) g
          ∙ ap (λ xs. put (front ++ xs) g) (append_assoc new body bytes);
      at = is.at;
      length = n;
      in_control = is.in_control;
    }

-- the bytes of blocks are as many as theirs
few-cons : (b : Block) (chain : List Block) (n : ℕ) → n + sum_by (λ x. length x.bytes) (b ∷ chain) < 4294967296 → (n + length b.bytes) + sum_by (λ x. length x.bytes) chain < 4294967296
few-cons b chain n few = omega (arith, few, sum_by-cons (λ (x : Block). length x.bytes) b chain)

-- Blocks that go on with the part at the end join it.
abbrev GoesOn : Bool → Block → Type 0
GoesOn control b = (w : Writing) → w.in_control ≡ control → continued b.kind w ≡ w

pub open_blocks : (front body : List ℕ) (g : Given) (control : Bool) (w : Writing) (chain : List Block) → IsOpen front body g control w → AllByRecursion (GoesOn control) chain
    → length body + sum_by (λ x. length x.bytes) chain < 4294967296 → IsOpen front (body ++ bytes_of chain) g control (tells w (seen_in false chain))
open_blocks front body g control w [] is on few = let e : body ++ [] ≡ body = append-nil body in rw e is
open_blocks front body g control w (b ∷ chain) is on few =
    let here : IsOpen front (body ++ b.bytes) g control (extended b.bytes w) =
    open_extended front body b.bytes g control w is (omega (arith, few, sum_by-cons (λ (x : Block). length x.bytes) b chain)) in
    let l = length-append body b.bytes in
    let rest = open_blocks front (body ++ b.bytes) g control (extended b.bytes w) chain here on.1 (omega (arith, l, few, sum_by-cons (λ (x : Block). length x.bytes) b chain)) in
    let e : (body ++ b.bytes) ++ bytes_of chain ≡ body ++ bytes_of (b ∷ chain) = append_assoc body b.bytes (bytes_of chain) in
    rw (on.0 w is.in_control) (rw (sym e) rest)

-- ---- the first block of a message

ended_at : (w : Writing) (b : Bool) → w.in_control ≡ b → (cond b (record w { out = put absent w.out; in_control = false }) w).in_control ≡ false
ended_at w true is = refl
ended_at w false is = is

ended_not : (w : Writing) → (ended w).in_control ≡ false
ended_not w = ended_at w w.in_control refl

abbrev kind_band : Block → List ℕ
kind_band b = kind_number b.kind ∷ b.band ∷ []

-- the text of a message in front of the length of its first part
abbrev heading : Bool → Block → List ℕ
heading true b = kind_band b ++ 1 ∷ []
heading false b = (kind_band b ++ absent) ++ 1 ∷ []

first_begun : (b : Block) (w : Writing) (control : Bool) → is_control_kind b.kind ≡ control → IsOpen (heading control b) [] (ended w).out control (begun b.kind b.band w)
first_begun b w true is = rw is (open_begun (kind_band b) (ended w).out (record (ended w) { out = put (kind_band b) (ended w).out; in_control = true }) refl)
first_begun b w false is =
    let v : Writing = record (ended w) { out = put absent (put (kind_band b) (ended w).out) } in
    let opened = open_begun (kind_band b ++ absent) (ended w).out v (put_both (kind_band b) absent (ended w).out) in
    rw is (record { out = opened.out; at = opened.at; length = opened.length; in_control = opened.in_control ∙ ended_not w })

first_open : (b : Block) (w : Writing) (control : Bool) → is_control_kind b.kind ≡ control → length b.bytes < 4294967296 → IsOpen (heading control b) b.bytes (ended w).out control (extended b.bytes (begun b.kind b.band w))
first_open b w control is few = open_extended (heading control b) [] b.bytes (ended w).out control (begun b.kind b.band w) (first_begun b w control is) (omega (arith, few))

-- the first block and others that go on with its part
front_open : (b : Block) (chain : List Block) (w : Writing) (control : Bool) → is_control_kind b.kind ≡ control → AllByRecursion (GoesOn control) chain → sum_by (λ x. length x.bytes) (b ∷ chain) < 4294967296
    → IsOpen (heading control b) (bytes_of (b ∷ chain)) (ended w).out control (tells w (seen_in true (b ∷ chain)))
front_open b chain w control is on few =
    let s = sum_by-cons (λ (x : Block). length x.bytes) b chain in
    open_blocks (heading control b) b.bytes (ended w).out control (extended b.bytes (begun b.kind b.band w)) chain (first_open b w control is (omega (arith, few, s))) on (omega (arith, few, s))

-- ---- which blocks go on

data_body : (k : MsgKind) → k ≡ Data → is_body_kind k ≡ true
unfolding is_body_kind
data_body k is = rw is refl

goes_data : (b : Block) → GoesOn false b
goes_data b w is = rw is refl

pub all_data : (chain : List Block) → AllByRecursion (GoesOn false) chain
all_data [] = tt
all_data (b ∷ chain) = (goes_data b, all_data chain)

goes_control : (k : MsgKind) (b : Block) → is_body_kind k ≡ false → b.kind ≡ k → GoesOn true b
goes_control k b other is w held = rw (held, ap is_body_kind is ∙ other) refl

all_control : (k : MsgKind) (chain : List Block) → is_body_kind k ≡ false → AllByRecursion (λ b. b.kind ≡ k) chain → AllByRecursion (GoesOn true) chain
all_control k [] other all = tt
all_control k (b ∷ chain) other all = (goes_control k b other all.0, all_control k chain other all.1)

-- ---- whole messages

ended_open : (front body : List ℕ) (g : Given) (w : Writing) → IsOpen front body g false w → (ended w).out ≡ put (front ++ spelled body) g
ended_open front body g w is = rw is.in_control is.out

-- a message that is one part, behind an absent control part
pub alone_told : (b : Block) (chain : List Block) (w : Writing) → is_control_kind b.kind ≡ false → sum_by (λ x. length x.bytes) (b ∷ chain) < 4294967296
    → (ended (tells w (seen_in true (b ∷ chain)))).out ≡ put (heading false b ++ spelled (bytes_of (b ∷ chain))) (ended w).out
alone_told b chain w is few =
    ended_open (heading false b) (bytes_of (b ∷ chain)) (ended w).out (tells w (seen_in true (b ∷ chain))) (front_open b chain w false is (all_data chain) few)

-- the text of what stands behind a control part
abbrev pub body_text : List Block → List ℕ
body_text [] = absent
body_text (b ∷ chain) = 1 ∷ spelled (bytes_of (b ∷ chain))

behind_told : (front body : List ℕ) (g : Given) (w : Writing) (behind : List Block) → IsOpen front body g true w → AreData behind → sum_by (λ x. length x.bytes) behind < 4294967296
    → (ended (tells w (seen_in false behind))).out ≡ put ((front ++ spelled body) ++ body_text behind) g
behind_told front body g w [] is all few = rw is.in_control (ap (put absent) is.out ∙ put_both (front ++ spelled body) absent g)
behind_told front body g w (b ∷ chain) is all few =
    let s = sum_by-cons (λ (x : Block). length x.bytes) b chain in
    let v : Writing = part_begun (record w { in_control = false }) in
    let opened = open_begun (front ++ spelled body) g (record w { in_control = false }) is.out in
    let here = open_extended ((front ++ spelled body) ++ 1 ∷ []) [] b.bytes g false v opened (omega (arith, few, s)) in
    let rest = open_blocks ((front ++ spelled body) ++ 1 ∷ []) b.bytes g false (extended b.bytes v) chain here (all_data chain) (omega (arith, few, s)) in
    let first : continued b.kind w ≡ v = rw (is.in_control, data_body b.kind all.0) refl in
    ap (λ u. (ended (tells (extended b.bytes u) (seen_in false chain))).out) first
    ∙ ended_open ((front ++ spelled body) ++ 1 ∷ []) (bytes_of (b ∷ chain)) g (tells (extended b.bytes v) (seen_in false chain)) rest
    ∙ ap (λ xs. put xs g) (append_assoc (front ++ spelled body) (1 ∷ []) (spelled (bytes_of (b ∷ chain))))

-- a control part, with what stands behind it
parted_told : (b : Block) (front behind : List Block) (w : Writing) → is_control_kind b.kind ≡ true → AllByRecursion (λ x. x.kind ≡ b.kind) front → AreData behind → sum_by (λ x. length x.bytes) (b ∷ (front ++ behind)) < 4294967296
    → (ended (tells w (seen_in true (b ∷ (front ++ behind))))).out ≡ put ((heading true b ++ spelled (bytes_of (b ∷ front))) ++ body_text behind) (ended w).out
parted_told b front behind w is all of_data few =
    let s = sum_by-cons (λ (x : Block). length x.bytes) b (front ++ behind) in
    let t = sum_by-cons (λ (x : Block). length x.bytes) b front in
    let u = sum_by-append (λ (x : Block). length x.bytes) front behind in
    let opened = front_open b front w true is (all_control b.kind front (control-body b.kind is) all) (omega (arith, few, s, t, u)) in
    let v = tells w (seen_in true (b ∷ front)) in
    let parts : tells w (seen_in true (b ∷ (front ++ behind))) ≡ tells v (seen_in false behind) =
    ap (λ xs. tells (written w (record { first = true; kind = b.kind; band = b.band; bytes = b.bytes })) xs) (seen_both front behind)
    ∙ tells_both (written w (record { first = true; kind = b.kind; band = b.band; bytes = b.bytes })) (seen_in false front) (seen_in false behind) in
    ap (λ x. (ended x).out) parts ∙ behind_told (heading true b) (bytes_of (b ∷ front)) (ended w).out v behind opened of_data (omega (arith, few, s, u))

-- ---- the text of a message

abbrev parts_text : MsgKind → ℕ → Option (List ℕ) → Option (List ℕ) → List ℕ
parts_text k band control body = (kind_number k ∷ band ∷ []) ++ (part.text control ++ part.text body)

text_data : (k : MsgKind) (band : ℕ) (control body : Option (List ℕ)) → is_data_kind k ≡ true
    → (message Second).text (record { kind = k; band = band; control = control; body = body; plain = [] }) ≡ parts_text k band control body
unfolding message kind
text_data k band control body is = rw is refl

text_plain : (k : MsgKind) (band : ℕ) (bytes : List ℕ) → is_data_kind k ≡ false
    → (message Second).text (record { kind = k; band = band; control = None; body = None; plain = bytes }) ≡ parts_text k band None (Some bytes)
unfolding message kind
text_plain k band bytes is = rw is refl

-- the message of a chain, by its kind
is_data_message : (chain : List Block) → is_data_kind (block_at 0 chain).kind ≡ true
    → message_of chain ≡ record { kind = (block_at 0 chain).kind; band = (block_at 0 chain).band; control = part_of (control_blocks chain); body = part_of (data_blocks chain); plain = [] }
unfolding message_of
is_data_message chain is = rw is refl

is_plain_message : (chain : List Block) → is_data_kind (block_at 0 chain).kind ≡ false
    → message_of chain ≡ record { kind = (block_at 0 chain).kind; band = (block_at 0 chain).band; control = None; body = None; plain = bytes_of chain }
unfolding message_of
is_plain_message chain is = rw is refl

alone_text : (b : Block) (bytes : List ℕ) → parts_text b.kind b.band None (Some bytes) ≡ heading false b ++ spelled bytes
unfolding part flag
alone_text b bytes = refl

body_is : (behind : List Block) → part.text (part_of behind) ≡ body_text behind
unfolding part flag
body_is [] = refl
body_is (b ∷ chain) = refl

parted_text : (b : Block) (bytes : List ℕ) (behind : List Block) → parts_text b.kind b.band (Some bytes) (part_of behind) ≡ (heading true b ++ spelled bytes) ++ body_text behind
unfolding part flag
parted_text b bytes behind =
    ap (λ xs. kind_band b ++ (part.text (Some bytes) ++ xs)) (body_is behind)
    ∙ sym (append_assoc (kind_band b) (part.text (Some bytes)) (body_text behind))

-- ---- each kind of message is written

-- a message is written
abbrev IsTold : List Block → Type 0
IsTold chain = (w : Writing) → (ended (tells w (seen_in true chain))).out ≡ put ((message Second).text (message_of chain)) (ended w).out

plain_told : (b : Block) (chain : List Block) → is_data_kind b.kind ≡ false → sum_by (λ x. length x.bytes) (b ∷ chain) < 4294967296 → IsTold (b ∷ chain)
plain_told b chain is few w =
    alone_told b chain w (no_control b.kind is) few
    ∙ ap (λ xs. put xs (ended w).out) (sym (ap (message Second).text (is_plain_message (b ∷ chain) is) ∙ text_plain b.kind b.band (bytes_of (b ∷ chain)) is ∙ alone_text b (bytes_of (b ∷ chain))))

data_told : (b : Block) (chain : List Block) → is_data_kind b.kind ≡ true → b.kind ≡ Data → AreData (b ∷ chain) → sum_by (λ x. length x.bytes) (b ∷ chain) < 4294967296 → IsTold (b ∷ chain)
data_told b chain is of_data all few w =
    alone_told b chain w (data-control b.kind of_data) few
    ∙ ap (λ xs. put xs (ended w).out) (sym (ap (message Second).text (is_data_message (b ∷ chain) is)
    ∙ text_data b.kind b.band (part_of (control_blocks (b ∷ chain))) (part_of (data_blocks (b ∷ chain))) is
    ∙ ap (λ xs. parts_text b.kind b.band (part_of xs) (part_of (data_blocks (b ∷ chain)))) (control-none (b ∷ chain) all)
    ∙ ap (λ xs. parts_text b.kind b.band None (part_of xs)) (data-all (b ∷ chain) all)
    ∙ alone_text b (bytes_of (b ∷ chain))))

control_told : (b : Block) (front behind : List Block) → is_data_kind b.kind ≡ true → is_control_kind b.kind ≡ true → AllByRecursion (λ x. x.kind ≡ b.kind) (b ∷ front) → AreData behind
    → sum_by (λ x. length x.bytes) (b ∷ (front ++ behind)) < 4294967296 → IsTold (b ∷ (front ++ behind))
control_told b front behind is control all of_data few w =
    parted_told b front behind w control all.1 of_data few
    ∙ ap (λ xs. put xs (ended w).out) (sym (ap (message Second).text (is_data_message (b ∷ (front ++ behind)) is)
    ∙ text_data b.kind b.band (part_of (control_blocks (b ∷ (front ++ behind)))) (part_of (data_blocks (b ∷ (front ++ behind)))) is
    ∙ ap (λ xs. parts_text b.kind b.band (part_of xs) (part_of (data_blocks (b ∷ (front ++ behind))))) (control-front b.kind (b ∷ front) behind control all of_data)
    ∙ ap (λ xs. parts_text b.kind b.band (part_of (b ∷ front)) (part_of xs)) (data-behind b.kind (b ∷ front) behind control all of_data)
    ∙ parted_text b (bytes_of (b ∷ front)) behind))

parted_chain : (b : Block) (chain front behind : List Block) → b ∷ chain ≡ front ++ behind → 0 < length front → is_data_kind b.kind ≡ true → is_control_kind b.kind ≡ true
    → AllByRecursion (λ x. x.kind ≡ b.kind) front → AreData behind → sum_by (λ x. length x.bytes) (b ∷ chain) < 4294967296 → IsTold (b ∷ chain)
parted_chain b chain [] behind joined some is control all of_data few = absurd (omega (arith, some))
parted_chain b chain (f ∷ front) behind joined some is control all of_data few =
    let rest : chain ≡ front ++ behind = ap (λ xs. drop 1 xs) joined in
    rw rest (control_told b front behind is control (refl, all.1) of_data (rw (sym rest) few))

chain_told : (b : Block) (chain : List Block) → IsChain (b ∷ chain) → sum_by (λ x. length x.bytes) (b ∷ chain) < 4294967296 → (v : Bool) → is_data_kind b.kind ≡ v → IsTold (b ∷ chain)
chain_told b chain one few false is = plain_told b chain is few
chain_told b chain one few true is = elim (data-or-control b.kind is) [
  | inl of_data ↦ data_told b chain is of_data (one.all_data of_data) few
  | inr control ↦
      let p = one.parted control in
      parted_chain b chain p.front p.behind p.joined p.some is control p.of_kind p.of_data few
]

-- A message is written where it is a chain with few bytes.
pub message_told : (chain : List Block) → IsChain chain → sum_by (λ x. length x.bytes) chain < 4294967296 → IsTold chain
message_told [] one few = absurd (omega (arith, one.some))
message_told (b ∷ chain) one few = chain_told b chain one few (is_data_kind b.kind) refl
