-- Bytes in pieces of at most 256.
use Rattle.std.proofs.Common.{ℕ, zero, suc, ◌≡◌, ◌≤◌, ◌<◌, ◌+◌, ◌-◌, ◌*◌, min, List, [], ◌∷◌, ◌++◌, length, take, drop, map, subst, refl, sym, ap, ◌∙◌, arith, inl, inr, add-one}
use Rattle.std.proofs.lemmas.Bool.{cases_lt}
use Rattle.std.proofs.Math.Seq.{take-add}
use Rattle.std.proofs.lemmas.List.{length-map, length-drop, drop-drop, map-append, take_all}
use Rattle.strm_types.specs.declared.kinds.MsgKind.{MsgKind}
use Rattle.strm_types.specs.Write.{chunk_count, chunks_of}
use Rattle.strm_blocks.specs.Blocks.{Block, StoreValue, in_hand, changed, dropped}
use Rattle.strm_blocks.specs.Outcomes.{Copied, NoneFree}
use Rattle.strm_msg.specs.Bytes.{bytes_of}
use Rattle.strm_msg.specs.Made.{Made, MadeOf, TooFew, copies_of, piece, pieces}
use Rattle.strm_msg.proofs.Hands.{held-chain}
use Rattle.strm_msg.proofs.Making.{Made-one, Made-more, Made-fails}

-- how many pieces there are, and which bytes the next one has
pub length-chunks : (n : ℕ) (cells : List ℕ) → length (chunks_of n cells) ≡ n
length-chunks zero cells = refl
length-chunks (suc n) cells = ap suc (length-chunks n (drop 256 cells))

pub chunks-more : (n : ℕ) (cells : List ℕ) → chunks_of (suc n) cells ≡ chunks_of n cells ++ take 256 (drop (n * 256) cells) ∷ []
chunks-more zero cells = refl
chunks-more (suc n) cells =
    let ih = chunks-more n (drop 256 cells) in
    let moved = drop-drop (n * 256) 256 cells in
    let e : 256 + n * 256 ≡ suc n * 256 = omega arith in
    ap (λ xs. take 256 cells ∷ xs) ih ∙ ap (λ xs. take 256 cells ∷ (chunks_of n (drop 256 cells) ++ take 256 xs ∷ [])) (moved ∙ ap (λ k. drop k cells) e)

-- as many pieces as there are begun 256 bytes
pub chunk-within : (at n : ℕ) → 1 ≤ at → at < chunk_count n → at * 256 < n
unfolding chunk_count
chunk-within at n some within = omega arith

-- the first piece, and one more, as blocks
module _ (kind : MsgKind) (band : ℕ) (bytes : List ℕ) where
  abbrev pub first_pieces : ℕ → List Block
  first_pieces n = map (piece kind band) (chunks_of n bytes)

  pub pieces-more : (n : ℕ) → first_pieces (n + 1) ≡ first_pieces n ++ piece kind band (take 256 (drop (n * 256) bytes)) ∷ []
  pieces-more n = ap (λ k. first_pieces k) (add-one n) ∙ ap (λ xs. map (piece kind band) xs) (chunks-more n bytes) ∙ map-append (piece kind band) (chunks_of n bytes) (take 256 (drop (n * 256) bytes) ∷ [])

  pub length-pieces : (n : ℕ) → length (first_pieces n) ≡ n
  length-pieces n = length-map (chunks_of n bytes) (piece kind band) ∙ length-chunks n bytes

-- the next piece, which is hung behind the others
pub piece-next : {old mid hung new : StoreValue} {i j r : ℕ} (kind : MsgKind) (band : ℕ) (bytes shown : List ℕ) (at : ℕ) → Made old mid i (first_pieces kind band bytes at) → shown ≡ take 256 (drop (at * 256) bytes) → Copied mid hung j (piece kind band shown) → r ≡ i → new ≡ changed (dropped hung j) i (in_hand hung i ++ in_hand hung j) → Made old new r (first_pieces kind band bytes (at + 1))
piece-next {old} {mid} {hung} {new} {i} {j} {r} kind band bytes shown at m is c kept link =
    let more = Made-more m (subst (λ (xs : List ℕ). Copied mid hung j (piece kind band xs)) is c) link in
    subst (λ (k : ℕ). Made old new k (first_pieces kind band bytes (at + 1))) (sym kept) (subst (λ (xs : List Block). Made old new i xs) (sym (pieces-more kind band bytes at)) more)

-- how many there are in all, and that there is one
pub chunk-some : (n : ℕ) → 0 < chunk_count n
unfolding chunk_count
chunk-some n = omega arith

-- the first piece
pub piece-first : {old new : StoreValue} {i : ℕ} (kind : MsgKind) (band : ℕ) (bytes shown : List ℕ) → shown ≡ take 256 bytes → Copied old new i (piece kind band shown) → Made old new i (first_pieces kind band bytes 1)
piece-first {old} {new} {i} kind band bytes shown is c = Made-one (subst (λ (xs : List ℕ). Copied old new i (piece kind band xs)) is c)

-- what fails behind some pieces
pub pieces-fail : {old mid mid' new : StoreValue} {i : ℕ} (kind : MsgKind) (band : ℕ) (bytes : List ℕ) (at n : ℕ) → at < n → Made old mid i (first_pieces kind band bytes at) → NoneFree mid mid' → new ≡ dropped mid' i → TooFew old new n
pieces-fail kind band bytes at n less m none left = Made-fails n (let l = length-pieces kind band bytes at in omega arith) m none left

-- the bytes that pieces show
pub pieces-shown : (kind : MsgKind) (band : ℕ) (n : ℕ) (cells : List ℕ) → bytes_of (map (piece kind band) (chunks_of n cells)) ≡ take (n * 256) cells
pieces-shown kind band zero cells = refl
pieces-shown kind band (suc n) cells =
    let ih = pieces-shown kind band n (drop 256 cells) in
    let e : 256 + n * 256 ≡ suc n * 256 = omega arith in
    ap (λ xs. take 256 cells ++ xs) ih ∙ sym (take-add 256 (n * 256) cells) ∙ ap (λ k. take k cells) e

-- the pieces are long enough for all bytes
chunk-enough : (n : ℕ) → n ≤ chunk_count n * 256
unfolding chunk_count
chunk-enough n = omega arith

-- all pieces
pub pieces-all : {old new : StoreValue} {i : ℕ} (kind : MsgKind) (band : ℕ) (bytes : List ℕ) (at : ℕ) → at ≡ chunk_count (length bytes) → Made old new i (first_pieces kind band bytes at) → MadeOf old new i kind band bytes
pieces-all {old} {new} {i} kind band bytes at is m =
    let all : Made old new i (pieces kind band bytes) = subst (λ (n : ℕ). Made old new i (first_pieces kind band bytes n)) is m in
    let chain = copies_of all.numbers (pieces kind band bytes) in
    let held_chain : in_hand new i ≡ chain = ap (λ s. in_hand s i) all.after ∙ held-chain old i chain in
    let enough = chunk-enough (length bytes) in
    record {
      made = all;
      shows = ap (λ xs. bytes_of xs) held_chain ∙ all.shown ∙ pieces-shown kind band (chunk_count (length bytes)) bytes ∙ take_all (chunk_count (length bytes) * 256) bytes enough;
    }

-- at most 256 bytes of a list
pub shown-is : (bytes : List ℕ) (n : ℕ) → n ≡ min (length bytes) 256 → take n bytes ≡ take 256 bytes
shown-is bytes n is =
    elim (cases_lt (length bytes) 256) [
      | inl lt ↦ take_all n bytes (omega arith) ∙ sym (take_all 256 bytes (omega arith))
      | inr le ↦ ap (λ k. take k bytes) (let e : n ≡ 256 = omega arith in e)
    ]

pub chunk-is : (bytes : List ℕ) (from n : ℕ) → n ≡ min (length bytes - from) 256 → take n (take (length bytes - from) (drop from bytes)) ≡ take 256 (drop from bytes)
chunk-is bytes from n is =
    let len = length-drop from bytes in
    ap (λ xs. take n xs) (take_all (length bytes - from) (drop from bytes) (omega arith)) ∙ shown-is (drop from bytes) n (omega arith)
