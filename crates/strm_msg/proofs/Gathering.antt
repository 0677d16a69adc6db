-- The bytes of a message's front run: how many, and how they come into a buffer.
use Rattle.std.proofs.Common.{ℕ, ◌≡◌, ◌≤◌, ◌<◌, ◌+◌, ◌-◌, min, List, [], ◌∷◌, ◌++◌, length, take, drop, sym, ap, ◌∙◌, arith, append-nil}
use Rattle.std.proofs.lemmas.List.{length-append, take_all, take_more, take-append-drop, take-append-le, length-take, take-take}
use Rattle.std.proofs.lemmas.List.Edits.{paste_none}
use Rattle.strm_types.specs.declared.kinds.MsgKind.{MsgKind}
use Rattle.strm_blocks.specs.Blocks.{Block, block_at, no_block}
use Rattle.strm_msg.specs.Bytes.{bytes_of}
use Rattle.strm_msg.specs.Made.{piece}
use Rattle.strm_msg.specs.Taken.{filled}
use Rattle.strm_msg.proofs.AdjustingBytes.{bytes-append}
use Rattle.strm_msg.proofs.Taking.{filled-more, filled-none, length-filled}

-- A buffer into which the bytes of a chain's first so many blocks were put.
pub record Gathered (chain : List Block) (before buffer : List ℕ) (done at : ℕ) : Type 0 where
  pub count : done ≡ min (length before) (length (bytes_of (take at chain)))
  pub given : buffer ≡ filled before (bytes_of (take at chain))

pub gathered-none : (chain : List Block) (buffer : List ℕ) → Gathered chain buffer buffer 0 0
gathered-none chain buffer = record { count = omega arith; given = filled-none buffer }

module _ {chain : List Block} {before buffer : List ℕ} {done at : ℕ} (so : Gathered chain before buffer done at) where
  pub gathered-length : length buffer ≡ length before
  gathered-length = ap (λ xs. length xs) so.given ∙ length-filled before (bytes_of (take at chain))

  pub gathered-more : {buffer' bytes : List ℕ} {n : ℕ} → at < length chain → bytes ≡ (block_at at chain).bytes → n ≡ min (length buffer - done) (length bytes) → buffer' ≡ (take done buffer ++ take n bytes) ++ drop (done + n) buffer → Gathered chain before buffer' (done + n) (at + 1)
  gathered-more {buffer'} {bytes} {n} within bytes_is n_is copied =
      let b = block_at at chain in
      let len = ap (λ xs. length xs) bytes_is in
      let room = gathered-length in
      let count = so.count in
      let more : bytes_of (take (at + 1) chain) ≡ bytes_of (take at chain) ++ b.bytes = ap (λ xs. bytes_of xs) (take_more chain at no_block within) ∙ bytes-append (take at chain) (b ∷ []) ∙ ap (λ xs. bytes_of (take at chain) ++ xs) (append-nil b.bytes) in
      let size = ap (λ xs. length xs) more in
      let both = length-append (bytes_of (take at chain)) b.bytes in
      let fill = filled-more before (bytes_of (take at chain)) b.bytes done n count (omega arith) in
      record {
        count = omega arith;
        given = copied ∙ ap (λ xs. (take done buffer ++ take n xs) ++ drop (done + n) buffer) bytes_is ∙ ap (λ xs. (take done xs ++ take n b.bytes) ++ drop (done + n) xs) so.given ∙ fill ∙ ap (λ xs. filled before xs) (sym more);
      }

  pub gathered-room : done ≤ length buffer
  gathered-room = let room = gathered-length in let count = so.count in omega arith

  -- a full buffer
  pub gathered-full : done ≡ length buffer → buffer ≡ filled before (bytes_of chain)
  gathered-full full =
      let room = gathered-length in
      let count = so.count in
      let front = bytes_of (take at chain) in
      let back = bytes_of (drop at chain) in
      let whole : front ++ back ≡ bytes_of chain = sym (bytes-append (take at chain) (drop at chain)) ∙ ap (λ xs. bytes_of xs) (take-append-drop at chain) in
      so.given ∙ paste_none (filled before front) done back ∙ filled-more before front back done 0 count (omega arith) ∙ ap (λ xs. filled before xs) whole

  -- how many there are, by then
  pub full-count : done ≡ length buffer → done ≡ min (length before) (length (bytes_of chain))
  full-count full =
      let room = gathered-length in
      let count = so.count in
      let front = bytes_of (take at chain) in
      let back = bytes_of (drop at chain) in
      let whole : front ++ back ≡ bytes_of chain = sym (bytes-append (take at chain) (drop at chain)) ∙ ap (λ xs. bytes_of xs) (take-append-drop at chain) in
      let len = ap (λ xs. length xs) whole in
      let both = length-append front back in
      omega arith

  pub all-count : length chain ≤ at → done ≡ min (length before) (length (bytes_of chain))
  all-count all = so.count ∙ ap (λ xs. min (length before) (length (bytes_of xs))) (take_all at chain all)

  pub gathered-all : length chain ≤ at → buffer ≡ filled before (bytes_of chain)
  gathered-all all = so.given ∙ ap (λ xs. filled before (bytes_of xs)) (take_all at chain all)

-- the first bytes of a buffer that has more
pub filled-first : (buffer bytes : List ℕ) (count : ℕ) → count ≤ length buffer → count ≤ length bytes → take count (filled buffer bytes) ≡ take count bytes
filled-first buffer bytes count room enough =
    let len = length-take (length buffer) bytes in
    take-append-le count (take (length buffer) bytes) (drop (length bytes) buffer) (omega arith) ∙ take-take count (length buffer) bytes room

-- a block of the first bytes of a chain
pub piece-first : {kind : MsgKind} {band : ℕ} (k : MsgKind) (b : ℕ) (zeros bytes buffer : List ℕ) (count : ℕ) → kind ≡ k → band ≡ b → buffer ≡ filled zeros bytes → count ≤ length zeros → count ≤ length bytes → piece kind band (take count buffer) ≡ piece k b (take count bytes)
piece-first {kind} {band} k b zeros bytes buffer count kind_is band_is given room enough =
    ap (λ x. piece x band (take count buffer)) kind_is ∙ ap (λ n. piece k n (take count buffer)) band_is ∙ ap (λ xs. piece k b (take count xs)) given ∙ ap (λ xs. piece k b xs) (filled-first zeros bytes count room enough)
