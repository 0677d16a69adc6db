-- The messages of a pair have 256 bytes at most for each block that a store has.
use Rattle.strm_pair.proofs.Prelude.{ℕ, ◌≡◌, ◌≤◌, ◌+◌, Bool, true, false, cond, List, [], ◌∷◌, length, length-append, map, refl, ap, sym, arith}
use Rattle.strm_pair.proofs.Prelude.{◌*◌, None, sum_by, false≢true, sum_by-append, sum_by-cons, bytes-sum, control-body}
use Rattle.strm_pair.specs.Prelude.{Master, Slave, is_data_kind, is_body_kind, is_control_kind, Message, cells_of, part, size_of, Queue}
use Rattle.strm_pair.specs.Prelude.{bytes_of, AreIdle, stream_queues, Block, StoreValue, IsStore}
use Rattle.strm_pair.specs.Prelude.{block_at, list_at, control_blocks, data_blocks, message_of, messages_on, part_of}
use Rattle.strm_image.specs.HasImage.{bytes_in}
use Rattle.strm_blocks.specs.Blocks.{extent}
use Rattle.strm_msg.specs.Bytes as chains
use Rattle.strm_msg.proofs.Parts.{control-blocks-cons}
use Rattle.strm_queue.proofs.Bounds.{bytes-extent}
use Rattle.strm_pair.specs.declared.streams.Streams.{Streams}
use Rattle.strm_pair.specs.Pairs.{state_in, AreHeld}
use Rattle.strm_pair.specs.Streams.{stream_in}
use Rattle.strm_pair.proofs.FreeBlocks.{all-lists, side_sum}
use Rattle.strm_pair.proofs.Shown.{stream-sum}

abbrev lengths_of : List Block → ℕ
lengths_of chain = sum_by (λ (b : Block). length b.bytes) chain

one-more : (b : Block) (chain : List Block) → lengths_of (b ∷ chain) ≡ length b.bytes + lengths_of chain
one-more b chain = sum_by-cons (λ (x : Block). length x.bytes) b chain

-- no block is in both parts
at-front : (b : Block) (chain : List Block) (v w : Bool) → (v ≡ true → w ≡ false) → lengths_of (control_blocks chain) + lengths_of (data_blocks chain) ≤ lengths_of chain
    → lengths_of (cond v (b ∷ control_blocks chain) []) + lengths_of (cond w (b ∷ data_blocks chain) (data_blocks chain)) ≤ lengths_of (b ∷ chain)
at-front b chain true true other ih = absurd (false≢true (sym (other refl)))
at-front b chain true false other ih = omega (arith, ih, one-more b (control_blocks chain), one-more b chain)
at-front b chain false true other ih = omega (arith, ih, one-more b (data_blocks chain), one-more b chain)
at-front b chain false false other ih = omega (arith, ih, one-more b chain)

parts-most : (chain : List Block) → lengths_of (control_blocks chain) + lengths_of (data_blocks chain) ≤ lengths_of chain
parts-most [] = omega arith
parts-most (b ∷ chain) =
    let front : lengths_of (control_blocks (b ∷ chain)) ≡ lengths_of (cond (is_control_kind b.kind) (b ∷ control_blocks chain) []) = ap lengths_of (control-blocks-cons b chain) in
    omega (arith, front, at-front b chain (is_control_kind b.kind) (is_body_kind b.kind) (control-body b.kind) (parts-most chain))

part-size : (xs : List Block) → length (part (part_of xs)) ≡ lengths_of xs
part-size [] = refl
part-size (b ∷ xs) = bytes-sum (b ∷ xs)

-- a message with parts, and one without
abbrev parted : List Block → Message ℕ
parted chain = record { kind = (block_at 0 chain).kind; band = (block_at 0 chain).band; control = part_of (control_blocks chain); body = part_of (data_blocks chain); plain = [] }

abbrev unparted : List Block → Message ℕ
unparted chain = record { kind = (block_at 0 chain).kind; band = (block_at 0 chain).band; control = None; body = None; plain = chains.bytes_of chain }

size-either : (chain : List Block) (v : Bool) → size_of (cond v (parted chain) (unparted chain)) ≤ lengths_of chain
unfolding size_of cells_of
size-either chain true =
    omega (arith, length-append (part (part_of (control_blocks chain))) (part (part_of (data_blocks chain))), part-size (control_blocks chain), part-size (data_blocks chain), parts-most chain)
size-either chain false = omega (arith, bytes-sum chain)

size-most : (chain : List Block) → size_of (message_of chain) ≤ lengths_of chain
unfolding message_of
size-most chain = size-either chain (is_data_kind (block_at 0 chain).kind)

-- so do the messages on a list
list-most : (q : List (List Block)) → bytes_of (map message_of q) ≤ sum_by extent q
list-most [] = omega arith
list-most (chain ∷ q) = omega (arith, size-most chain, bytes-extent chain, list-most q, sum_by-cons size_of (message_of chain) (map message_of q), sum_by-cons extent chain q)

abbrev queue_bytes : Queue ℕ → ℕ
queue_bytes q = bytes_of q.messages

module _ (s : StoreValue) where
  abbrev on_list : ℕ → ℕ
  on_list k = sum_by extent (list_at s k)

  side-bytes : (first : ℕ) → side_sum (λ k. bytes_of (messages_on s k)) first ≤ side_sum on_list first
  side-bytes first =
      let one : (k : ℕ) → bytes_of (messages_on s k) ≤ sum_by extent (list_at s k) = λ k. list-most (list_at s k) in
      omega (
        arith,
        one first,
        one (first + 1),
        one (first + 2),
        one (first + 3),
        one (first + 4),
        one (first + 5),
        one (first + 6),
        one (first + 7),
      )

  pub state-bytes : (p : Streams) → AreHeld s p → AreIdle (state_in s p) → IsStore s → bytes_in (state_in s p) ≤ 256 * s.mblks
  state-bytes p held idle is =
      let m = stream_in s p.ends.master in
      let n = stream_in s p.ends.slave in
      omega (
        arith,
        sum_by-append queue_bytes (stream_queues m) (stream_queues n),
        stream-sum s 0 p.ends.master (held.beside Master) (idle Master) (λ ms. bytes_of ms) refl,
        stream-sum s 8 p.ends.slave (held.beside Slave) (idle Slave) (λ ms. bytes_of ms) refl,
        side-bytes 0,
        side-bytes 8,
        all-lists (λ q. sum_by extent q) s is.eight,
        is.small,
        is.enough,
      )
