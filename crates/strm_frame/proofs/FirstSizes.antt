-- The first message of a queue has no more bytes than all blocks of a store.
use Rattle.strm_frame.proofs.Prelude.{ℕ, ◌≤◌, List, [], ◌∷◌, arith, sum_by-cons}
use Rattle.strm_frame.specs.Prelude.{Message, bytes_of, first_size, StoreValue, IsStore, list_at, Queue, messages_on, IsReady}
use Rattle.strm_types.specs.Message.{size_of}
use Rattle.strm_queue.proofs.Bounds.{few-bytes}
use Rattle.strm_queue.proofs.Sizes.{bytes-same}

-- it has no more than all of them
pub first-within : (ms : List (Message ℕ)) → first_size ms ≤ bytes_of ms
first-within [] = omega arith
first-within (m ∷ ms) = omega (arith, sum_by-cons size_of m ms)

pub first-few : (s : StoreValue) (q : Queue) → IsStore s → IsReady s q → first_size (messages_on s q.list) ≤ 16777216
first-few s q st ready =
    let few = few-bytes s st q.list 0 in
    let same = bytes-same (list_at s q.list) ready.messages.chains in
    let first = first-within (messages_on s q.list) in
    omega arith
