-- What waits at a head is few enough for numbers of 32 bits.
use Rattle.strm_head.proofs.Prelude.{ℕ, ◌≤◌, List, [], ◌∷◌, arith, length-append, sum_by-cons}
use Rattle.strm_head.specs.Prelude.{first_data, Message, part, cells_of, size_of, StoreValue, IsStore, list_at, message_of, Queue, messages_on}
use Rattle.strm_head.specs.Prelude.{IsReady}
use Rattle.std.proofs.lemmas.List.{length-map}
use Rattle.std.specs.Prelude.{length}
use Rattle.strm_types.specs.Queue.{bytes_of}
use Rattle.strm_queue.proofs.Bounds.{few-bytes}
use Rattle.strm_queue.proofs.Sizes.{bytes-same, list-enough}

-- the first message's data part has no more bytes than all messages
data-within : (ms : List (Message ℕ)) → first_data ms ≤ bytes_of ms
unfolding size_of cells_of
data-within [] = omega arith
data-within (m ∷ ms) = omega (arith, sum_by-cons size_of m ms, length-append (part m.control) (part m.body))

pub data-few : (s : StoreValue) (q : Queue) → IsStore s → IsReady s q → first_data (messages_on s q.list) ≤ 16777216
data-few s q is ready =
    let few = few-bytes s is q.list 0 in
    let same = bytes-same (list_at s q.list) ready.messages.chains in
    omega (arith, few, same, data-within (messages_on s q.list))

-- each message has a block
pub messages-few : (s : StoreValue) (k : ℕ) → IsStore s → length (messages_on s k) ≤ 65536
messages-few s k is = omega (arith, length-map (list_at s k) message_of, list-enough s k is, is.enough, is.few_mblks)
