-- Where all messages of a pair and all their bytes are few, each queue and each message is short.
use Rattle.strm_image.proofs.Prelude.{ℕ, ◌<◌, List, [], ◌∷◌, length, arith, ◌^◌, length-append, sum_by-cons}
use Rattle.strm_image.specs.Prelude.{Message, cells_of, part, size_of, Queue, bytes_of, State, messages_in, queues_of}
use Rattle.std.specs.List.{AllByRecursion, sum_by}
use Rattle.strm_image.specs.HasImage.{AreShort, IsShort, IsShortQueue, bytes_in}

message_short : (m : Message ℕ) → size_of m < 2 ^ 32 → IsShort m
unfolding size_of cells_of
message_short m few = let parts = length-append (part m.control) (part m.body) in record { control = omega (arith, few, parts); body = omega (arith, few, parts); plain = omega (arith, few) }

messages_short : (ms : List (Message ℕ)) → bytes_of ms < 2 ^ 32 → AllByRecursion IsShort ms
messages_short [] few = tt
messages_short (m ∷ ms) few = let sum = sum_by-cons size_of m ms in (message_short m (omega (arith, few, sum)), messages_short ms (omega (arith, few, sum)))

queues_short : (qs : List (Queue ℕ)) → sum_by (λ (q : Queue ℕ). length q.messages) qs < 2 ^ 32 → sum_by (λ (q : Queue ℕ). bytes_of q.messages) qs < 2 ^ 32 → AllByRecursion IsShortQueue qs
queues_short [] few small = tt
queues_short (q ∷ qs) few small =
    let count = sum_by-cons (λ (p : Queue ℕ). length p.messages) q qs in
    let bytes = sum_by-cons (λ (p : Queue ℕ). bytes_of p.messages) q qs in
    (record { few = omega (arith, few, count); each = messages_short q.messages (omega (arith, small, bytes)) }, queues_short qs (omega (arith, few, count)) (omega (arith, small, bytes)))

pub few_short : (s : State ℕ) → messages_in s < 2 ^ 32 → bytes_in s < 2 ^ 32 → AreShort s
few_short s few small = queues_short (queues_of s) few small
