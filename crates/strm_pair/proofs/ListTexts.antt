-- The texts of messages are written one behind the other, with their number in front.
use Rattle.strm_pair.proofs.Prelude.{ℕ, ◌≡◌, ◌<◌, List, [], ◌∷◌, length, map, sym, ap, ◌∙◌, arith, sum_by, min, length-map, sum_by-cons, put_both}
use Rattle.strm_pair.proofs.Prelude.{put_nothing, few-bytes}
use Rattle.strm_pair.specs.Prelude.{Block, StoreValue, IsStore, list_at, seen_in, QueueKind, Second, message, Given, put, message_of, IsChain}
use Rattle.strm_pair.specs.Prelude.{messages_on}
use Rattle.std.specs.Prelude.{true}
use Rattle.std.specs.Int.{to_be_bytes, w32}
use Rattle.std.specs.List.{AllByRecursion}
use Rattle.strm_blocks.specs.Outcomes.{seen_on}
use Rattle.strm_image.specs.Messages.{messages}
use Rattle.strm_image.proofs.WrittenRows.{messages_told}
use Rattle.strm_queue.specs.Kept.{bytes_of}
use Rattle.strm_queue.proofs.Sizes.{list-enough}
use Rattle.strm_pair.specs.Writings.{ended, texts_of}
use Rattle.strm_pair.specs.declared.images.texts.Writing.{Writing}
use Rattle.strm_pair.proofs.ChainTexts.{message_told, tells, tells_both}

list_told : (w : Writing) (q : List (List Block)) → AllByRecursion IsChain q → sum_by bytes_of q < 4294967296 → (ended (tells w (seen_on q))).out ≡ put (texts_of (map message_of q)) (ended w).out
list_told w [] all few = sym (put_nothing (ended w).out)
list_told w (chain ∷ q) all few =
    let s = sum_by-cons bytes_of chain q in
    let v = tells w (seen_in true chain) in
    ap (λ x. (ended x).out) (tells_both w (seen_in true chain) (seen_on q))
    ∙ list_told v q all.1 (omega (arith, few, s))
    ∙ ap (put (texts_of (map message_of q))) (message_told chain all.0 (omega (arith, few, s)) w)
    ∙ put_both ((message Second).text (message_of chain)) (texts_of (map message_of q)) (ended w).out

-- all messages of a list of a store
pub store_told : (s : StoreValue) (k : ℕ) (w : Writing) → IsStore s → AllByRecursion IsChain (list_at s k) → (ended (tells w (seen_on (list_at s k)))).out ≡ put (texts_of (messages_on s k)) (ended w).out
store_told s k w is all = list_told w (list_at s k) all (omega (arith, few-bytes s is k 0))

-- with their number in front, which 32 bits hold
pub counted_told : (s : StoreValue) (k n : ℕ) (front : List ℕ) (g h r : Given) → IsStore s → n ≡ min (length (messages_on s k)) 4294967295
    → front ≡ to_be_bytes w32 n → h ≡ put front g → r ≡ put (texts_of (messages_on s k)) h → (at : QueueKind) → r ≡ put ((messages Second at).text (messages_on s k)) g
counted_told s k n front g h r is here number first each at =
    let few : n ≡ length (messages_on s k) = let a = list-enough s k is in let l = length-map (list_at s k) message_of in omega (arith, here, a, l, is.enough, is.few_mblks) in
    each ∙ ap (put (texts_of (messages_on s k))) (first ∙ ap (λ xs. put xs g) (number ∙ ap (to_be_bytes w32) few))
    ∙ put_both (to_be_bytes w32 (length (messages_on s k))) (texts_of (messages_on s k)) g
    ∙ ap (λ xs. put xs g) (sym (messages_told at (messages_on s k)))
