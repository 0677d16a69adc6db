-- What is told of a read, and what becomes of the queue.
use Rattle.strm_head.proofs.Prelude.{ℕ, ◌≡◌, ◌+◌, ◌-◌, Bool, true, false, cond, List, [], ◌∷◌, length, map, refl, sym, ap, subst, ◌∙◌, arith}
use Rattle.strm_head.proofs.Prelude.{sum_by-cons, data-readable}
use Rattle.strm_head.specs.Prelude.{ReadMode, ControlMode, Dir, Fates, tallied, is_data_kind, Message, cells_of, size_of, left_with, relieved}
use Rattle.strm_head.specs.Prelude.{relieves, head_draw, takes_none, none_went, Block, StoreValue, block_at, list_at, message_of, Queue, plain_flows}
use Rattle.strm_head.specs.Prelude.{messages_on, queue_in, HoldsReadable, IsHeadQueue, Keeps}
use Rattle.std.specs.Prelude.{count_by}
use Rattle.std.specs.List.{AllByRecursion}
use Rattle.strm_types.specs.Message.{weight_of}
use Rattle.strm_types.specs.Queue as plain
use Rattle.strm_types.specs.Queue.{weight, bytes_of}
use Rattle.strm_types.specs.Reads.{queue_drawn, writer_goes, read_fates, read_told, read_queue, read_lets_go}
use Rattle.strm_types.proofs.ReadKeeps.{head_draw-keeps}
use Rattle.strm_msg.proofs.MadePlain.{plain-none}
use Rattle.strm_head.specs.Drawing.{drops_control}
use Rattle.strm_head.proofs.Passed.{none-dropped}

pub told-some : (dir : Dir) (read : ReadMode) (control : ControlMode) (n : ℕ) (q : List (Message ℕ)) (fates : Fates) → takes_none control n q ≡ false
    → tallied (read_fates dir (head_draw read control n q)) fates ≡ read_told dir read control n q fates
told-some dir read control n q fates is = ap (λ b. tallied (cond b [] (read_fates dir (head_draw read control n q))) fates) (sym is)

-- where there is nothing to take
pub told-none : (dir : Dir) (read : ReadMode) (control : ControlMode) (n : ℕ) (q : List (Message ℕ)) (fates : Fates) → takes_none control n q ≡ true → read_told dir read control n q fates ≡ fates
told-none dir read control n q fates is = ap (λ b. tallied (cond b [] (read_fates dir (head_draw read control n q))) fates) is

module _ (read : ReadMode) (control : ControlMode) (n : ℕ) (q : plain.Queue ℕ) (none : takes_none control n q.messages ≡ true) where
  pub queue-none : read_queue read control n q ≡ q
  queue-none = ap (λ b. cond b q (queue_drawn (head_draw read control n q.messages) q)) none

  pub goes-none : read_lets_go read control n q ≡ false
  goes-none = ap (λ b. cond b false (writer_goes (head_draw read control n q.messages) q)) none

-- where there is something to take, by whether bytes went
module _ (read : ReadMode) (control : ControlMode) (n : ℕ) (q : plain.Queue ℕ) (v : Bool) (some : takes_none control n q.messages ≡ false) (gone : none_went (head_draw read control n q.messages) ≡ v) where
  pub queue-some : read_queue read control n q ≡ cond v (left_with (head_draw read control n q.messages).left q) (relieved (left_with (head_draw read control n q.messages).left q))
  queue-some =
      let d = head_draw read control n q.messages in
      ap (λ b. cond b q (queue_drawn d q)) some ∙ ap (λ b. cond b (left_with d.left q) (relieved (left_with d.left q))) gone

  pub goes-some : read_lets_go read control n q ≡ cond v false (relieves (left_with (head_draw read control n q.messages).left q))
  goes-some =
      let d = head_draw read control n q.messages in
      ap (λ b. cond b false (writer_goes d q)) some ∙ ap (λ b. cond b false (relieves (left_with d.left q))) gone

-- the queue behind the messages that were taken
pub queue-left : (s t : StoreValue) (q q' : Queue) (left : List (Message ℕ)) → messages_on t q'.list ≡ left → plain_flows q'.flows ≡ plain_flows q.flows → q'.want_read ≡ false → q'.no_enable ≡ q.no_enable → queue_in t q' ≡ left_with left (queue_in s q)
queue-left s t q q' left messages flows want_read no_enable =
    ap (λ ms. record { messages = ms; flows = plain_flows q'.flows; want_read = q'.want_read; no_enable = q'.no_enable }) messages
    ∙ ap (λ fs. record { messages = left; flows = fs; want_read = q'.want_read; no_enable = q'.no_enable }) flows
    ∙ ap (λ b. record { messages = left; flows = plain_flows q.flows; want_read = b; no_enable = q'.no_enable }) want_read
    ∙ ap (λ b. record { messages = left; flows = plain_flows q.flows; want_read = false; no_enable = b }) no_enable

-- the bytes of messages with parts are their cells
count-all : (xs : List ℕ) → count_by (λ c. true) xs ≡ length xs
count-all [] = refl
count-all (x ∷ xs) = omega (arith, count-all xs, sum_by-cons (λ (c : ℕ). 1) x xs)

size-is : (m : Message ℕ) → length m.plain ≡ 0 → size_of m ≡ weight_of (λ c. true) m
unfolding size_of weight_of
size-is m none = omega (arith, none, count-all (cells_of m))

sizes-are : (q : List (List Block)) → AllByRecursion (λ chain. is_data_kind (block_at 0 chain).kind ≡ true) q → bytes_of (map message_of q) ≡ weight (λ c. true) (map message_of q)
sizes-are [] all = refl
sizes-are (chain ∷ q) all =
    let m = message_of chain in
    let ms = map message_of q in
    omega (arith, size-is m (plain-none chain all.0), sizes-are q all.1, sum_by-cons (λ (x : Message ℕ). size_of x) m ms, sum_by-cons (λ (x : Message ℕ). weight_of (λ c. true) x) m ms)

-- what a read takes, and what it leaves, are the bytes that stood there
bytes-gone : (read : ReadMode) (control : ControlMode) (n : ℕ) (q left : List (List Block)) → HoldsReadable q → HoldsReadable left → map message_of left ≡ (head_draw read control n (map message_of q)).left
    → length (head_draw read control n (map message_of q)).given + (length (head_draw read control n (map message_of q)).discarded + (length (head_draw read control n (map message_of q)).dropped + bytes_of (map message_of left))) ≡ bytes_of (map message_of q)
bytes-gone read control n q left readable still is =
    let d = head_draw read control n (map message_of q) in
    let all = head_draw-keeps (λ c. true) read control n (map message_of q) in
    omega (arith, all, count-all d.given, count-all d.discarded, count-all d.dropped, ap (weight (λ c. true)) is, sizes-are q readable.each, sizes-are left still.each)

-- by the counts of the queue before and behind it
counts-gone : (read : ReadMode) (control : ControlMode) (n : ℕ) (s t : StoreValue) (q p p' : Queue) (before after : ℕ) → IsHeadQueue s q → Keeps s t p p' → p.list ≡ q.list
    → messages_on t q.list ≡ (head_draw read control n (messages_on s q.list)).left → before ≡ bytes_of (messages_on s q.list) → after ≡ bytes_of (messages_on t p'.list)
    → length (head_draw read control n (messages_on s q.list)).given + (length (head_draw read control n (messages_on s q.list)).discarded + (length (head_draw read control n (messages_on s q.list)).dropped + after)) ≡ before
counts-gone read control n s t q p p' before after head keeps same left before_is after_is =
    let list = keeps.list ∙ same in
    let holds = keeps.holds is_data_kind data-readable (subst (λ k. HoldsReadable (list_at s k)) (sym same) head.readable) in
    let all = bytes-gone read control n (list_at s q.list) (list_at t q.list) head.readable (subst (λ k. HoldsReadable (list_at t k)) list holds) left in
    omega (arith, all, before_is, after_is, ap (λ k. bytes_of (messages_on t k)) list)

-- what neither stands there still nor was given or discarded was dropped
pub dropped-is : (read : ReadMode) (control : ControlMode) (n : ℕ) (s t : StoreValue) (q p p' : Queue) (before after given discarded : ℕ) → IsHeadQueue s q → Keeps s t p p' → p.list ≡ q.list
    → messages_on t q.list ≡ (head_draw read control n (messages_on s q.list)).left
    → before ≡ cond (drops_control control) (bytes_of (messages_on s q.list)) 0 → after ≡ cond (drops_control control) (bytes_of (messages_on t p'.list)) 0
    → length (head_draw read control n (messages_on s q.list)).given ≡ given → discarded ≡ length (head_draw read control n (messages_on s q.list)).discarded
    → length (head_draw read control n (messages_on s q.list)).dropped ≡ before - after - given - discarded
dropped-is read control n s t q p p' before after given discarded head keeps same left before_is after_is given_is discarded_is = at (drops_control control) refl before_is after_is
  where
    at : (b : Bool) → drops_control control ≡ b → before ≡ cond b (bytes_of (messages_on s q.list)) 0 → after ≡ cond b (bytes_of (messages_on t p'.list)) 0
        → length (head_draw read control n (messages_on s q.list)).dropped ≡ before - after - given - discarded
    at true is before_is after_is =
        let all = counts-gone read control n s t q p p' before after head keeps same left before_is after_is in
        omega (arith, all, given_is, discarded_is)
    at false is before_is after_is =
        let none = ap length (none-dropped read control false n (messages_on s q.list) is) in
        omega (arith, none, before_is)
