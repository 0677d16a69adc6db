-- A queue of good messages with marks in order stays one as puts, flushes, takes and waiting writers change it.
use Rattle.strm_laws.proofs.Prelude.{ℕ, zero, suc, ◌≤◌, ◌<◌, Bool, true, false, cond, List, [], ◌∷◌, ◌&&◌, ◌^◌, nat_le, nat_lt, replicate}
use Rattle.strm_laws.proofs.Prelude.{Ordered-put}
use Rattle.strm_laws.specs.Prelude.{MsgKind, BANDS, Choice, emptied, none_goes, queue_behind, Message, rank_of, with_waiting, Flow, Queue, count_of}
use Rattle.strm_laws.specs.Prelude.{new_queue, put, put_back, put_on, relieved, relieved_from, turn_ended}
use Rattle.std.specs.List.{AllByRecursion}
use Rattle.strm_types.specs.Queue.{with_writer_at}
use Rattle.strm_laws.specs.Restorable.{AreMarks, GoodQueue, StandsOn}
use Rattle.strm_laws.proofs.QueueOrder.{all-stayed, stayed-order}

module _ {C : Type 0} (P : Message C → Type 0) where
  -- what holds of all messages of a queue, and of one that is put there
  pub all-put : (m : Message C) (ms : List (Message C)) → P m → AllByRecursion P ms → AllByRecursion P (put m ms)
  all-put m [] one all = (one, tt)
  all-put m (first ∷ rest) one all = at (nat_le (rank_of m) (rank_of first)) (all-put m rest one all.1)
    where
      at : (behind : Bool) → AllByRecursion P (put m rest) → AllByRecursion P (cond behind (first ∷ put m rest) (m ∷ first ∷ rest))
      at true more = (all.0, more)
      at false more = (one, all)

  pub all-put_back : (m : Message C) (ms : List (Message C)) → P m → AllByRecursion P ms → AllByRecursion P (put_back m ms)
  all-put_back m [] one all = (one, tt)
  all-put_back m (first ∷ rest) one all = at (nat_lt (rank_of m) (rank_of first)) (all-put_back m rest one all.1)
    where
      at : (behind : Bool) → AllByRecursion P (put_back m rest) → AllByRecursion P (cond behind (first ∷ put_back m rest) (m ∷ first ∷ rest))
      at true more = (all.0, more)
      at false more = (one, all)

-- the marks of bands where writers wait, or are let go
module _ {C : Type 0} where
  marks-relieved : (band : ℕ) (ms : List (Message C)) (flows : List Flow) → AllByRecursion AreMarks flows → AllByRecursion AreMarks (relieved_from band ms flows)
  marks-relieved band ms [] all = tt
  marks-relieved band ms (flow ∷ flows) all = (at (flow.want_write && nat_le (count_of band ms) flow.low), marks-relieved (suc band) ms flows all.1)
    where
      at : (goes : Bool) → AreMarks (cond goes (record flow { want_write = false }) flow)
      at true = record { some = all.0.some; order = all.0.order; bits = all.0.bits }
      at false = all.0

marks-waiting : (band : ℕ) (flows : List Flow) → AllByRecursion AreMarks flows → AllByRecursion AreMarks (with_writer_at band flows)
marks-waiting band [] all = tt
marks-waiting zero (flow ∷ flows) all = (record { some = all.0.some; order = all.0.order; bits = all.0.bits }, all.1)
marks-waiting (suc band) (flow ∷ flows) all = (all.0, marks-waiting band flows all.1)

marks-new : (n high low : ℕ) → 1 ≤ high → low ≤ high → high < 2 ^ 32 → AllByRecursion AreMarks (replicate n (record { high = high; low = low; want_write = false }))
marks-new zero high low some order bits = tt
marks-new (suc n) high low some order bits = (record { some = some; order = order; bits = bits }, marks-new n high low some order bits)

module _ {C : Type 0} (stands : MsgKind → Bool) where
  pub new-good : (high low : ℕ) → 1 ≤ high → low ≤ high → high < 2 ^ 32 → GoodQueue {C = C} stands (new_queue high low)
  new-good high low some order bits = record { messages = tt; order = tt; marks = marks-new BANDS high low some order bits }

  pub relieved-good : (q : Queue C) → GoodQueue stands q → GoodQueue stands (relieved q)
  relieved-good q good = record { messages = good.messages; order = good.order; marks = marks-relieved 0 q.messages q.flows good.marks }

  pub waiting-good : (band : ℕ) (q : Queue C) → GoodQueue stands q → GoodQueue stands (with_waiting band q)
  waiting-good band q good = record { messages = good.messages; order = good.order; marks = marks-waiting band q.flows good.marks }

  pub put-good : (m : Message C) (q : Queue C) → StandsOn stands m → GoodQueue stands q → GoodQueue stands (put_on m q)
  put-good m q one good = record { messages = all-put (λ m. StandsOn stands m) m q.messages one good.messages; order = Ordered-put rank_of m q.messages good.order; marks = good.marks }

  either-good : (b : Bool) (one another : Queue C) → GoodQueue stands one → GoodQueue stands another → GoodQueue stands (cond b one another)
  either-good true one another first second = first
  either-good false one another first second = second

  emptied-good : (chosen : Choice) (q : Queue C) → GoodQueue stands q → GoodQueue stands (emptied chosen q)
  emptied-good chosen q good = record { messages = all-stayed (λ m. StandsOn stands m) chosen q.messages good.messages; order = stayed-order chosen q.messages good.order; marks = good.marks }

  pub behind-good : (chosen : Choice) (q : Queue C) → GoodQueue stands q → GoodQueue stands (queue_behind chosen q)
  behind-good chosen q good =
      let rest = emptied-good chosen q good in
      either-good (none_goes chosen q) (emptied chosen q) (relieved (emptied chosen q)) rest (relieved-good (emptied chosen q) rest)

  pub ended-good : (took : Bool) (q : Queue C) → GoodQueue stands q → GoodQueue stands (turn_ended took q)
  ended-good true q good = record { messages = good.messages; order = good.order; marks = marks-relieved 0 q.messages q.flows good.marks }
  ended-good false q good = record { messages = good.messages; order = good.order; marks = good.marks }
