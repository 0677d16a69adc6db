-- A pair as it is made is a base, and so is each state of a legal journal that begins at one.
use Rattle.strm_laws.proofs.Prelude.{ℕ, ◌<◌, List, [], ◌∷◌, ◌++◌, refl, arith, Option, None, Some}
use Rattle.strm_laws.specs.Prelude.{Dir, MasterToSlave, SlaveToMaster, Side, Master, Slave, Fates, plain, PlainEntry, IsOrdered, Queue, no_fates}
use Rattle.strm_laws.specs.Prelude.{QueuePair, stood}
use Rattle.std.proofs.Common.{◌^◌}
use Rattle.std.specs.List.{AllByRecursion}
use Rattle.strm_laws.specs.Bases.{IsBase}
use Rattle.strm_laws.specs.Behaviours.{Behaviour}
use Rattle.strm_laws.specs.Kept.{NothingUnread, told_by}
use Rattle.strm_laws.specs.Ledgers.{Balanced, FewBooked}
use Rattle.strm_laws.specs.Restorable.{AreWithinEntries, GoodModule, GoodPair, GoodStream, Restorable}
use Rattle.strm_laws.specs.Stacked.{Standing, queues_of_modules}
use Rattle.strm_laws.specs.State.{AreOrdered, State, Stream, book, opening, stream, stream_queues}
use Rattle.strm_laws.specs.Step.{IsLegal, replay}
use Rattle.strm_laws.proofs.LedgerSums.{agrees}
use Rattle.strm_laws.proofs.RestorableSteps.{opening-restorable, replay-restorable}

module _ {C : Type 0} where
  abbrev InOrder : Queue C → Type 0
  InOrder q = IsOrdered q.messages

  join-order : (qs rs : List (Queue C)) → AllByRecursion InOrder qs → AllByRecursion InOrder rs → AllByRecursion InOrder (qs ++ rs)
  join-order [] rs all more = more
  join-order (q ∷ qs) rs all more = (all.0, join-order qs rs all.1 more)

  -- each queue that an image may hold is in order
  modules-order : (ps : List (Standing C)) → AllByRecursion GoodModule ps → AllByRecursion InOrder (queues_of_modules ps)
  modules-order [] all = tt
  modules-order (p ∷ ps) all = by p.queues all.0.queues (modules-order ps all.1)
    where
      by : (queues : Option (QueuePair C)) → GoodPair queues → AllByRecursion InOrder (queues_of_modules ps) → AllByRecursion InOrder (queues_of_modules (stood p.part queues ∷ ps))
      by None good below = below
      by (Some pair) good below = (good.0.order, (good.1.order, below))

  stream-order : (side : Side) (t : Stream C) → GoodStream side t → AllByRecursion InOrder (stream_queues t)
  stream-order side t good =
      (good.head.queue.order, join-order (queues_of_modules t.modules) (t.driver.queue ∷ []) (modules-order t.modules good.modules.each) (good.driver.order, tt))

  pub restorable-order : (s : State C) → Restorable s → AreOrdered s
  restorable-order s is =
      join-order (stream_queues (stream Master s)) (stream_queues (stream Slave s)) (stream-order Master (stream Master s) (is.streams Master)) (stream-order Slave (stream Slave s) (is.streams Slave))

  -- a side that isn't open has nothing for its readers
  pub restorable-unread : (s : State C) → Restorable s → NothingUnread s
  restorable-unread s is side closed = ((is.streams side).shut closed).unread

pub opening-base : IsBase opening no_fates
opening-base = record { ordered = restorable-order {C = ℕ} opening opening-restorable; restorable = opening-restorable; balanced = none; few = record { written = low; made = low-made } }
  where
    none : (dir : Dir) → Balanced dir opening no_fates
    none MasterToSlave = record { rules = refl; agree = refl }
    none SlaveToMaster = record { rules = refl; agree = refl }

    low : (dir : Dir) → (book dir (opening {C = ℕ})).written < 2 ^ 63
    low MasterToSlave = omega arith
    low SlaveToMaster = omega arith

    low-made : (dir : Dir) → (book dir (opening {C = ℕ})).made < 2 ^ 63
    low-made MasterToSlave = omega arith
    low-made SlaveToMaster = omega arith

pub base-on : (K : Behaviour) (s : State ℕ) (fates : Fates) (es : List PlainEntry) → IsBase s fates → AreWithinEntries es → IsLegal K plain s es → FewBooked (replay K plain s es) → IsBase (replay K plain s es) (told_by K plain s es fates)
base-on K s fates es base within legal few =
    let is = replay-restorable K plain s es within base.restorable legal in
    record {
      ordered = restorable-order (replay K plain s es) is;
      restorable = is;
      balanced = λ dir. agrees K dir s fates es (restorable-unread s base.restorable) base.restorable.idle legal (base.balanced dir)
          (let w = few.written dir in let m = few.made dir in omega arith);
      few = few;
    }
