-- Over a delivery and a turn enabled queues exist, and none is enabled twice.
use Rattle.strm_laws.proofs.Prelude.{◌≡◌, map}
use Rattle.strm_laws.specs.Prelude.{Turn, QueueName, Side, Spot, Cells, Message}
use Rattle.strm_laws.specs.Behaviours.{Behaviour}
use Rattle.strm_laws.specs.Puts.{delivered, put_at_head}
use Rattle.strm_laws.specs.Restorable.{AreEnabled}
use Rattle.strm_laws.specs.StackCosts.{Stands, stands_of}
use Rattle.strm_laws.specs.Stacked.{module_name}
use Rattle.strm_laws.specs.State.{State, Stream, stream, with_stream}
use Rattle.strm_laws.specs.Turns.{turned}
use Rattle.strm_laws.proofs.EnabledExist.{exist}
use Rattle.strm_laws.proofs.NamesKept.{delivered-kept, head-kept, stream-kept, turn-kept}

module _ {C : Type 0} (all : Stands) where
  -- the modules have these names, and enabled queues exist
  abbrev pub Enabled : State C → Type 0
  Enabled s = (stands_of s ≡ all) × AreEnabled all s.enabled

  -- a stream whose modules keep their names
  pub stream-enabled : (side : Side) (t : Stream C) (s : State C)
      → map module_name t.modules ≡ map module_name (stream side s).modules → Enabled s → Enabled (with_stream side t s)
  stream-enabled side t s same is = stream-kept all (AreEnabled all) (exist all) side t s same is

  pub head-enabled : (side : Side) (here : Spot) (m : Message C) (s : State C) → Enabled s → Enabled (put_at_head side here m s).state
  head-enabled side here m s is = head-kept all (AreEnabled all) (exist all) side here m s is

  pub delivered-enabled : (K : Behaviour) (cells : Cells C) (to : Spot) (m : Message C) (s : State C) → Enabled s
      → Enabled (delivered K cells to m s).state
  delivered-enabled K cells to m s is = delivered-kept all (AreEnabled all) (exist all) K cells to m s is

  pub turn-enabled : (K : Behaviour) (cells : Cells C) (name : QueueName) (turn : Turn) (s : State C) → Enabled s
      → Enabled (turned K cells name turn s).state
  turn-enabled K cells name turn s is = turn-kept all (AreEnabled all) (exist all) cells name K turn s is
