-- What the toys of the tests do.
use Rattle.std.specs.Prelude.{ℕ, List, Option, None, Some, ◌+◌, ◌%◌, ◌^◌, ◌==◌, if◌then◌else◌, Bool, true, false, [], ◌∷◌}
use Rattle.strm_types.specs.declared.kinds.MsgKind.{MsgKind}
use Rattle.strm_types.specs.declared.kinds.MsgKind.TheVariants.{Data, Flush}
use Rattle.strm_types.specs.declared.names.ModuleName.{ModuleName}
use Rattle.strm_types.specs.declared.names.Way.{Way}
use Rattle.strm_types.specs.declared.names.Way.TheVariants.{Up, Down}
use Rattle.strm_types.specs.declared.spots.Spot.{Spot}
use Rattle.strm_types.specs.declared.spots.Note.TheVariants.{Enable}
use Rattle.strm_types.specs.Queue.{put_on, put_enables, left_with, is_none_left}
use Rattle.strm_types.specs.Message.{Message, size_of}
use Rattle.strm_types.specs.Budgets.{Costs, Table}
use Rattle.strm_types.specs.Deliver.{Took, Acted, toward}
use Rattle.strm_types.specs.Shapes.{At, Shape}
use Rattle.strm_types.specs.Service.{Serving}
use Rattle.strm_types.specs.Standings.{QueuePair, Standing, messages_at, with_way_queue}
use Rattle.strm_types.specs.declared.spots.Asks.{Asks}
use Rattle.strm_types.specs.declared.spots.Asks.TheVariants as asked

abbrev pub is_flush : MsgKind → Bool
is_flush Flush = true
is_flush _ = false

-- which way a message goes on: an M_FLUSH that comes up is sent down again
abbrev pub onward : MsgKind → Way → Way
onward kind Up = if is_flush kind then Down else Up
onward kind Down = Down

-- no block is taken, and what comes up may be turned once
abbrev pub stock_emits : Way → Shape → List (Way × Shape)
stock_emits Up shape = (Up, shape) ∷ (Down, shape) ∷ []
stock_emits Down shape = (Down, shape) ∷ []

abbrev pub stock_does : Table
stock_does way shape = record { own = 0; makes = 0; emits = stock_emits way shape }

-- the next message of a module that turns flushes
abbrev pub turns : {C P : Type 0} → Spot → Message C → P → Acted C P
turns here m p = record {
  state = p;
  notes = [];
  sent = record { to = toward (onward m.kind here.way) here; message = m } ∷ [];
  gone = [];
}

-- Stations that count what passes: a message goes on upward, and at the top it ends.
abbrev pub counts : {C : Type 0} → Spot → Message C → ℕ → Took C ℕ
counts to m n =
    let next = (n + 1) % 2 ^ 64 in
    if to.at == 0 then record { state = next; sent = []; gone = [] }
    else record { state = next; sent = record { to = toward Up to; message = m } ∷ []; gone = [] }

-- no block is taken, and it goes on upward
abbrev pub count_costs : At → Costs
count_costs a = record { own = 0; emits = if a.to.at == 0 then [] else record { to = toward Up a.to; shape = a.shape } ∷ [] }

-- a service procedure that has nothing to do
abbrev pub idle : {C P : Type 0} → P → Serving C P
idle p = record { acted = record { state = p; notes = []; sent = []; gone = [] }; bytes = 0; again = false }

-- a module that stocks what goes down on its write queue, by its name
abbrev pub Stock : Type 0
Stock = Standing ModuleName ℕ

-- an M_DATA message that goes down stays on the queue
abbrev pub stays : MsgKind → Way → Bool
stays Data Down = true
stays _ _ = false

-- the queue with a message that stays, which enables it as putq(9F) says
abbrev pub stocked : Message ℕ → ModuleName → QueuePair ℕ → Acted ℕ Stock
stocked m name pair = record {
  state = record { part = name; queues = Some (with_way_queue Down (put_on m pair.write) pair) };
  notes = if put_enables m pair.write then Enable Down ∷ [] else [];
  sent = [];
  gone = [];
}

-- what a message does: it stays on the queue, or goes on as at a module that turns flushes
abbrev pub stocks : Spot → Message ℕ → Stock → Acted ℕ Stock
stocks here m x = by x.queues
  where
    by : Option (QueuePair ℕ) → Acted ℕ Stock
    by None = turns here m x
    by (Some pair) = if stays m.kind here.way then stocked m x.part pair else turns here m x

-- room in band 0 is asked for, whatever stands first
abbrev pub stock_asks : Way → Stock → Asks
stock_asks Up x = asked.Empty
stock_asks Down x = if is_none_left (messages_at Down x) then asked.Empty else asked.Room (record { 0 = 0 })

-- the service procedure sends the first message on, whole
abbrev pub stock_sends : Spot → ModuleName → QueuePair ℕ → Message ℕ → List (Message ℕ) → Serving ℕ Stock
stock_sends here name pair m rest = record {
  acted = record {
    state = record { part = name; queues = Some (with_way_queue Down (left_with rest pair.write) pair) };
    notes = [];
    sent = record { to = toward Down here; message = m } ∷ [];
    gone = [];
  };
  bytes = size_of m;
  again = false;
}

-- and does nothing where none stands
abbrev pub serves_of : Spot → ModuleName → QueuePair ℕ → List (Message ℕ) → Serving ℕ Stock
serves_of here name pair [] = idle (record { part = name; queues = Some pair })
serves_of here name pair (m ∷ rest) = stock_sends here name pair m rest

-- it stops nowhere
abbrev pub stock_serves : Spot → Bool → Option ℕ → Stock → Serving ℕ Stock
stock_serves here again stop x = by x.queues
  where
    by : Option (QueuePair ℕ) → Serving ℕ Stock
    by None = idle x
    by (Some pair) = serves_of here x.part pair pair.write.messages
