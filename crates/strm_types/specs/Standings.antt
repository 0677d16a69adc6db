-- A module as it stands on a stream, beside the pair of queues that the stream gives it, where it has queues (qinit(9S); STREAMS Programming
-- Guide, "Modules").
use Rattle.std.specs.Prelude.{Bool, List, [], Option, None, Some, is_some, option_map}
use Rattle.strm_types.specs.declared.names.Way.{Way}
use Rattle.strm_types.specs.declared.names.Way.TheVariants.{Up, Down}
use Rattle.strm_types.specs.Message.{Message}
use Rattle.strm_types.specs.Queue.{Queue, map_queue, new_queue}

-- a read queue and a write queue
pub record QueuePair (C : Type 0) : Type 0 where
  pub read : Queue C
  pub write : Queue C

-- what a module is by itself, and its queues
pub record Standing (P C : Type 0) : Type 0 where
  pub part : P
  pub queues : Option (QueuePair C)

-- as both stand
abbrev pub stood : {P C : Type 0} → P → Option (QueuePair C) → Standing P C
stood p queues = record { part = p; queues = queues }

module _ {C : Type 0} where
  -- as a module that is pushed is given them: marks 512 and 128
  abbrev pub new_pair : QueuePair C
  new_pair = record { read = new_queue 512 128; write = new_queue 512 128 }

  -- the one of a way, and the pair with another one
  abbrev pub way_queue : Way → QueuePair C → Queue C
  way_queue Up pair = pair.read
  way_queue Down pair = pair.write

  abbrev pub with_way_queue : Way → Queue C → QueuePair C → QueuePair C
  with_way_queue Up q pair = record pair { read = q }
  with_way_queue Down q pair = record pair { write = q }

  -- the messages on the one of a way, none where there are no queues
  abbrev pub messages_on : Way → Option (QueuePair C) → List (Message C)
  messages_on way None = []
  messages_on way (Some pair) = (way_queue way pair).messages

  -- the pair whose queue of a way changes
  abbrev pub pair_changed : Way → (Queue C → Queue C) → QueuePair C → QueuePair C
  pair_changed way change pair = with_way_queue way (change (way_queue way pair)) pair

-- what is said of a module by itself, and what holds of it, where it stands
abbrev pub of_part : {P A C : Type 0} → (P → A) → Standing P C → A
of_part say x = say x.part

abbrev pub HoldsOfPart : {P C : Type 0} → (P → Type 0) → Standing P C → Type 0
HoldsOfPart holds x = holds x.part

module _ {P C : Type 0} where
  -- its queue of a way, where it has queues
  abbrev pub queue_of : Way → Standing P C → Option (Queue C)
  queue_of way x = option_map (way_queue way) x.queues

  abbrev pub has_queues : Standing P C → Bool
  has_queues x = is_some x.queues

  -- the messages that stand on it, none without queues
  abbrev pub messages_at : Way → Standing P C → List (Message C)
  messages_at way x = messages_on way x.queues

  -- the same module whose queue of a way changes, where it has queues
  abbrev pub queue_changed : Way → (Queue C → Queue C) → Standing P C → Standing P C
  queue_changed way change x = record x { queues = option_map (pair_changed way change) x.queues }

-- the same queues of other cells
abbrev pub map_pair : {C D : Type 0} → (C → D) → QueuePair C → QueuePair D
map_pair f pair = record { read = map_queue f pair.read; write = map_queue f pair.write }

-- and the module with them, where it is mapped by itself
abbrev pub map_standing : {P Q C D : Type 0} → (P → Q) → (C → D) → Standing P C → Standing Q D
map_standing g f x = record { part = g x.part; queues = option_map (map_pair f) x.queues }
