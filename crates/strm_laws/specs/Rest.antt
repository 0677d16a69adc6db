-- How much work a pair has before it: how many turns of its queues there are at most, before none of them is enabled and the pair rests
-- (STREAMS Programming Guide, "Service Procedures"; srv(9E)).
use Rattle.std.specs.Prelude.{ℕ, suc, ◌≡◌, ◌≤◌, ◌+◌, ◌*◌, Bool, true, false, not, List, [], ◌∷◌, length, sum_by, count_by, Option, None, Some}
use Rattle.std.specs.List.{list_any}
use Rattle.strm_laws.specs.Prelude.{MsgKind, Data, Proto, Ioctl, ModuleName, Driver, QueueName, Side, Master, Slave, Up, Down, disciplined}
use Rattle.strm_laws.specs.Prelude.{Discipline, Stage, Between, Begun, Answered, Message, cells_of, have_queues, is_enabled, other, echo_most}
use Rattle.strm_types.specs.declared.names.ModuleName.TheVariants as names
use Rattle.strm_types.specs.declared.names.Place.TheVariants.{Head}
use Rattle.strm_types.specs.declared.names.Place.TheVariants as places
use Rattle.strm_laws.specs.Restorable.{is_ldterm}
use Rattle.strm_laws.specs.StackCosts.{Stands, stands_of, stands_on}
use Rattle.strm_laws.specs.Stacked.{Module, OfLdterm, Standing}
use Rattle.strm_laws.specs.State.{State, Stream, stream}

-- whether an ldterm is among the modules of a side's stream
abbrev pub echoes : Stands → Side → Bool
echoes all side = list_any is_ldterm (stands_on side all)

-- How many moves a byte makes that is typed at an ldterm: it may start output or stop it, and is echoed by as many bytes as an echo has at most,
-- each of which may go out in a turn of its own and moves on in a message of its own then.
abbrev pub byte_moves : ℕ
byte_moves = 5 + 2 * echo_most

-- How often messages move at most that come of one on its way up a stream, of its kind and its bytes. Where an ldterm is ahead, M_DATA waits there
-- and each of its bytes is typed, and M_PROTO waits there too. An M_IOCTL is answered, and its answer crosses.
abbrev pub moves_above : MsgKind → Bool → ℕ → ℕ
moves_above Ioctl ahead bytes = 1
moves_above Data true bytes = 1 + byte_moves * bytes
moves_above Proto true bytes = 1
moves_above kind ahead bytes = 0

-- and of one that stands on ldterm's read queue, with its own move
abbrev pub moves_within : MsgKind → ℕ → ℕ
moves_within Data bytes = 1 + byte_moves * bytes
moves_within kind bytes = suc (moves_above kind false bytes)

-- how far what ldterm has in its turn still has to go: each byte of the message in work, and the one that has begun, with its echo
abbrev pub moves_begun : {C : Type 0} → Stage C → ℕ
moves_begun Between = 0
moves_begun (Begun started c) = 3 + 2 * echo_most
moves_begun (Answered echo) = 2 + 2 * length echo

module _ {C : Type 0} where
  -- how often messages move that come of one on a driver's queue, with its own move: an ldterm is on the other side (true) or isn't
  abbrev pub moves_across : Bool → Message C → ℕ
  moves_across echoed m = suc (moves_above m.kind echoed (length (cells_of m)))

  -- Of one on ldterm's write queue, which moves on to the driver's queue. A turn may stop behind each of its bytes, and what these give moves on by
  -- itself.
  abbrev pub moves_out : Message C → ℕ
  moves_out m = suc (moves_across false m) + 2 * length (cells_of m)

  -- and of one on its read queue
  abbrev pub moves_in : Message C → ℕ
  moves_in m = moves_within m.kind (length (cells_of m))

  abbrev pub moves_in_work : Option (Message C) → ℕ
  moves_in_work None = 0
  moves_in_work (Some m) = 1 + byte_moves * length (cells_of m)

  -- of all that stands at a module
  abbrev pub ldterm_moves : Discipline C → ℕ
  ldterm_moves l = sum_by moves_in l.read_queue.messages + (sum_by moves_out l.write_queue.messages + (moves_in_work l.in_work + moves_begun l.stage))

  abbrev pub module_moves : Standing C → ℕ
  module_moves x = by x.part
    where
      by : Module C → ℕ
      by (OfLdterm l) = ldterm_moves (disciplined l x.queues)
      by part = 0

  -- of all that stands on a stream; what a head has is for readers, and moves no more
  abbrev pub stream_moves : Bool → Stream C → ℕ
  stream_moves echoed t = sum_by module_moves t.modules + sum_by (moves_across echoed) t.driver.queue.messages

  -- of all that stands on a pair with these modules
  abbrev pub moves : Stands → State C → ℕ
  moves all s = stream_moves (echoes all Slave) (stream Master s) + stream_moves (echoes all Master) (stream Slave s)

-- each name of a place where queues stand, but of those of modules of a user's own
abbrev pub queue_names : List QueueName
queue_names =
    record { side = Master; place = Head; way = Up } ∷ record { side = Master; place = Head; way = Down }
    ∷ record { side = Master; place = places.Module names.Ldterm; way = Up }
    ∷ record { side = Master; place = places.Module names.Ldterm; way = Down }
    ∷ record { side = Master; place = Driver; way = Up } ∷ record { side = Master; place = Driver; way = Down }
    ∷ record { side = Slave; place = Head; way = Up } ∷ record { side = Slave; place = Head; way = Down }
    ∷ record { side = Slave; place = places.Module names.Ldterm; way = Up }
    ∷ record { side = Slave; place = places.Module names.Ldterm; way = Down }
    ∷ record { side = Slave; place = Driver; way = Up } ∷ record { side = Slave; place = Driver; way = Down } ∷ []

-- how many names stand in a list beside these: nothing adds one, where no module of a user's own has queues
abbrev pub count_others : List QueueName → ℕ
count_others names = count_by (λ name. not (is_enabled name queue_names)) names

-- how many queues are enabled
abbrev pub count_enabled : List QueueName → ℕ
count_enabled names = count_by (λ name. is_enabled name names) queue_names + count_others names

-- The work of a pair: one for each enabled queue, and for each move of a message 13, as it may enable each of the 12 queues that have such a name.
abbrev pub work : {C : Type 0} → State C → ℕ
work s = 13 * moves (stands_of s) s + count_enabled s.enabled

-- no module that has queues stands on either stream
abbrev pub NoneQueues : Stands → Type 0
NoneQueues all = (side : Side) → list_any have_queues (stands_on side all) ≡ false

-- whether modules of a name are a user's own and have queues
abbrev pub own_queues : ModuleName → Bool
own_queues (names.Own n) = have_queues (names.Own n)
own_queues _ = false

-- no such module stands there: how often a message moves that waits at one, its behaviour says
abbrev pub NoOwnQueues : Stands → Type 0
NoOwnQueues all = (side : Side) → list_any own_queues (stands_on side all) ≡ false

abbrev pub is_pckt : ModuleName → Bool
is_pckt names.Pckt = true
is_pckt _ = false

-- whether pckt stands below an ldterm, so that what it makes of a message waits there; the one on top is first
abbrev pub packs_below : List ModuleName → Bool
packs_below [] = false
packs_below (names.Ldterm ∷ ns) = list_any is_pckt ns
packs_below (n ∷ ns) = packs_below ns

-- At most one ldterm stands on a pair's streams, pckt doesn't stand below it, and no module of a user's own has queues. An ldterm on each side echo
-- each other's echo.
pub record EchoesOnce (all : Stands) : Type 0 where
  pub one_side : (side : Side) → echoes all side ≡ true → echoes all (other side) ≡ false
  pub one_there : (side : Side) → count_by is_ldterm (stands_on side all) ≤ 1
  pub no_packets : (side : Side) → packs_below (stands_on side all) ≡ false
  pub no_own : NoOwnQueues all
