-- The module ldterm as it stands on a stream: what it does with the queues that the stream gives it (ldterm(7M); put(9E), srv(9E)).
use Rattle.std.specs.Prelude.{ℕ, Bool, Option, Some, unwrap_or}
use Rattle.strm_types.specs.declared.names.Way.{Way}
use Rattle.strm_types.specs.declared.spots.Asks.{Asks}
use Rattle.strm_types.specs.declared.spots.Spot.{Spot}
use Rattle.strm_types.specs.Asking.{ldterm_asks}
use Rattle.strm_types.specs.Cells.{Cells}
use Rattle.strm_types.specs.Deliver.{Acted}
use Rattle.strm_types.specs.LdtermPuts.{ldterm_puts}
use Rattle.strm_types.specs.LdtermServes.{ldterm_serves}
use Rattle.strm_types.specs.Ldterms.{Discipline, Ldterm, discipline, by_itself, pair_of}
use Rattle.strm_types.specs.Message.{Message}
use Rattle.strm_types.specs.Service.{Serving, done_by, served_by}
use Rattle.strm_types.specs.Standings.{QueuePair, Standing, new_pair}

module _ {C : Type 0} where
  -- with the queues that it was given; where it has none these are new
  abbrev pub disciplined : Ldterm C → Option (QueuePair C) → Discipline C
  disciplined l queues = discipline l (unwrap_or queues new_pair)

  abbrev pub discipline_at : Standing (Ldterm C) C → Discipline C
  discipline_at x = disciplined x.part x.queues

  -- as it stands again
  abbrev pub as_stands : Discipline C → Standing (Ldterm C) C
  as_stands p = record { part = by_itself p; queues = Some (pair_of p) }

  -- a message that is put there, and what the first message of its queue of a way asks before it goes on
  abbrev pub puts_there : Spot → Message C → Standing (Ldterm C) C → Acted C (Standing (Ldterm C) C)
  puts_there here m x = done_by as_stands (ldterm_puts here m (discipline_at x))

  abbrev pub asks_there : Way → Standing (Ldterm C) C → Asks
  asks_there way x = ldterm_asks way (discipline_at x)

  -- a call of the service procedure of its queue: so many cells were made before, the turn begins or goes on, and it stops or not when so many bytes are
  -- treated
  abbrev pub serves_there : Cells C → Spot → ℕ → Bool → Option ℕ → Standing (Ldterm C) C → Serving C (Standing (Ldterm C) C)
  serves_there cells here made again stop x = served_by as_stands (ldterm_serves cells here made again stop (discipline_at x))
