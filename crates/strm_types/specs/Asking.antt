-- What the first message of a module's queue asks before it goes on (srv(9E); canputnext(9F), bcanput(9F); ldterm(7M)).
use Rattle.std.specs.Prelude.{ℕ, Bool, true, false, List, [], ◌∷◌}
use Rattle.strm_types.specs.declared.kinds.MsgKind.{MsgKind}
use Rattle.strm_types.specs.declared.kinds.MsgKind.TheVariants.{Data, Proto}
use Rattle.strm_types.specs.declared.names.Way.{Way}
use Rattle.strm_types.specs.declared.names.Way.TheVariants.{Up, Down}
use Rattle.strm_types.specs.declared.spots.Asks.{Asks}
use Rattle.strm_types.specs.declared.spots.Asks.TheVariants as asked
use Rattle.strm_types.specs.Ldterms.{Discipline, queue_at}
use Rattle.strm_types.specs.Message.{Message}

-- On the read queue of ldterm M_DATA asks for room in band 0 ahead, whatever its band, since what goes up of it has band 0; M_PROTO
-- asks for room in its band. What else stands there is free to go.
abbrev pub asked_of_input : MsgKind → ℕ → Asks
asked_of_input Data band = asked.Room (record { 0 = 0 })
asked_of_input Proto band = asked.Room (record { 0 = band })
asked_of_input _ band = asked.Free

-- On the write queue, while output is stopped (true) or not: M_DATA waits while it is stopped, whatever room there is ahead, and asks
-- else for room in its band, as M_PROTO does in either case. What else stands there is free to go.
abbrev pub asked_of_output : Bool → MsgKind → ℕ → Asks
asked_of_output true Data band = asked.Held
asked_of_output false Data band = asked.Room (record { 0 = band })
asked_of_output stopped Proto band = asked.Room (record { 0 = band })
asked_of_output stopped _ band = asked.Free

-- by the way of its queue
abbrev pub asked_by : Way → Bool → MsgKind → ℕ → Asks
asked_by Up stopped kind band = asked_of_input kind band
asked_by Down stopped kind band = asked_of_output stopped kind band

module _ {C : Type 0} where
  abbrev pub asked_first : Way → Bool → List (Message C) → Asks
  asked_first way stopped [] = asked.Empty
  asked_first way stopped (m ∷ rest) = asked_by way stopped m.kind m.band

  abbrev pub ldterm_asks : Way → Discipline C → Asks
  ldterm_asks way p = asked_first way p.stopped (queue_at way p).messages
