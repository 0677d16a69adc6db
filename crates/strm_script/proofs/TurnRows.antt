-- Turns of the queues of an ldterm by what an account says of them, and the queues that a look tells of, as worked out by hand from
-- ldterm(7M) and the STREAMS Programming Guide.
use Rattle.strm_script.proofs.Prelude.{ℕ, ◌≡◌, Bool, true, false, List, [], ◌∷◌, map, refl, codes}
use Rattle.strm_script.specs.Prelude.{Turn, Moved, QueueName, Master, Slave, Up, Refusal, Enosr, carried, Message, band_of, cells_of, data_message}
use Rattle.strm_script.specs.Prelude.{is_held, is_high_priority, rank_of, size_of, driver_of, no_fates, Stream, opening}
use Rattle.std.specs.Prelude.{Result, Ok, Err}
use Rattle.strm_types.specs.declared.names.Openness.TheVariants.{Open}
use Rattle.strm_types.specs.declared.names.Place.TheVariants as places
use Rattle.strm_types.specs.declared.names.ModuleName.TheVariants as modules
use Rattle.strm_types.specs.Ldterms.{Discipline, discipline, new_ldterm}
use Rattle.strm_types.specs.Standings.{new_pair}
use Rattle.strm_types.specs.Queue.{Queue}
use Rattle.strm_laws.specs.Stacked.{ldterm_stands}
use Rattle.strm_laws.specs.State.{new_stream}
use Rattle.strm_laws.proofs.Samples.{ordinary}
use Rattle.strm_script.specs.Script.{queue_in_stream}
use Rattle.strm_script.specs.ScriptRun.{Supply, Enough, Within, TooFew, PlainPair, script_limits, turn_of, queues_down}

abbrev reading : QueueName
reading = record { side = Slave; place = places.Module modules.Ldterm; way = Up }

-- a pair whose slave's stream has an ldterm, at which three bytes wait; two wait at the master's driver
abbrev waiting : List (Message ℕ) → Queue ℕ → Queue ℕ
waiting ms q = record q { messages = ms }

abbrev fresh : Discipline ℕ
fresh = discipline new_ldterm new_pair

abbrev typed_on : Stream ℕ
typed_on = record new_stream {
  opened = Open;
  modules = ldterm_stands (record fresh { read_queue = waiting (ordinary (97 ∷ 10 ∷ 98 ∷ []) ∷ []) fresh.read_queue }) ∷ [];
}

abbrev written_on : Stream ℕ
written_on = let on : Stream ℕ = new_stream in record on { opened = Open; driver = record { queue = waiting (ordinary (99 ∷ 100 ∷ []) ∷ []) on.driver.queue } }

abbrev typed : PlainPair
typed = record {
  state = record opening { ends = record { master = written_on; slave = typed_on }; enabled = reading ∷ driver_of Master ∷ [] };
  journal = [];
  limits = script_limits 64;
  fates = no_fates;
}

-- what a turn of a queue is answered by an account, and whether its line is short
abbrev turned_so : QueueName → Supply → Result Turn Refusal × Bool
turned_so name supply = let happened = turn_of supply typed name in (happened.answer, happened.is_short)

-- It goes to the end of its message, or as far as its account says, and its line is short where that is less. It can't be said to go further
-- than it does.
pub turns-by-accounts : map (turned_so reading) (Enough ∷ Within 1 ∷ Within 2 ∷ Within 3 ∷ Within 9 ∷ TooFew ∷ [])
    ≡ (Ok (Moved 3), false) ∷ (Ok (Moved 1), true) ∷ (Ok (Moved 2), true) ∷ (Ok (Moved 3), false) ∷ (Ok (Moved 3), false) ∷ (Err Enosr, true) ∷ []
unfolding turn_of carried cells_of band_of is_held is_high_priority size_of rank_of data_message
turns-by-accounts = refl

-- a turn of a driver goes to the end of its message, whatever the account says
pub drivers-turns-by-accounts : map (turned_so (driver_of Master)) (Enough ∷ Within 1 ∷ Within 2 ∷ [])
    ≡ (Ok (Moved 2), false) ∷ (Ok (Moved 2), false) ∷ (Ok (Moved 2), false) ∷ []
unfolding turn_of carried cells_of band_of is_held is_high_priority size_of rank_of data_message
drivers-turns-by-accounts = refl

-- the queues of a stream, from the head down: those of an ldterm stand between the head's and the driver's
pub queues-from-the-head-down : map (λ side. map queue_in_stream (queues_down side typed.state)) (Master ∷ Slave ∷ [])
    ≡ (codes "head.r" ∷ codes "drv.w" ∷ []) ∷ (codes "head.r" ∷ codes "ldterm.r" ∷ codes "ldterm.w" ∷ codes "drv.w" ∷ []) ∷ []
queues-from-the-head-down = refl
