-- Two ldterms that echo each other don't come to rest: six turns carry a byte round, and leave as much work as there was. A turn of an ldterm's goes
-- from one byte on.
use Rattle.strm_rows.proofs.Prelude.{ℕ, suc, ◌≡◌, false, List, [], ◌∷◌, map, refl, Moved, Open, QueueName, Master, Slave, Up, new_book, plain, no_own}
use Rattle.strm_rows.proofs.Prelude.{carried, crosses, Message, band_of, cells_of, data_message, is_held, is_high_priority, rank_of, size_of}
use Rattle.strm_rows.proofs.Prelude.{driver_of, Queue, Standing, ldterm_stands, State, Stream, turned, whole_turn, flow, head_with, ordinary, queue}
use Rattle.strm_rows.proofs.Prelude.{fresh}
use Rattle.strm_types.specs.declared.names.ModuleName.TheVariants as names
use Rattle.strm_types.specs.declared.names.Place.TheVariants as places
use Rattle.std.proofs.Common.{zero}
use Rattle.strm_types.specs.Both.{twice}
use Rattle.strm_laws.specs.Rest.{work}
use Rattle.strm_laws.specs.State.{queues_of}

abbrev roomy : List (Message ℕ) → Queue ℕ
roomy messages = queue messages (flow 512 128 false ∷ [])

abbrev edited : Standing ℕ
edited = ldterm_stands (record fresh { read_queue = roomy []; write_queue = roomy [] })

abbrev end : List (Message ℕ) → Stream ℕ
end messages = record { opened = Open; head = head_with (roomy []) false; modules = edited ∷ []; driver = record { queue = roomy messages } }

-- "a" stands on the master's driver, which is enabled
abbrev echoing : State ℕ
echoing = record {
  ends = record { master = end (ordinary (97 ∷ []) ∷ []); slave = end [] };
  locked = false;
  enabled = driver_of Master ∷ [];
  next_ioctl = 1;
  books = twice new_book;
}

-- so many turns, each of the queue that was enabled first
abbrev next_turn : List QueueName → State ℕ → State ℕ
next_turn [] s = s
next_turn (name ∷ names) s = (turned no_own plain name (whole_turn name s) s).state

abbrev turns : ℕ → State ℕ → State ℕ
turns zero s = s
turns (suc n) s = turns n (next_turn s.enabled s)

abbrev standing : State ℕ → List (List (List ℕ))
standing s = map (λ (q : Queue ℕ). map cells_of q.messages) (queues_of s)

pub comes-round : standing (turns 6 echoing) ≡ standing echoing
unfolding carried cells_of band_of is_high_priority is_held size_of rank_of data_message crosses
comes-round = refl

pub enabled-again : (turns 6 echoing).enabled ≡ echoing.enabled
unfolding carried cells_of band_of is_high_priority is_held size_of rank_of data_message crosses
enabled-again = refl

pub as-much-work : work (turns 6 echoing) ≡ work echoing
unfolding carried cells_of band_of is_high_priority is_held size_of rank_of data_message crosses
as-much-work = refl

-- "a" stands at the slave's ldterm, whose turn goes from that byte on: none is told as one that moved nothing of it
abbrev typed : QueueName
typed = record { side = Slave; place = places.Module names.Ldterm; way = Up }

abbrev typing : State ℕ
typing = record echoing {
  ends = record {
    master = end [];
    slave = record (end []) { modules = ldterm_stands (record fresh { read_queue = roomy (ordinary (97 ∷ []) ∷ []); write_queue = roomy [] }) ∷ [] };
  };
  enabled = typed ∷ [];
}

pub from-one : (turned no_own plain typed (Moved 0) typing).turn ≡ Moved 1
unfolding carried cells_of band_of is_high_priority is_held size_of rank_of data_message crosses
from-one = refl
