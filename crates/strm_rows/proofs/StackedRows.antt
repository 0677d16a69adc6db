-- What a pair's state tells of the modules on its streams, on small stacks.
use Rattle.strm_rows.proofs.Prelude.{ℕ, ◌≡◌, true, false, List, [], ◌∷◌, map, refl, ◌==◌, None, Some, Ptem, Open, Slave, Master, Up, Down, Enable}
use Rattle.strm_rows.proofs.Prelude.{Spot, new_book, plain, Message, band_of, cells_of, is_high_priority, map_message, rank_of, size_of, weight_of}
use Rattle.strm_rows.proofs.Prelude.{Queue, Standing, module_line, module_name, ldterm_stands, State, Stream, messages_in, new_stream, module_named}
use Rattle.strm_rows.proofs.Prelude.{head_with, ordinary, queue, fresh, no_own}
use Rattle.strm_types.specs.declared.names.ModuleName.TheVariants.{Ldterm}
use Rattle.strm_types.specs.declared.spots.Asks.TheVariants.{Empty}
use Rattle.strm_laws.specs.Kept.{stream_weight}
use Rattle.strm_types.specs.Deliver.{onward}
use Rattle.strm_laws.specs.Stacked.{module_asks, module_puts, module_rests, module_serves, module_weight, without_kind_line}
use Rattle.strm_types.specs.Service.{unserved}
use Rattle.strm_types.specs.Standings.{queue_of, queue_changed}
use Rattle.strm_laws.specs.State.{map_stream, stream_queues}

-- a module with these messages on its read queue and on its write queue, and this unfinished line
abbrev with_these : List (Message ℕ) → List (Message ℕ) → List ℕ → Standing ℕ
with_these above below line = ldterm_stands (record fresh { read_queue = queue above []; write_queue = queue below []; line = line })

-- a stream of a head, two modules and a driver
abbrev stacked : Stream ℕ
stacked = record {
  opened = Open;
  head = head_with (queue (ordinary (7 ∷ []) ∷ []) []) false;
  modules = with_these (ordinary (7 ∷ 1 ∷ []) ∷ []) (ordinary (2 ∷ []) ∷ ordinary (7 ∷ []) ∷ []) (7 ∷ 7 ∷ []) ∷ with_these [] (ordinary (3 ∷ []) ∷ []) [] ∷ [];
  driver = record { queue = queue (ordinary (4 ∷ 7 ∷ []) ∷ []) [] };
}

abbrev pair : State ℕ
pair = record {
  ends = record { master = new_stream; slave = stacked };
  locked = false;
  enabled = [];
  next_ioctl = 1;
  books = record { master = new_book; slave = new_book };
}

-- the queues from the top down, of each module the read queue first
pub queues-from-the-top : map (λ (q : Queue ℕ). map cells_of q.messages) (stream_queues stacked)
    ≡ ((7 ∷ []) ∷ []) ∷ ((7 ∷ 1 ∷ []) ∷ []) ∷ ((2 ∷ []) ∷ (7 ∷ []) ∷ []) ∷ [] ∷ ((3 ∷ []) ∷ []) ∷ ((4 ∷ 7 ∷ []) ∷ []) ∷ []
unfolding cells_of
queues-from-the-top = refl

-- the messages on modules' queues count with the others
pub messages-on-modules-count : messages_in pair ≡ 6
messages-on-modules-count = refl

-- so do their cells, and those of an unfinished line
pub cells-of-modules-weigh : stream_weight (λ direction c. c == 7) Master stacked ≡ 6
unfolding cells_of weight_of
cells-of-modules-weigh = refl

-- other cells stand there in the same places
pub modules-are-mapped : map_stream (λ (c : ℕ). c) stacked ≡ stacked
unfolding map_message
modules-are-mapped = refl

-- a module has a queue each way
pub queues-of-a-module : map (λ way. queue_of way (with_these [] (ordinary (2 ∷ []) ∷ []) [])) (Up ∷ Down ∷ []) ≡ Some (queue [] []) ∷ Some (queue (ordinary (2 ∷ []) ∷ []) []) ∷ []
queues-of-a-module = refl

pub queue-of-a-way-changes : queue_changed Up (λ q. queue (ordinary (9 ∷ []) ∷ []) []) (with_these [] [] []) ≡ with_these (ordinary (9 ∷ []) ∷ []) [] []
queue-of-a-way-changes = refl

-- a ptem has a name, and neither a queue nor a line nor a cell; it asks nothing, rests, and serves no turn
abbrev ptem : Standing ℕ
ptem = module_named no_own Ptem

pub names-of-modules : map module_name (with_these [] [] [] ∷ ptem ∷ []) ≡ Ldterm ∷ Ptem ∷ []
names-of-modules = refl

pub ptem-has-no-queue : map (λ way. queue_of way ptem) (Up ∷ Down ∷ []) ∷ [] ≡ (None ∷ None ∷ []) ∷ []
ptem-has-no-queue = refl

pub ptem-takes-no-queue : queue_changed Up (λ q. queue (ordinary (9 ∷ []) ∷ []) []) ptem ≡ ptem
ptem-takes-no-queue = refl

pub ptem-has-no-line : module_line ptem ≡ []
ptem-has-no-line = refl

pub ptem-loses-no-line : without_kind_line ptem.part ≡ ptem.part
ptem-loses-no-line = refl

pub ptem-weighs-nothing : module_weight (λ direction (c : ℕ). true) Master ptem ≡ 0
ptem-weighs-nothing = refl

pub ptem-asks-nothing : map (λ way. module_asks no_own plain way ptem) (Up ∷ Down ∷ []) ≡ Empty ∷ Empty ∷ []
ptem-asks-nothing = refl

pub ptem-rests : map module_rests (ptem ∷ with_these [] [] [] ∷ []) ≡ true ∷ true ∷ []
ptem-rests = refl

pub ptem-serves-nothing : module_serves no_own plain (record { side = Slave; at = 1; way = Up }) 0 true None ptem ≡ unserved ptem
ptem-serves-nothing = refl

pub nothing-is-served : unserved {C = ℕ} ptem ≡ record { acted = record { state = ptem; notes = []; sent = []; gone = [] }; bytes = 0; again = false }
nothing-is-served = refl

-- what is put at each does what its kind does
pub ptem-takes-puts : let here : Spot = record { side = Slave; at = 2; way = Down } in module_puts no_own plain 0 here (ordinary (9 ∷ [])) ptem ≡ record { state = ptem; notes = []; sent = onward Down here (ordinary (9 ∷ [])) ∷ []; gone = [] }
ptem-takes-puts = refl

pub ldterm-takes-puts : let t = module_puts no_own plain 0 (record { side = Slave; at = 2; way = Down }) (ordinary (9 ∷ [])) (with_these [] [] []) in t.notes ≡ Enable Down ∷ []
unfolding cells_of size_of band_of is_high_priority rank_of
ldterm-takes-puts = refl

-- no module stands on a stream as it is made
pub none-as-made : (new_stream {C = ℕ}).modules ≡ []
none-as-made = refl
