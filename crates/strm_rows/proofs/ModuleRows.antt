-- What the definitions of modules' queues compute, on small stacks.
use Rattle.strm_rows.proofs.Prelude.{ℕ, ◌≡◌, true, false, List, [], ◌∷◌, map, refl, None, Some, Way, Up, Down, Side, Master, Slave, MasterToSlave}
use Rattle.strm_rows.proofs.Prelude.{SlaveToMaster, QueueName, Ptem, ModulePopped, Room, Goes, driver_of, data_message, band_of, is_high_priority}
use Rattle.strm_rows.proofs.Prelude.{size_of, cells_of, Queue}
use Rattle.strm_types.specs.declared.names.Place.TheVariants as places
use Rattle.strm_types.specs.declared.names.ModuleName.TheVariants.{Ldterm}
use Rattle.strm_types.specs.Modules.{without_module}
use Rattle.strm_types.specs.Service.{cleared, turn_ended}
use Rattle.strm_types.specs.Standings.{Standing, stood}
use Rattle.strm_types.specs.ModuleQueues.{place_past, place_before, can_pass, waits_past}

-- a module that is its unfinished line, with its queues
abbrev Two : Type 0
Two = Standing (List ℕ) ℕ

abbrev two : Queue ℕ → Queue ℕ → Two
two read write = stood (5 ∷ 6 ∷ []) (Some (record { read = read; write = write }))

-- a queue of one band with three bytes and a high-water mark
abbrev filled : ℕ → Queue ℕ
filled high = record { messages = data_message (7 ∷ 8 ∷ 9 ∷ []) ∷ []; flows = record { high = high; low = 1; want_write = false } ∷ []; want_read = false; no_enable = false }

abbrev waited : ℕ → Queue ℕ
waited high = record (filled high) { flows = record { high = high; low = 1; want_write = true } ∷ [] }

-- from the top: no queue, both queues, the upper one full; none; both, the lower one full
abbrev none : Two
none = stood [] None

abbrev four : List Two
four = none ∷ two (filled 3) (filled 4) ∷ none ∷ two (filled 4) (filled 3) ∷ []

pub nearest-past : map (λ at. place_past Down at four) (0 ∷ 1 ∷ 2 ∷ 3 ∷ 4 ∷ 5 ∷ []) ≡ Some 2 ∷ Some 2 ∷ Some 4 ∷ Some 4 ∷ None ∷ None ∷ []
nearest-past = refl

pub nearest-past-upward : map (λ at. place_past Up at four) (0 ∷ 1 ∷ 2 ∷ 3 ∷ 4 ∷ 5 ∷ []) ≡ None ∷ None ∷ None ∷ Some 2 ∷ Some 2 ∷ Some 4 ∷ []
nearest-past-upward = refl

pub nearest-before : map (λ at. place_before Down at four) (0 ∷ 2 ∷ 3 ∷ 5 ∷ []) ≡ None ∷ None ∷ Some 2 ∷ Some 4 ∷ []
nearest-before = refl

pub nearest-before-upward : map (λ at. place_before Up at four) (0 ∷ 2 ∷ 4 ∷ []) ≡ Some 2 ∷ Some 4 ∷ None ∷ []
nearest-before-upward = refl

-- the nearest queue decides, whatever stands behind it
pub nearest-decides : map (λ at. can_pass Down 0 at four) (0 ∷ 2 ∷ 4 ∷ []) ≡ Some true ∷ Some false ∷ None ∷ []
unfolding data_message band_of is_high_priority size_of cells_of
nearest-decides = refl

pub nearest-decides-upward : map (λ at. can_pass Up 0 at four) (5 ∷ 4 ∷ 2 ∷ []) ≡ Some true ∷ Some false ∷ None ∷ []
unfolding data_message band_of is_high_priority size_of cells_of
nearest-decides-upward = refl

-- a writer waits at that one alone
pub waits-at-the-nearest : waits_past Down 0 2 four ≡ none ∷ two (filled 3) (filled 4) ∷ none ∷ two (filled 4) (waited 3) ∷ []
waits-at-the-nearest = refl

pub waits-nowhere : waits_past Up 0 2 four ≡ four
waits-nowhere = refl

-- a queue that is taken off its stream
abbrev emptied_of : ℕ → Queue ℕ
emptied_of high = record { messages = []; flows = record { high = high; low = 1; want_write = false } ∷ []; want_read = true; no_enable = false }

abbrev itself : List ℕ → List ℕ
itself line = line

abbrev without : List ℕ → List ℕ
without line = []

-- the read queue, the line and the write queue, in this order, each in its direction
pub cleared-in-order : cleared itself without Slave ModulePopped (two (waited 3) (filled 4))
    ≡ record {
      state = stood [] (Some (record { read = emptied_of 3; write = emptied_of 4 }));
      notes = Room Up ∷ [];
      sent = [];
      gone = Goes MasterToSlave ModulePopped (7 ∷ 8 ∷ 9 ∷ [])
          ∷ Goes MasterToSlave ModulePopped (5 ∷ 6 ∷ [])
          ∷ Goes SlaveToMaster ModulePopped (7 ∷ 8 ∷ 9 ∷ []) ∷ [];
    }
unfolding data_message band_of is_high_priority size_of cells_of
cleared-in-order = refl

pub nothing-to-clear : cleared itself without Slave ModulePopped none ≡ record { state = none; notes = []; sent = []; gone = [] }
nothing-to-clear = refl

-- a turn that took bytes lets the writer go, where the count is low; one that may not treat the message clears want-read
pub turns-end : map (λ took. turn_ended took (record (waited 3) { messages = data_message (9 ∷ []) ∷ []; want_read = true })) (true ∷ false ∷ [])
    ≡ record (filled 3) { messages = data_message (9 ∷ []) ∷ [] } ∷ record (waited 3) { messages = data_message (9 ∷ []) ∷ [] } ∷ []
unfolding data_message band_of is_high_priority size_of cells_of
turns-end = refl

pub idle-turn : (turn_ended false (record (emptied_of 3) { want_read = false })).want_read ≡ true
idle-turn = refl

-- the names of a module's two queues go, those of the other side stay
abbrev named : Side → Way → QueueName
named side way = record { side = side; place = places.Module Ldterm; way = way }

pub names-of-a-popped-module : without_module Slave Ldterm (named Slave Up ∷ named Master Up ∷ driver_of Slave ∷ named Slave Down ∷ []) ≡ named Master Up ∷ driver_of Slave ∷ []
names-of-a-popped-module = refl

pub no-names-of-ptem : without_module Slave Ptem (named Slave Up ∷ []) ≡ named Slave Up ∷ []
no-names-of-ptem = refl
