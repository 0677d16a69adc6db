-- What ldterm does with what is put at it, as worked out by hand from ldterm(7M) and the STREAMS Programming Guide.
use Rattle.strm_rows.proofs.Prelude.{ℕ, ◌≡◌, Bool, true, false, List, [], ◌∷◌, map, refl, replicate, None, Some, MsgKind, Proto, Sig, Ctl, Ioctl}
use Rattle.strm_rows.proofs.Prelude.{Setopts, Iocack, Iocnak, Pcproto, Pcsig, Read, Flush, Stop, Start, Hangup, Error, Side, Master, Slave, Way, Up}
use Rattle.strm_rows.proofs.Prelude.{Down, MasterToSlave, SlaveToMaster, Flushed, Enable, Room, Spot, Acted, Parcel, Goes, is_data_kind, ldterm_puts}
use Rattle.strm_rows.proofs.Prelude.{Discipline, Between, Message, band_of, cells_of, is_high_priority, rank_of, size_of, Queue, Flow, first_termios}
use Rattle.strm_rows.proofs.Prelude.{flow, ordinary, without_parts, fresh}
use Rattle.strm_types.specs.Ldterms.{Answered, both}

-- one as it is pushed: it runs, and its queues are empty, with the marks 512 and 128
abbrev new_one : Queue ℕ
new_one = record { messages = []; flows = replicate 256 (flow 512 128 false); want_read = true; no_enable = false }

pub pushed : fresh {C = ℕ} ≡ record {
  termios = first_termios;
  stopped = false;
  after_lnext = false;
  column = 0;
  line = [];
  read_queue = new_one;
  write_queue = new_one;
  in_work = None;
  gathered = [];
  echoing = false;
  stage = Between;
}
pushed = refl

-- One in the midst of a turn, where nothing is as new. An M_PROTO of band 2, M_DATA and an M_PROTO of band 0 stand on its read queue, an
-- M_PROTO of band 2 and its echo on its write queue.
abbrev pub protocol : ℕ → List ℕ → List ℕ → Message ℕ
protocol band control body = record { kind = Proto; band = band; control = Some control; body = Some body; plain = [] }

abbrev pub queue_with : List (Message ℕ) → List Flow → Bool → Queue ℕ
queue_with messages flows want_read = record { messages = messages; flows = flows; want_read = want_read; no_enable = false }

-- bands 0 and 2 of the read queue have a writer waiting
abbrev pub waiting : Bool → Bool → List Flow
waiting zeroth second = flow 9 2 zeroth ∷ flow 9 2 false ∷ flow 9 2 second ∷ []

abbrev to_read : List (Message ℕ)
to_read = protocol 2 (1 ∷ []) (2 ∷ 3 ∷ []) ∷ ordinary (4 ∷ 5 ∷ []) ∷ protocol 0 (6 ∷ []) (7 ∷ []) ∷ []

abbrev pub to_write : List (Message ℕ)
to_write = protocol 2 (21 ∷ []) (22 ∷ 23 ∷ []) ∷ ordinary (24 ∷ []) ∷ []

abbrev pub busy : Discipline ℕ
busy = record {
  termios = first_termios;
  stopped = true;
  after_lnext = true;
  column = 3;
  line = 10 ∷ 11 ∷ [];
  read_queue = queue_with to_read (waiting true true) false;
  write_queue = queue_with to_write (waiting false false) false;
  in_work = Some (ordinary (13 ∷ []));
  gathered = 12 ∷ [];
  echoing = true;
  stage = Answered (14 ∷ []);
}

abbrev pub at : Side → Way → Spot
at side way = record { side = side; at = 1; way = way }

-- a message on its way up or down, past the place of the module
abbrev pub parcel : Side → ℕ → Way → Message ℕ → Parcel ℕ
parcel side place way m = record { to = record { side = side; at = place; way = way }; message = m }

abbrev pub up : Message ℕ → Parcel ℕ
up m = parcel Slave 0 Up m

abbrev pub down : Message ℕ → Parcel ℕ
down m = parcel Slave 2 Down m

abbrev pub flushing : List ℕ → Message ℕ
flushing bytes = without_parts Flush bytes

-- M_FLUSH of all bands

-- FLUSHR takes the read queue and then the line. The writers that waited have room, and it wants to be read.
pub flushed-to-read : ldterm_puts (at Slave Up) (flushing (1 ∷ [])) busy ≡ record {
  state = record busy { read_queue = queue_with [] (waiting false false) true; line = [] };
  notes = Room Up ∷ [];
  sent = up (flushing (1 ∷ [])) ∷ [];
  gone = Goes MasterToSlave Flushed (1 ∷ 2 ∷ 3 ∷ 4 ∷ 5 ∷ 6 ∷ 7 ∷ []) ∷ Goes MasterToSlave Flushed (10 ∷ 11 ∷ []) ∷ [];
}
unfolding cells_of band_of is_high_priority size_of is_data_kind
flushed-to-read = refl

-- FLUSHW takes the write queue, and the echo of the turn with it. The line stays.
pub flushed-to-write : ldterm_puts (at Slave Down) (flushing (2 ∷ [])) busy ≡ record {
  state = record busy { write_queue = queue_with [] (waiting false false) true; echoing = false };
  notes = [];
  sent = down (flushing (2 ∷ [])) ∷ [];
  gone = Goes SlaveToMaster Flushed (21 ∷ 22 ∷ 23 ∷ 24 ∷ []) ∷ [];
}
unfolding cells_of band_of is_high_priority size_of is_data_kind
flushed-to-write = refl

-- both ways, on the master's stream: first the read queue, then the line, then the write queue, where a writer waits too
pub flushed-both-ways : ldterm_puts (at Master Down) (flushing (3 ∷ [])) (record busy { write_queue = queue_with to_write (waiting true false) false }) ≡ record {
  state = record busy { read_queue = queue_with [] (waiting false false) true; line = []; write_queue = queue_with [] (waiting false false) true; echoing = false };
  notes = Room Up ∷ Room Down ∷ [];
  sent = parcel Master 2 Down (flushing (3 ∷ [])) ∷ [];
  gone = Goes SlaveToMaster Flushed (1 ∷ 2 ∷ 3 ∷ 4 ∷ 5 ∷ 6 ∷ 7 ∷ []) ∷ Goes SlaveToMaster Flushed (10 ∷ 11 ∷ []) ∷ Goes MasterToSlave Flushed (21 ∷ 22 ∷ 23 ∷ 24 ∷ []) ∷ [];
}
unfolding cells_of band_of is_high_priority size_of is_data_kind
flushed-both-ways = refl

-- of a new one: no line is told
pub flushed-as-new : ldterm_puts (at Slave Up) (flushing (3 ∷ [])) fresh ≡ record {
  state = fresh;
  notes = [];
  sent = up (flushing (3 ∷ [])) ∷ [];
  gone = Goes MasterToSlave Flushed [] ∷ Goes SlaveToMaster Flushed [] ∷ [];
}
flushed-as-new = refl

-- M_FLUSH of one band

-- band 0: what counts there, with the line
pub band-0-to-read : ldterm_puts (at Slave Up) (flushing (5 ∷ 0 ∷ [])) busy ≡ record {
  state = record busy { read_queue = queue_with (protocol 2 (1 ∷ []) (2 ∷ 3 ∷ []) ∷ []) (waiting false true) false; line = [] };
  notes = Room Up ∷ [];
  sent = up (flushing (5 ∷ 0 ∷ [])) ∷ [];
  gone = Goes MasterToSlave Flushed (4 ∷ 5 ∷ 6 ∷ 7 ∷ []) ∷ Goes MasterToSlave Flushed (10 ∷ 11 ∷ []) ∷ [];
}
unfolding cells_of band_of is_high_priority size_of is_data_kind
band-0-to-read = refl

-- and the echo
pub band-0-to-write : ldterm_puts (at Slave Down) (flushing (6 ∷ 0 ∷ [])) busy ≡ record {
  state = record busy { write_queue = queue_with (protocol 2 (21 ∷ []) (22 ∷ 23 ∷ []) ∷ []) (waiting false false) false; echoing = false };
  notes = [];
  sent = down (flushing (6 ∷ 0 ∷ [])) ∷ [];
  gone = Goes SlaveToMaster Flushed (24 ∷ []) ∷ [];
}
unfolding cells_of band_of is_high_priority size_of is_data_kind
band-0-to-write = refl

-- band 2, both ways: the line and the echo stay, and in band 0 the writer still waits
pub band-2-both-ways : ldterm_puts (at Slave Down) (flushing (7 ∷ 2 ∷ [])) busy ≡ record {
  state = record busy {
    read_queue = queue_with (ordinary (4 ∷ 5 ∷ []) ∷ protocol 0 (6 ∷ []) (7 ∷ []) ∷ []) (waiting true false) false;
    write_queue = queue_with (ordinary (24 ∷ []) ∷ []) (waiting false false) false;
  };
  notes = Room Up ∷ [];
  sent = down (flushing (7 ∷ 2 ∷ [])) ∷ [];
  gone = Goes MasterToSlave Flushed (1 ∷ 2 ∷ 3 ∷ []) ∷ Goes SlaveToMaster Flushed (21 ∷ 22 ∷ 23 ∷ []) ∷ [];
}
unfolding cells_of band_of is_high_priority size_of is_data_kind
band-2-both-ways = refl

-- where no turn has an echo, none begins
pub no-echo-to-flush : (ldterm_puts (at Slave Down) (flushing (6 ∷ 1 ∷ [])) (record busy { echoing = false })).state.echoing ≡ false
no-echo-to-flush = refl

-- one that asks for nothing, or for a band that isn't there, passes
abbrev passes : Discipline ℕ → Parcel ℕ → Acted ℕ (Discipline ℕ)
passes p sent = record { state = p; notes = []; sent = sent ∷ []; gone = [] }

pub flushes-of-nothing : map (λ bytes. ldterm_puts (at Slave Up) (flushing bytes) busy) ([] ∷ (0 ∷ []) ∷ (7 ∷ []) ∷ [])
    ≡ map (λ bytes. passes busy (up (flushing bytes))) ([] ∷ (0 ∷ []) ∷ (7 ∷ []) ∷ [])
flushes-of-nothing = refl

-- other kinds

-- M_DATA and M_PROTO wait on the queue of their way, behind those of their band. They enable it where it wants to be read.
pub data-waits-to-be-read : ldterm_puts (at Slave Up) (ordinary (8 ∷ [])) busy ≡ record {
  state = record busy { read_queue = queue_with (protocol 2 (1 ∷ []) (2 ∷ 3 ∷ []) ∷ ordinary (4 ∷ 5 ∷ []) ∷ protocol 0 (6 ∷ []) (7 ∷ []) ∷ ordinary (8 ∷ []) ∷ []) (waiting true true) false };
  notes = [];
  sent = [];
  gone = [];
}
unfolding rank_of band_of is_high_priority
data-waits-to-be-read = refl

-- what waits behind the turn's echo ends it; a banded message stands before it
pub data-waits-to-be-written : ldterm_puts (at Slave Down) (ordinary (8 ∷ [])) (record busy { write_queue = queue_with to_write (waiting false false) true }) ≡ record {
  state = record busy { write_queue = queue_with (protocol 2 (21 ∷ []) (22 ∷ 23 ∷ []) ∷ ordinary (24 ∷ []) ∷ ordinary (8 ∷ []) ∷ []) (waiting false false) true; echoing = false };
  notes = Enable Down ∷ [];
  sent = [];
  gone = [];
}
unfolding rank_of band_of is_high_priority
data-waits-to-be-written = refl

-- a banded one always, unless enabling is off
abbrev banded : Message ℕ
banded = protocol 1 (8 ∷ []) (9 ∷ [])

pub echo-goes-on-behind-a-band : (ldterm_puts (at Slave Down) banded busy).state.echoing ≡ true
echo-goes-on-behind-a-band = refl

pub banded-waits : ldterm_puts (at Slave Up) banded busy ≡ record {
  state = record busy { read_queue = queue_with (protocol 2 (1 ∷ []) (2 ∷ 3 ∷ []) ∷ banded ∷ ordinary (4 ∷ 5 ∷ []) ∷ protocol 0 (6 ∷ []) (7 ∷ []) ∷ []) (waiting true true) false };
  notes = Enable Up ∷ [];
  sent = [];
  gone = [];
}
unfolding rank_of band_of is_high_priority
banded-waits = refl

pub no-enabling : (ldterm_puts (at Slave Up) banded (record busy { read_queue = record (queue_with to_read (waiting true true) true) { no_enable = true } })).notes ≡ []
unfolding rank_of band_of is_high_priority
no-enabling = refl

-- all else passes at once
abbrev other_kinds : List MsgKind
other_kinds = Sig ∷ Ctl ∷ Ioctl ∷ Setopts ∷ Iocack ∷ Iocnak ∷ Pcproto ∷ Pcsig ∷ Read ∷ Stop ∷ Start ∷ Hangup ∷ Error ∷ []

pub others-pass-up : map (λ kind. ldterm_puts (at Slave Up) (without_parts kind (3 ∷ [])) busy) other_kinds ≡ map (λ kind. passes busy (up (without_parts kind (3 ∷ [])))) other_kinds
others-pass-up = refl

pub others-pass-down : map (λ kind. ldterm_puts (at Slave Down) (without_parts kind (3 ∷ [])) busy) other_kinds ≡ map (λ kind. passes busy (down (without_parts kind (3 ∷ [])))) other_kinds
others-pass-down = refl

-- one thing after another: notes, messages and fates in their order
pub in-order : both (record { state = busy; notes = Enable Up ∷ []; sent = up banded ∷ []; gone = Goes MasterToSlave Flushed (1 ∷ []) ∷ [] })
    (λ p. record { state = record p { column = 4 }; notes = Room Up ∷ []; sent = down banded ∷ []; gone = Goes SlaveToMaster Flushed (2 ∷ []) ∷ [] })
    ≡ record {
      state = record busy { column = 4 };
      notes = Enable Up ∷ Room Up ∷ [];
      sent = up banded ∷ down banded ∷ [];
      gone = Goes MasterToSlave Flushed (1 ∷ []) ∷ Goes SlaveToMaster Flushed (2 ∷ []) ∷ [];
    }
in-order = refl
