-- What ldterm takes up of an answer that comes up, and which commands go behind output, as worked out by hand from ldterm(7M), termio(7I) and
-- streamio(7I).
use Rattle.strm_rows.proofs.Prelude.{ℕ, ◌≡◌, true, false, List, [], ◌∷◌, ◌++◌, map, refl, replicate, take, Some, Ioctl, Setopts, Iocack, Iocnak}
use Rattle.strm_rows.proofs.Prelude.{Flush, MasterToSlave, SlaveToMaster, Master, Slave, Up, Down, Flushed, Enable, Room, Termios, Acted, Fate, Goes}
use Rattle.strm_rows.proofs.Prelude.{is_data_kind, ldterm_puts, Discipline, Message, band_of, cells_of, data_message, is_high_priority, rank_of}
use Rattle.strm_rows.proofs.Prelude.{size_of, first_termios, header, ordinary, without_parts}
use Rattle.std.proofs.Common.{◌+◌}
use Rattle.strm_types.specs.Commands.{sets_behind}
use Rattle.strm_types.specs.TakenUp.{read_mode_of}
use Rattle.strm_rows.proofs.LdtermRows.{at, busy, down, parcel, protocol, queue_with, to_write, up, waiting}

-- The 35 bytes of a termios as the first one, but with other control bytes and the lowest byte of its local modes: 0x3b with ICANON, and 0x39
-- without it.
abbrev given_in : ℕ → ℕ → List ℕ
given_in high modes = 0 ∷ 0 ∷ 0x25 ∷ 0 ∷ 0 ∷ 0 ∷ 0 ∷ 5 ∷ 0 ∷ 0 ∷ 0 ∷ 0 ∷ 0 ∷ 0 ∷ high ∷ modes ∷ replicate 19 7

abbrev given : ℕ → List ℕ
given modes = given_in 0x8a modes

abbrev lines : ℕ
lines = 0x3b

abbrev raw : ℕ
raw = 0x39

abbrev set_so : ℕ → Termios
set_so modes = record first_termios { lflag = record { 0 = 0x8a00 + modes }; control = replicate 19 7 }

-- the answer that a command was obeyed, and an M_SETOPTS with a read mode, RNORM is 0 and RMSGN is 2, and without TOSTOP
abbrev answer : ℕ → List ℕ → Message ℕ
answer command bytes = without_parts Iocack (header command 7 0 ++ bytes)

abbrev mode : ℕ → Message ℕ
mode n = without_parts Setopts (n ∷ 0 ∷ [])

abbrev comes : ℕ → List ℕ → Discipline ℕ → Acted ℕ (Discipline ℕ)
comes command bytes p = ldterm_puts (at Slave Up) (answer command bytes) p

abbrev sent_of : Discipline ℕ → List (Message ℕ) → Acted ℕ (Discipline ℕ)
sent_of p ms = record { state = p; notes = []; sent = map up ms; gone = [] }

-- one that is set to raw modes, in the midst of a turn too
abbrev in_raw : Discipline ℕ
in_raw = record busy { termios = set_so raw }

pub modes-of-termios : map (λ modes. read_mode_of (set_so modes)) (lines ∷ raw ∷ []) ≡ map (λ p. read_mode_of p) (first_termios ∷ record first_termios { lflag = record { 0 = 0 } } ∷ [])
modes-of-termios = refl

-- TCSETS and TCSETSW

-- where lines are made before and behind it, the line stays, with all of the turn
pub lines-go-on : map (λ command. comes command (given lines) busy) (2 ∷ 3 ∷ []) ≡ map (λ command. sent_of (record busy { termios = set_so lines }) (mode 2 ∷ answer command (given lines) ∷ [])) (2 ∷ 3 ∷ [])
lines-go-on = refl

-- where they are made no longer, what was typed of one goes up first, and nothing goes up of an empty one
pub lines-end : map (λ command. comes command (given raw) busy) (2 ∷ 3 ∷ [])
    ≡ map (λ command. sent_of (record busy { termios = set_so raw; line = [] }) (ordinary (10 ∷ 11 ∷ []) ∷ mode 0 ∷ answer command (given raw) ∷ [])) (2 ∷ 3 ∷ [])
unfolding data_message
lines-end = refl

pub empty-lines-end : comes 2 (given raw) (record busy { line = [] }) ≡ sent_of (record busy { termios = set_so raw; line = [] }) (mode 0 ∷ answer 2 (given raw) ∷ [])
empty-lines-end = refl

-- where none were made, what stands in the line stays
pub raw-goes-on : comes 3 (given raw) in_raw ≡ sent_of in_raw (mode 0 ∷ answer 3 (given raw) ∷ [])
raw-goes-on = refl

pub lines-begin : comes 2 (given lines) in_raw ≡ sent_of (record in_raw { termios = set_so lines }) (mode 2 ∷ answer 2 (given lines) ∷ [])
lines-begin = refl

-- TOSTOP goes with the read mode
abbrev in_stopping : ℕ → Termios
in_stopping modes = record (set_so modes) { lflag = record { 0 = 0x8b00 + modes } }

abbrev told_in : ℕ → ℕ → Acted ℕ (Discipline ℕ)
told_in modes number = sent_of (record in_raw { termios = in_stopping modes }) (without_parts Setopts (number ∷ 1 ∷ []) ∷ answer 2 (given_in 0x8b modes) ∷ [])

pub tostop-is-told : map (λ modes. comes 2 (given_in 0x8b modes) in_raw) (lines ∷ raw ∷ [])
    ≡ told_in lines 2 ∷ told_in raw 0 ∷ []
tostop-is-told = refl

-- TCSETSF

-- What waits to be read is flushed first, with the line, and the writers that waited have room. An M_FLUSH goes up before all. The line has gone
-- where lines end. What waits to be written stays, with its echo.
abbrev flushed : Acted ℕ (Discipline ℕ) → List (Fate ℕ) → Acted ℕ (Discipline ℕ)
flushed t gone = record {
  state = record t.state { read_queue = queue_with [] (waiting false false) true; line = [] };
  notes = Room Up ∷ [];
  sent = up (without_parts Flush (1 ∷ [])) ∷ t.sent;
  gone = gone;
}

abbrev typed : List (Fate ℕ)
typed = Goes MasterToSlave Flushed (1 ∷ 2 ∷ 3 ∷ 4 ∷ 5 ∷ 6 ∷ 7 ∷ []) ∷ Goes MasterToSlave Flushed (10 ∷ 11 ∷ []) ∷ []

pub input-goes : map (λ modes. comes 4 (given modes) busy) (lines ∷ raw ∷ [])
    ≡ flushed (sent_of (record busy { termios = set_so lines }) (mode 2 ∷ answer 4 (given lines) ∷ [])) typed
    ∷ flushed (sent_of (record busy { termios = set_so raw }) (mode 0 ∷ answer 4 (given raw) ∷ [])) typed
    ∷ []
unfolding cells_of band_of is_high_priority size_of is_data_kind
input-goes = refl

pub input-goes-in-raw : comes 4 (given raw) in_raw ≡ flushed (sent_of in_raw (mode 0 ∷ answer 4 (given raw) ∷ [])) typed
unfolding cells_of band_of is_high_priority size_of is_data_kind
input-goes-in-raw = refl

-- on the master's stream, where nothing waits
abbrev waits_not : Discipline ℕ
waits_not = record busy { read_queue = queue_with [] (waiting false false) true; line = [] }

pub nothing-to-flush : ldterm_puts (at Master Up) (answer 4 (given raw)) waits_not ≡ record {
  state = record waits_not { termios = set_so raw };
  notes = [];
  sent = map (parcel Master 0 Up) (without_parts Flush (1 ∷ []) ∷ mode 0 ∷ answer 4 (given raw) ∷ []);
  gone = Goes SlaveToMaster Flushed [] ∷ [];
}
nothing-to-flush = refl

-- what isn't taken up

-- another length than 35 bytes, or another command
pub other-lengths-pass : map (λ command. map (λ bytes. comes command bytes busy) ([] ∷ take 34 (given raw) ∷ (given raw ++ 0 ∷ []) ∷ [])) (2 ∷ 3 ∷ 4 ∷ [])
    ≡ map (λ command. map (λ bytes. sent_of busy (answer command bytes ∷ [])) ([] ∷ take 34 (given raw) ∷ (given raw ++ 0 ∷ []) ∷ [])) (2 ∷ 3 ∷ 4 ∷ [])
other-lengths-pass = refl

pub other-commands-pass : map (λ command. comes command (given raw) busy) (0 ∷ 1 ∷ 5 ∷ 6 ∷ 7 ∷ 8 ∷ []) ≡ map (λ command. sent_of busy (answer command (given raw) ∷ [])) (0 ∷ 1 ∷ 5 ∷ 6 ∷ 7 ∷ 8 ∷ [])
other-commands-pass = refl

-- a header that is cut off, one with parts, another kind
abbrev others : List (Message ℕ)
others = without_parts Iocack (take 15 (header 2 7 0)) ∷ record (answer 2 (given raw)) { body = Some [] } ∷ map (λ kind. without_parts kind (header 4 7 0 ++ given raw)) (Iocnak ∷ Ioctl ∷ [])

pub others-pass : map (λ m. ldterm_puts (at Slave Up) m busy) others ≡ map (λ m. sent_of busy (m ∷ [])) others
others-pass = refl

-- an answer on its way down
pub answers-pass-down : map (λ command. ldterm_puts (at Slave Down) (answer command (given raw)) busy) (2 ∷ 3 ∷ 4 ∷ [])
    ≡ map (λ command. record { state = busy; notes = []; sent = down (answer command (given raw)) ∷ []; gone = [] }) (2 ∷ 3 ∷ 4 ∷ [])
answers-pass-down = refl

-- behind output

-- an M_IOCTL of a command
abbrev asks : ℕ → List ℕ → Message ℕ
asks command bytes = without_parts Ioctl (header command 7 0 ++ bytes)

pub commands-behind-output : map sets_behind (0 ∷ 1 ∷ 2 ∷ 3 ∷ 4 ∷ 5 ∷ 6 ∷ 7 ∷ 8 ∷ []) ≡ false ∷ false ∷ false ∷ true ∷ true ∷ false ∷ false ∷ false ∷ false ∷ []
commands-behind-output = refl

-- TCSETSW and TCSETSF wait behind what stands there to be written, whatever their length, and end the turn's echo. They enable the queue where it
-- wants to be read.
abbrev behind : Message ℕ → Acted ℕ (Discipline ℕ)
behind m = record {
  state = record busy { write_queue = queue_with (protocol 2 (21 ∷ []) (22 ∷ 23 ∷ []) ∷ ordinary (24 ∷ []) ∷ m ∷ []) (waiting false false) true; echoing = false };
  notes = Enable Down ∷ [];
  sent = [];
  gone = [];
}

abbrev wanted : Discipline ℕ
wanted = record busy { write_queue = queue_with to_write (waiting false false) true }

abbrev waiting_ones : List (Message ℕ)
waiting_ones = asks 3 (given raw) ∷ asks 4 (given raw) ∷ asks 3 [] ∷ asks 4 (1 ∷ []) ∷ []

pub some-go-behind : map (λ m. ldterm_puts (at Slave Down) m wanted) waiting_ones ≡ map behind waiting_ones
unfolding rank_of band_of is_high_priority
some-go-behind = refl

-- the others pass, and those whose header is cut off and with parts
abbrev passing : List (Message ℕ)
passing = asks 2 (given raw) ∷ asks 0 [] ∷ asks 1 [] ∷ asks 5 [] ∷ asks 6 [] ∷ asks 7 (1 ∷ []) ∷ asks 8 [] ∷ without_parts Ioctl (take 15 (header 3 7 0)) ∷ record (asks 3 []) { body = Some [] } ∷ []

pub others-go-before : map (λ m. ldterm_puts (at Slave Down) m wanted) passing ≡ map (λ m. record { state = wanted; notes = []; sent = down m ∷ []; gone = [] }) passing
others-go-before = refl

-- on the way up each passes
pub all-go-up : map (λ command. ldterm_puts (at Slave Up) (asks command (given raw)) busy) (0 ∷ 1 ∷ 2 ∷ 3 ∷ 4 ∷ 5 ∷ 6 ∷ 7 ∷ []) ≡ map (λ command. sent_of busy (asks command (given raw) ∷ [])) (0 ∷ 1 ∷ 2 ∷ 3 ∷ 4 ∷ 5 ∷ 6 ∷ 7 ∷ [])
all-go-up = refl
