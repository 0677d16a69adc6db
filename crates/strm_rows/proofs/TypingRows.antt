-- What typed bytes do, as worked out by hand from termio(7I) and ldterm(7M).
use Rattle.strm_rows.proofs.Prelude.{ℕ, ◌≡◌, Bool, true, false, List, [], ◌∷◌, ◌++◌, map, refl, replicate, Flush, Pcsig, Start, Stop, MasterToSlave}
use Rattle.strm_rows.proofs.Prelude.{SlaveToMaster, Master, Slave, Up, Down, Flushed, Enable, Spot, Tagged, Written, Made, plain, tagged, Acted, Fate}
use Rattle.strm_rows.proofs.Prelude.{Goes, Comes, Parcel, Discipline, Begun, Message, data_message, cells_of, band_of, size_of, rank_of}
use Rattle.strm_rows.proofs.Prelude.{is_high_priority, flow, ordinary, without_parts, fresh}
use Rattle.strm_types.specs.declared.rules.Rule.TheVariants.{Igncr, EraseKey, Erased, Killed, EofKey, SignalKey, FlowKey, LnextKey, ReprintKey, LineFull, LineOver, EchoFull}
use Rattle.strm_types.specs.Ldterms.{Answered}
use Rattle.strm_types.specs.Typing.{begins, struck, echoed}
use Rattle.strm_rows.proofs.EchoRows.{rubbed}
use Rattle.strm_rows.proofs.KeyRows.{with_input, with_local}
use Rattle.strm_rows.proofs.LdtermRows.{at, down, parcel, protocol, queue_with, up, waiting}

abbrev here : Spot
here = at Slave Up

-- one with a line, and one set to other modes
abbrev pub lined : List ℕ → Discipline ℕ
lined line = record (fresh {C = ℕ}) { line = line }

abbrev pub with_modes : ℕ → ℕ → Discipline ℕ → Discipline ℕ
with_modes input local p = record p { termios = with_input input (with_local local p.termios) }

-- "ab"
abbrev ab : Discipline ℕ
ab = lined (97 ∷ 98 ∷ [])

-- a byte begins

abbrev halted : ℕ → Discipline ℕ
halted input = record (with_modes input 0x8a3b ab) { stopped = true }

abbrev begun : ℕ → Discipline ℕ → Acted ℕ (Discipline ℕ)
begun c p = record { state = record p { stage = Begun false c }; notes = []; sent = []; gone = [] }

abbrev restarted : ℕ → Discipline ℕ → Acted ℕ (Discipline ℕ)
restarted c p = record { state = record p { stopped = false; stage = Begun true c }; notes = []; sent = down (without_parts Start []) ∷ []; gone = [] }

-- ^Q, ^S, "x" and ^C where output runs: nothing starts it
pub begins-running : map (λ c. begins plain here c (with_modes 0x2d00 0x8a3b ab)) (17 ∷ 19 ∷ 120 ∷ 3 ∷ []) ≡ map (λ c. begun c (with_modes 0x2d00 0x8a3b ab)) (17 ∷ 19 ∷ 120 ∷ 3 ∷ [])
begins-running = refl

-- where it is stopped, START alone starts it; under IXANY each other byte but STOP does; without IXON none does
pub begins-stopped : map (λ c. begins plain here c (halted 0x2500)) (17 ∷ 19 ∷ 120 ∷ 3 ∷ [])
    ≡ restarted 17 (halted 0x2500) ∷ begun 19 (halted 0x2500) ∷ begun 120 (halted 0x2500) ∷ begun 3 (halted 0x2500) ∷ []
begins-stopped = refl

pub begins-with-any : map (λ c. begins plain here c (halted 0x2d00)) (17 ∷ 19 ∷ 120 ∷ 3 ∷ [])
    ≡ restarted 17 (halted 0x2d00) ∷ begun 19 (halted 0x2d00) ∷ restarted 120 (halted 0x2d00) ∷ restarted 3 (halted 0x2d00) ∷ []
begins-with-any = refl

pub begins-without-flow-keys : map (λ c. begins plain here c (halted 0x2900)) (17 ∷ 19 ∷ 120 ∷ []) ≡ map (λ c. begun c (halted 0x2900)) (17 ∷ 19 ∷ 120 ∷ [])
begins-without-flow-keys = refl

-- nor does one behind LNEXT
pub begins-literal : map (λ c. begins plain here c (record (halted 0x2d00) { after_lnext = true })) (17 ∷ 120 ∷ []) ≡ map (λ c. begun c (record (halted 0x2d00) { after_lnext = true })) (17 ∷ 120 ∷ [])
begins-literal = refl

-- A byte does what its key does; its echo is still to come.

abbrev does : Discipline ℕ → List ℕ → List (Parcel ℕ) → List (Fate ℕ) → Acted ℕ (Discipline ℕ)
does p echo sent gone = record { state = record p { stage = Answered echo }; notes = []; sent = sent; gone = gone }

-- the keys of flow control: STOP stops output once

pub stops-once : map (λ stopped. struck plain here false 19 (record ab { stopped = stopped })) (false ∷ true ∷ [])
    ≡ does (record ab { stopped = true }) [] (down (without_parts Stop []) ∷ []) (Goes MasterToSlave FlowKey (19 ∷ []) ∷ [])
    ∷ does (record ab { stopped = true }) [] [] (Goes MasterToSlave FlowKey (19 ∷ []) ∷ []) ∷ []
stops-once = refl

pub start-is-dropped : struck plain here false 17 ab ≡ does ab [] [] (Goes MasterToSlave FlowKey (17 ∷ []) ∷ [])
start-is-dropped = refl

-- where a byte has started output, the write queue is enabled, unless nothing stands there
abbrev with_output : Discipline ℕ
with_output = record ab { write_queue = queue_with (ordinary (5 ∷ []) ∷ []) (waiting false false) false }

pub wakes-output : (struck plain here true 17 with_output).notes ∷ (struck plain here false 17 with_output).notes ∷ (struck plain here true 17 ab).notes ∷ (struck plain here true 120 with_output).notes ∷ []
    ≡ (Enable Down ∷ []) ∷ [] ∷ [] ∷ (Enable Down ∷ []) ∷ []
wakes-output = refl

-- the keys of signals

abbrev signal_up : ℕ → Parcel ℕ
signal_up signal = up (without_parts Pcsig (signal ∷ []))

abbrev flush_up : ℕ → Parcel ℕ
flush_up flags = up (without_parts Flush (flags ∷ []))

-- ^C, ^\ and ^Z: the line goes first, then the key; an M_FLUSH goes up, and then the signal
pub signals-of-keys : map (λ c. struck plain here false c ab) (3 ∷ 28 ∷ 26 ∷ [])
    ≡ does (lined []) (94 ∷ 67 ∷ []) (flush_up 3 ∷ signal_up 2 ∷ []) (Goes MasterToSlave Flushed (97 ∷ 98 ∷ []) ∷ Goes MasterToSlave SignalKey (3 ∷ []) ∷ [])
    ∷ does (lined []) (94 ∷ 92 ∷ []) (flush_up 3 ∷ signal_up 3 ∷ []) (Goes MasterToSlave Flushed (97 ∷ 98 ∷ []) ∷ Goes MasterToSlave SignalKey (28 ∷ []) ∷ [])
    ∷ does (lined []) (94 ∷ 90 ∷ []) (flush_up 1 ∷ signal_up 24 ∷ []) (Goes MasterToSlave Flushed (97 ∷ 98 ∷ []) ∷ Goes MasterToSlave SignalKey (26 ∷ []) ∷ []) ∷ []
signals-of-keys = refl

pub signal-without-a-line : struck plain here false 3 (lined []) ≡ does (lined []) (94 ∷ 67 ∷ []) (flush_up 3 ∷ signal_up 2 ∷ []) (Goes MasterToSlave SignalKey (3 ∷ []) ∷ [])
signal-without-a-line = refl

-- without ICANON: what was gathered goes up before the flush
abbrev raw : Discipline ℕ
raw = record (with_modes 0x2500 0x0a39 ab) { gathered = 5 ∷ 6 ∷ [] }

pub gathered-before-the-flush : struck plain here false 26 raw
    ≡ does (record raw { gathered = []; line = [] }) (94 ∷ 90 ∷ []) (up (ordinary (5 ∷ 6 ∷ [])) ∷ flush_up 1 ∷ signal_up 24 ∷ []) (Goes MasterToSlave Flushed (97 ∷ 98 ∷ []) ∷ Goes MasterToSlave SignalKey (26 ∷ []) ∷ [])
unfolding data_message
gathered-before-the-flush = refl

-- under NOFLSH the line stays, and no M_FLUSH goes up
pub signals-without-flush : map (struck plain here false 3) (with_modes 0x2500 0x8abb ab ∷ with_modes 0x2500 0x0ab9 raw ∷ [])
    ≡ does (with_modes 0x2500 0x8abb ab) (94 ∷ 67 ∷ []) (signal_up 2 ∷ []) (Goes MasterToSlave SignalKey (3 ∷ []) ∷ [])
    ∷ does (record (with_modes 0x2500 0x0ab9 raw) { gathered = [] }) (94 ∷ 67 ∷ []) (up (ordinary (5 ∷ 6 ∷ [])) ∷ signal_up 2 ∷ []) (Goes MasterToSlave SignalKey (3 ∷ []) ∷ []) ∷ []
unfolding data_message
signals-without-flush = refl

-- the keys of the line

pub return-is-ignored : struck plain here false 13 (with_modes 0x2580 0x8a3b ab) ≡ does (with_modes 0x2580 0x8a3b ab) [] [] (Goes MasterToSlave Igncr (13 ∷ []) ∷ [])
return-is-ignored = refl

-- EOF: the line goes up without it, an empty one as well
pub ends-of-file : map (λ line. struck plain here false 4 (lined line)) ((97 ∷ 98 ∷ []) ∷ [] ∷ [])
    ≡ does (lined []) [] (up (ordinary (97 ∷ 98 ∷ [])) ∷ []) (Goes MasterToSlave EofKey (4 ∷ []) ∷ [])
    ∷ does (lined []) [] (up (ordinary []) ∷ []) (Goes MasterToSlave EofKey (4 ∷ []) ∷ []) ∷ []
unfolding data_message
ends-of-file = refl

-- ERASE: of "ab", of a TAB behind "a", of nothing
pub erases : map (λ line. struck plain here false 127 (lined line)) ((97 ∷ 98 ∷ []) ∷ (97 ∷ 9 ∷ []) ∷ [] ∷ [])
    ≡ does (lined (97 ∷ [])) (rubbed 1) [] (Goes MasterToSlave Erased (98 ∷ []) ∷ Goes MasterToSlave EraseKey (127 ∷ []) ∷ [])
    ∷ does (lined (97 ∷ [])) (rubbed 7) [] (Goes MasterToSlave Erased (9 ∷ []) ∷ Goes MasterToSlave EraseKey (127 ∷ []) ∷ [])
    ∷ does (lined []) [] [] (Goes MasterToSlave EraseKey (127 ∷ []) ∷ []) ∷ []
erases = refl

-- WERASE: "d", TAB behind "a b ", blanks alone, nothing
pub erases-words : map (λ line. struck plain here false 23 (lined line)) ((97 ∷ 32 ∷ 98 ∷ 32 ∷ 100 ∷ 9 ∷ []) ∷ (32 ∷ 32 ∷ []) ∷ [] ∷ [])
    ≡ does (lined (97 ∷ 32 ∷ 98 ∷ 32 ∷ [])) (rubbed 4) [] (Goes MasterToSlave Erased (100 ∷ 9 ∷ []) ∷ Goes MasterToSlave EraseKey (23 ∷ []) ∷ [])
    ∷ does (lined []) (rubbed 2) [] (Goes MasterToSlave Erased (32 ∷ 32 ∷ []) ∷ Goes MasterToSlave EraseKey (23 ∷ []) ∷ [])
    ∷ does (lined []) [] [] (Goes MasterToSlave EraseKey (23 ∷ []) ∷ []) ∷ []
erases-words = refl

-- KILL: of "ab", of nothing
pub kills : map (λ line. struck plain here false 21 (lined line)) ((97 ∷ 98 ∷ []) ∷ [] ∷ [])
    ≡ does (lined []) (rubbed 2) [] (Goes MasterToSlave Killed (97 ∷ 98 ∷ []) ∷ Goes MasterToSlave EraseKey (21 ∷ []) ∷ [])
    ∷ does (lined []) [] [] (Goes MasterToSlave EraseKey (21 ∷ []) ∷ []) ∷ []
kills = refl

-- without ECHOE the key, where something was taken
pub erases-without-rubbing : map (λ line. struck plain here false 127 (with_modes 0x2500 0x8a2b (lined line))) ((97 ∷ 98 ∷ []) ∷ [] ∷ [])
    ≡ does (with_modes 0x2500 0x8a2b (lined (97 ∷ []))) (94 ∷ 63 ∷ []) [] (Goes MasterToSlave Erased (98 ∷ []) ∷ Goes MasterToSlave EraseKey (127 ∷ []) ∷ [])
    ∷ does (with_modes 0x2500 0x8a2b (lined [])) [] [] (Goes MasterToSlave EraseKey (127 ∷ []) ∷ []) ∷ []
erases-without-rubbing = refl

pub reprints : struck plain here false 18 ab ≡ does ab (94 ∷ 82 ∷ 10 ∷ 97 ∷ 98 ∷ []) [] (Goes MasterToSlave ReprintKey (18 ∷ []) ∷ [])
reprints = refl

-- LNEXT, and ^C, NL, CR and LNEXT behind it, which are added to the line
pub takes-the-next-literally : struck plain here false 22 ab ≡ does (record ab { after_lnext = true }) [] [] (Goes MasterToSlave LnextKey (22 ∷ []) ∷ [])
takes-the-next-literally = refl

pub literal-bytes : map (λ c. struck plain here false c (record ab { after_lnext = true })) (3 ∷ 10 ∷ 13 ∷ 22 ∷ [])
    ≡ does (lined (97 ∷ 98 ∷ 3 ∷ [])) (94 ∷ 67 ∷ []) [] []
    ∷ does (lined (97 ∷ 98 ∷ 10 ∷ [])) (94 ∷ 74 ∷ []) [] []
    ∷ does (lined (97 ∷ 98 ∷ 13 ∷ [])) (94 ∷ 77 ∷ []) [] []
    ∷ does (lined (97 ∷ 98 ∷ 22 ∷ [])) (94 ∷ 86 ∷ []) [] [] ∷ []
literal-bytes = refl

-- NL, and CR that is mapped to it: the line goes up with it
pub lines-go-up : map (λ c. struck plain here false c ab) (10 ∷ 13 ∷ []) ≡ replicate 2 (does (lined []) (10 ∷ []) (up (ordinary (97 ∷ 98 ∷ 10 ∷ [])) ∷ []) [])
unfolding data_message
lines-go-up = refl

-- a full line goes up with its delimiter
pub full-line-goes-up : struck plain here false 10 (lined (replicate 255 97)) ≡ does (lined []) (10 ∷ []) (up (ordinary (replicate 255 97 ++ 10 ∷ [])) ∷ []) []
unfolding data_message
full-line-goes-up = refl

-- an ordinary byte, and one that is lowered and loses its top bit
pub added-to-the-line : struck plain here false 99 ab ∷ struck plain here false 193 (with_modes 0x2720 0x8a3b ab) ∷ []
    ≡ does (lined (97 ∷ 98 ∷ 99 ∷ [])) (99 ∷ []) [] [] ∷ does (with_modes 0x2720 0x8a3b (lined (97 ∷ 98 ∷ 97 ∷ []))) (97 ∷ []) [] [] ∷ []
added-to-the-line = refl

-- in a line of 254 it is the last one; in one of 255 it is lost under IMAXBEL, and without it the line and the byte are
pub last-place : struck plain here false 99 (lined (replicate 254 97)) ≡ does (lined (replicate 254 97 ++ 99 ∷ [])) (99 ∷ []) [] []
last-place = refl

pub no-place : struck plain here false 99 (lined (replicate 255 97)) ≡ does (lined (replicate 255 97)) (7 ∷ []) [] (Goes MasterToSlave LineFull (99 ∷ []) ∷ [])
no-place = refl

pub line-over : struck plain here false 99 (with_modes 0x500 0x8a3b (lined (replicate 255 97)))
    ≡ does (with_modes 0x500 0x8a3b (lined [])) [] [] (Goes MasterToSlave LineOver (replicate 255 97 ++ 99 ∷ []) ∷ [])
line-over = refl

-- without ICANON each byte is gathered, the keys of the line too, and no line is full
pub gathered : map (λ c. struck plain here false c raw) (99 ∷ 127 ∷ []) ++ struck plain here false 10 (record raw { line = replicate 255 97 }) ∷ []
    ≡ does (record raw { gathered = 5 ∷ 6 ∷ 99 ∷ [] }) (99 ∷ []) [] []
    ∷ does (record raw { gathered = 5 ∷ 6 ∷ 127 ∷ [] }) (94 ∷ 63 ∷ []) [] []
    ∷ does (record raw { gathered = 5 ∷ 6 ∷ 10 ∷ []; line = replicate 255 97 }) (10 ∷ []) [] [] ∷ []
gathered = refl

-- on the master's stream bytes go the other way
pub on-the-master : struck plain (at Master Up) false 4 ab ≡ does (lined []) [] (parcel Master 0 Up (ordinary (97 ∷ 98 ∷ [])) ∷ []) (Goes SlaveToMaster EofKey (4 ∷ []) ∷ [])
unfolding data_message
on-the-master = refl

-- Bytes with their origin: one that is mapped keeps it.

abbrev typed_cell : ℕ → ℕ → Tagged
typed_cell n byte = record { byte = byte; origin = Written MasterToSlave n }

abbrev tagged_line : List Tagged → Discipline Tagged
tagged_line line = record (fresh {C = Tagged}) { line = line }

abbrev tagged_up : List Tagged → Parcel Tagged
tagged_up cells = record { to = record { side = Slave; at = 0; way = Up }; message = data_message cells }

pub mapped-with-its-origin : struck tagged here false (typed_cell 9 13) (tagged_line (typed_cell 8 97 ∷ []))
    ≡ record { state = record (tagged_line []) { stage = Answered (10 ∷ []) }; notes = []; sent = tagged_up (typed_cell 8 97 ∷ typed_cell 9 10 ∷ []) ∷ []; gone = [] }
mapped-with-its-origin = refl

-- WERASE takes cells by their bytes
pub tagged-word-erased : struck tagged here false (typed_cell 9 23) (tagged_line (typed_cell 5 97 ∷ typed_cell 6 32 ∷ typed_cell 7 98 ∷ typed_cell 8 9 ∷ []))
    ≡ record {
      state = record (tagged_line (typed_cell 5 97 ∷ typed_cell 6 32 ∷ [])) { stage = Answered (rubbed 6) };
      notes = [];
      sent = [];
      gone = Goes MasterToSlave Erased (typed_cell 7 98 ∷ typed_cell 8 9 ∷ []) ∷ Goes MasterToSlave EraseKey (typed_cell 9 23 ∷ []) ∷ [];
    }
tagged-word-erased = refl

-- A byte is echoed.

-- one with these messages and this high-water mark of band 0, all of whose other bands are full at one byte
abbrev echoing : Bool → List (Message ℕ) → ℕ → Bool → Discipline ℕ
echoing turn messages high want_read = record ab { echoing = turn; write_queue = queue_with messages (flow high 0 false ∷ flow 1 0 false ∷ flow 1 0 false ∷ []) want_read }

abbrev written : List (Message ℕ)
written = protocol 2 (1 ∷ []) (2 ∷ []) ∷ ordinary (3 ∷ 4 ∷ []) ∷ []

pub nothing-is-echoed : echoed plain here 6 [] (echoing false written 2 true) ≡ record { state = echoing false written 2 true; notes = []; sent = []; gone = [] }
nothing-is-echoed = refl

-- the first byte begins a message behind all others, which enables the queue where it wants to be read
pub echo-begins : map (λ want_read. echoed plain here 6 (94 ∷ 67 ∷ []) (echoing false written 3 want_read)) (true ∷ false ∷ [])
    ≡ record { state = echoing true (protocol 2 (1 ∷ []) (2 ∷ []) ∷ ordinary (3 ∷ 4 ∷ []) ∷ ordinary (94 ∷ 67 ∷ []) ∷ []) 3 true; notes = Enable Down ∷ []; sent = []; gone = Comes SlaveToMaster (94 ∷ 67 ∷ []) ∷ [] }
    ∷ record { state = echoing true (protocol 2 (1 ∷ []) (2 ∷ []) ∷ ordinary (3 ∷ 4 ∷ []) ∷ ordinary (94 ∷ 67 ∷ []) ∷ []) 3 false; notes = []; sent = []; gone = Comes SlaveToMaster (94 ∷ 67 ∷ []) ∷ [] } ∷ []
unfolding data_message cells_of band_of size_of rank_of is_high_priority
echo-begins = refl

-- the next ones join it, and enable nothing
pub echo-grows : echoed plain here 6 (94 ∷ 67 ∷ []) (echoing true written 3 true)
    ≡ record { state = echoing true (protocol 2 (1 ∷ []) (2 ∷ []) ∷ ordinary (3 ∷ 4 ∷ 94 ∷ 67 ∷ []) ∷ []) 3 true; notes = []; sent = []; gone = Comes SlaveToMaster (94 ∷ 67 ∷ []) ∷ [] }
unfolding data_message cells_of band_of size_of rank_of is_high_priority
echo-grows = refl

-- at the high-water mark of band 0 none of it stands: it is made, and gone
pub echo-is-lost : map (λ turn. echoed plain here 6 (94 ∷ 67 ∷ []) (echoing turn written 2 true)) (true ∷ false ∷ [])
    ≡ map (λ turn. record { state = echoing turn written 2 true; notes = []; sent = []; gone = Comes SlaveToMaster (94 ∷ 67 ∷ []) ∷ Goes SlaveToMaster EchoFull (94 ∷ 67 ∷ []) ∷ [] }) (true ∷ false ∷ [])
unfolding data_message cells_of band_of size_of rank_of is_high_priority
echo-is-lost = refl

-- the master's goes the other way
pub echo-of-the-master : (echoed plain (at Master Up) 6 (97 ∷ []) (echoing true written 2 true)).gone ≡ Comes MasterToSlave (97 ∷ []) ∷ Goes MasterToSlave EchoFull (97 ∷ []) ∷ []
unfolding data_message cells_of band_of size_of rank_of is_high_priority
echo-of-the-master = refl

-- cells that are made are numbered on
pub made-cells : (echoed tagged here 6 (94 ∷ 67 ∷ []) (tagged_line [])).gone
    ≡ Comes SlaveToMaster (record { byte = 94; origin = Made SlaveToMaster 6 } ∷ record { byte = 67; origin = Made SlaveToMaster 7 } ∷ []) ∷ []
made-cells = refl
