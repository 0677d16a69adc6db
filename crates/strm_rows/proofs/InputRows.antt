-- Turns of ldterm's queues, as worked out by hand from ldterm(7M), termio(7I) and the STREAMS Programming Guide.
use Rattle.strm_rows.proofs.Prelude.{ℕ, ◌≡◌, if◌then◌else◌, Bool, true, false, List, [], ◌∷◌, ◌++◌, map, refl, replicate, Option, None, Some, Data}
use Rattle.strm_rows.proofs.Prelude.{Proto, Sig, Ctl, Ioctl, Setopts, Iocack, Iocnak, Pcproto, Pcsig, Read, Flush, Stop, Start, Hangup, Error}
use Rattle.strm_rows.proofs.Prelude.{MasterToSlave, SlaveToMaster, Slave, Up, Down, Enable, Room, Spot, Tagged, Written, Made, plain, tagged, Acted}
use Rattle.strm_rows.proofs.Prelude.{Fate, Goes, Comes, Parcel, is_data_kind, ldterm_puts, Discipline, Between, Begun, Message, data_message}
use Rattle.strm_rows.proofs.Prelude.{cells_of, band_of, size_of, rank_of, is_high_priority, Queue, Flow, Serving, flow, fresh, ordinary}
use Rattle.strm_rows.proofs.Prelude.{without_parts}
use Rattle.strm_types.specs.declared.rules.Rule.TheVariants as rules
use Rattle.strm_types.specs.Input.{back_on, begins_next, finished, is_data, left_of, made_of, stages_done, then_on, to_treat, with_left}
use Rattle.strm_types.specs.LdtermServes.{ldterm_serves}
use Rattle.strm_types.specs.Ldterms.{Stage, Answered}
use Rattle.strm_rows.proofs.EchoRows.{rubbed}
use Rattle.strm_rows.proofs.LdtermRows.{at, down, flushing, protocol, queue_with, to_write, up, waiting}
use Rattle.strm_rows.proofs.TypingRows.{lined, with_modes}

abbrev here : Spot
here = at Slave Up

-- parts

pub kinds-of-data : map is_data (Data ∷ Proto ∷ Sig ∷ Ctl ∷ Ioctl ∷ Setopts ∷ Iocack ∷ Iocnak ∷ Pcproto ∷ Pcsig ∷ Read ∷ Flush ∷ Stop ∷ Start ∷ Hangup ∷ Error ∷ []) ≡ true ∷ replicate 15 false
kinds-of-data = refl

-- cells that went weren't made
abbrev told : List (Fate ℕ)
told = Comes SlaveToMaster (1 ∷ 2 ∷ []) ∷ Goes SlaveToMaster rules.EchoFull (3 ∷ 4 ∷ 5 ∷ []) ∷ Comes SlaveToMaster (6 ∷ []) ∷ []

pub cells-made : made_of told ≡ 3
cells-made = refl

-- what is left of a message in work
pub left-of-messages : left_of (5 ∷ []) (protocol 2 (1 ∷ []) (2 ∷ 3 ∷ [])) ≡ record { kind = Proto; band = 2; control = None; body = Some (5 ∷ []); plain = [] }
left-of-messages = refl

pub left-in-work : map (λ m. with_left (5 ∷ []) (record (lined []) { in_work = m })) (None ∷ Some (ordinary (4 ∷ 5 ∷ [])) ∷ []) ≡ map (λ m. record (lined []) { in_work = m }) (None ∷ Some (ordinary (5 ∷ [])) ∷ [])
left-in-work = refl

-- It goes back in front of those of its band, behind those of higher ones; a message of which nothing is left doesn't.
abbrev data_of : ℕ → List ℕ → Message ℕ
data_of band bytes = record { kind = Data; band = band; control = None; body = Some bytes; plain = [] }

abbrev standing : List (Message ℕ) → Queue ℕ
standing messages = queue_with messages (waiting true true) false

pub goes-back : map (λ m. back_on m (standing (data_of 2 (1 ∷ []) ∷ data_of 0 (2 ∷ []) ∷ []))) (None ∷ Some (data_of 0 []) ∷ Some (data_of 0 (8 ∷ [])) ∷ Some (data_of 1 (8 ∷ [])) ∷ Some (data_of 2 (8 ∷ [])) ∷ [])
    ≡ map standing (
    (data_of 2 (1 ∷ []) ∷ data_of 0 (2 ∷ []) ∷ [])
    ∷ (data_of 2 (1 ∷ []) ∷ data_of 0 (2 ∷ []) ∷ [])
    ∷ (data_of 2 (1 ∷ []) ∷ data_of 0 (8 ∷ []) ∷ data_of 0 (2 ∷ []) ∷ [])
    ∷ (data_of 2 (1 ∷ []) ∷ data_of 1 (8 ∷ []) ∷ data_of 0 (2 ∷ []) ∷ [])
    ∷ (data_of 2 (8 ∷ []) ∷ data_of 2 (1 ∷ []) ∷ data_of 0 (2 ∷ []) ∷ [])
    ∷ [])
unfolding cells_of rank_of is_high_priority
goes-back = refl

-- what is still to be done of a byte
abbrev ways_on : List (Stage ℕ)
ways_on = Between ∷ Begun true 1 ∷ Begun false 1 ∷ Answered [] ∷ Answered (1 ∷ 2 ∷ []) ∷ []

pub done : map stages_done ways_on ≡ 0 ∷ 1 ∷ 1 ∷ 2 ∷ 2 ∷ []
done = refl

pub left-to-treat : map (λ m. map (λ stage. to_treat (record (lined []) { in_work = m; stage = stage })) ways_on) (None ∷ Some (ordinary (7 ∷ 8 ∷ [])) ∷ [])
    ≡ (0 ∷ 1 ∷ 1 ∷ 1 ∷ 1 ∷ []) ∷ (2 ∷ 3 ∷ 3 ∷ 3 ∷ 3 ∷ []) ∷ []
unfolding cells_of
left-to-treat = refl

-- One thing after another: the next one is told how many cells were made before it; where something is sent, none follows.
abbrev does : List (Parcel ℕ) → Acted ℕ (Discipline ℕ)
does sent = record { state = lined []; notes = Enable Up ∷ []; sent = sent; gone = told }

abbrev then_does : ℕ → Discipline ℕ → Acted ℕ (Discipline ℕ)
then_does made p = record { state = record p { column = made }; notes = Room Up ∷ []; sent = up (ordinary []) ∷ []; gone = Comes SlaveToMaster (7 ∷ []) ∷ [] }

pub one-thing-after-another : then_on 5 (does []) then_does
    ≡ record { state = record (lined []) { column = 8 }; notes = Enable Up ∷ Room Up ∷ []; sent = up (ordinary []) ∷ []; gone = told ++ Comes SlaveToMaster (7 ∷ []) ∷ [] }
one-thing-after-another = refl

pub nothing-after-what-is-sent : then_on 5 (does (down (ordinary []) ∷ [])) then_does ≡ does (down (ordinary []) ∷ [])
nothing-after-what-is-sent = refl

pub nothing-begins : begins_next plain here [] (lined []) ≡ record { state = lined []; notes = []; sent = []; gone = [] }
nothing-begins = refl

-- The end of a turn: what was gathered goes up, what is left goes back, and no echo is under way. What was typed before stays.
abbrev in_turn : List ℕ → Discipline ℕ
in_turn gathered = record (lined (97 ∷ [])) {
  stopped = true;
  after_lnext = true;
  read_queue = standing (data_of 0 (2 ∷ []) ∷ []);
  in_work = Some (data_of 0 (8 ∷ []));
  gathered = gathered;
  echoing = true;
  stage = Answered (5 ∷ []);
}

abbrev behind_turn : Discipline ℕ
behind_turn = record (lined (97 ∷ [])) { stopped = true; after_lnext = true; read_queue = standing (data_of 0 (8 ∷ []) ∷ data_of 0 (2 ∷ []) ∷ []) }

pub turns-end : map (λ gathered. finished plain here (in_turn gathered)) ((5 ∷ 6 ∷ []) ∷ [] ∷ [])
    ≡ record { state = behind_turn; notes = []; sent = up (ordinary (5 ∷ 6 ∷ [])) ∷ []; gone = [] }
    ∷ record { state = behind_turn; notes = []; sent = []; gone = [] } ∷ []
unfolding data_message cells_of rank_of is_high_priority
turns-end = refl

-- turns of the write queue

abbrev output : List (Message ℕ) → Bool → Discipline ℕ
output messages want_read = record (in_turn []) { write_queue = queue_with messages (waiting true false) want_read }

-- what stands first goes down: M_PROTO whole, and M_DATA as output under the first modes, which have OPOST and ONLCR
pub output-goes-down : ldterm_serves plain (at Slave Down) 3 false None (output to_write true) ≡ record {
  acted = record { state = output (ordinary (24 ∷ []) ∷ []) false; notes = []; sent = down (protocol 2 (21 ∷ []) (22 ∷ 23 ∷ [])) ∷ []; gone = [] };
  bytes = 3;
  again = false;
}
unfolding cells_of size_of
output-goes-down = refl

pub output-goes-out : map (λ stop. ldterm_serves plain (at Slave Down) 3 false stop (output (data_of 2 (97 ∷ 10 ∷ 98 ∷ []) ∷ ordinary (24 ∷ []) ∷ []) true)) (None ∷ Some 2 ∷ [])
    ≡ record {
      acted = record {
        state = record (output (ordinary (24 ∷ []) ∷ []) false) { column = 1 };
        notes = [];
        sent = down (data_of 2 (97 ∷ 13 ∷ 10 ∷ 98 ∷ [])) ∷ [];
        gone = Comes SlaveToMaster (13 ∷ []) ∷ [];
      };
      bytes = 3;
      again = false;
    }
    ∷ record {
      acted = record {
        state = output (data_of 2 (98 ∷ []) ∷ ordinary (24 ∷ []) ∷ []) false;
        notes = [];
        sent = down (data_of 2 (97 ∷ 13 ∷ 10 ∷ [])) ∷ [];
        gone = Comes SlaveToMaster (13 ∷ []) ∷ [];
      };
      bytes = 2;
      again = false;
    }
    ∷ []
unfolding cells_of size_of rank_of is_high_priority
output-goes-out = refl

pub no-output : ldterm_serves plain (at Slave Down) 3 false None (output [] true) ≡ record { acted = record { state = output [] true; notes = []; sent = []; gone = [] }; bytes = 0; again = false }
no-output = refl

-- turns of the read queue

abbrev flows : List Flow
flows = replicate 256 (flow 512 128 false)

-- one on whose read queue these messages stand
abbrev reading : List (Message ℕ) → Discipline ℕ
reading messages = record (lined []) { read_queue = queue_with messages flows true }

-- one behind that: a turn has begun, with this line, what is left and this echo on the write queue
abbrev read : List ℕ → List (Message ℕ) → List (Message ℕ) → Discipline ℕ
read line left echo = record (lined line) { read_queue = queue_with left flows false; write_queue = queue_with echo flows true }

abbrev in_work : List ℕ → Stage ℕ → Discipline ℕ → Discipline ℕ
in_work bytes stage p = record p { in_work = Some (ordinary bytes); stage = stage; echoing = true }

abbrev serves : Bool → Option ℕ → Discipline ℕ → Serving ℕ (Discipline ℕ)
serves again stop p = ldterm_serves plain here 0 again stop p

abbrev served : Discipline ℕ → Bool → List (Parcel ℕ) → List (Fate ℕ) → ℕ → Bool → Serving ℕ (Discipline ℕ)
served p enables sent gone bytes again = record {
  acted = record { state = p; notes = if enables then Enable Down ∷ [] else []; sent = sent; gone = gone };
  bytes = bytes;
  again = again;
}

-- each byte of an echo is made by itself
abbrev made : List ℕ → List (Fate ℕ)
made bytes = map (λ b. Comes SlaveToMaster (b ∷ [])) bytes

pub nothing-to-read : serves false None (reading []) ≡ served (reading []) false [] [] 0 false
nothing-to-read = refl

-- M_PROTO goes up whole
pub protocol-goes-up : serves false None (reading (protocol 2 (1 ∷ []) (2 ∷ 3 ∷ []) ∷ ordinary (4 ∷ []) ∷ [])) ≡ served (read [] (ordinary (4 ∷ []) ∷ []) []) false (up (protocol 2 (1 ∷ []) (2 ∷ 3 ∷ [])) ∷ []) [] 3 false
unfolding cells_of size_of
protocol-goes-up = refl

-- M_DATA without a byte has nothing that could go up
pub nothing-typed : serves false None (reading (ordinary [] ∷ ordinary (4 ∷ []) ∷ [])) ≡ served (read [] (ordinary (4 ∷ []) ∷ []) []) false [] [] 0 false
unfolding cells_of
nothing-typed = refl

-- "hello\nyo\n", in three calls: each line goes up before its newline is echoed

abbrev greeting : Discipline ℕ
greeting = reading (ordinary (104 ∷ 101 ∷ 108 ∷ 108 ∷ 111 ∷ 10 ∷ 121 ∷ 111 ∷ 10 ∷ []) ∷ [])

abbrev greeting_1 : Discipline ℕ
greeting_1 = in_work (121 ∷ 111 ∷ 10 ∷ []) (Answered (10 ∷ [])) (read [] [] (ordinary (104 ∷ 101 ∷ 108 ∷ 108 ∷ 111 ∷ []) ∷ []))

abbrev greeting_2 : Discipline ℕ
greeting_2 = in_work [] (Answered (10 ∷ [])) (read [] [] (ordinary (104 ∷ 101 ∷ 108 ∷ 108 ∷ 111 ∷ 10 ∷ 121 ∷ 111 ∷ []) ∷ []))

abbrev greeting_3 : Discipline ℕ
greeting_3 = read [] [] (ordinary (104 ∷ 101 ∷ 108 ∷ 108 ∷ 111 ∷ 10 ∷ 121 ∷ 111 ∷ 10 ∷ []) ∷ [])

pub greeting-first : serves false None greeting
    ≡ served greeting_1 true (up (ordinary (104 ∷ 101 ∷ 108 ∷ 108 ∷ 111 ∷ 10 ∷ [])) ∷ []) (made (104 ∷ 101 ∷ 108 ∷ 108 ∷ 111 ∷ [])) 5 true
unfolding data_message cells_of band_of size_of rank_of is_high_priority
greeting-first = refl

pub greeting-second : serves true None greeting_1 ≡ served greeting_2 false (up (ordinary (121 ∷ 111 ∷ 10 ∷ [])) ∷ []) (made (10 ∷ 121 ∷ 111 ∷ [])) 3 true
unfolding data_message cells_of band_of size_of rank_of is_high_priority
greeting-second = refl

pub greeting-third : serves true None greeting_2 ≡ served greeting_3 false [] (made (10 ∷ [])) 1 false
unfolding data_message cells_of band_of size_of rank_of is_high_priority
greeting-third = refl

-- "ab cd ", WERASE and a newline: the line is "ab \n"
pub word-erased : serves false None (reading (ordinary (97 ∷ 98 ∷ 32 ∷ 99 ∷ 100 ∷ 32 ∷ 23 ∷ 10 ∷ []) ∷ []))
    ≡ served (in_work [] (Answered (10 ∷ [])) (read [] [] (ordinary ((97 ∷ 98 ∷ 32 ∷ 99 ∷ 100 ∷ 32 ∷ []) ++ rubbed 3) ∷ []))) true
    (up (ordinary (97 ∷ 98 ∷ 32 ∷ 10 ∷ [])) ∷ [])
    (made (97 ∷ 98 ∷ 32 ∷ 99 ∷ 100 ∷ 32 ∷ [])
    ++ Goes MasterToSlave rules.Erased (99 ∷ 100 ∷ 32 ∷ []) ∷ Goes MasterToSlave rules.EraseKey (23 ∷ []) ∷ Comes SlaveToMaster (rubbed 3) ∷ [])
    7 true
unfolding data_message cells_of band_of size_of rank_of is_high_priority
word-erased = refl

-- Where a turn stops for want of blocks, the bytes that aren't treated go back.

pub stops-before-the-first : serves false (Some 0) (reading (ordinary (97 ∷ 98 ∷ []) ∷ [])) ≡ served (read [] (ordinary (97 ∷ 98 ∷ []) ∷ []) []) false [] [] 0 false
unfolding data_message cells_of band_of size_of rank_of is_high_priority
stops-before-the-first = refl

pub stops-behind-two : serves false (Some 2) (reading (ordinary (97 ∷ 98 ∷ 99 ∷ []) ∷ ordinary (122 ∷ []) ∷ []))
    ≡ served (read (97 ∷ 98 ∷ []) (ordinary (99 ∷ []) ∷ ordinary (122 ∷ []) ∷ []) (ordinary (97 ∷ 98 ∷ []) ∷ [])) true [] (made (97 ∷ 98 ∷ [])) 2 false
unfolding data_message cells_of band_of size_of rank_of is_high_priority
stops-behind-two = refl

-- in their band
pub stops-in-a-band : serves false (Some 1) (reading (data_of 1 (97 ∷ 98 ∷ []) ∷ data_of 1 (122 ∷ []) ∷ ordinary (121 ∷ []) ∷ []))
    ≡ served (read (97 ∷ []) (data_of 1 (98 ∷ []) ∷ data_of 1 (122 ∷ []) ∷ ordinary (121 ∷ []) ∷ []) (ordinary (97 ∷ []) ∷ [])) true [] (made (97 ∷ [])) 1 false
unfolding data_message cells_of band_of size_of rank_of is_high_priority
stops-in-a-band = refl

-- a byte that has begun is the first one of a further call
pub stops-in-a-further-call : map (λ stage. serves true (Some 2) (in_work (99 ∷ 100 ∷ []) stage (read (97 ∷ []) [] (ordinary (97 ∷ []) ∷ [])))) (Begun false 98 ∷ Answered (98 ∷ []) ∷ [])
    ≡ served (read (97 ∷ 98 ∷ 99 ∷ []) (ordinary (100 ∷ []) ∷ []) (ordinary (97 ∷ 98 ∷ 99 ∷ []) ∷ [])) false [] (made (98 ∷ 99 ∷ [])) 2 false
    ∷ served (read (97 ∷ 99 ∷ []) (ordinary (100 ∷ []) ∷ []) (ordinary (97 ∷ 98 ∷ 99 ∷ []) ∷ [])) false [] (made (98 ∷ 99 ∷ [])) 2 false ∷ []
unfolding data_message cells_of band_of size_of rank_of is_high_priority
stops-in-a-further-call = refl

-- it may send before the turn stops
pub sends-before-it-stops : serves false (Some 2) (reading (ordinary (97 ∷ 10 ∷ 98 ∷ []) ∷ []))
    ≡ served (in_work (98 ∷ []) (Answered (10 ∷ [])) (read [] [] (ordinary (97 ∷ []) ∷ []))) true (up (ordinary (97 ∷ 10 ∷ [])) ∷ []) (made (97 ∷ [])) 1 true
unfolding data_message cells_of band_of size_of rank_of is_high_priority
sends-before-it-stops = refl

-- START where output is stopped: the M_START goes down first, and the byte is treated in the next call, which enables the write queue

abbrev stopped : Discipline ℕ → Discipline ℕ
stopped p = record p { stopped = true }

abbrev held : List (Message ℕ)
held = ordinary (5 ∷ []) ∷ []

abbrev started : Discipline ℕ
started = record (read [] [] held) { in_work = Some (ordinary (120 ∷ [])); stage = Begun true 17 }

pub starts-first : serves false None (stopped (record (reading (ordinary (17 ∷ 120 ∷ []) ∷ [])) { write_queue = queue_with held flows true }))
    ≡ served started false (down (without_parts Start []) ∷ []) [] 0 true
unfolding data_message cells_of band_of size_of rank_of is_high_priority
starts-first = refl

-- and then "x" begins an echo behind what was held
pub starts-then : serves true None started ≡ record {
  acted = record {
    state = read (120 ∷ []) [] (ordinary (5 ∷ []) ∷ ordinary (120 ∷ []) ∷ []);
    notes = Enable Down ∷ Enable Down ∷ [];
    sent = [];
    gone = Goes MasterToSlave rules.FlowKey (17 ∷ []) ∷ made (120 ∷ []);
  };
  bytes = 2;
  again = false;
}
unfolding data_message cells_of band_of size_of rank_of is_high_priority
starts-then = refl

-- STOP behind "x"
pub stops-output : serves false None (reading (ordinary (120 ∷ 19 ∷ 121 ∷ []) ∷ []))
    ≡ served (in_work (121 ∷ []) (Answered []) (stopped (read (120 ∷ []) [] (ordinary (120 ∷ []) ∷ [])))) true (down (without_parts Stop []) ∷ [])
    (made (120 ∷ []) ++ Goes MasterToSlave rules.FlowKey (19 ∷ []) ∷ []) 1 true
unfolding data_message cells_of band_of size_of rank_of is_high_priority
stops-output = refl

-- Without ICANON what a turn gathered goes up at its end, or with a signal key, before the flush.

abbrev raw : Discipline ℕ → Discipline ℕ
raw p = with_modes 0x2500 0x8a39 p

pub gathered-goes-up : serves false None (raw (reading (ordinary (97 ∷ 10 ∷ 98 ∷ []) ∷ [])))
    ≡ served (raw (read [] [] (ordinary (97 ∷ 10 ∷ 98 ∷ []) ∷ []))) true (up (ordinary (97 ∷ 10 ∷ 98 ∷ [])) ∷ []) (made (97 ∷ 10 ∷ 98 ∷ [])) 3 false
unfolding data_message cells_of band_of size_of rank_of is_high_priority
gathered-goes-up = refl

pub gathered-before-it-stops : serves false (Some 2) (raw (reading (ordinary (97 ∷ 10 ∷ 98 ∷ []) ∷ [])))
    ≡ served (raw (read [] (ordinary (98 ∷ []) ∷ []) (ordinary (97 ∷ 10 ∷ []) ∷ []))) true (up (ordinary (97 ∷ 10 ∷ [])) ∷ []) (made (97 ∷ 10 ∷ [])) 2 false
unfolding data_message cells_of band_of size_of rank_of is_high_priority
gathered-before-it-stops = refl

abbrev signalled : Discipline ℕ
signalled = in_work (98 ∷ []) (Answered (94 ∷ 67 ∷ [])) (raw (read [] [] (ordinary (97 ∷ []) ∷ [])))

pub gathered-before-a-signal : serves false None (raw (reading (ordinary (97 ∷ 3 ∷ 98 ∷ []) ∷ [])))
    ≡ served signalled true (up (ordinary (97 ∷ [])) ∷ up (flushing (3 ∷ [])) ∷ up (without_parts Pcsig (2 ∷ [])) ∷ []) (made (97 ∷ []) ++ Goes MasterToSlave rules.SignalKey (3 ∷ []) ∷ []) 1 true
unfolding data_message cells_of band_of size_of rank_of is_high_priority
gathered-before-a-signal = refl

-- an M_FLUSH that comes down before the next call takes the echo, and the rest of the turn has one of its own
abbrev flushed : Discipline ℕ
flushed = (ldterm_puts (at Slave Down) (flushing (2 ∷ [])) signalled).state

pub echo-begins-again : serves true None flushed
    ≡ served (raw (read [] [] (ordinary (94 ∷ 67 ∷ 98 ∷ []) ∷ []))) true (up (ordinary (98 ∷ [])) ∷ []) (Comes SlaveToMaster (94 ∷ 67 ∷ []) ∷ made (98 ∷ [])) 2 false
unfolding data_message cells_of band_of size_of rank_of is_high_priority is_data_kind
echo-begins-again = refl

-- from the high-water mark on an echo is lost: two bytes stand, the third doesn't
abbrev narrow : List (Message ℕ) → Discipline ℕ → Discipline ℕ
narrow messages p = record p { write_queue = queue_with messages (flow 2 1 false ∷ []) true }

pub echo-is-cut : serves false None (narrow [] (reading (ordinary (97 ∷ 98 ∷ 99 ∷ []) ∷ [])))
    ≡ served (narrow (ordinary (97 ∷ 98 ∷ []) ∷ []) (read (97 ∷ 98 ∷ 99 ∷ []) [] [])) true [] (made (97 ∷ 98 ∷ 99 ∷ []) ++ Goes SlaveToMaster rules.EchoFull (99 ∷ []) ∷ []) 3 false
unfolding data_message cells_of band_of size_of rank_of is_high_priority
echo-is-cut = refl

-- A write queue that doesn't want to be read isn't enabled by the echo.
pub echo-without-enabling : serves false None (record (reading (ordinary (97 ∷ []) ∷ [])) { write_queue = queue_with [] flows false })
    ≡ served (record (read (97 ∷ []) [] []) { write_queue = queue_with (ordinary (97 ∷ []) ∷ []) flows false }) false [] (made (97 ∷ [])) 1 false
unfolding data_message cells_of band_of size_of rank_of is_high_priority
echo-without-enabling = refl

-- Cells that are made are numbered on, over the bytes of a turn.
abbrev typed_cell : ℕ → ℕ → Tagged
typed_cell n byte = record { byte = byte; origin = Written MasterToSlave n }

abbrev tagged_reading : List Tagged → Discipline Tagged
tagged_reading cells =
    let m : Message Tagged = record { kind = Data; band = 0; control = None; body = Some cells; plain = [] } in
    record fresh { read_queue = record { messages = m ∷ []; flows = flows; want_read = true; no_enable = false } }

abbrev made_cell : ℕ → ℕ → Fate Tagged
made_cell n byte = Comes SlaveToMaster (record { byte = byte; origin = Made SlaveToMaster n } ∷ [])

-- "a", ERASE of it with its three made cells, and "b"
abbrev tagged_turn : Serving Tagged (Discipline Tagged)
tagged_turn = ldterm_serves tagged here 6 false None (tagged_reading (typed_cell 1 97 ∷ typed_cell 2 127 ∷ typed_cell 3 98 ∷ []))

pub made-cells-numbered-on : tagged_turn.acted.gone
    ≡ made_cell 6 97
    ∷ Goes MasterToSlave rules.Erased (typed_cell 1 97 ∷ []) ∷ Goes MasterToSlave rules.EraseKey (typed_cell 2 127 ∷ [])
    ∷ Comes SlaveToMaster (record { byte = 8; origin = Made SlaveToMaster 7 } ∷ record { byte = 32; origin = Made SlaveToMaster 8 } ∷ record { byte = 8; origin = Made SlaveToMaster 9 } ∷ [])
    ∷ made_cell 10 98 ∷ []
unfolding data_message cells_of band_of size_of rank_of is_high_priority
made-cells-numbered-on = refl

pub tagged-line : tagged_turn.acted.state.line ≡ typed_cell 3 98 ∷ []
unfolding data_message cells_of band_of size_of rank_of is_high_priority
tagged-line = refl
