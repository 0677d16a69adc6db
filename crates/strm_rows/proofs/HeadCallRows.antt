-- What getmsg(2), I_SRDOPT and I_NREAD do as calls of a pair, as worked out by hand from the manual pages.
use Rattle.strm_rows.proofs.Prelude.{ℕ, ◌≡◌, Bool, true, false, List, [], ◌∷◌, length, map, refl, replicate, Option, None, Some, Free, Answer, Done}
use Rattle.strm_rows.proofs.Prelude.{Called, Caller, Get, Mode, Nread, Prio, ReadMode, ByteStream, MessageKeep, MessageDiscard, Any, High, no_own}
use Rattle.strm_rows.proofs.Prelude.{MasterToSlave, Open, Closed, QueueName, Side, Master, Slave, Refusal, Eagain, Enxio, new_book, Request}
use Rattle.strm_rows.proofs.Prelude.{content_of, called, plain, Goes, caller_of, content_max, entries_in, room_of, came, gone, Message, rank_of}
use Rattle.strm_rows.proofs.Prelude.{band_of, size_of, cells_of, is_held, is_high_priority, driver_of, Queue, Flow, blocks_asked, refused_at_once}
use Rattle.strm_rows.proofs.Prelude.{refused_by_state, Head, State, Stream, with_stream, flow, queue, ordinary, proto, urgent}
use Rattle.strm_types.specs.declared.answers.Answer.TheVariants.{Msg, Sizes}
use Rattle.strm_types.specs.declared.modes.ControlMode.{ControlMode}
use Rattle.strm_types.specs.declared.modes.ControlMode.TheVariants as controls
use Rattle.strm_types.specs.declared.modes.Mode.TheVariants as modes
use Rattle.strm_types.specs.declared.modes.Prio.TheVariants as prios
use Rattle.strm_types.specs.declared.modes.Wanted.{Wanted}
use Rattle.strm_types.specs.declared.modes.Wanted.TheVariants.{Band}
use Rattle.strm_types.specs.declared.rules.Rule.TheVariants as rules
use Rattle.strm_types.specs.Journal.{answer_len}

abbrev caller : Side → Caller
caller side = caller_of side

abbrev banded : ℕ → Prio
banded n = prios.Band (record { 0 = n })

abbrev of_band : ℕ → Wanted
of_band n = Band (record { 0 = n })

abbrev head : Queue ℕ → ReadMode → ControlMode → Bool → Head ℕ
head q read control hung_up = record { queue = q; read_mode = read; control_mode = control; tostop = false; group = 0; hung_up = hung_up; signals = []; ioctl = Free }

abbrev end : Head ℕ → Stream ℕ
end h = record { opened = Open; head = h; modules = []; driver = record { queue = queue [] [] } }

-- a pair whose slave has this head
abbrev pair : Head ℕ → List QueueName → State ℕ
pair h enabled = record {
  ends = record { master = end (head (queue [] []) ByteStream controls.Refuse false); slave = end h };
  locked = false;
  enabled = enabled;
  next_ioctl = 1;
  books = record { master = new_book; slave = new_book };
}

-- the slave's head has these messages, in the modes of a new one
abbrev at_head : List (Message ℕ) → List Flow → Bool → Bool → Head ℕ
at_head messages flows want_read hung_up = head (record { messages = messages; flows = flows; want_read = want_read; no_enable = false }) ByteStream controls.Refuse hung_up

abbrev asks : Request → State ℕ → Option Refusal
asks asked s = refused_by_state no_own s (caller Slave) asked

-- Gets. An M_PROTO of band 2 with two bytes of control and three of data stands at the slave's head, and writers wait.

abbrev waiting : ℕ → List Flow
waiting low = flow 9 low true ∷ flow 9 1 false ∷ flow 9 2 true ∷ []

abbrev one_waits : State ℕ
one_waits = pair (at_head (proto ∷ []) (waiting 0) true false) []

-- all of it: both parts, and writers of both bands are let go
pub get-of-a-whole-message : called no_own plain (caller Slave) (Get Any 9 9) one_waits
    ≡ record { answer = Msg (banded 2) (Some (1 ∷ 2 ∷ [])) (Some (3 ∷ 4 ∷ 5 ∷ [])) false false; state = pair (at_head [] (flow 9 0 false ∷ flow 9 1 false ∷ flow 9 2 false ∷ []) false false) (driver_of Master ∷ []); came = []; gone = Goes MasterToSlave rules.Read (1 ∷ 2 ∷ 3 ∷ 4 ∷ 5 ∷ []) ∷ [] }
unfolding band_of size_of cells_of is_high_priority
get-of-a-whole-message = refl

-- one byte of each part: three are left, above the low mark of two
pub get-of-a-front : called no_own plain (caller Slave) (Get (of_band 2) 1 1) (pair (at_head (proto ∷ []) (flow 9 0 false ∷ flow 9 1 false ∷ flow 9 2 true ∷ []) true false) [])
    ≡ record { answer = Msg (banded 2) (Some (1 ∷ [])) (Some (3 ∷ [])) true true; state = pair (at_head (record proto { control = Some (2 ∷ []); body = Some (4 ∷ 5 ∷ []) } ∷ []) (flow 9 0 false ∷ flow 9 1 false ∷ flow 9 2 true ∷ []) false false) []; came = []; gone = Goes MasterToSlave rules.Read (1 ∷ 3 ∷ []) ∷ [] }
unfolding rank_of band_of size_of cells_of is_high_priority
get-of-a-front = refl

-- sizes of 0: both parts are given as empty, all bytes stay, and nobody is let go, though writers wait
pub get-of-no-byte : called no_own plain (caller Slave) (Get Any 0 0) one_waits ≡ record { answer = Msg (banded 2) (Some []) (Some []) true true; state = pair (at_head (proto ∷ []) (waiting 0) false false) []; came = []; gone = Goes MasterToSlave rules.Read [] ∷ [] }
unfolding rank_of band_of size_of cells_of is_high_priority
get-of-no-byte = refl

-- an absent part is absent, whatever its size; high priority is told in place of a band
pub get-of-high-priority : (called no_own plain (caller Slave) (Get High 9 0) (pair (at_head (urgent ∷ proto ∷ []) [] true false) [])).answer ≡ Msg prios.High (Some (9 ∷ [])) None false false
unfolding is_high_priority
get-of-high-priority = refl

-- what isn't asked for waits; high priority serves a get of any band
pub get-of-what-is-wanted : map (λ wanted. asks (Get wanted 9 9) one_waits) (Any ∷ High ∷ of_band 2 ∷ of_band 3 ∷ []) ≡ None ∷ Some Eagain ∷ None ∷ Some Eagain ∷ []
unfolding is_high_priority
get-of-what-is-wanted = refl

pub get-of-a-band-takes-high-priority : map (λ wanted. asks (Get wanted 9 9) (pair (at_head (urgent ∷ []) [] true false) [])) (High ∷ of_band 7 ∷ []) ≡ None ∷ None ∷ []
unfolding is_high_priority
get-of-a-band-takes-high-priority = refl

-- At the end of input both parts are absent, whatever was asked for, and nothing changes. Where messages stand, or the other end
-- isn't gone, a get waits.

abbrev ended : List (Message ℕ) → Bool → State ℕ
ended messages hung_up = pair (at_head messages (waiting 9) true hung_up) []

pub get-at-the-end-of-input : map (λ wanted. called no_own plain (caller Slave) (Get wanted 9 9) (ended [] true)) (Any ∷ High ∷ of_band 3 ∷ []) ≡ replicate 3 (record { answer = Msg (banded 0) None None false false; state = ended [] true; came = []; gone = [] })
get-at-the-end-of-input = refl

pub get-waits-before-the-end : map (λ wanted. asks (Get wanted 9 9) (ended [] true)) (Any ∷ High ∷ of_band 3 ∷ []) ∷ map (λ wanted. asks (Get wanted 9 9) (ended [] false)) (Any ∷ High ∷ of_band 3 ∷ []) ∷ map (λ wanted. asks (Get wanted 9 9) (ended (proto ∷ []) true)) (Any ∷ High ∷ of_band 3 ∷ []) ∷ []
    ≡ (None ∷ None ∷ None ∷ []) ∷ (Some Eagain ∷ Some Eagain ∷ Some Eagain ∷ []) ∷ (None ∷ Some Eagain ∷ Some Eagain ∷ []) ∷ []
unfolding is_high_priority
get-waits-before-the-end = refl

-- on the master the input ends where the slave was closed and left no data
pub get-of-the-master-at-the-end : map (λ slave. refused_by_state no_own (with_stream Slave slave (ended [] false)) (caller Master) (Get Any 9 9)) (end (at_head [] [] true false) ∷ record (end (at_head [] [] true false)) { opened = Closed } ∷ []) ≡ Some Eagain ∷ None ∷ []
unfolding is_held
get-of-the-master-at-the-end = refl

-- a get may ask for any band, and is refused at once only by a side that isn't open
pub gets-ask-for-any-band : map (λ side. map (λ wanted. refused_at_once (with_stream Master (record one_waits.ends.master { opened = Closed }) one_waits) (caller side) (Get wanted 9 9)) (Any ∷ High ∷ of_band 0 ∷ of_band 8 ∷ of_band 255 ∷ [])) (Slave ∷ Master ∷ []) ≡ replicate 5 None ∷ replicate 5 (Some Enxio) ∷ []
gets-ask-for-any-band = refl

-- at most 4096 bytes of each part, and room in the journal for both
pub gets-give-4096-at-most : map content_max (Get Any 4095 4096 ∷ Get High 4097 9 ∷ Mode (modes.Read ByteStream) ∷ Nread ∷ []) ≡ 8191 ∷ 4105 ∷ 0 ∷ 0 ∷ []
gets-give-4096-at-most = refl

pub get-gives-4096-at-most : map (λ n. length (content_of (called no_own plain (caller Slave) (Get Any n n) (pair (at_head (ordinary (replicate 4098 97) ∷ []) [] true false) [])).answer)) (4095 ∷ 4097 ∷ []) ≡ 4095 ∷ 4096 ∷ []
unfolding rank_of band_of size_of cells_of is_high_priority
get-gives-4096-at-most = refl

-- what a get gives has gone to a reader; none else goes, and none comes
pub got-bytes-go-to-the-reader : gone no_own plain one_waits (Called (caller Slave) (Get Any 1 9) Done) ∷ gone no_own plain one_waits (Called (caller Slave) (Get High 9 9) Done) ∷ gone no_own plain one_waits (Called (caller Master) (Get Any 9 9) Done) ∷ []
    ≡ (Goes MasterToSlave rules.Read (1 ∷ 3 ∷ 4 ∷ 5 ∷ []) ∷ []) ∷ [] ∷ [] ∷ []
unfolding rank_of band_of cells_of is_high_priority
got-bytes-go-to-the-reader = refl

pub gets-bring-nothing : came no_own plain one_waits (Called (caller Slave) (Get Any 9 9) Done) ≡ []
gets-bring-nothing = refl

-- the journal has the bytes of the parts that were given, those of the control part first

abbrev answered : Option ℕ → Option ℕ → Answer ℕ
answered control body = Msg (banded 0) control body false true

pub stored-answers : map answer_len (answered (Some 2) (Some 1) ∷ answered None (Some 3) ∷ answered (Some 0) None ∷ Sizes 5 6 ∷ []) ≡ 3 ∷ 3 ∷ 0 ∷ 0 ∷ []
stored-answers = refl

pub stored-gets : entries_in (Called (caller Slave) (Get Any 2 9) (answered (Some 2) (Some 1)) ∷ Called (caller Slave) Nread (Sizes 3 1) ∷ Called (caller Slave) (Get High 0 9) (Msg prios.High (Some 0) None true false) ∷ Called (caller Master) (Get (of_band 3) 9 9) (answered None (Some 2)) ∷ []) (97 ∷ 98 ∷ 99 ∷ 100 ∷ 101 ∷ [])
    ≡ Called (caller Slave) (Get Any 2 9) (Msg (banded 0) (Some (97 ∷ 98 ∷ [])) (Some (99 ∷ [])) false true) ∷ Called (caller Slave) Nread (Sizes 3 1) ∷ Called (caller Slave) (Get High 0 9) (Msg prios.High (Some []) None true false) ∷ Called (caller Master) (Get (of_band 3) 9 9) (Msg (banded 0) None (Some (100 ∷ 101 ∷ [])) false true) ∷ []
stored-gets = refl

pub answers-take-room : room_of (Called (caller Slave) (Get Any 2 9) (Msg (banded 0) (Some (97 ∷ 98 ∷ [])) (Some (99 ∷ [])) false true)) ≡ 3
answers-take-room = refl

-- modes: one is set, and the other one stays

abbrev moded : ReadMode → ControlMode → State ℕ
moded read control = pair (head (queue (proto ∷ []) []) read control true) (driver_of Slave ∷ [])

pub mode-leaves-the-other-mode : map (λ mode. called no_own plain (caller Slave) (Mode mode) (moded MessageKeep controls.Discard)) (modes.Read MessageDiscard ∷ modes.Control controls.Data ∷ [])
    ≡ record { answer = Done; state = moded MessageDiscard controls.Discard; came = []; gone = [] } ∷ record { answer = Done; state = moded MessageKeep controls.Data; came = []; gone = [] } ∷ []
mode-leaves-the-other-mode = refl

pub mode-is-of-its-own-side : (called no_own plain (caller Master) (Mode (modes.Read MessageKeep)) (moded ByteStream controls.Refuse)).state.ends.slave ≡ (moded ByteStream controls.Refuse).ends.slave
mode-is-of-its-own-side = refl

-- what stands at a head: the data bytes of the first message, and how many messages there are

pub sizes-of-what-stands : map (λ messages. called no_own plain (caller Slave) Nread (ended messages true)) ([] ∷ (proto ∷ ordinary (7 ∷ []) ∷ []) ∷ (urgent ∷ proto ∷ proto ∷ []) ∷ [])
    ≡ record { answer = Sizes 0 0; state = ended [] true; came = []; gone = [] } ∷ record { answer = Sizes 3 2; state = ended (proto ∷ ordinary (7 ∷ []) ∷ []) true; came = []; gone = [] } ∷ record { answer = Sizes 0 3; state = ended (urgent ∷ proto ∷ proto ∷ []) true; came = []; gone = [] } ∷ []
sizes-of-what-stands = refl

pub head-calls-ask-for-no-block : map blocks_asked (Get Any 9 9 ∷ Mode (modes.Read ByteStream) ∷ Nread ∷ []) ∷ [] ≡ (0 ∷ 0 ∷ 0 ∷ []) ∷ []
head-calls-ask-for-no-block = refl

pub head-calls-wait-for-nothing : map (λ asked. asks asked (ended [] false)) (Mode (modes.Control controls.Data) ∷ Nread ∷ []) ≡ None ∷ None ∷ []
head-calls-wait-for-nothing = refl
