-- What signals and options do at a stream head, and how they are handed out, as worked out by hand from streamio(7I) and the
-- STREAMS Programming Guide ("Stream Head": M_SIG, M_PCSIG, M_SETOPTS).
use Rattle.strm_rows.proofs.Prelude.{ℕ, ◌≡◌, Bool, true, false, List, [], ◌∷◌, map, refl, replicate, Option, None, Some, Done, Called, Caller, no_own}
use Rattle.strm_rows.proofs.Prelude.{OpenSlave, Shut, MsgKind, Sig, Pcsig, Setopts, Hangup, Ctl, Stop, Start, Refuse, Discard, ReadMode, ByteStream}
use Rattle.strm_rows.proofs.Prelude.{MessageKeep, MessageDiscard, Openness, Never, Open, Closed, Side, Master, Slave, Up, Enxio, Free, Waiting, Spot}
use Rattle.strm_rows.proofs.Prelude.{new_book, called, content_of, map_answer, map_event, payload_of, plain, Acted, head_put, Head, caller_of}
use Rattle.strm_rows.proofs.Prelude.{content_max, entries_in, room_of, came, gone, cells_of, size_of, driver_of, put_in, blocks_asked}
use Rattle.strm_rows.proofs.Prelude.{refused_at_once, refused_by_state, State, Stream, flow, ordinary, proto, queue, without_parts}
use Rattle.strm_types.specs.declared.answers.Answer.TheVariants as answers
use Rattle.strm_types.specs.declared.events.Event.TheVariants.{Signals}
use Rattle.strm_types.specs.declared.limits.TheConstants.{SIGNAL_LAST, SIGNALS_MAX}
use Rattle.strm_types.specs.declared.options.Marks.{Marks}
use Rattle.strm_types.specs.declared.options.Options.{Options}
use Rattle.strm_types.specs.Heads.{with_options}
use Rattle.strm_types.specs.Options.{options_in}
use Rattle.strm_types.specs.Signals.{has_signal, signal_in, with_signal}

-- the signals that bytes name: one byte from 1 to 31

pub limits-of-signals : SIGNAL_LAST ∷ SIGNALS_MAX ∷ [] ≡ 31 ∷ 32 ∷ []
limits-of-signals = refl

pub signals-from-1-to-31 : map signal_in ((1 ∷ []) ∷ (31 ∷ []) ∷ (0 ∷ []) ∷ (32 ∷ []) ∷ (2 ∷ 3 ∷ []) ∷ [] ∷ []) ≡ Some 1 ∷ Some 31 ∷ None ∷ None ∷ None ∷ None ∷ []
signals-from-1-to-31 = refl

-- each waits once: a new one stands behind the others

abbrev two : List ℕ
two = 2 ∷ 5 ∷ []

pub signals-that-wait : map (λ n. has_signal n two) (2 ∷ 5 ∷ 3 ∷ []) ≡ true ∷ true ∷ false ∷ []
signals-that-wait = refl

pub signals-wait-once : map (λ n. with_signal n two) (Some 3 ∷ Some 1 ∷ Some 2 ∷ Some 5 ∷ None ∷ []) ≡ (2 ∷ 5 ∷ 3 ∷ []) ∷ (2 ∷ 5 ∷ 1 ∷ []) ∷ two ∷ two ∷ two ∷ []
signals-wait-once = refl

pub first-signal : with_signal (Some 5) [] ≡ 5 ∷ []
first-signal = refl

-- At a head, the slave's, that has an M_PROTO, a writer that waits in band 0, modes of its own, signals and an ioctl.

abbrev here : Spot
here = record { side = Slave; at = 0; way = Up }

abbrev head : List ℕ → Head ℕ
head signals = record {
  queue = queue (proto ∷ []) (flow 9 1 true ∷ flow 8 3 false ∷ []);
  read_mode = MessageDiscard;
  control_mode = Discard;
  tostop = true;
  group = 0;
  hung_up = false;
  signals = signals;
  ioctl = Waiting 7 5;
}

abbrev leaves : Head ℕ → Acted ℕ (Head ℕ)
leaves h = record { state = h; notes = []; sent = []; gone = [] }

-- of the signals it has two
abbrev signalled : MsgKind → List ℕ → Acted ℕ (Head ℕ)
signalled kind bytes = head_put here (without_parts kind bytes) (head two)

pub signals-come-up : map (λ kind. signalled kind (3 ∷ [])) (Sig ∷ Pcsig ∷ []) ≡ leaves (head (2 ∷ 5 ∷ 3 ∷ [])) ∷ leaves (head (2 ∷ 5 ∷ 3 ∷ [])) ∷ []
signals-come-up = refl

pub signals-come-up-again : map (λ kind. signalled kind (2 ∷ [])) (Sig ∷ Pcsig ∷ []) ≡ leaves (head two) ∷ leaves (head two) ∷ []
signals-come-up-again = refl

pub no-signals-come-up : map (λ bytes. signalled Sig bytes) ([] ∷ (0 ∷ []) ∷ (32 ∷ []) ∷ (3 ∷ 4 ∷ []) ∷ []) ≡ replicate 4 (leaves (head two))
no-signals-come-up = refl

-- an M_HANGUP says that the other end is gone, and neither signals nor ioctls go by it; other kinds change nothing
pub hangups-leave-what-waits : signalled Hangup [] ≡ leaves (record (head two) { hung_up = true })
hangups-leave-what-waits = refl

pub other-kinds-change-nothing : map (λ kind. signalled kind (3 ∷ [])) (Ctl ∷ Stop ∷ Start ∷ []) ≡ replicate 3 (leaves (head two))
other-kinds-change-nothing = refl

-- M_SETOPTS: a read mode, and TOSTOP or the marks behind it

abbrev options : Option ReadMode → Option Marks → Options
options mode marks = record { mode = mode; tostop = None; marks = marks }

abbrev stopping : Option ReadMode → Bool → Options
stopping mode tostop = record { mode = mode; tostop = Some tostop; marks = None }

abbrev marks : ℕ → ℕ → Option Marks
marks high low = Some (record { high = high; low = low })

-- RNORM, RMSGD and RMSGN
pub modes-that-are-set : map options_in ((0 ∷ []) ∷ (1 ∷ []) ∷ (2 ∷ []) ∷ (3 ∷ []) ∷ []) ≡ options (Some ByteStream) None ∷ options (Some MessageDiscard) None ∷ options (Some MessageKeep) None ∷ options None None ∷ []
modes-that-are-set = refl

-- a mode and TOSTOP; a mode that isn't known leaves TOSTOP, and another number than its two sets nothing
pub tostop-is-set : map options_in ((0 ∷ 1 ∷ []) ∷ (2 ∷ 0 ∷ []) ∷ (3 ∷ 1 ∷ []) ∷ (2 ∷ 2 ∷ []) ∷ (0 ∷ 255 ∷ []) ∷ [])
    ≡ stopping (Some ByteStream) true ∷ stopping (Some MessageKeep) false ∷ stopping None true ∷ options None None ∷ options None None ∷ []
tostop-is-set = refl

-- a mode and two marks of 32 bits, the high one first; a mode that isn't known leaves the marks, and marks that are none the mode
abbrev nine : ℕ → ℕ → ℕ → List ℕ
nine mode high low = mode ∷ 0 ∷ 0 ∷ 0 ∷ high ∷ 0 ∷ 0 ∷ 0 ∷ low ∷ []

pub marks-that-are-set : map options_in (nine 1 9 4 ∷ nine 3 9 4 ∷ nine 2 9 9 ∷ nine 2 1 0 ∷ (0 ∷ 5 ∷ 6 ∷ 7 ∷ 8 ∷ 1 ∷ 2 ∷ 3 ∷ 4 ∷ []) ∷ [])
    ≡ options (Some MessageDiscard) (marks 9 4) ∷ options None (marks 9 4) ∷ options (Some MessageKeep) (marks 9 9) ∷ options (Some MessageKeep) (marks 1 0) ∷ options (Some ByteStream) (marks 0x05060708 0x01020304) ∷ []
marks-that-are-set = refl

-- a low mark above the high one, and a high mark of 0
pub marks-that-are-none : map options_in (nine 2 9 10 ∷ nine 2 0 0 ∷ nine 3 0 0 ∷ []) ≡ options (Some MessageKeep) None ∷ options (Some MessageKeep) None ∷ options None None ∷ []
marks-that-are-none = refl

-- no byte, three, eight, and ten
pub other-lengths-set-nothing : map options_in ([] ∷ (2 ∷ 1 ∷ 0 ∷ []) ∷ (2 ∷ 0 ∷ 0 ∷ 0 ∷ 9 ∷ 0 ∷ 0 ∷ 4 ∷ []) ∷ (2 ∷ 0 ∷ 0 ∷ 0 ∷ 9 ∷ 0 ∷ 0 ∷ 0 ∷ 4 ∷ 0 ∷ []) ∷ []) ≡ replicate 4 (options None None)
other-lengths-set-nothing = refl

-- the head with another mode, without TOSTOP, and with other marks in each of its bands, whose writer waits on
abbrev moded : Head ℕ
moded = record (head two) { read_mode = MessageKeep }

abbrev unstopped : Head ℕ
unstopped = record moded { tostop = false }

abbrev remarked : Head ℕ → Head ℕ
remarked h = record h { queue = queue (proto ∷ []) (flow 20 6 true ∷ flow 20 6 false ∷ []) }

pub options-of-a-head : map (λ set. with_options set (head two)) (options (Some MessageKeep) None ∷ options None (marks 20 6) ∷ options (Some MessageKeep) (marks 20 6) ∷ options None None ∷ stopping (Some MessageKeep) false ∷ stopping None true ∷ [])
    ≡ moded ∷ remarked (head two) ∷ remarked moded ∷ head two ∷ unstopped ∷ head two ∷ []
options-of-a-head = refl

pub options-come-up : map (λ bytes. signalled Setopts bytes) ((2 ∷ []) ∷ nine 2 20 6 ∷ nine 9 20 6 ∷ nine 2 6 20 ∷ (2 ∷ 20 ∷ []) ∷ (2 ∷ 0 ∷ []) ∷ (2 ∷ 1 ∷ []) ∷ [])
    ≡ leaves moded ∷ leaves (remarked moded) ∷ leaves (remarked (head two)) ∷ leaves moded ∷ leaves (head two) ∷ leaves unstopped ∷ leaves moded ∷ []
options-come-up = refl

-- In a pair, both of whose heads have signals.

abbrev end : Openness → List ℕ → Stream ℕ
end opened signals = record { opened = opened; head = head signals; modules = []; driver = record { queue = queue (ordinary (7 ∷ []) ∷ []) [] } }

abbrev pair : Stream ℕ → Stream ℕ → State ℕ
pair master slave = record {
  ends = record { master = master; slave = slave };
  locked = false;
  enabled = [];
  next_ioctl = 8;
  books = record { master = new_book; slave = new_book };
}

abbrev caller : Side → Caller
caller side = caller_of side

-- a side that isn't open has nobody for signals, and no cell goes with one
pub signals-want-an-open-side : map (λ opened. let t = put_in no_own plain here (without_parts Sig (3 ∷ [])) (pair (end Open two) (end opened two)) in t.state) (Open ∷ Never ∷ Closed ∷ [])
    ≡ pair (end Open two) (end Open (2 ∷ 5 ∷ 3 ∷ [])) ∷ pair (end Open two) (end Never two) ∷ pair (end Open two) (end Closed two) ∷ []
signals-want-an-open-side = refl

-- they are handed out in their order, each side's to itself, and once
abbrev handed : Side → State ℕ → State ℕ
handed side s = (called no_own plain (caller side) Signals s).state

pub signals-are-handed-out :
    map (λ side. called no_own plain (caller side) Signals (pair (end Open (9 ∷ 1 ∷ [])) (end Open two))) (Master ∷ Slave ∷ [])
    ≡ record { answer = answers.Signals (9 ∷ 1 ∷ []); state = pair (end Open []) (end Open two); came = []; gone = [] } ∷ record { answer = answers.Signals two; state = pair (end Open (9 ∷ 1 ∷ [])) (end Open []); came = []; gone = [] } ∷ []
signals-are-handed-out = refl

pub signals-are-handed-out-once : map (λ side. called no_own plain (caller Slave) Signals (handed side (pair (end Open (9 ∷ [])) (end Open two)))) (Slave ∷ Master ∷ [])
    ≡ record { answer = answers.Signals []; state = pair (end Open (9 ∷ [])) (end Open []); came = []; gone = [] } ∷ record { answer = answers.Signals two; state = pair (end Open []) (end Open []); came = []; gone = [] } ∷ []
signals-are-handed-out-once = refl

-- ENXIO where the side isn't open; a hang-up refuses nobody, and blocks aren't asked for
abbrev ends : List (Stream ℕ)
ends = end Never two ∷ end Closed two ∷ end Open [] ∷ record (end Open two) { head = record (head two) { hung_up = true } } ∷ []

pub signals-of-a-closed-side : map (λ slave. refused_at_once (pair (end Open two) slave) (caller Slave) Signals) ends ≡ Some Enxio ∷ Some Enxio ∷ None ∷ None ∷ []
signals-of-a-closed-side = refl

pub signals-wait-for-nothing : map (λ slave. refused_by_state no_own (pair (end Open two) slave) (caller Slave) Signals) ends ≡ replicate 4 None
signals-wait-for-nothing = refl

pub signals-ask-for-no-block : blocks_asked Signals ≡ 0
signals-ask-for-no-block = refl

-- no cell comes or goes by them
pub signals-are-no-cells : came no_own plain (pair (end Open two) (end Open two)) (Called (caller Slave) Signals Done) ≡ []
signals-are-no-cells = refl

pub no-cells-go-with-signals : gone no_own plain (pair (end Open two) (end Open two)) (Called (caller Slave) Signals Done) ≡ []
no-cells-go-with-signals = refl

-- the journal has them as the bytes of the answer, and room for 32

pub room-for-signals : content_max Signals ∷ room_of (Called (caller Slave) Signals (answers.Signals two)) ∷ [] ≡ 32 ∷ 2 ∷ []
room-for-signals = refl

pub bytes-of-signals : payload_of Signals ∷ content_of (answers.Signals two) ∷ [] ≡ [] ∷ two ∷ []
bytes-of-signals = refl

pub signals-over-other-bytes : map_event {A = ℕ} {B = ℕ} (λ n. 9) Signals ≡ Signals
signals-over-other-bytes = refl

pub told-signals-over-other-bytes : map_answer {A = ℕ} {B = ℕ} (λ n. 9) (answers.Signals 2) ≡ answers.Signals 9
told-signals-over-other-bytes = refl

pub stored-signals : entries_in (Called (caller Master) Signals (answers.Signals 1) ∷ Called (caller Slave) Signals (answers.Signals 2) ∷ Called (caller Slave) Signals (answers.Signals 0) ∷ []) (9 ∷ 2 ∷ 5 ∷ [])
    ≡ Called (caller Master) Signals (answers.Signals (9 ∷ [])) ∷ Called (caller Slave) Signals (answers.Signals two) ∷ Called (caller Slave) Signals (answers.Signals []) ∷ []
stored-signals = refl

-- a side that is closed, and a slave that is opened anew, have a new head: no signal, no ioctl, and the modes and marks of a new one

abbrev new : Head ℕ
new = record { queue = queue [] (replicate 256 (flow 5120 1024 false)); read_mode = ByteStream; control_mode = Refuse; tostop = false; group = 0; hung_up = false; signals = []; ioctl = Free }

pub nothing-waits-at-a-slave-opened-anew : called no_own plain (caller Master) OpenSlave (pair (end Open two) (end Closed two))
    ≡ record { answer = Done; state = record (pair (end Open two) (record (end Open two) { head = new })) { enabled = driver_of Master ∷ [] }; came = []; gone = [] }
nothing-waits-at-a-slave-opened-anew = refl

pub nothing-waits-at-a-closed-side : (called no_own plain (caller Slave) Shut (pair (end Open two) (end Open two))).state.ends.slave ≡ record (end Closed two) { head = new }
unfolding cells_of size_of
nothing-waits-at-a-closed-side = refl
