-- How far a call of ldterm's service procedure may go (srv(9E); ldterm(7M)).
use Rattle.std.specs.Prelude.{ℕ, ◌≡◌, ◌≤◌, ◌*◌, Bool, true, length, is_some}
use Rattle.strm_types.specs.declared.keys.TheConstants.{LINE_MAX}
use Rattle.strm_types.specs.declared.names.Way.{Way}
use Rattle.strm_types.specs.declared.names.Way.TheVariants.{Up}
use Rattle.strm_types.specs.Input.{stages_done, to_treat}
use Rattle.strm_types.specs.Ldterms.{IsIdle, Discipline, Stage, Answered, queue_at}
use Rattle.strm_types.specs.Queue.{first_size}
use Rattle.strm_types.specs.Service.{echo_most}

-- how many bytes a call may treat at most: those of the first message of its queue, or what is left of the one in work
abbrev pub bytes_left : Way → Bool → Discipline ℕ → ℕ
bytes_left Up true l = to_treat l
bytes_left way again l = first_size (queue_at way l).messages

-- What a call begins with: in a turn of the read queue that goes on a message is in work, and else nothing of a turn is under way.
abbrev pub Begins : Way → Bool → Discipline ℕ → Type 0
Begins Up true l = is_some l.in_work ≡ true
Begins way again l = IsIdle l

-- A last call treats no more bytes than it may, and those that had begun are among them.
pub record Ends (way : Way) (again : Bool) (l : Discipline ℕ) (bytes : ℕ) : Type 0 where
  pub treat : bytes ≤ bytes_left way again l
  pub done : stages_done l.stage ≤ 3 * bytes

-- how many bytes of a byte's echo are still to come
abbrev pub echo_left : {C : Type 0} → Stage C → ℕ
echo_left (Answered echo) = length echo
echo_left _ = 0

-- the line is no longer than it may be, and so is the echo
pub record IsShort (l : Discipline ℕ) : Type 0 where
  pub line : length l.line ≤ LINE_MAX
  pub echo : echo_left l.stage ≤ echo_most
