-- Which messages ask and answer by ioctls, and which commands set the termios of a terminal (streamio(7I): I_STR; termio(7I): TCSETS, TCSETSW,
-- TCSETSF).
use Rattle.std.specs.Prelude.{ℕ, Bool, true, false, ◌&&◌, ◌||◌, ◌==◌, not}
use Rattle.strm_types.specs.declared.ioctls.TheConstants.{TCSETS, TCSETSW, TCSETSF}
use Rattle.strm_types.specs.declared.kinds.MsgKind.{MsgKind}
use Rattle.strm_types.specs.declared.kinds.MsgKind.TheVariants.{Ioctl, Iocack}
use Rattle.strm_types.specs.Message.{Message, has_parts}

abbrev pub is_ioctl : MsgKind → Bool
is_ioctl Ioctl = true
is_ioctl _ = false

abbrev pub is_iocack : MsgKind → Bool
is_iocack Iocack = true
is_iocack _ = false

-- an M_IOCTL, and an M_IOCACK, which has no parts
abbrev pub is_asked : {C : Type 0} → Message C → Bool
is_asked m = is_ioctl m.kind && not (has_parts m)

abbrev pub is_acked : {C : Type 0} → Message C → Bool
is_acked m = is_iocack m.kind && not (has_parts m)

-- the commands that set the termios: at once, or behind the output, where a module above holds them until it has gone
abbrev pub sets_termios : ℕ → Bool
sets_termios command = command == TCSETS || (command == TCSETSW || command == TCSETSF)

abbrev pub sets_behind : ℕ → Bool
sets_behind command = command == TCSETSW || command == TCSETSF
