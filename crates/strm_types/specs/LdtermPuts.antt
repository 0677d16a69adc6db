-- What ldterm does with what is put at it, on its way up or down (ldterm(7M); termio(7I): TCSETSW, TCSETSF; put(9E)).
use Rattle.std.specs.Prelude.{Bool, false, ◌&&◌, ◌||◌, if◌then◌else◌, [], ◌∷◌, Option, None, Some}
use Rattle.strm_types.specs.declared.ioctls.Ioc.{Ioc}
use Rattle.strm_types.specs.declared.names.Way.{Way}
use Rattle.strm_types.specs.declared.names.Way.TheVariants.{Up, Down}
use Rattle.strm_types.specs.declared.spots.Spot.{Spot}
use Rattle.strm_types.specs.declared.termios.Termios.{Termios}
use Rattle.strm_types.specs.Acks.{payload}
use Rattle.strm_types.specs.Commands.{is_acked, is_asked, sets_behind, sets_termios}
use Rattle.strm_types.specs.Deliver.{Acted, onward}
use Rattle.strm_types.specs.Flushing.{is_flush}
use Rattle.strm_types.specs.Ioctls.{read_ioc}
use Rattle.strm_types.specs.Ldterms.{Discipline, flush_passes, queued_at, sends, waits_there}
use Rattle.strm_types.specs.Message.{Message}
use Rattle.strm_types.specs.TakenUp.{taken_up}
use Rattle.strm_types.specs.Termios.{read_termios}

-- whether a header is that of a command that waits until the output has gone
abbrev pub waits_behind : Option Ioc → Bool
waits_behind None = false
waits_behind (Some ioc) = sets_behind ioc.command

module _ {C : Type 0} where
  -- on the way down an M_IOCTL of such a command goes behind the output that stands there
  abbrev pub goes_behind : Way → Message C → Bool
  goes_behind Down m = is_asked m && waits_behind (read_ioc m.plain)
  goes_behind Up m = false

  -- whether a message waits on the queue of its way: M_DATA and M_PROTO do, and what goes behind them
  abbrev pub waits_on : Way → Message C → Bool
  waits_on way m = waits_there m.kind || goes_behind way m

  -- a message goes on at once
  abbrev pub goes_on : Spot → Message C → Discipline C → Acted C (Discipline C)
  goes_on here m p = sends (onward here.way here m ∷ []) p

  -- The answer to a command that set a termios is taken up, where it has one.
  abbrev pub told_termios : Spot → Ioc → Option Termios → Message C → Discipline C → Acted C (Discipline C)
  told_termios here ioc None m p = goes_on here m p
  told_termios here ioc (Some t) m p = taken_up here ioc.command t m p

  -- an answer by its header; without one, or to another command, it goes on alone
  abbrev pub told_by_header : Spot → Option Ioc → Message C → Discipline C → Acted C (Discipline C)
  told_by_header here None m p = goes_on here m p
  told_by_header here (Some ioc) m p =
      if sets_termios ioc.command then told_termios here ioc (read_termios (payload m.plain)) m p else goes_on here m p

  -- what passes at once, on its way up or down: on the way up an M_IOCACK is looked at
  abbrev pub passes_on_way : Way → Spot → Message C → Discipline C → Acted C (Discipline C)
  passes_on_way Down here m p = goes_on here m p
  passes_on_way Up here m p = if is_acked m then told_by_header here (read_ioc m.plain) m p else goes_on here m p

  -- A message that is put here, on its way up or down: M_DATA and M_PROTO wait for the turn of their queue, and on the way down with them an
  -- M_IOCTL of TCSETSW or TCSETSF. An M_FLUSH is obeyed, and all else passes at once, where the termios of an M_IOCACK is taken up.
  abbrev pub ldterm_puts : Spot → Message C → Discipline C → Acted C (Discipline C)
  ldterm_puts here m p =
      if waits_on here.way m then queued_at here.way m p
      else (if is_flush m.kind then flush_passes here m p
      else passes_on_way here.way here m p)
