-- The module ptem on a stream: it answers the ioctls of a terminal, which a pseudoterminal has no hardware for (ptem(7M), termio(7I), ptm(7D)).
-- It has no queues, and nothing that is put at it waits there.
use Rattle.std.specs.Prelude.{ℕ, ◌==◌, if◌then◌else◌, List, [], ◌∷◌, ◌++◌, Option, None, Some}
use Rattle.strm_types.specs.declared.ioctls.Ioc.{Ioc}
use Rattle.strm_types.specs.declared.ioctls.TheConstants.{TCGETS, TIOCGWINSZ, TIOCSWINSZ, TIOCSIGNAL}
use Rattle.strm_types.specs.declared.kinds.MsgKind.TheVariants.{Pcsig}
use Rattle.strm_types.specs.declared.names.Way.{Way}
use Rattle.strm_types.specs.declared.names.Way.TheVariants.{Up, Down}
use Rattle.strm_types.specs.declared.spots.Spot.{Spot}
use Rattle.strm_types.specs.declared.termios.Termios.{Termios}
use Rattle.strm_types.specs.declared.winsize.Winsize.{Winsize}
use Rattle.strm_types.specs.Acks.{ack_message, payload, telling_message}
use Rattle.strm_types.specs.Commands.{is_asked, sets_termios}
use Rattle.strm_types.specs.Deliver.{Acted, Parcel, onward}
use Rattle.strm_types.specs.Ioctls.{nak_message, read_ioc}
use Rattle.strm_types.specs.Message.{Message}
use Rattle.strm_types.specs.Signals.{signal_in}
use Rattle.strm_types.specs.Termios.{first_termios, read_termios, termios_bytes}
use Rattle.strm_types.specs.Typing.{bare}
use Rattle.strm_types.specs.Winsizes.{first_winsize, read_winsize, same_winsize, winsize_bytes}

-- what it is set to: the termios of the terminal, and the size of its window
pub record Ptem : Type 0 where
  pub termios : Termios
  pub window : Winsize

-- one as it is pushed
abbrev pub new_ptem : Ptem
new_ptem = record { termios = first_termios; window = first_winsize }

-- the signal of a window whose size changed (signal.h: SIGWINCH)
abbrev pub sigwinch : ℕ
sigwinch = 20

module _ {C : Type 0} where
  -- messages are sent, and nothing else happens
  abbrev pub ptem_sends : List (Parcel C) → Ptem → Acted C Ptem
  ptem_sends sent p = record { state = p; notes = []; sent = sent; gone = [] }

  -- a message that is none of its own goes on
  abbrev pub ptem_passes : Spot → Message C → Ptem → Acted C Ptem
  ptem_passes here m p = ptem_sends (onward here.way here m ∷ []) p

  -- a signal for those who read here
  abbrev pub signals_up : Spot → ℕ → Parcel C
  signals_up here signal = onward Up here (bare Pcsig (signal ∷ []))

  -- SIGWINCH for them, where the size of the window changed
  abbrev pub window_signal : Spot → Winsize → Winsize → List (Parcel C)
  window_signal here old new = if same_winsize old new then [] else signals_up here sigwinch ∷ []

  -- An M_IOCTL is answered with M_IOCACK and what it gives, or with M_IOCNAK. The answer goes back to where it came from.
  abbrev pub acks : Way → Spot → Ioc → List ℕ → Ptem → Acted C Ptem
  acks back here ioc given p = ptem_sends (onward back here (ack_message ioc given) ∷ []) p

  abbrev pub naks : Way → Spot → Ioc → Ptem → Acted C Ptem
  naks back here ioc p = ptem_sends (onward back here (nak_message ioc) ∷ []) p

  -- What was set from above is kept. It is answered with what was set, then the other side is told of it, and then those who read here
  -- hear of a window that changed.
  abbrev pub set_above : Spot → Ioc → List ℕ → Ptem → Ptem → Acted C Ptem
  set_above here ioc given old new =
      ptem_sends (onward Up here (ack_message ioc given) ∷ (onward Down here (telling_message ioc given) ∷ window_signal here old.window new.window)) new

  -- A termios of 35 bytes is set from above, or a window of 8 bytes; another length is refused.
  abbrev pub termios_set : Spot → Ioc → List ℕ → Option Termios → Ptem → Acted C Ptem
  termios_set here ioc given None p = naks Up here ioc p
  termios_set here ioc given (Some t) p = set_above here ioc given p (record p { termios = t })

  abbrev pub window_set : Spot → Ioc → List ℕ → Option Winsize → Ptem → Acted C Ptem
  window_set here ioc given None p = naks Up here ioc p
  window_set here ioc given (Some w) p = set_above here ioc given p (record p { window = w })

  -- The other side has set the window: it is kept, those who read here hear of a change, and then the other side has its answer.
  abbrev pub window_told : Spot → Ioc → Option Winsize → Ptem → Acted C Ptem
  window_told here ioc None p = naks Down here ioc p
  window_told here ioc (Some w) p =
      ptem_sends (window_signal here p.window w ++ onward Down here (ack_message ioc []) ∷ []) (record p { window = w })

  -- The other side has sent a signal for those who read here.
  abbrev pub signal_told : Spot → Ioc → Option ℕ → Ptem → Acted C Ptem
  signal_told here ioc None p = naks Down here ioc p
  signal_told here ioc (Some signal) p = ptem_sends (signals_up here signal ∷ onward Down here (ack_message ioc []) ∷ []) p

  -- An M_IOCTL that comes down, by its command; what it isn't for goes on. One that only asks may have a payload, which says nothing.
  abbrev pub asked_above : Spot → Ioc → List ℕ → Message C → Ptem → Acted C Ptem
  asked_above here ioc given m p =
      if ioc.command == TCGETS then acks Up here ioc (termios_bytes p.termios) p
      else (if ioc.command == TIOCGWINSZ then acks Up here ioc (winsize_bytes p.window) p
      else (if sets_termios ioc.command then termios_set here ioc given (read_termios given) p
      else (if ioc.command == TIOCSWINSZ then window_set here ioc given (read_winsize given) p
      else ptem_passes here m p)))

  -- An M_IOCTL that comes up from the other side, whatever its number.
  abbrev pub asked_below : Spot → Ioc → List ℕ → Message C → Ptem → Acted C Ptem
  asked_below here ioc given m p =
      if ioc.command == TIOCSWINSZ then window_told here ioc (read_winsize given) p
      else (if ioc.command == TIOCSIGNAL then signal_told here ioc (signal_in given) p
      else ptem_passes here m p)

  abbrev pub asked_on_way : Way → Spot → Ioc → List ℕ → Message C → Ptem → Acted C Ptem
  asked_on_way Down here ioc given m p = asked_above here ioc given m p
  asked_on_way Up here ioc given m p = asked_below here ioc given m p

  -- An M_IOCTL by its header, without which it goes on.
  abbrev pub asked_by_header : Spot → Option Ioc → Message C → Ptem → Acted C Ptem
  asked_by_header here None m p = ptem_passes here m p
  asked_by_header here (Some ioc) m p = asked_on_way here.way here ioc (payload m.plain) m p

  -- A message that is put here, on its way up or down: an M_IOCTL is answered, or goes on, and so does all else.
  abbrev pub ptem_puts : Spot → Message C → Ptem → Acted C Ptem
  ptem_puts here m p = if is_asked m then asked_by_header here (read_ioc m.plain) m p else ptem_passes here m p
