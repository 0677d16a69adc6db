-- What holds of each outcome of a put at ptem holds of the put.
use Rattle.std.proofs.Common.{ℕ, ◌≡◌, Bool, true, false, cond, List, [], refl}
use Rattle.std.specs.Prelude.{◌==◌, Option, None, Some}
use Rattle.strm_types.specs.declared.ioctls.Ioc.{Ioc}
use Rattle.strm_types.specs.declared.ioctls.TheConstants.{TCGETS, TIOCGWINSZ, TIOCSWINSZ, TIOCSIGNAL}
use Rattle.strm_types.specs.declared.names.Way.{Way}
use Rattle.strm_types.specs.declared.names.Way.TheVariants.{Up, Down}
use Rattle.strm_types.specs.declared.spots.Spot.{Spot}
use Rattle.strm_types.specs.declared.termios.Termios.{Termios}
use Rattle.strm_types.specs.declared.winsize.Winsize.{Winsize}
use Rattle.strm_types.specs.Acks.{payload}
use Rattle.strm_types.specs.Commands.{is_asked, sets_termios}
use Rattle.strm_types.specs.Deliver.{Acted}
use Rattle.strm_types.specs.Ioctls.{read_ioc}
use Rattle.strm_types.specs.Message.{Message}
use Rattle.strm_types.specs.Ptems.{Ptem, acks, asked_above, asked_below, asked_by_header, asked_on_way, naks, ptem_passes, ptem_puts, set_above, signal_told, termios_set, window_set, window_told}
use Rattle.strm_types.specs.Signals.{signal_in}
use Rattle.strm_types.specs.Termios.{read_termios, termios_bytes}
use Rattle.strm_types.specs.Winsizes.{read_winsize, winsize_bytes}

module _ {C : Type 0} (here : Spot) (m : Message C) (l : Ptem) (P : Acted C Ptem → Type 0) where
  pub record Each : Type 0 where
    pub acked : here.way ≡ Down → (ioc : Ioc) (given : List ℕ) → P (acks Up here ioc given l)
    pub refused_above : here.way ≡ Down → (ioc : Ioc) → P (naks Up here ioc l)
    pub set : here.way ≡ Down → (ioc : Ioc) (given : List ℕ) (new : Ptem) → P (set_above here ioc given l new)
    pub refused_below : here.way ≡ Up → (ioc : Ioc) → P (naks Down here ioc l)
    pub told : here.way ≡ Up → (ioc : Ioc) (w : Winsize) → P (window_told here ioc (Some w) l)
    pub signalled : here.way ≡ Up → (ioc : Ioc) (signal : ℕ) → P (signal_told here ioc (Some signal) l)

  module _ (passes : P (ptem_passes here m l)) where
    module _ (each : Each) where
      termios-each : here.way ≡ Down → (ioc : Ioc) (given : List ℕ) (o : Option Termios) → P (termios_set here ioc given o l)
      termios-each way ioc given None = each.refused_above way ioc
      termios-each way ioc given (Some t) = each.set way ioc given (record l { termios = t })

      window-each : here.way ≡ Down → (ioc : Ioc) (given : List ℕ) (o : Option Winsize) → P (window_set here ioc given o l)
      window-each way ioc given None = each.refused_above way ioc
      window-each way ioc given (Some w) = each.set way ioc given (record l { window = w })

      told-each : here.way ≡ Up → (ioc : Ioc) (o : Option Winsize) → P (window_told here ioc o l)
      told-each way ioc None = each.refused_below way ioc
      told-each way ioc (Some w) = each.told way ioc w

      signal-each : here.way ≡ Up → (ioc : Ioc) (o : Option ℕ) → P (signal_told here ioc o l)
      signal-each way ioc None = each.refused_below way ioc
      signal-each way ioc (Some signal) = each.signalled way ioc signal

      above-each : here.way ≡ Down → (ioc : Ioc) (given : List ℕ) → P (asked_above here ioc given m l)
      above-each way ioc given = at (ioc.command == TCGETS) (ioc.command == TIOCGWINSZ) (sets_termios ioc.command) (ioc.command == TIOCSWINSZ)
        where
          at : (gets gets_window sets sets_window : Bool) → P (cond gets (acks Up here ioc (termios_bytes l.termios) l) (cond gets_window (acks Up here ioc (winsize_bytes l.window) l)
              (cond sets (termios_set here ioc given (read_termios given) l) (cond sets_window (window_set here ioc given (read_winsize given) l) (ptem_passes here m l)))))
          at true gets_window sets sets_window = each.acked way ioc (termios_bytes l.termios)
          at false true sets sets_window = each.acked way ioc (winsize_bytes l.window)
          at false false true sets_window = termios-each way ioc given (read_termios given)
          at false false false true = window-each way ioc given (read_winsize given)
          at false false false false = passes

      below-each : here.way ≡ Up → (ioc : Ioc) (given : List ℕ) → P (asked_below here ioc given m l)
      below-each way ioc given = at (ioc.command == TIOCSWINSZ) (ioc.command == TIOCSIGNAL)
        where
          at : (sets signals : Bool) → P (cond sets (window_told here ioc (read_winsize given) l) (cond signals (signal_told here ioc (signal_in given) l) (ptem_passes here m l)))
          at true signals = told-each way ioc (read_winsize given)
          at false true = signal-each way ioc (signal_in given)
          at false false = passes

      way-each : (way : Way) → here.way ≡ way → (ioc : Ioc) (given : List ℕ) → P (asked_on_way way here ioc given m l)
      way-each Down is ioc given = above-each is ioc given
      way-each Up is ioc given = below-each is ioc given

      header-each : (o : Option Ioc) → P (asked_by_header here o m l)
      header-each None = passes
      header-each (Some ioc) = way-each here.way refl ioc (payload m.plain)

    pub puts-each : (is_asked m ≡ true → Each) → P (ptem_puts here m l)
    puts-each each = at (is_asked m) refl
      where
        at : (asked : Bool) → is_asked m ≡ asked → P (cond asked (asked_by_header here (read_ioc m.plain) m l) (ptem_passes here m l))
        at true is = header-each (each is) (read_ioc m.plain)
        at false is = passes

-- nothing has gone
module _ {C : Type 0} (here : Spot) (m : Message C) (l : Ptem) where
  pub puts-gone : (ptem_puts here m l).gone ≡ []
  puts-gone = puts-each here m l (λ t. t.gone ≡ []) refl (λ is. record {
    acked = λ way ioc given. refl;
    refused_above = λ way ioc. refl;
    set = λ way ioc given new. refl;
    refused_below = λ way ioc. refl;
    told = λ way ioc w. refl;
    signalled = λ way ioc signal. refl;
  })
