-- A put at ptem: it loses no cell and makes none, and does the same where the origins of cells are forgotten.
use Rattle.strm_laws.proofs.Prelude.{ℕ, ◌≡◌, Bool, true, false, cond, List, [], ◌∷◌, ◌++◌, refl, sym, ap, ◌∙◌, arith, ◌&&◌, ◌==◌, not, Option, None}
use Rattle.strm_laws.proofs.Prelude.{Some}
use Rattle.strm_laws.specs.Prelude.{Ioc, TCGETS, TIOCGWINSZ, TIOCSWINSZ, TIOCSIGNAL, MsgKind, Ioctl, Way, Up, Down, Spot, Termios, Winsize, Dir}
use Rattle.strm_laws.specs.Prelude.{direction_at, ack_message, payload, telling_message, is_asked, is_ioctl, sets_termios, Acted, onward, read_ioc}
use Rattle.strm_laws.specs.Prelude.{Message, cells_of, has_parts, map_message, weight_of, map_acted, Ptem, acks, asked_above, asked_below}
use Rattle.strm_laws.specs.Prelude.{asked_by_header, asked_on_way, naks, ptem_passes, ptem_puts, set_above, signal_told, signals_up, sigwinch}
use Rattle.strm_laws.specs.Prelude.{termios_set, window_set, window_told, signal_in, read_termios, termios_bytes, read_winsize, same_winsize}
use Rattle.strm_laws.specs.Prelude.{winsize_bytes}
use Rattle.strm_laws.proofs.LdtermKeeps.{onward-weighs}
use Rattle.strm_laws.specs.Places.{weight_sent}
use Rattle.strm_types.specs.Ptems.{ptem_sends}
use Rattle.strm_types.proofs.PtemPuts.{puts-each}
use Rattle.strm_laws.proofs.PutForgets.{parts-forget}
use Rattle.strm_laws.proofs.PutWeights.{no-parts}

-- what it looks at is an M_IOCTL without parts
asked-bare : (a b : Bool) → (a && not b) ≡ true → b ≡ false
asked-bare true false is = refl
asked-bare true true is = absurd (cc)
asked-bare false b is = absurd (cc)

pub asked-ioctl : {C : Type 0} (m : Message C) → is_asked m ≡ true → m.kind ≡ Ioctl
asked-ioctl m is = at m.kind (has_parts m) is
  where
    at : (kind : MsgKind) (parts : Bool) → (is_ioctl kind && not parts) ≡ true → kind ≡ Ioctl
    at Ioctl parts is = refl
    at _ parts is = absurd (cc)

module _ {C : Type 0} (p : Dir → C → Bool) where
  -- its cells are sent on, where it has any
  pub puts-sent : (here : Spot) (m : Message C) (l : Ptem) → weight_sent p (ptem_puts here m l).sent ≡ weight_of (p (direction_at here.way here.side)) m
  unfolding weight_of cells_of
  puts-sent here m l = puts-each here m l (λ t. weight_sent p t.sent ≡ weight_of (p (direction_at here.way here.side)) m) (omega (arith, onward-weighs p here.way here m)) (λ is.
      let none : weight_of (p (direction_at here.way here.side)) m ≡ 0 = (no-parts (p (direction_at here.way here.side)) m (asked-bare (is_ioctl m.kind) (has_parts m) is)) in
      record {
        acked = λ way ioc given. sym none;
        refused_above = λ way ioc. sym none;
        set = λ way ioc given new. set (same_winsize l.window new.window) ioc given ∙ sym none;
        refused_below = λ way ioc. sym none;
        told = λ way ioc w. told (same_winsize l.window w) ioc ∙ sym none;
        signalled = λ way ioc signal. sym none;
      })
    where
      set : (same : Bool) (ioc : Ioc) (given : List ℕ) → weight_sent p (onward Up here (ack_message ioc given) ∷ (onward Down here (telling_message ioc given) ∷ cond same [] (signals_up here sigwinch ∷ []))) ≡ 0
      set true ioc given = refl
      set false ioc given = refl

      told : (same : Bool) (ioc : Ioc) → weight_sent p (cond same [] (signals_up here sigwinch ∷ []) ++ onward Down here (ack_message ioc []) ∷ []) ≡ 0
      told true ioc = refl
      told false ioc = refl

module _ {C : Type 0} (here : Spot) (m : Message C) (l : Ptem) where
  pub puts-notes : (ptem_puts here m l).notes ≡ []
  puts-notes = puts-each here m l (λ t. t.notes ≡ []) refl (λ is. record {
    acked = λ way ioc given. refl;
    refused_above = λ way ioc. refl;
    set = λ way ioc given new. refl;
    refused_below = λ way ioc. refl;
    told = λ way ioc w. refl;
    signalled = λ way ioc signal. refl;
  })

module _ {C D : Type 0} (f : C → D) where
  abbrev image : Acted C Ptem → Acted D Ptem
  image t = map_acted f (λ (q : Ptem). q) t

  agrees-either : (b : Bool) (one another : Acted C Ptem) (one' another' : Acted D Ptem) → one' ≡ image one → another' ≡ image another → cond b one' another' ≡ image (cond b one another)
  agrees-either true one another one' another' first second = first
  agrees-either false one another one' another' first second = second

  module _ (here : Spot) (m : Message C) (l : Ptem) where
    passes-forget : ptem_passes here (map_message f m) l ≡ image (ptem_passes here m l)
    passes-forget = refl

    acks-forget : (back : Way) (ioc : Ioc) (given : List ℕ) → acks back here ioc given l ≡ image (acks back here ioc given l)
    unfolding map_message
    acks-forget back ioc given = refl

    naks-forget : (back : Way) (ioc : Ioc) → naks back here ioc l ≡ image (naks back here ioc l)
    unfolding map_message
    naks-forget back ioc = refl

    set-forgets : (ioc : Ioc) (given : List ℕ) (new : Ptem) → set_above here ioc given l new ≡ image (set_above here ioc given l new)
    unfolding map_message
    set-forgets ioc given new = at (same_winsize l.window new.window)
      where
        at : (same : Bool) → ptem_sends (onward Up here (ack_message ioc given) ∷ (onward Down here (telling_message ioc given) ∷ cond same [] (signals_up here sigwinch ∷ []))) new
            ≡ image (ptem_sends (onward Up here (ack_message ioc given) ∷ (onward Down here (telling_message ioc given) ∷ cond same [] (signals_up here sigwinch ∷ []))) new)
        at true = refl
        at false = refl

    termios-forgets : (ioc : Ioc) (given : List ℕ) (o : Option Termios) → termios_set here ioc given o l ≡ image (termios_set here ioc given o l)
    termios-forgets ioc given None = naks-forget Up ioc
    termios-forgets ioc given (Some t) = set-forgets ioc given (record l { termios = t })

    window-forgets : (ioc : Ioc) (given : List ℕ) (o : Option Winsize) → window_set here ioc given o l ≡ image (window_set here ioc given o l)
    window-forgets ioc given None = naks-forget Up ioc
    window-forgets ioc given (Some w) = set-forgets ioc given (record l { window = w })

    told-forgets : (ioc : Ioc) (o : Option Winsize) → window_told here ioc o l ≡ image (window_told here ioc o l)
    unfolding map_message
    told-forgets ioc None = naks-forget Down ioc
    told-forgets ioc (Some w) = at (same_winsize l.window w)
      where
        at : (same : Bool) → ptem_sends (cond same [] (signals_up here sigwinch ∷ []) ++ onward Down here (ack_message ioc []) ∷ []) (record l { window = w })
            ≡ image (ptem_sends (cond same [] (signals_up here sigwinch ∷ []) ++ onward Down here (ack_message ioc []) ∷ []) (record l { window = w }))
        at true = refl
        at false = refl

    signal-forgets : (ioc : Ioc) (o : Option ℕ) → signal_told here ioc o l ≡ image (signal_told here ioc o l)
    unfolding map_message
    signal-forgets ioc None = naks-forget Down ioc
    signal-forgets ioc (Some signal) = refl

    above-forgets : (ioc : Ioc) (given : List ℕ) → asked_above here ioc given (map_message f m) l ≡ image (asked_above here ioc given m l)
    above-forgets ioc given =
        agrees-either (ioc.command == TCGETS) _ _ _ _ (acks-forget Up ioc (termios_bytes l.termios))
        (agrees-either (ioc.command == TIOCGWINSZ) _ _ _ _ (acks-forget Up ioc (winsize_bytes l.window))
        (agrees-either (sets_termios ioc.command) _ _ _ _ (termios-forgets ioc given (read_termios given))
        (agrees-either (ioc.command == TIOCSWINSZ) _ _ _ _ (window-forgets ioc given (read_winsize given)) passes-forget)))

    below-forgets : (ioc : Ioc) (given : List ℕ) → asked_below here ioc given (map_message f m) l ≡ image (asked_below here ioc given m l)
    below-forgets ioc given =
        agrees-either (ioc.command == TIOCSWINSZ) _ _ _ _ (told-forgets ioc (read_winsize given))
        (agrees-either (ioc.command == TIOCSIGNAL) _ _ _ _ (signal-forgets ioc (signal_in given)) passes-forget)

    way-forgets : (way : Way) (ioc : Ioc) (given : List ℕ) → asked_on_way way here ioc given (map_message f m) l ≡ image (asked_on_way way here ioc given m l)
    way-forgets Down ioc given = above-forgets ioc given
    way-forgets Up ioc given = below-forgets ioc given

    header-forgets : (o : Option Ioc) (bytes : List ℕ) → bytes ≡ m.plain → asked_by_header here o (map_message f m) l ≡ image (asked_by_header here o m l)
    unfolding map_message
    header-forgets None bytes is = passes-forget
    header-forgets (Some ioc) bytes is = way-forgets here.way ioc (payload m.plain)

    pub puts-forget : ptem_puts here (map_message f m) l ≡ image (ptem_puts here m l)
    unfolding map_message
    puts-forget =
        ap (λ parts. cond (is_ioctl m.kind && not parts) (asked_by_header here (read_ioc m.plain) (map_message f m) l) (ptem_passes here (map_message f m) l)) (parts-forget f m)
        ∙ agrees-either (is_asked m) _ _ _ _ (header-forgets (read_ioc m.plain) m.plain refl) passes-forget
