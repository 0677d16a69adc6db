-- What is put at ptem and at pckt leaves them good, and what they send of good messages is good (ptem(7M), pckt(7M)).
use Rattle.strm_laws.proofs.Prelude.{ℕ, ◌≡◌, ◌≤◌, ◌<◌, Bool, true, false, cond, List, [], ◌∷◌, length, refl, sym, subst, arith, false≢true, and_parts}
use Rattle.strm_laws.proofs.Prelude.{length-drop, nat_tests, ◌==◌, not, Option, None, Some}
use Rattle.strm_laws.specs.Prelude.{Ioc, TCGETS, TIOCGWINSZ, TIOCSIGNAL, TIOCSWINSZ, MsgKind, Ioctl, BANDS, IOCTL_MAX, Way, Up, Down, Spot, Termios}
use Rattle.strm_laws.specs.Prelude.{Winsize, ack_message, payload, Cells, is_asked, is_ioctl, sets_termios, Acted, onward, asked_by, asking}
use Rattle.strm_laws.specs.Prelude.{ioc_bytes, read_ioc, is_body_kind, is_control_kind, Message, band_of, has_parts, is_high_priority, flush_passed}
use Rattle.strm_laws.specs.Prelude.{is_flush_passed, is_packed, packet, pckt_on_way, pckt_packs, pckt_passes, pckt_puts, Ptem, acks, asked_above}
use Rattle.strm_laws.specs.Prelude.{asked_below, asked_by_header, asked_on_way, naks, ptem_passes, ptem_puts, set_above, signal_told, signals_up}
use Rattle.strm_laws.specs.Prelude.{sigwinch, termios_set, window_set, window_told, signal_in, read_termios, termios_bytes, read_winsize}
use Rattle.strm_laws.specs.Prelude.{same_winsize, winsize_bytes}
use Rattle.std.proofs.lemmas.List.{length-append}
use Rattle.std.proofs.lemmas.Option.{same_Some}
use Rattle.std.specs.Prelude.{◌+◌, drop}
use Rattle.strm_types.specs.Acks.{acked}
use Rattle.strm_types.specs.Ioctls.{word_at}
use Rattle.strm_types.specs.Pckts.{writers_flush}
use Rattle.strm_types.specs.Ptems.{window_signal}
use Rattle.strm_laws.specs.GoodMessages.{AreGood, GoodMessage, has_header}
use Rattle.strm_laws.specs.Restorable.{IsWhole}
use Rattle.strm_laws.proofs.GoodDeliveries.{all-join}
use Rattle.strm_laws.proofs.GoodHeads.{flush-good, header-long, ioctl-good, nak-good, signal-good}

-- a termios of 35 bytes is whole
pub read-whole : (bytes : List ℕ) (t : Termios) → read_termios bytes ≡ Some t → IsWhole t
read-whole bytes t is = at (length bytes == 35) refl is
  where
    at : (long : Bool) → (length bytes == 35) ≡ long → cond long (Some (record { iflag = record { 0 = word_at 0 bytes }; oflag = record { 0 = word_at 4 bytes }; cflag = word_at 8 bytes; lflag = record { 0 = word_at 12 bytes }; control = drop 16 bytes })) None ≡ Some t → IsWhole t
    at true long is = let e : length bytes ≡ 35 = grind (arith, nat_tests) in subst (λ u. IsWhole u) (same_Some _ t is) (omega (arith, length-drop 16 bytes, e))
    at false long is = absurd (cc is)

module _ {C : Type 0} where
  pub ack-good : (ioc : Ioc) (given : List ℕ) → length given ≤ IOCTL_MAX → GoodMessage {C = C} (ack_message ioc given)
  unfolding is_control_kind is_body_kind is_high_priority
  ack-good ioc given few = record {
    control = refl;
    body = λ is. absurd (false≢true is);
    bare = λ is. refl;
    plain = λ is. absurd (false≢true is);
    band = omega arith;
    high = λ is. refl;
    header = λ is. (omega (arith, length-append (ioc_bytes (acked ioc)) given, header-long (acked ioc)), omega (arith, length-append (ioc_bytes (acked ioc)) given, header-long (acked ioc), few));
    options = λ is. absurd (false≢true is);
  }

  -- what stands behind the header of a good M_IOCTL
  asked-few : (m : Message C) → GoodMessage m → is_asked m ≡ true → length (payload m.plain) ≤ IOCTL_MAX
  asked-few m good is = at m.kind (and_parts (is_ioctl m.kind) (not (has_parts m)) is).0 good.header
    where
      at : (kind : MsgKind) → is_ioctl kind ≡ true → (has_header kind ≡ true → (16 ≤ length m.plain) × (length m.plain ≤ 16 + IOCTL_MAX)) → length (payload m.plain) ≤ IOCTL_MAX
      at Ioctl is header = omega (arith, length-drop 16 m.plain, (header refl).1)
      at _ is header = absurd (false≢true is)

  -- what ptem does is good, and what it sends
  pub record GoodAtPtem (t : Acted C Ptem) : Type 0 where
    pub state : IsWhole t.state.termios
    pub sent : AreGood GoodMessage t.sent

  module _ (here : Spot) (m : Message C) (p : Ptem) (good : GoodMessage m) (whole : IsWhole p.termios) where
    passes-ptem : GoodAtPtem (ptem_passes here m p)
    passes-ptem = record { state = whole; sent = (good, tt) }

    naks-ptem : (back : Way) (ioc : Ioc) → GoodAtPtem (naks back here ioc p)
    naks-ptem back ioc = record { state = whole; sent = (nak-good ioc, tt) }

    acks-ptem : (back : Way) (ioc : Ioc) (given : List ℕ) → length given ≤ IOCTL_MAX → GoodAtPtem (acks back here ioc given p)
    acks-ptem back ioc given few = record { state = whole; sent = (ack-good ioc given few, tt) }

    window-sent : (old new : Winsize) → AreGood {C = C} GoodMessage (window_signal here old new)
    window-sent old new = at (same_winsize old new)
      where
        at : (same : Bool) → AreGood {C = C} GoodMessage (cond same [] (signals_up here sigwinch ∷ []))
        at true = tt
        at false = (signal-good _, tt)

    set-ptem : (ioc : Ioc) (given : List ℕ) (new : Ptem) → length given ≤ IOCTL_MAX → IsWhole new.termios → GoodAtPtem (set_above here ioc given p new)
    set-ptem ioc given new few is = record { state = is; sent = (ack-good ioc given few, (ioctl-good (asking ioc.command 0) given few, window-sent p.window new.window)) }

    termios-ptem : (ioc : Ioc) (given : List ℕ) → length given ≤ IOCTL_MAX → (o : Option Termios) → read_termios given ≡ o → GoodAtPtem (termios_set here ioc given o p)
    termios-ptem ioc given few None is = naks-ptem Up ioc
    termios-ptem ioc given few (Some t) is = set-ptem ioc given (record p { termios = t }) few (read-whole given t is)

    window-ptem : (ioc : Ioc) (given : List ℕ) → length given ≤ IOCTL_MAX → (o : Option Winsize) → GoodAtPtem (window_set here ioc given o p)
    window-ptem ioc given few None = naks-ptem Up ioc
    window-ptem ioc given few (Some w) = set-ptem ioc given (record p { window = w }) few whole

    told-ptem : (ioc : Ioc) (o : Option Winsize) → GoodAtPtem (window_told here ioc o p)
    told-ptem ioc None = naks-ptem Down ioc
    told-ptem ioc (Some w) = record {
      state = whole;
      sent = all-join (λ q. GoodMessage q.message) (window_signal here p.window w) (onward Down here (ack_message ioc []) ∷ []) (window-sent p.window w) (ack-good ioc [] (omega arith), tt);
    }

    signal-ptem : (ioc : Ioc) (o : Option ℕ) → GoodAtPtem (signal_told here ioc o p)
    signal-ptem ioc None = naks-ptem Down ioc
    signal-ptem ioc (Some signal) = record { state = whole; sent = (signal-good (signal ∷ []), (ack-good ioc [] (omega arith), tt)) }

    above-ptem : (ioc : Ioc) (given : List ℕ) → length given ≤ IOCTL_MAX → GoodAtPtem (asked_above here ioc given m p)
    above-ptem ioc given few = at (ioc.command == TCGETS) (ioc.command == TIOCGWINSZ) (sets_termios ioc.command) (ioc.command == TIOCSWINSZ)
      where
        at : (gets gets_window sets sets_window : Bool) → GoodAtPtem (cond gets (acks Up here ioc (termios_bytes p.termios) p) (cond gets_window (acks Up here ioc (winsize_bytes p.window) p)
            (cond sets (termios_set here ioc given (read_termios given) p) (cond sets_window (window_set here ioc given (read_winsize given) p) (ptem_passes here m p)))))
        at true gets_window sets sets_window = acks-ptem Up ioc (termios_bytes p.termios) (omega (arith, whole))
        at false true sets sets_window = acks-ptem Up ioc (winsize_bytes p.window) (omega arith)
        at false false true sets_window = termios-ptem ioc given few (read_termios given) refl
        at false false false true = window-ptem ioc given few (read_winsize given)
        at false false false false = passes-ptem

    below-ptem : (ioc : Ioc) (given : List ℕ) → GoodAtPtem (asked_below here ioc given m p)
    below-ptem ioc given = at (ioc.command == TIOCSWINSZ) (ioc.command == TIOCSIGNAL)
      where
        at : (sets signals : Bool) → GoodAtPtem (cond sets (window_told here ioc (read_winsize given) p) (cond signals (signal_told here ioc (signal_in given) p) (ptem_passes here m p)))
        at true signals = told-ptem ioc (read_winsize given)
        at false true = signal-ptem ioc (signal_in given)
        at false false = passes-ptem

    way-ptem : (way : Way) (ioc : Ioc) (given : List ℕ) → length given ≤ IOCTL_MAX → GoodAtPtem (asked_on_way way here ioc given m p)
    way-ptem Down ioc given few = above-ptem ioc given few
    way-ptem Up ioc given few = below-ptem ioc given

    header-ptem : is_asked m ≡ true → (o : Option Ioc) → GoodAtPtem (asked_by_header here o m p)
    header-ptem is None = passes-ptem
    header-ptem is (Some ioc) = way-ptem here.way ioc (payload m.plain) (asked-few m good is)

    pub ptem-good : GoodAtPtem (ptem_puts here m p)
    ptem-good = at (is_asked m) refl
      where
        at : (asked : Bool) → is_asked m ≡ asked → GoodAtPtem (cond asked (asked_by_header here (read_ioc m.plain) m p) (ptem_passes here m p))
        at true is = header-ptem is (read_ioc m.plain)
        at false is = passes-ptem

  -- pckt: a packet is an M_PROTO of the message's band
  module _ (cells : Cells C) (made : ℕ) (here : Spot) (m : Message C) (good : GoodMessage m) where
    counted-band : band_of m < BANDS
    unfolding band_of
    counted-band = at (is_high_priority m.kind)
      where
        at : (high : Bool) → cond high 0 m.band < BANDS
        at true = omega arith
        at false = good.band

    packet-good : GoodMessage (packet cells made here m)
    unfolding is_control_kind is_body_kind is_high_priority
    packet-good = record {
      control = refl;
      body = λ is. absurd (false≢true is);
      bare = λ is. absurd (false≢true (sym is));
      plain = λ is. refl;
      band = counted-band;
      high = λ is. absurd (false≢true is);
      header = λ is. absurd (false≢true is);
      options = λ is. absurd (false≢true is);
    }

    passed-good : (kind : MsgKind) → AreGood {C = C} GoodMessage (flush_passed here kind m.plain)
    passed-good kind = at (is_flush_passed kind m.plain)
      where
        at : (passed : Bool) → AreGood {C = C} GoodMessage (cond passed (writers_flush here (asked_by m.plain) ∷ []) [])
        at true = (flush-good _, tt)
        at false = tt

    pub pckt-good : AreGood GoodMessage (pckt_puts cells made here m).sent
    pckt-good = by here.way
      where
        at : (packs : Bool) → AreGood GoodMessage (cond packs (pckt_packs cells made here m) (pckt_passes here m)).sent
        at true = (packet-good, passed-good m.kind)
        at false = (good, tt)

        by : (way : Way) → AreGood GoodMessage (pckt_on_way cells made here way m).sent
        by Down = (good, tt)
        by Up = at (is_packed m.kind)
