-- What is put at ldterm leaves it good, and what it sends of a good message is good (ldterm(7M)).
use Rattle.strm_laws.proofs.Prelude.{ℕ, ◌≡◌, ◌≤◌, Bool, true, false, cond, List, [], ◌∷◌, length, refl, arith, false≢true, ◌==◌, ◌&&◌, ◌||◌, not}
use Rattle.strm_laws.proofs.Prelude.{Option, None, Some, unwrap_or}
use Rattle.strm_laws.specs.Prelude.{FlushAsked, Ioc, TCSETSF, LINE_MAX, COLUMN_MAX, Band, MsgKind, Way, Up, Down, Spot, Termios, payload, is_acked}
use Rattle.strm_laws.specs.Prelude.{is_ioctl, sets_termios, Acted, onward, of_data, asked_by, flush_message, is_flush, read_flush, read_ioc, goes_on}
use Rattle.strm_laws.specs.Prelude.{ldterm_puts, passes_on_way, told_by_header, told_termios, waits_behind, waits_on, disciplined, Discipline, both}
use Rattle.strm_laws.specs.Prelude.{flush_passes, line_flushed, queue_at, queue_flushed, queued_at, read_flushed, sends, takes_band_0, waits_there}
use Rattle.strm_laws.specs.Prelude.{with_queue_at, without_line, write_flushed, Message, has_parts, mode_message, Queue, line_gone, QueuePair}
use Rattle.strm_laws.specs.Prelude.{new_pair, ends_lines, input_flushed, line_up, read_mode_of, taken_up, termios_taken, read_termios, tostop}
use Rattle.strm_laws.specs.Prelude.{up_alone, Flushed}
use Rattle.strm_types.specs.Ldterms.{Ldterm}
use Rattle.strm_laws.specs.GoodMessages.{AreGood, GoodMessage}
use Rattle.strm_laws.specs.Restorable.{GoodLdterm, GoodModule, GoodPair, GoodQueue, IsWhole, IsWork, StandsOn, goes_out}
use Rattle.strm_laws.specs.Stacked.{ldterm_stands}
use Rattle.strm_laws.proofs.GoodDeliveries.{all-join}
use Rattle.strm_laws.proofs.GoodHeads.{data-good, flush-good, mode-good}
use Rattle.strm_laws.proofs.GoodPtems.{read-whole}
use Rattle.strm_laws.proofs.GoodQueues.{behind-good, new-good, put-good}

-- the kinds that stand on its queue of a way
abbrev pub stands_at : Way → MsgKind → Bool
stands_at Up kind = waits_there kind
stands_at Down kind = goes_out kind

module _ {C : Type 0} where
  -- an ldterm with its queues, whose parts are as an image may hold them
  pub record GoodDiscipline (l : Discipline C) : Type 0 where
    pub termios : IsWhole l.termios
    pub column : l.column ≤ COLUMN_MAX
    pub line : length l.line ≤ LINE_MAX
    pub read_queue : GoodQueue waits_there l.read_queue
    pub write_queue : GoodQueue goes_out l.write_queue
    pub work : IsWork l.in_work

  pair-with : (queues : Option (QueuePair C)) → GoodPair queues → GoodQueue waits_there (unwrap_or queues new_pair).read × GoodQueue goes_out (unwrap_or queues new_pair).write
  pair-with None good = (new-good waits_there 512 128 (omega arith) (omega arith) (omega arith), new-good goes_out 512 128 (omega arith) (omega arith) (omega arith))
  pair-with (Some pair) good = good

  pub good-with : (l : Ldterm C) (queues : Option (QueuePair C)) → GoodLdterm l → GoodPair queues → GoodDiscipline (disciplined l queues)
  good-with l queues own good =
      let pair = pair-with queues good in
      record { termios = own.termios; column = own.column; line = own.line; read_queue = pair.0; write_queue = pair.1; work = own.work }

  pub good-stands : (l : Discipline C) → GoodDiscipline l → GoodModule (ldterm_stands l)
  good-stands l good = record {
    kind = record { termios = good.termios; column = good.column; line = good.line; work = good.work };
    queues = (good.read_queue, good.write_queue);
    has = refl;
  }

  pub queue-good : (way : Way) (l : Discipline C) → GoodDiscipline l → GoodQueue (stands_at way) (queue_at way l)
  queue-good Up l good = good.read_queue
  queue-good Down l good = good.write_queue

  pub with-queue-good : (way : Way) (q : Queue C) (l : Discipline C) → GoodQueue (stands_at way) q → GoodDiscipline l → GoodDiscipline (with_queue_at way q l)
  with-queue-good Up q l fits good = record { termios = good.termios; column = good.column; line = good.line; read_queue = fits; write_queue = good.write_queue; work = good.work }
  with-queue-good Down q l fits good = record { termios = good.termios; column = good.column; line = good.line; read_queue = good.read_queue; write_queue = fits; work = good.work }

  -- what ldterm does is good, and what it sends
  pub record GoodAtLdterm (t : Acted C (Discipline C)) : Type 0 where
    pub state : GoodDiscipline t.state
    pub sent : AreGood GoodMessage t.sent

  pub either-ldterm : (b : Bool) (one another : Acted C (Discipline C)) → GoodAtLdterm one → GoodAtLdterm another → GoodAtLdterm (cond b one another)
  either-ldterm true one another first second = first
  either-ldterm false one another first second = second

  both-good : (t : Acted C (Discipline C)) (next : Discipline C → Acted C (Discipline C)) → GoodAtLdterm t → (GoodDiscipline t.state → GoodAtLdterm (next t.state)) → GoodAtLdterm (both t next)
  both-good t next first second =
      let behind = second first.state in
      record { state = behind.state; sent = all-join (λ q. GoodMessage q.message) t.sent (next t.state).sent first.sent behind.sent }

  pub quiet-good : (l : Discipline C) → GoodDiscipline l → GoodAtLdterm (sends [] l)
  quiet-good l good = record { state = good; sent = tt }

  line-none : (l : Discipline C) → GoodDiscipline l → GoodDiscipline (without_line l)
  line-none l good = record { termios = good.termios; column = good.column; line = omega arith; read_queue = good.read_queue; write_queue = good.write_queue; work = good.work }

  queued-good : (way : Way) (m : Message C) (l : Discipline C) → StandsOn (stands_at way) m → GoodDiscipline l → GoodAtLdterm (queued_at way m l)
  queued-good Up m l fits good = record {
    state = record { termios = good.termios; column = good.column; line = good.line; read_queue = put-good waits_there m l.read_queue fits good.read_queue; write_queue = good.write_queue; work = good.work };
    sent = tt;
  }
  queued-good Down m l fits good = record {
    state = record { termios = good.termios; column = good.column; line = good.line; read_queue = good.read_queue; write_queue = put-good goes_out m l.write_queue fits good.write_queue; work = good.work };
    sent = tt;
  }

  -- flushes
  flushed-good : (way : Way) (here : Spot) (band : Option Band) (l : Discipline C) → GoodDiscipline l → GoodAtLdterm (queue_flushed way here band l)
  flushed-good way here band l good = record { state = with-queue-good way _ l (behind-good (stands_at way) (of_data band) (queue_at way l) (queue-good way l good)) good; sent = tt }

  line-good : (here : Spot) (band : Option Band) (l : Discipline C) → GoodDiscipline l → GoodAtLdterm (line_flushed here band l)
  line-good here band l good = either-ldterm (takes_band_0 band) (record (sends [] (without_line l)) { gone = line_gone here.side Flushed l.line }) (sends [] l) (record { state = line-none l good; sent = tt }) (quiet-good l good)

  read-good : (here : Spot) (asked : FlushAsked) (l : Discipline C) → GoodDiscipline l → GoodAtLdterm (read_flushed here asked l)
  read-good here asked l good =
      let t = queue_flushed Up here asked.band l in
      either-ldterm asked.for_read (both t (line_flushed here asked.band)) (sends [] l)
      (both-good t (line_flushed here asked.band) (flushed-good Up here asked.band l good) (λ is. line-good here asked.band t.state is)) (quiet-good l good)

  write-good : (here : Spot) (asked : FlushAsked) (l : Discipline C) → GoodDiscipline l → GoodAtLdterm (write_flushed here asked l)
  write-good here asked l good =
      let quiet : Discipline C = record l { echoing = l.echoing && not (takes_band_0 asked.band) } in
      either-ldterm asked.for_write (queue_flushed Down here asked.band quiet) (sends [] l)
      (flushed-good Down here asked.band quiet (record { termios = good.termios; column = good.column; line = good.line; read_queue = good.read_queue; write_queue = good.write_queue; work = good.work })) (quiet-good l good)

  module _ (here : Spot) (m : Message C) (fits : GoodMessage m) where
    passes-good : (l : Discipline C) → GoodDiscipline l → GoodAtLdterm (goes_on here m l)
    passes-good l good = record { state = good; sent = (fits, tt) }

    flush-passes : (l : Discipline C) → GoodDiscipline l → GoodAtLdterm (flush_passes here m l)
    flush-passes l good =
        let asked = asked_by m.plain in
        let t = read_flushed here asked l in
        both-good (both t (write_flushed here asked)) (sends (onward here.way here m ∷ []))
        (both-good t (write_flushed here asked) (read-good here asked l good) (λ is. write-good here asked t.state is)) (λ is. passes-good (write_flushed here asked t.state).state is)

    -- the answer that sets a termios
    input-good : (command : ℕ) (l : Discipline C) → GoodDiscipline l → GoodAtLdterm (input_flushed here command l)
    input-good command l good =
        let t = read_flushed here up_alone l in
        let told : Discipline C → Acted C (Discipline C) = sends (onward Up here (flush_message (read_flush None)) ∷ []) in
        either-ldterm (command == TCSETSF) (both t told) (sends [] l) (both-good t told (read-good here up_alone l good) (λ is. record { state = is; sent = (flush-good (read_flush None), tt) })) (quiet-good l good)

    ups-good : (ends : Bool) (line : List C) → AreGood GoodMessage (cond ends (line_up here line) [])
    ups-good true [] = tt
    ups-good true (c ∷ more) = (data-good (c ∷ more), tt)
    ups-good false line = tt

    set-good : (t : Termios) → IsWhole t → (l : Discipline C) → GoodDiscipline l → GoodAtLdterm (termios_taken here t m l)
    set-good t whole l good = record {
      state = record { termios = whole; column = good.column; line = short (ends_lines l.termios t); read_queue = good.read_queue; write_queue = good.write_queue; work = good.work };
      sent = all-join (λ q. GoodMessage q.message) (cond (ends_lines l.termios t) (line_up here l.line) []) (onward Up here (mode_message (read_mode_of t) (tostop t)) ∷ onward Up here m ∷ [])
          (ups-good (ends_lines l.termios t) l.line) (mode-good (read_mode_of t) (tostop t), (fits, tt));
    }
      where
        short : (ends : Bool) → length (cond {A = List C} ends [] l.line) ≤ LINE_MAX
        short true = omega arith
        short false = good.line

    taken-good : (command : ℕ) (t : Termios) → IsWhole t → (l : Discipline C) → GoodDiscipline l → GoodAtLdterm (taken_up here command t m l)
    taken-good command t whole l good = both-good (input_flushed here command l) (termios_taken here t m) (input-good command l good) (λ is. set-good t whole (input_flushed here command l).state is)

    module _ (l : Discipline C) (good : GoodDiscipline l) where
      termios-good : (ioc : Ioc) (o : Option Termios) → read_termios (payload m.plain) ≡ o → GoodAtLdterm (told_termios here ioc o m l)
      termios-good ioc None is = passes-good l good
      termios-good ioc (Some t) is = taken-good ioc.command t (read-whole (payload m.plain) t is) l good

      header-good : (o : Option Ioc) → GoodAtLdterm (told_by_header here o m l)
      header-good None = passes-good l good
      header-good (Some ioc) = either-ldterm (sets_termios ioc.command) _ _ (termios-good ioc (read_termios (payload m.plain)) refl) (passes-good l good)

      way-good : (way : Way) → GoodAtLdterm (passes_on_way way here m l)
      way-good Down = passes-good l good
      way-good Up = either-ldterm (is_acked m) _ _ (header-good (read_ioc m.plain)) (passes-good l good)

      -- what waits is of a kind that stands there
      waits-there : (way : Way) → waits_on way m ≡ true → stands_at way m.kind ≡ true
      waits-there Up is = at (waits_there m.kind) is
        where
          at : (b : Bool) → (b || false) ≡ true → b ≡ true
          at true is = refl
          at false is = absurd (false≢true is)
      waits-there Down is = at (waits_there m.kind) (is_ioctl m.kind) (has_parts m) (waits_behind (read_ioc m.plain)) is
        where
          at : (waits ioctl parts behind : Bool) → (waits || ((ioctl && not parts) && behind)) ≡ true → (waits || ioctl) ≡ true
          at true ioctl parts behind is = refl
          at false true parts behind is = refl
          at false false parts behind is = absurd (false≢true is)

      pub ldterm-good : GoodAtLdterm (ldterm_puts here m l)
      ldterm-good = at (waits_on here.way m) refl
        where
          at : (waits : Bool) → waits_on here.way m ≡ waits → GoodAtLdterm (cond waits (queued_at here.way m l) (cond (is_flush m.kind) (flush_passes here m l) (passes_on_way here.way here m l)))
          at true is = queued-good here.way m l (record { good = fits; kind = waits-there here.way is }) good
          at false is = either-ldterm (is_flush m.kind) _ _ (flush-passes l good) (way-good here.way)
