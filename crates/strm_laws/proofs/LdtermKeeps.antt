-- What ldterm does with what is put at it, and with each byte that is typed, loses no cell and makes none that it doesn't tell.
use Rattle.strm_laws.proofs.Prelude.{ℕ, zero, suc, ◌≡◌, ◌+◌, ◌-◌, Bool, true, false, cond, List, [], ◌∷◌, ◌++◌, length, drop, refl, sym, ap, subst}
use Rattle.strm_laws.proofs.Prelude.{◌∙◌, arith, not, ◌&&◌, ◌==◌, Option, None, count_by, false≢true, either, count-join, weight-data, weight-put}
use Rattle.strm_laws.proofs.Prelude.{weight-take, weight-whole}
use Rattle.strm_laws.specs.Prelude.{FlushAsked, TCSETSF, Key, Stop, Start, Intr, Quit, Susp, Ignored, Eof, Erase, Kill, Werase, Reprint, Lnext}
use Rattle.strm_laws.specs.Prelude.{Delimiter, Ordinary, Band, MsgKind, Dir, Side, Way, Up, Down, Rule, EraseKey, Erased, Killed, SignalKey, FlowKey}
use Rattle.strm_laws.specs.Prelude.{LineFull, LineOver, Flushed, Spot, Termios, Cells, Acted, Parcel, toward, onward, of_data, asked_by, flush_bytes}
use Rattle.strm_laws.specs.Prelude.{flush_message, read_flush, ldterm_puts, Discipline, both, flush_passes, line_flushed, queue_flushed, queued_at}
use Rattle.strm_laws.specs.Prelude.{read_flushed, sends, takes_band_0, without_line, write_flushed, Types, ErasesByte, ErasesWord, edited, has_room}
use Rattle.strm_laws.specs.Prelude.{Message, cells_of, data_message, weight_of, mode_message, direction_at, is_full, is_none_left, weight, line_gone}
use Rattle.strm_laws.specs.Prelude.{ends_lines, input_flushed, line_up, read_mode_of, taken_up, termios_taken, icanon, imaxbel, noflsh, tostop, added}
use Rattle.strm_laws.specs.Prelude.{bare, both_ways, dropped, echo_grows, echo_lost, echo_stands, gathered_up, goes_up, grown, is_blank_cell, lost}
use Rattle.strm_laws.specs.Prelude.{sigint, signals, sigquit, sigtstp, stops, strikes, up_alone}
use Rattle.strm_types.specs.declared.kinds.MsgKind.TheVariants as kinds
use Rattle.strm_types.specs.declared.rules.Rule.TheVariants.{Igncr, LnextKey, ReprintKey}
use Rattle.strm_laws.specs.LdtermWeights.{weight_beside, ldterm_weight, ActedKeeps, EchoStands}
use Rattle.strm_laws.specs.Places.{direction_to, way_to, weight_sent, weight_gone, weight_made}
use Rattle.strm_laws.proofs.DeliveryKeeps.{gone-append, made-append}
use Rattle.strm_laws.proofs.EmptiedKeeps.{behind-keeps}
use Rattle.strm_types.proofs.LdtermPuts.{puts-each}
use Rattle.strm_laws.proofs.Prefixes.{Begins, last-begins, word-begins}
use Rattle.strm_laws.proofs.PutWeights.{weight-both, weight-flush, weight-mode}

-- a message without parts has no cells
pub weight-bare : {C : Type 0} (p : C → Bool) (kind : MsgKind) (bytes : List ℕ) → weight_of p (bare kind bytes) ≡ 0
unfolding weight_of cells_of
weight-bare p kind bytes = refl

-- the way of what is sent on is the way that it is sent
pub way-up : (at : ℕ) → way_to at Up ≡ Up
way-up zero = refl
way-up (suc at) = refl

pub way-down : (at : ℕ) → way_to (at + 1) Down ≡ Down
way-down zero = refl
way-down (suc at) = ap (λ n. way_to n Down) (let e : suc at + 1 ≡ suc (suc at) = omega arith in e)

pub onward-weighs : {C : Type 0} (p : Dir → C → Bool) (way : Way) (here : Spot) (m : Message C) → weight_of (p (direction_to (toward way here))) m ≡ weight_of (p (direction_at way here.side)) m
onward-weighs p Up here m = ap (λ way. weight_of (p (direction_at way here.side)) m) (way-up (here.at - 1))
onward-weighs p Down here m = ap (λ way. weight_of (p (direction_at way here.side)) m) (way-down here.at)

module _ {C : Type 0} (p : Dir → C → Bool) where
  -- cells that are told as gone
  pub lost-gone : (side : Side) (rule : Rule) (cells : List C) → weight_gone p (line_gone side rule cells) ≡ count_by (p (direction_at Up side)) cells
  lost-gone side rule [] = refl
  lost-gone side rule (c ∷ cells) = omega arith

  pub lost-made : (side : Side) (rule : Rule) (cells : List C) → weight_made p (line_gone side rule cells) ≡ 0
  lost-made side rule [] = refl
  lost-made side rule (c ∷ cells) = refl

  -- what is put, and flushed
  abbrev Holds : Side → Acted C (Discipline C) → ℕ → Type 0
  Holds side t n = ldterm_weight p side t.state + (weight_sent p t.sent + weight_gone p t.gone) ≡ n

  both-hold : (side : Side) (t : Acted C (Discipline C)) (next : Discipline C → Acted C (Discipline C)) (n more : ℕ) → Holds side t n → Holds side (next t.state) (ldterm_weight p side t.state + more) → Holds side (both t next) (n + more)
  both-hold side t next n more first second =
      let u = next t.state in
      let sent = weight-both p t.sent u.sent in
      let gone = gone-append p t.gone u.gone in
      omega arith

  queued-holds : (here : Spot) (way : Way) (m : Message C) (l : Discipline C) → Holds here.side (queued_at way m l) (ldterm_weight p here.side l + weight_of (p (direction_at way here.side)) m)
  queued-holds here Up m l = omega (arith, weight-put (p (direction_at Up here.side)) m l.read_queue.messages)
  queued-holds here Down m l = omega (arith, weight-put (p (direction_at Down here.side)) m l.write_queue.messages)

  flushed-holds : (way : Way) (here : Spot) (band : Option Band) (l : Discipline C) → Holds here.side (queue_flushed way here band l) (ldterm_weight p here.side l)
  flushed-holds Up here band l = omega (arith, behind-keeps (p (direction_at Up here.side)) (of_data band) l.read_queue)
  flushed-holds Down here band l = omega (arith, behind-keeps (p (direction_at Down here.side)) (of_data band) l.write_queue)

  line-holds : (here : Spot) (band : Option Band) (l : Discipline C) → Holds here.side (line_flushed here band l) (ldterm_weight p here.side l + 0)
  line-holds here band l = either (λ t. Holds here.side t (ldterm_weight p here.side l + 0)) (takes_band_0 band) (record (sends [] (without_line l)) { gone = line_gone here.side Flushed l.line }) (sends [] l)
      (omega (arith, lost-gone here.side Flushed l.line)) (omega arith)

  read-holds : (here : Spot) (asked : FlushAsked) (l : Discipline C) → Holds here.side (read_flushed here asked l) (ldterm_weight p here.side l)
  read-holds here asked l = either (λ t. Holds here.side t (ldterm_weight p here.side l)) asked.for_read (both (queue_flushed Up here asked.band l) (line_flushed here asked.band)) (sends [] l)
      (let all = both-hold here.side (queue_flushed Up here asked.band l) (line_flushed here asked.band) (ldterm_weight p here.side l) 0 (flushed-holds Up here asked.band l) (line-holds here asked.band (queue_flushed Up here asked.band l).state) in omega arith)
      (omega arith)

  write-holds : (here : Spot) (asked : FlushAsked) (l : Discipline C) → Holds here.side (write_flushed here asked l) (ldterm_weight p here.side l + 0)
  write-holds here asked l =
      let quiet : Discipline C = record l { echoing = l.echoing && not (takes_band_0 asked.band) } in
      either (λ t. Holds here.side t (ldterm_weight p here.side l + 0)) asked.for_write (queue_flushed Down here asked.band quiet) (sends [] l)
      (omega (arith, behind-keeps (p (direction_at Down here.side)) (of_data asked.band) l.write_queue))
      (omega arith)

  passes-holds : (here : Spot) (m : Message C) (l : Discipline C) → Holds here.side (sends (onward here.way here m ∷ []) l) (ldterm_weight p here.side l + weight_of (p (direction_at here.way here.side)) m)
  passes-holds here m l = omega (arith, onward-weighs p here.way here m)

  flush-holds : (here : Spot) (m : Message C) (l : Discipline C) → Holds here.side (flush_passes here m l) (ldterm_weight p here.side l + weight_of (p (direction_at here.way here.side)) m)
  flush-holds here m l =
      let asked = asked_by m.plain in
      let first = read_flushed here asked l in
      let behind = both first (write_flushed here asked) in
      let flushed = both-hold here.side first (write_flushed here asked) (ldterm_weight p here.side l) 0 (read-holds here asked l) (write-holds here asked first.state) in
      let all = both-hold here.side behind (sends (onward here.way here m ∷ [])) (ldterm_weight p here.side l + 0) (weight_of (p (direction_at here.way here.side)) m) flushed (passes-holds here m behind.state) in
      omega arith

  -- the answer to a command that set a termios: with TCSETSF input is flushed, and a line that is made no longer goes up
  input-holds : (here : Spot) (command : ℕ) (l : Discipline C) → Holds here.side (input_flushed here command l) (ldterm_weight p here.side l)
  input-holds here command l =
      let read = read_flushed here up_alone l in
      let told : Discipline C → Acted C (Discipline C) = sends (onward Up here (flush_message (read_flush None)) ∷ []) in
      either (λ t. Holds here.side t (ldterm_weight p here.side l)) (command == TCSETSF) (both read told) (sends [] l)
      (let all = both-hold here.side read told (ldterm_weight p here.side l) 0 (read-holds here up_alone l) (omega (arith, weight-flush (p (direction_to (toward Up here))) (read_flush None))) in omega arith)
      (omega arith)

  line-holds-up : (here : Spot) (line : List C) → weight_sent p (line_up here line) ≡ count_by (p (direction_at Up here.side)) line
  line-holds-up here [] = refl
  line-holds-up here (c ∷ more) = omega (arith, onward-weighs p Up here (data_message (c ∷ more)), weight-data (p (direction_at Up here.side)) (c ∷ more))

  termios-holds : (here : Spot) (t : Termios) (m : Message C) (l : Discipline C) → Holds here.side (termios_taken here t m l) (ldterm_weight p here.side l + weight_of (p (direction_at Up here.side)) m)
  termios-holds here t m l = at (ends_lines l.termios t)
    where
      rest : List (Parcel C)
      rest = onward Up here (mode_message (read_mode_of t) (tostop t)) ∷ onward Up here m ∷ []

      at : (ends : Bool) → Holds here.side (sends (cond ends (line_up here l.line) [] ++ rest) (record l { termios = t; line = cond ends [] l.line })) (ldterm_weight p here.side l + weight_of (p (direction_at Up here.side)) m)
      at true = omega (arith, weight-both p (line_up here l.line) rest, line-holds-up here l.line, weight-mode (p (direction_to (toward Up here))) (read_mode_of t) (tostop t), onward-weighs p Up here m)
      at false = omega (arith, weight-mode (p (direction_to (toward Up here))) (read_mode_of t) (tostop t), onward-weighs p Up here m)

  taken-holds : (here : Spot) (command : ℕ) (t : Termios) (m : Message C) (l : Discipline C) → Holds here.side (taken_up here command t m l) (ldterm_weight p here.side l + weight_of (p (direction_at Up here.side)) m)
  taken-holds here command t m l =
      let first = input_flushed here command l in
      both-hold here.side first (termios_taken here t m) (ldterm_weight p here.side l) (weight_of (p (direction_at Up here.side)) m) (input-holds here command l) (termios-holds here t m first.state)

  pub puts-hold : (here : Spot) (m : Message C) (l : Discipline C) → Holds here.side (ldterm_puts here m l) (ldterm_weight p here.side l + weight_of (p (direction_at here.way here.side)) m)
  puts-hold here m l = puts-each here m l (λ t. Holds here.side t (ldterm_weight p here.side l + weight_of (p (direction_at here.way here.side)) m)) (record {
    waits = λ is. queued-holds here here.way m l;
    flushes = λ is. flush-holds here m l;
    passes = passes-holds here m l;
    taken = λ way is ioc t. subst (λ w. Holds here.side (taken_up here ioc.command t m l) (ldterm_weight p here.side l + weight_of (p (direction_at w here.side)) m)) (sym way) (taken-holds here ioc.command t m l);
  })

module _ {C : Type 0} (p : Dir → C → Bool) (cells : Cells C) (here : Spot) where
  -- the tests of what comes up and of what goes down
  abbrev up : C → Bool
  up = p (direction_at Up here.side)

  abbrev down : C → Bool
  down = p (direction_at Down here.side)

  -- what a key does, beside the byte that has begun
  abbrev pub Strikes : Acted C (Discipline C) → ℕ → Type 0
  Strikes t n = weight_beside p here.side t.state + (weight_sent p t.sent + weight_gone p t.gone) ≡ n + weight_made p t.gone

  dropped-keeps : (rule : Rule) (c : C) (l : Discipline C) → Strikes (dropped cells here rule c l) (weight_beside p here.side l + count_by up (c ∷ []))
  dropped-keeps rule c l = omega arith

  stops-keep : (c : C) (l : Discipline C) → Strikes (stops cells here c l) (weight_beside p here.side l + count_by up (c ∷ []))
  stops-keep c l = at l.stopped
    where
      at : (stopped : Bool) → Strikes (record (dropped cells here FlowKey c (record l { stopped = true })) { sent = cond stopped [] (onward Down here (bare kinds.Stop []) ∷ []) }) (weight_beside p here.side l + count_by up (c ∷ []))
      at true = omega arith
      at false = omega (arith, weight-bare (p (direction_to (toward Down here))) kinds.Stop [])

  edits-keep : (left : List C) (rule : Rule) (c : C) (l : Discipline C) → Begins left l.line →
      Strikes (record { state = record l { line = left }; notes = []; sent = []; gone = lost cells here rule (drop (length left) l.line) ++ lost cells here EraseKey (c ∷ []) }) (weight_beside p here.side l + count_by up (c ∷ []))
  edits-keep left rule c l begins =
      let gone = gone-append p (lost cells here rule (drop (length left) l.line)) (lost cells here EraseKey (c ∷ [])) in
      let made = made-append p (lost cells here rule (drop (length left) l.line)) (lost cells here EraseKey (c ∷ [])) in
      let taken = lost-gone p here.side rule (drop (length left) l.line) in
      let none = lost-made p here.side rule (drop (length left) l.line) in
      let line = sym (count-join up left (drop (length left) l.line)) ∙ ap (λ xs. count_by up xs) begins in
      omega arith

  line-keeps : (line : List C) → weight_sent p (goes_up cells here line ∷ []) ≡ count_by up line
  line-keeps line = omega (arith, onward-weighs p Up here (data_message line), weight-data up line)

  pub gathered-keeps : (gathered : List C) → weight_sent p (gathered_up cells here gathered) ≡ count_by up gathered
  gathered-keeps [] = refl
  gathered-keeps (c ∷ more) = line-keeps (c ∷ more)

  signals-keep : (asked : FlushAsked) (signal : ℕ) (c : C) (l : Discipline C) → Strikes (signals cells here asked signal c l) (weight_beside p here.side l + count_by up (c ∷ []))
  signals-keep asked signal c l = at (noflsh l.termios)
    where
      at : (kept : Bool) → Strikes (cond kept
          (record { state = record l { gathered = [] }; notes = []; sent = gathered_up cells here l.gathered ++ onward Up here (bare kinds.Pcsig (signal ∷ [])) ∷ []; gone = lost cells here SignalKey (c ∷ []) })
          (record { state = record l { gathered = []; line = [] }; notes = []; sent = gathered_up cells here l.gathered ++ onward Up here (flush_message (flush_bytes asked)) ∷ onward Up here (bare kinds.Pcsig (signal ∷ [])) ∷ []; gone = lost cells here Flushed l.line ++ lost cells here SignalKey (c ∷ []) }))
          (weight_beside p here.side l + count_by up (c ∷ []))
      at true =
          let sent = weight-both p (gathered_up cells here l.gathered) (onward Up here (bare kinds.Pcsig (signal ∷ [])) ∷ []) in
          let key = weight-bare (p (direction_to (toward Up here))) kinds.Pcsig (signal ∷ []) in
          let up = gathered-keeps l.gathered in
          omega arith
      at false =
          let sent = weight-both p (gathered_up cells here l.gathered) (onward Up here (flush_message (flush_bytes asked)) ∷ onward Up here (bare kinds.Pcsig (signal ∷ [])) ∷ []) in
          let key = weight-bare (p (direction_to (toward Up here))) kinds.Pcsig (signal ∷ []) in
          let flush = weight-flush (p (direction_to (toward Up here))) (flush_bytes asked) in
          let up = gathered-keeps l.gathered in
          let gone = gone-append p (lost cells here Flushed l.line) (lost cells here SignalKey (c ∷ [])) in
          let made = made-append p (lost cells here Flushed l.line) (lost cells here SignalKey (c ∷ [])) in
          let line = lost-gone p here.side Flushed l.line in
          let none = lost-made p here.side Flushed l.line in
          omega arith

  added-keeps : (c : C) (l : Discipline C) → Strikes (added cells here c l) (weight_beside p here.side l + count_by up (c ∷ []))
  added-keeps c l = at (icanon l.termios) (has_room l.line) (imaxbel l.termios) (edited (is_blank_cell cells here) (Types c) l.line) (λ room. ap (λ b. cond b (l.line ++ c ∷ []) l.line) room)
    where
      at : (canonical room bell : Bool) (longer : List C) → (room ≡ true → longer ≡ l.line ++ c ∷ []) →
          Strikes (cond (not canonical) (sends [] (record l { gathered = l.gathered ++ c ∷ [] }))
          (cond room (sends [] (record l { line = longer }))
          (cond bell (dropped cells here LineFull c l) (record (sends [] (record l { line = [] })) { gone = lost cells here LineOver (l.line ++ c ∷ []) }))))
          (weight_beside p here.side l + count_by up (c ∷ []))
      at false room bell longer is = omega (arith, count-join up l.gathered (c ∷ []))
      at true true bell longer is = omega (arith, ap (λ xs. count_by up xs) (is refl), count-join up l.line (c ∷ []))
      at true false true longer is = omega arith
      at true false false longer is = omega (arith, lost-gone p here.side LineOver (l.line ++ c ∷ []), lost-made p here.side LineOver (l.line ++ c ∷ []), count-join up l.line (c ∷ []))

  pub strikes-keep : (key : Key) (c : C) (l : Discipline C) → Strikes (strikes cells here key c l) (weight_beside p here.side l + count_by up (c ∷ []))
  strikes-keep Stop c l = stops-keep c l
  strikes-keep Start c l = dropped-keeps FlowKey c l
  strikes-keep Intr c l = signals-keep both_ways sigint c l
  strikes-keep Quit c l = signals-keep both_ways sigquit c l
  strikes-keep Susp c l = signals-keep up_alone sigtstp c l
  strikes-keep Ignored c l = dropped-keeps Igncr c l
  strikes-keep Eof c l = omega (arith, line-keeps l.line)
  strikes-keep Erase c l = edits-keep (edited (is_blank_cell cells here) ErasesByte l.line) Erased c l (last-begins l.line)
  strikes-keep Werase c l = edits-keep (edited (is_blank_cell cells here) ErasesWord l.line) Erased c l (word-begins (is_blank_cell cells here) l.line)
  strikes-keep Kill c l = edits-keep [] Killed c l refl
  strikes-keep Reprint c l = dropped-keeps ReprintKey c l
  strikes-keep Lnext c l = dropped-keeps LnextKey c l
  strikes-keep Delimiter c l = omega (arith, line-keeps (l.line ++ c ∷ []), count-join up l.line (c ∷ []))
  strikes-keep Ordinary c l = added-keeps c l

  -- the echo that grows is the last message of the write queue
  grown-keeps : (new : List C) (ms : List (Message C)) → is_none_left ms ≡ false → weight down (grown cells here new ms) ≡ weight down ms + count_by down new
  grown-keeps new [] stands = absurd (false≢true (sym stands))
  grown-keeps new (m ∷ []) stands = omega (arith, weight-take down (data_message (cells_of m ++ new)) [], weight-data down (cells_of m ++ new), count-join down (cells_of m) new, weight-whole down m, weight-take down m [])
  grown-keeps new (m ∷ n ∷ ms) stands = omega (arith, grown-keeps new (n ∷ ms) refl, weight-take down m (grown cells here new (n ∷ ms)), weight-take down m (n ∷ ms))

  pub echo-keeps : (new : List C) (l : Discipline C) → EchoStands l →
      ActedKeeps p here.side (cond (is_full 0 l.write_queue) (echo_lost cells here new l) (cond l.echoing (echo_grows cells here new l) (echo_stands cells here new l))) (ldterm_weight p here.side l)
  echo-keeps new l stands = at (is_full 0 l.write_queue) l.echoing stands
    where
      at : (full echoing : Bool) → (echoing ≡ true → is_none_left l.write_queue.messages ≡ false) →
          ActedKeeps p here.side (cond full (echo_lost cells here new l) (cond echoing (echo_grows cells here new l) (echo_stands cells here new l))) (ldterm_weight p here.side l)
      at true echoing stands = omega arith
      at false true stands = omega (arith, grown-keeps new l.write_queue.messages (stands refl))
      at false false stands = omega (arith, weight-put down (data_message new) l.write_queue.messages, weight-data down new)

-- and a put makes none
module _ {C : Type 0} (p : Dir → C → Bool) where
  abbrev MakesNone : Acted C (Discipline C) → Type 0
  MakesNone t = weight_made p t.gone ≡ 0

  both-none : (t : Acted C (Discipline C)) (next : Discipline C → Acted C (Discipline C)) → MakesNone t → MakesNone (next t.state)
      → MakesNone (both t next)
  both-none t next first second = let all = made-append p t.gone (next t.state).gone in omega arith

  line-none : (here : Spot) (band : Option Band) (l : Discipline C) → MakesNone (line_flushed here band l)
  line-none here band l = grind (arith, lost-made p here.side Flushed l.line)

  read-none : (here : Spot) (asked : FlushAsked) (l : Discipline C) → MakesNone (read_flushed here asked l)
  read-none here asked l =
      let queue = queue_flushed Up here asked.band l in
      grind (arith, both-none queue (line_flushed here asked.band) refl (line-none here asked.band queue.state))

  write-none : (here : Spot) (asked : FlushAsked) (l : Discipline C) → MakesNone (write_flushed here asked l)
  write-none here asked l = grind arith

  flush-none : (here : Spot) (m : Message C) (l : Discipline C) → MakesNone (flush_passes here m l)
  flush-none here m l =
      let asked = asked_by m.plain in
      let first = read_flushed here asked l in
      both-none (both first (write_flushed here asked)) (sends (onward here.way here m ∷ []))
      (both-none first (write_flushed here asked) (read-none here asked l) (write-none here asked first.state)) refl

  taken-none : (here : Spot) (command : ℕ) (t : Termios) (m : Message C) (l : Discipline C) → MakesNone (taken_up here command t m l)
  taken-none here command t m l =
      let told : Discipline C → Acted C (Discipline C) = sends (onward Up here (flush_message (read_flush None)) ∷ []) in
      let read = both-none (read_flushed here up_alone l) told (read-none here up_alone l) refl in
      let input : MakesNone (input_flushed here command l) = grind (arith, read) in
      both-none (input_flushed here command l) (termios_taken here t m) input refl

  pub ldterm-none : (here : Spot) (m : Message C) (l : Discipline C) → MakesNone (ldterm_puts here m l)
  ldterm-none here m l = puts-each here m l MakesNone (record {
    waits = λ is. refl;
    flushes = λ is. flush-none here m l;
    passes = refl;
    taken = λ way is ioc t. taken-none here ioc.command t m l;
  })
