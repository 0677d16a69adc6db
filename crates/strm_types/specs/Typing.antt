-- What a byte does that is typed at a terminal: to the unfinished line, to what goes up and down, and to its echo (termio(7I):
-- "Canonical Mode Input Processing", "Non-Canonical Mode Input Processing", "Special Characters"; ldterm(7M)).
use Rattle.std.specs.Prelude.{ℕ, Bool, true, false, ◌&&◌, not, if◌then◌else◌, List, [], ◌∷◌, ◌++◌, length, drop, None}
use Rattle.strm_types.specs.declared.flushing.FlushAsked.{FlushAsked}
use Rattle.strm_types.specs.declared.keys.Key.{Key}
use Rattle.strm_types.specs.declared.keys.Key.TheVariants.{Stop, Start, Intr, Quit, Susp, Ignored, Eof, Erase, Kill, Werase, Reprint, Lnext, Delimiter, Ordinary}
use Rattle.strm_types.specs.declared.keys.Stroke.{Stroke}
use Rattle.strm_types.specs.declared.kinds.MsgKind.{MsgKind}
use Rattle.strm_types.specs.declared.kinds.MsgKind.TheVariants as kinds
use Rattle.strm_types.specs.declared.names.Dir.{Dir}
use Rattle.strm_types.specs.declared.names.Way.TheVariants.{Up, Down}
use Rattle.strm_types.specs.declared.rules.Rule.{Rule}
use Rattle.strm_types.specs.declared.rules.Rule.TheVariants.{Igncr, EraseKey, Erased, Killed, EofKey, SignalKey, FlowKey, LnextKey, ReprintKey, LineFull, LineOver, Flushed, EchoFull}
use Rattle.strm_types.specs.declared.spots.Note.{Note}
use Rattle.strm_types.specs.declared.spots.Note.TheVariants.{Enable}
use Rattle.strm_types.specs.declared.spots.Spot.{Spot}
use Rattle.strm_types.specs.Cells.{Cells, bytes_of, cells_made}
use Rattle.strm_types.specs.Deliver.{Acted, Fate, Goes, Comes, Parcel, onward}
use Rattle.strm_types.specs.Echo.{echo_of}
use Rattle.strm_types.specs.Flushing.{flush_bytes, flush_message}
use Rattle.strm_types.specs.Keys.{stroke_of, restarts}
use Rattle.strm_types.specs.Ldterms.{Discipline, Begun, Answered, sends}
use Rattle.strm_types.specs.Lines.{Edit, Types, ErasesByte, ErasesWord, ErasesAll, edited, has_room, is_blank}
use Rattle.strm_types.specs.Message.{Message, cells_of, data_message}
use Rattle.strm_types.specs.Names.{direction_at}
use Rattle.strm_types.specs.Queue.{put_on, put_enables, is_full, is_none_left}
use Rattle.strm_types.specs.Service.{line_gone}
use Rattle.strm_types.specs.Termios.{icanon, imaxbel, noflsh}

-- the signals of the keys (signal.h): SIGINT, SIGQUIT, SIGTSTP
abbrev pub sigint : ℕ
sigint = 2

abbrev pub sigquit : ℕ
sigquit = 3

abbrev pub sigtstp : ℕ
sigtstp = 24

-- INTR and QUIT flush both ways, SUSP only what was typed
abbrev pub both_ways : FlushAsked
both_ways = record { for_read = true; for_write = true; band = None }

abbrev pub up_alone : FlushAsked
up_alone = record { for_read = true; for_write = false; band = None }

-- a message without parts
abbrev pub bare : {C : Type 0} → MsgKind → List ℕ → Message C
bare kind bytes = record { kind = kind; band = 0; control = None; body = None; plain = bytes }

abbrev pub is_lnext : Key → Bool
is_lnext Lnext = true
is_lnext _ = false

module _ {C : Type 0} (cells : Cells C) (here : Spot) where
  -- the direction of the echo
  abbrev pub echo_dir : Dir
  echo_dir = direction_at Down here.side

  -- cells that go, if there are any
  abbrev pub lost : Rule → List C → List (Fate C)
  lost rule gone = line_gone here.side rule gone

  -- a line, or bytes gathered, on the way up
  abbrev pub goes_up : List C → Parcel C
  goes_up line = onward Up here (data_message line)

  -- what was gathered goes up as one message, where there is any
  abbrev pub gathered_up : List C → List (Parcel C)
  gathered_up [] = []
  gathered_up (c ∷ more) = goes_up (c ∷ more) ∷ []

  abbrev pub is_blank_cell : C → Bool
  is_blank_cell c = is_blank (cells.byte c)

  -- A key that is dropped, by its rule.
  abbrev pub dropped : Rule → C → Discipline C → Acted C (Discipline C)
  dropped rule c p = record (sends [] p) { gone = lost rule (c ∷ []) }

  -- STOP stops output, and START has started it before.
  abbrev pub stops : C → Discipline C → Acted C (Discipline C)
  stops c p =
      record (dropped FlowKey c (record p { stopped = true })) {
        sent = if p.stopped then [] else onward Down here (bare kinds.Stop []) ∷ [];
      }

  -- A key that takes bytes of the line: what the edit takes goes by a rule, the key by another one.
  abbrev pub edits : Edit C → Rule → C → Discipline C → Acted C (Discipline C)
  edits edit rule c p =
      let left = edited is_blank_cell edit p.line in
      record {
        state = record p { line = left };
        notes = [];
        sent = [];
        gone = lost rule (drop (length left) p.line) ++ lost EraseKey (c ∷ []);
      }

  -- The line goes up, with its delimiter or, at EOF, without one.
  abbrev pub line_sent : List C → Discipline C → Acted C (Discipline C)
  line_sent line p = sends (goes_up line ∷ []) (record p { line = [] })

  -- A signal key: what was gathered goes up first. Without NOFLSH the line is flushed, and an M_FLUSH goes up; the signal follows.
  abbrev pub signals : FlushAsked → ℕ → C → Discipline C → Acted C (Discipline C)
  signals asked signal c p =
      let key = bare kinds.Pcsig (signal ∷ []) in
      if noflsh p.termios then record {
        state = record p { gathered = [] };
        notes = [];
        sent = gathered_up p.gathered ++ onward Up here key ∷ [];
        gone = lost SignalKey (c ∷ []);
      }
      else record {
        state = record p { gathered = []; line = [] };
        notes = [];
        sent = gathered_up p.gathered ++ onward Up here (flush_message (flush_bytes asked)) ∷ onward Up here key ∷ [];
        gone = lost Flushed p.line ++ lost SignalKey (c ∷ []);
      }

  -- An ordinary byte is added to the line, or gathered where no lines are made. In a full line it is lost under IMAXBEL, and else the line
  -- is lost with it.
  abbrev pub added : C → Discipline C → Acted C (Discipline C)
  added c p =
      if not (icanon p.termios) then sends [] (record p { gathered = p.gathered ++ c ∷ [] })
      else (if has_room p.line then sends [] (record p { line = edited is_blank_cell (Types c) p.line })
      else (if imaxbel p.termios then dropped LineFull c p
      else record (sends [] (record p { line = [] })) { gone = lost LineOver (p.line ++ c ∷ []) }))

  -- what a key does to the line and above
  abbrev pub strikes : Key → C → Discipline C → Acted C (Discipline C)
  strikes Stop c p = stops c p
  strikes Start c p = dropped FlowKey c p
  strikes Intr c p = signals both_ways sigint c p
  strikes Quit c p = signals both_ways sigquit c p
  strikes Susp c p = signals up_alone sigtstp c p
  strikes Ignored c p = dropped Igncr c p
  strikes Eof c p = record (line_sent p.line p) { gone = lost EofKey (c ∷ []) }
  strikes Erase c p = edits ErasesByte Erased c p
  strikes Werase c p = edits ErasesWord Erased c p
  strikes Kill c p = edits ErasesAll Killed c p
  strikes Reprint c p = dropped ReprintKey c p
  strikes Lnext c p = dropped LnextKey c p
  strikes Delimiter c p = line_sent (p.line ++ c ∷ []) p
  strikes Ordinary c p = added c p

  abbrev pub stroke_at : C → Discipline C → Stroke
  stroke_at c p = stroke_of p.termios p.after_lnext (cells.byte c)

  -- First of all a byte may start output that is stopped: an M_START goes down.
  abbrev pub begins : C → Discipline C → Acted C (Discipline C)
  begins c p =
      if p.stopped && restarts p.termios (stroke_at c p)
      then sends (onward Down here (bare kinds.Start []) ∷ []) (record p { stopped = false; stage = Begun true c })
      else sends [] (record p { stage = Begun false c })

  -- where a byte has started output, the queue of output is enabled, unless nothing stands there
  abbrev pub wakes : Bool → Discipline C → List Note
  wakes started p = if started && not (is_none_left p.write_queue.messages) then Enable Down ∷ [] else []

  -- Then it does what its key does, and its echo is still to come. A byte that is mapped stays the same written byte.
  abbrev pub struck : Bool → C → Discipline C → Acted C (Discipline C)
  struck started c p =
      let stroke = stroke_at c p in
      let t = strikes stroke.key (cells.mapped stroke.byte c) (record p { after_lnext = is_lnext stroke.key }) in
      let echo = echo_of p.termios (bytes_of cells p.line) (bytes_of cells t.state.line) stroke in
      record t { state = record t.state { stage = Answered echo }; notes = wakes started p }

  -- The turn's echo is one message at the end of the write queue, which grows there.
  abbrev pub grown : List C → List (Message C) → List (Message C)
  grown more [] = []
  grown more (m ∷ []) = data_message (cells_of m ++ more) ∷ []
  grown more (m ∷ n ∷ ms) = m ∷ grown more (n ∷ ms)

  abbrev pub echo_grows : List C → Discipline C → Acted C (Discipline C)
  echo_grows new p =
      record (sends [] (record p { write_queue = record p.write_queue { messages = grown new p.write_queue.messages } })) {
        gone = Comes echo_dir new ∷ [];
      }

  -- it begins with the first byte that is echoed, which enables the queue as putq(9F) says
  abbrev pub echo_stands : List C → Discipline C → Acted C (Discipline C)
  echo_stands new p =
      let m = data_message new in
      record {
        state = record p { write_queue = put_on m p.write_queue; echoing = true };
        notes = if put_enables m p.write_queue then Enable Down ∷ [] else [];
        sent = [];
        gone = Comes echo_dir new ∷ [];
      }

  -- where band 0 is full before the echo of a key, none of it stands
  abbrev pub echo_lost : List C → Discipline C → Acted C (Discipline C)
  echo_lost new p = record (sends [] p) { gone = Comes echo_dir new ∷ Goes echo_dir EchoFull new ∷ [] }

  -- Last, the byte is echoed. So many were made before in the direction of the echo.
  abbrev pub echoed : ℕ → List ℕ → Discipline C → Acted C (Discipline C)
  echoed made [] p = sends [] p
  echoed made (b ∷ bytes) p =
      let new = cells_made cells echo_dir made (b ∷ bytes) in
      if is_full 0 p.write_queue then echo_lost new p
      else (if p.echoing then echo_grows new p else echo_stands new p)
