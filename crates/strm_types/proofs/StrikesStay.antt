-- What holds of ldterm whatever its line is, and whatever bytes are gathered, holds behind each key.
use Rattle.std.proofs.Common.{ℕ, Bool, true, false, cond, List, [], ◌∷◌, ◌++◌}
use Rattle.std.specs.Prelude.{not}
use Rattle.strm_types.specs.declared.flushing.FlushAsked.{FlushAsked}
use Rattle.strm_types.specs.declared.keys.Key.{Key}
use Rattle.strm_types.specs.declared.keys.Key.TheVariants.{Stop, Start, Intr, Quit, Susp, Ignored, Eof, Erase, Kill, Werase, Reprint, Lnext, Delimiter, Ordinary}
use Rattle.strm_types.specs.declared.kinds.MsgKind.TheVariants as kinds
use Rattle.strm_types.specs.declared.names.Way.TheVariants.{Up}
use Rattle.strm_types.specs.declared.rules.Rule.TheVariants.{Flushed, SignalKey, LineFull, LineOver}
use Rattle.strm_types.specs.declared.spots.Spot.{Spot}
use Rattle.strm_types.specs.Cells.{Cells}
use Rattle.strm_types.specs.Deliver.{Acted, onward}
use Rattle.strm_types.specs.Flushing.{flush_bytes, flush_message}
use Rattle.strm_types.specs.Ldterms.{Discipline, sends}
use Rattle.strm_types.specs.Lines.{ErasesByte, ErasesWord, Types, edited, has_room}
use Rattle.strm_types.specs.Termios.{icanon, imaxbel, noflsh}
use Rattle.strm_types.specs.Typing.{added, bare, both_ways, dropped, gathered_up, is_blank_cell, lost, sigint, signals, sigquit, sigtstp, up_alone, strikes}

-- what holds of ldterm whether output is stopped or not, and with any line and any bytes gathered, holds behind a key
module _ {C : Type 0} (cells : Cells C) (here : Spot) (P : Discipline C → Type 0) (stays : (l : Discipline C) (stopped : Bool) (line gathered : List C) → P l → P (record l { stopped = stopped; line = line; gathered = gathered })) where
  signals-stay : (asked : FlushAsked) (signal : ℕ) (c : C) (l : Discipline C) → P l → P (signals cells here asked signal c l).state
  signals-stay asked signal c l holds = at (noflsh l.termios)
    where
      at : (kept : Bool) → P (cond {A = Acted C (Discipline C)} kept
          (record { state = record l { gathered = [] }; notes = []; sent = gathered_up cells here l.gathered ++ onward Up here (bare kinds.Pcsig (signal ∷ [])) ∷ []; gone = lost cells here SignalKey (c ∷ []) })
          (record { state = record l { gathered = []; line = [] }; notes = []; sent = gathered_up cells here l.gathered ++ onward Up here (flush_message (flush_bytes asked)) ∷ onward Up here (bare kinds.Pcsig (signal ∷ [])) ∷ []; gone = lost cells here Flushed l.line ++ lost cells here SignalKey (c ∷ []) })).state
      at true = stays l l.stopped l.line [] holds
      at false = stays l l.stopped [] [] holds

  added-stay : (c : C) (l : Discipline C) → P l → P (added cells here c l).state
  added-stay c l holds = at (icanon l.termios) (has_room l.line) (imaxbel l.termios)
    where
      at : (canonical room bell : Bool) →
          P (cond (not canonical) (sends [] (record l { gathered = l.gathered ++ c ∷ [] }))
          (cond room (sends [] (record l { line = edited (is_blank_cell cells here) (Types c) l.line }))
          (cond bell (dropped cells here LineFull c l) (record (sends [] (record l { line = [] })) { gone = lost cells here LineOver (l.line ++ c ∷ []) })))).state
      at false room bell = stays l l.stopped l.line (l.gathered ++ c ∷ []) holds
      at true true bell = stays l l.stopped (edited (is_blank_cell cells here) (Types c) l.line) l.gathered holds
      at true false true = holds
      at true false false = stays l l.stopped [] l.gathered holds

  pub strikes-stay : (key : Key) (c : C) (l : Discipline C) → P l → P (strikes cells here key c l).state
  strikes-stay Stop c l holds = stays l true l.line l.gathered holds
  strikes-stay Start c l holds = holds
  strikes-stay Intr c l holds = signals-stay both_ways sigint c l holds
  strikes-stay Quit c l holds = signals-stay both_ways sigquit c l holds
  strikes-stay Susp c l holds = signals-stay up_alone sigtstp c l holds
  strikes-stay Ignored c l holds = holds
  strikes-stay Eof c l holds = stays l l.stopped [] l.gathered holds
  strikes-stay Erase c l holds = stays l l.stopped (edited (is_blank_cell cells here) ErasesByte l.line) l.gathered holds
  strikes-stay Werase c l holds = stays l l.stopped (edited (is_blank_cell cells here) ErasesWord l.line) l.gathered holds
  strikes-stay Kill c l holds = stays l l.stopped [] l.gathered holds
  strikes-stay Reprint c l holds = holds
  strikes-stay Lnext c l holds = holds
  strikes-stay Delimiter c l holds = stays l l.stopped [] l.gathered holds
  strikes-stay Ordinary c l holds = added-stay c l holds
