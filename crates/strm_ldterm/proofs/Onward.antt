-- What a byte that is struck sends goes to the places next to ldterm's own: up to three messages.
use Rattle.strm_ldterm.proofs.Prelude.{ℕ, suc, ◌+◌, ◌-◌, Bool, true, false, cond, List, [], ◌∷◌, ◌++◌, not}
use Rattle.strm_ldterm.specs.Prelude.{FlushAsked, Key, Stop, Start, Intr, Quit, Susp, Ignored, Eof, Erase, Kill, Werase, Reprint, Lnext, Delimiter}
use Rattle.strm_ldterm.specs.Prelude.{Ordinary, Way, Up, Down, Flushed, SignalKey, LineFull, LineOver, Spot, Cells, Acted, Parcel, onward}
use Rattle.strm_ldterm.specs.Prelude.{flush_bytes, flush_message, Discipline, sends, Types, edited, has_room, Message, data_message, icanon, imaxbel}
use Rattle.strm_ldterm.specs.Prelude.{noflsh, added, bare, gathered_up, is_lnext, lost, signals, stroke_at, strikes, struck, up_alone}
use Rattle.strm_types.specs.declared.kinds.MsgKind.TheVariants as kinds
use Rattle.strm_types.specs.Typing.{both_ways, dropped, is_blank_cell, sigint, sigquit, sigtstp}

-- what holds of so many parcels or fewer, each on its way to a next place
module _ {C : Type 0} (cells : Cells C) (here : Spot) (P : ℕ → List (Parcel C) → Type 0) (none : (n : ℕ) → P n [])
    (more : (way : Way) (m : Message C) (n : ℕ) (ps : List (Parcel C)) → P n ps → P (suc n) (onward way here m ∷ ps)) where
  single : (way : Way) (m : Message C) → P 3 (onward way here m ∷ [])
  single way m = more way m 2 [] (none 2)

  -- a signal key sends up what was gathered, an M_FLUSH and the signal
  signals-send : (asked : FlushAsked) (signal : ℕ) (c : C) (p : Discipline C) → P 3 (signals cells here asked signal c p).sent
  signals-send asked signal c p = at p.gathered (noflsh p.termios)
    where
      key : Message C
      key = bare kinds.Pcsig (signal ∷ [])

      flush : Message C
      flush = flush_message (flush_bytes asked)

      up : List (Parcel C) → List (Parcel C) → Bool → List (Parcel C)
      up gathered after quiet = (cond {A = Acted C (Discipline C)} quiet
          (record { state = record p { gathered = [] }; notes = []; sent = gathered ++ onward Up here key ∷ []; gone = lost cells here SignalKey (c ∷ []) })
          (record { state = record p { gathered = []; line = [] }; notes = []; sent = gathered ++ after; gone = lost cells here Flushed p.line ++ lost cells here SignalKey (c ∷ []) })).sent

      at : (gathered : List C) (quiet : Bool) → P 3 (up (gathered_up cells here gathered) (onward Up here flush ∷ onward Up here key ∷ []) quiet)
      at [] true = single Up key
      at [] false = more Up flush 2 _ (more Up key 1 [] (none 1))
      at (g ∷ rest) true = more Up (data_message (g ∷ rest)) 2 _ (more Up key 1 [] (none 1))
      at (g ∷ rest) false = more Up (data_message (g ∷ rest)) 2 _ (more Up flush 1 _ (more Up key 0 [] (none 0)))

  added-sends : (c : C) (p : Discipline C) → P 3 (added cells here c p).sent
  added-sends c p = at (icanon p.termios) (has_room p.line) (imaxbel p.termios)
    where
      at : (canonical room bell : Bool) →
          P 3 (cond (not canonical) (sends [] (record p { gathered = p.gathered ++ c ∷ [] }))
          (cond room (sends [] (record p { line = edited (is_blank_cell cells here) (Types c) p.line }))
          (cond bell (dropped cells here LineFull c p) (record (sends [] (record p { line = [] })) { gone = lost cells here LineOver (p.line ++ c ∷ []) })))).sent
      at false room bell = none 3
      at true true bell = none 3
      at true false true = none 3
      at true false false = none 3

  strikes-send : (key : Key) (c : C) (p : Discipline C) → P 3 (strikes cells here key c p).sent
  strikes-send Stop c p = at p.stopped
    where
      at : (stopped : Bool) → P 3 (cond stopped [] (onward Down here (bare kinds.Stop []) ∷ []))
      at true = none 3
      at false = single Down (bare kinds.Stop [])
  strikes-send Start c p = none 3
  strikes-send Intr c p = signals-send both_ways sigint c p
  strikes-send Quit c p = signals-send both_ways sigquit c p
  strikes-send Susp c p = signals-send up_alone sigtstp c p
  strikes-send Ignored c p = none 3
  strikes-send Eof c p = single Up (data_message p.line)
  strikes-send Erase c p = none 3
  strikes-send Kill c p = none 3
  strikes-send Werase c p = none 3
  strikes-send Reprint c p = none 3
  strikes-send Lnext c p = none 3
  strikes-send Delimiter c p = single Up (data_message (p.line ++ c ∷ []))
  strikes-send Ordinary c p = added-sends c p

  pub struck-sends : (started : Bool) (c : C) (p : Discipline C) → P 3 (struck cells here started c p).sent
  struck-sends started c p = let stroke = stroke_at cells here c p in strikes-send stroke.key (cells.mapped stroke.byte c) (record p { after_lnext = is_lnext stroke.key })
