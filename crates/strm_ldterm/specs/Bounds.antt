-- How many blocks a call of ldterm's service procedure may count on (srv(9E)).
use Rattle.std.specs.Prelude.{ℕ, Bool, true, false, not, ◌&&◌, List, [], ◌∷◌}
use Rattle.strm_ldterm.specs.Prelude.{Way, Up, Down, Spot, Termios, is_data, Discipline, Ldterm, Message, cells_of, is_none_left, opost}
use Rattle.strm_ldterm.specs.Turns.{needs}

-- whether a message goes out byte by byte on the write queue: M_DATA with bytes, under OPOST
abbrev pub goes_out : Termios → Message ℕ → Bool
goes_out t m = is_data m.kind && (opost t && not (is_none_left (cells_of m)))

-- whether the first message of its queue of a way passes whole, in this call, or none stands there
abbrev pub passes_whole : Way → Bool → Discipline ℕ → Bool
passes_whole Down again p = none_out p.write_queue.messages
  where
    none_out : List (Message ℕ) → Bool
    none_out [] = true
    none_out (m ∷ rest) = not (goes_out p.termios m)
passes_whole Up true p = false
passes_whole Up false p = first_passes p.read_queue.messages
  where
    first_passes : List (Message ℕ) → Bool
    first_passes [] = true
    first_passes (m ∷ rest) = not (is_data m.kind)

-- How many blocks of each kind a call may count on: where a turn begins, those of the delivery of a message that passes whole, and within a
-- message those that the rest of a byte takes.
abbrev pub turn_cost : Spot → Bool → Ldterm ℕ → ℕ
turn_cost here again p = by here.way again
  where
    by : Way → Bool → ℕ
    by Up true = needs p.stage
    by _ _ = 25
