-- What is seen of the first message of a head without taking it (getmsg(2)).
use Rattle.std.specs.Prelude.{ℕ, Bool, true, ◌||◌, nat_le, List, [], ◌∷◌}
use Rattle.strm_head.specs.Prelude.{Wanted, Any, Message, is_high_priority, is_wanted, Peek}
use Rattle.strm_types.specs.declared.modes.Wanted.TheVariants.{High, Band}

-- whether a message that is seen is the one that a get asks for
abbrev pub peek_wanted : Wanted → Peek → Bool
peek_wanted Any p = true
peek_wanted High p = is_high_priority p.kind
peek_wanted (Band band) p = is_high_priority p.kind || nat_le band.0 p.band.0

-- whether a get may go on: the first message is the one that is asked for, or there is none and the input is at its end
abbrev pub gets_on : Wanted → Bool → List (Message ℕ) → Bool
gets_on wanted at_end [] = at_end
gets_on wanted at_end (m ∷ q) = is_wanted wanted m
