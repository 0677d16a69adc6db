-- What ldterm takes up of an answer that comes up past it: the termios that was set (ldterm(7M); termio(7I): TCSETSF, "Canonical Mode Input
-- Processing"; streamio(7I): I_SRDOPT).
use Rattle.std.specs.Prelude.{ℕ, Bool, ◌&&◌, ◌==◌, not, if◌then◌else◌, List, [], ◌∷◌, ◌++◌, None}
use Rattle.strm_types.specs.declared.ioctls.TheConstants.{TCSETSF}
use Rattle.strm_types.specs.declared.modes.ReadMode.{ReadMode}
use Rattle.strm_types.specs.declared.modes.ReadMode.TheVariants.{ByteStream, MessageKeep}
use Rattle.strm_types.specs.declared.names.Way.TheVariants.{Up}
use Rattle.strm_types.specs.declared.spots.Spot.{Spot}
use Rattle.strm_types.specs.declared.termios.Termios.{Termios}
use Rattle.strm_types.specs.Deliver.{Acted, Parcel, onward}
use Rattle.strm_types.specs.Flushing.{flush_message, read_flush}
use Rattle.strm_types.specs.Ldterms.{Discipline, both, read_flushed, sends}
use Rattle.strm_types.specs.Message.{Message, data_message}
use Rattle.strm_types.specs.Options.{mode_message}
use Rattle.strm_types.specs.Termios.{icanon, tostop}
use Rattle.strm_types.specs.Typing.{up_alone}

-- the read mode that goes with a termios: where lines are made a read gives one of them
abbrev pub read_mode_of : Termios → ReadMode
read_mode_of t = if icanon t then MessageKeep else ByteStream

-- whether lines were made, and are made no longer
abbrev pub ends_lines : Termios → Termios → Bool
ends_lines old new = icanon old && not (icanon new)

module _ {C : Type 0} where
  -- TCSETSF: what waits to be read is flushed, with the line, and an M_FLUSH goes up
  abbrev pub input_flushed : Spot → ℕ → Discipline C → Acted C (Discipline C)
  input_flushed here command p =
      if command == TCSETSF then both (read_flushed here up_alone p) (sends (onward Up here (flush_message (read_flush None)) ∷ []))
      else sends [] p

  -- an unfinished line goes up as it is, unless it is empty
  abbrev pub line_up : Spot → List C → List (Parcel C)
  line_up here [] = []
  line_up here (c ∷ more) = onward Up here (data_message (c ∷ more)) ∷ []

  -- The termios is set. Where lines are made no longer the unfinished one goes up. Then the head is told its read mode and TOSTOP, and the answer goes on.
  abbrev pub termios_taken : Spot → Termios → Message C → Discipline C → Acted C (Discipline C)
  termios_taken here t m p =
      let ends = ends_lines p.termios t in
      sends ((if ends then line_up here p.line else []) ++ onward Up here (mode_message (read_mode_of t) (tostop t)) ∷ onward Up here m ∷ [])
      (record p { termios = t; line = if ends then [] else p.line })

  -- The answer to a command that set a termios: input is flushed where the command says so, and the termios is taken up.
  abbrev pub taken_up : Spot → ℕ → Termios → Message C → Discipline C → Acted C (Discipline C)
  taken_up here command t m p = both (input_flushed here command p) (termios_taken here t m)
