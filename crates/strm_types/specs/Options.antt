-- What an M_SETOPTS sets at a stream head (STREAMS Programming Guide, "Stream Head": struct stroptions; streamio(7I): I_SRDOPT).
use Rattle.std.specs.Prelude.{ℕ, Bool, true, false, ◌&&◌, ◌==◌, nat_le, if◌then◌else◌, List, [], ◌∷◌, length, Option, None, Some}
use Rattle.strm_types.specs.declared.kinds.MsgKind.TheVariants.{Setopts}
use Rattle.strm_types.specs.declared.modes.ReadMode.{ReadMode}
use Rattle.strm_types.specs.declared.modes.ReadMode.TheVariants.{ByteStream, MessageKeep, MessageDiscard}
use Rattle.strm_types.specs.declared.options.Marks.{Marks}
use Rattle.strm_types.specs.declared.options.Options.{Options}
use Rattle.strm_types.specs.Ioctls.{word_at}
use Rattle.strm_types.specs.Message.{Message}

-- the read mode of a number: RNORM, RMSGD and RMSGN
abbrev pub mode_numbered : ℕ → Option ReadMode
mode_numbered n =
    if n == 0 then Some ByteStream
    else (if n == 1 then Some MessageDiscard
    else (if n == 2 then Some MessageKeep else None))

-- and back
abbrev pub mode_number : ReadMode → ℕ
mode_number ByteStream = 0
mode_number MessageDiscard = 1
mode_number MessageKeep = 2

-- TOSTOP by its number, where there is one: 0 and 1 alone say it
abbrev pub tostop_numbered : ℕ → Option Bool
tostop_numbered n = if n == 0 then Some false else (if n == 1 then Some true else None)

abbrev pub tostop_in : List ℕ → Option Bool
tostop_in [] = None
tostop_in (number ∷ _) = tostop_numbered number

-- and back
abbrev pub tostop_number : Bool → ℕ
tostop_number tostop = if tostop then 1 else 0

-- an M_SETOPTS that sets a read mode and TOSTOP
abbrev pub mode_message : {C : Type 0} → ReadMode → Bool → Message C
mode_message mode tostop = record { kind = Setopts; band = 0; control = None; body = None; plain = mode_number mode ∷ tostop_number tostop ∷ [] }

-- whether two numbers may be a high-water and a low-water mark
abbrev pub are_marks : ℕ → ℕ → Bool
are_marks high low = nat_le 1 high && nat_le low high

-- the marks that eight bytes give, the high one first
abbrev pub marks_in : List ℕ → Option Marks
marks_in bytes =
    let high = word_at 0 bytes in
    let low = word_at 4 bytes in
    if are_marks high low then Some (record { high = high; low = low }) else None

abbrev pub nothing_set : Options
nothing_set = record { mode = None; tostop = None; marks = None }

-- a read mode and TOSTOP; where the number of that says neither nothing is set
abbrev pub with_tostop : Option ReadMode → Option Bool → Options
with_tostop mode None = nothing_set
with_tostop mode (Some tostop) = record { mode = mode; tostop = Some tostop; marks = None }

-- One byte is a read mode; one more is TOSTOP (termio(7I)), and eight more are the marks. With another number of bytes nothing is set.
abbrev pub options_in : List ℕ → Options
options_in [] = nothing_set
options_in (mode ∷ rest) =
    if length rest == 0 then record { mode = mode_numbered mode; tostop = None; marks = None }
    else (if length rest == 1 then with_tostop (mode_numbered mode) (tostop_in rest)
    else (if length rest == 8 then record { mode = mode_numbered mode; tostop = None; marks = marks_in rest } else nothing_set))
