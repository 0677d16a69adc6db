-- The reader of a text, as the definitions of script text have it.
use Rattle.std.specs.Prelude.{◌≤◌, ⊤}
use Rattle.strm_script.specs.ScriptReading as readings
use Rattle.strm_script.specs.declared.texts.Mode.{Mode}
use Rattle.strm_script.specs.declared.texts.Mode.TheVariants.{Inside, Escaped, Coded, HalfCoded, Closed}
use Rattle.strm_script.specs.declared.texts.Move.{Move}
use Rattle.strm_script.specs.declared.texts.Move.TheVariants.{Breaks, Goes, Gives}

abbrev pub mode_of : Mode → readings.Mode
mode_of Inside = readings.Inside
mode_of Escaped = readings.Escaped
mode_of Coded = readings.Coded
mode_of (HalfCoded high) = readings.HalfCoded high
mode_of Closed = readings.Closed

abbrev pub move_of : Move → readings.Move
move_of Breaks = readings.Breaks
move_of (Goes mode) = readings.Goes (mode_of mode)
move_of (Gives b) = readings.Gives b

-- the value kept of a hexadecimal digit is one
abbrev pub IsMode : Mode → Type 0
IsMode (HalfCoded high) = high ≤ 15
IsMode _ = ⊤

abbrev pub IsMove : Move → Type 0
IsMove (Goes mode) = IsMode mode
IsMove _ = ⊤
