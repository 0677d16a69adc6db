-- The commands and readings of the code, as the definitions of script text have them.
use Rattle.std.specs.Prelude.{ℕ, Option, option_map, Vec}
use Rattle.std.specs.Global.{Global}
use Rattle.strm_types.specs.declared.events.Event.{Event}
use Rattle.strm_types.specs.Events.{Request, map_event}
use Rattle.strm_script.specs.Script as script
use Rattle.strm_script.specs.ScriptReading as readings
use Rattle.strm_script.specs.declared.commands.Command.{Command}
use Rattle.strm_script.specs.declared.commands.Command.TheVariants.{Open, Call, Flush, Put, Get, Turn, Run, Show, Ledger, Cut, Group}
use Rattle.strm_script.specs.declared.commands.Reading.{Reading}
use Rattle.strm_script.specs.declared.commands.Reading.TheVariants.{Silent, Malformed, Spoken}

-- a call, as the definitions have it
abbrev pub request_of : Event (Vec ℕ Global) → Request
request_of event = map_event (λ bytes. bytes.items) event

abbrev pub requests_of : Option (Event (Vec ℕ Global)) → Option Request
requests_of found = option_map request_of found

abbrev pub command_of : Command → script.Command
command_of (Open blocks) = script.Open blocks
command_of (Call side event) = script.Call side (request_of event)
command_of (Flush side what band) = script.Flush side what band
command_of (Put side prio control body) =
    script.Put side prio (option_map (λ bytes. bytes.items) control) (option_map (λ bytes. bytes.items) body)
command_of (Get side wanted cmax dmax) = script.Get side wanted cmax dmax
command_of (Turn name) = script.Turn name
command_of (Run turns) = script.Run turns
command_of (Show side) = script.Show side
command_of (Ledger direction) = script.Ledger direction
command_of Cut = script.Cut
command_of (Group caller) = script.Group caller

abbrev pub commands_of : Option Command → Option script.Command
commands_of found = option_map command_of found

abbrev pub reading_of : Reading → readings.Reading
reading_of Silent = readings.Silent
reading_of Malformed = readings.Malformed
reading_of (Spoken command) = readings.Spoken (command_of command)
