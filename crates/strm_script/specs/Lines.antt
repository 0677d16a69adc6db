-- The answer lines of the code, as the definitions of script text have them.
use Rattle.std.specs.Prelude.{ℕ, if◌then◌else◌, List, [], ◌∷◌, ◌++◌, Option, None, Some, is_some, Ok}
use Rattle.strm_script.specs.Prelude.{Side, Up, Down, reply_in, place_named, State, stream}
use Rattle.strm_types.specs.declared.names.ModuleName.TheVariants as modules
use Rattle.strm_types.specs.declared.names.Place.TheVariants as places
use Rattle.strm_script.specs.ScriptAnswers as script
use Rattle.strm_script.specs.ScriptRun.{size_at}
use Rattle.strm_script.specs.declared.answers.Line.{Line}
use Rattle.strm_script.specs.declared.answers.ModuleSizes.{ModuleSizes}
use Rattle.strm_script.specs.declared.answers.QueueSize.{QueueSize}
use Rattle.strm_script.specs.declared.answers.Line.TheVariants.{Done, Turned, Ran, Entries, Sizes, Booked, Refused, Wrong}

-- how much stands on the queues of the module on a side's stream that has queues
abbrev pub module_sizes : Side → State ℕ → Option ModuleSizes
module_sizes side s =
    if is_some (place_named (places.Module modules.Ldterm) (stream side s).modules)
    then Some (record {
      up = size_at s (record { side = side; place = places.Module modules.Ldterm; way = Up });
      down = size_at s (record { side = side; place = places.Module modules.Ldterm; way = Down });
    })
    else None

-- the sizes of a module's queues, the read queue first, where there is one
abbrev pub sizes_of : Option ModuleSizes → List QueueSize
sizes_of None = []
sizes_of (Some sizes) = sizes.up ∷ sizes.down ∷ []

-- an answer line, with the bytes that stand apart: those of the answer are in front of them from it
abbrev pub line_of : List ℕ → Line → script.Line
line_of bytes (Done answer) = script.reply_line (Ok (reply_in answer bytes))
line_of bytes (Turned turn) = script.turn_line (Ok turn)
line_of bytes (Ran n) = script.Ran n
line_of bytes (Entries n) = script.Number n
line_of bytes (Sizes side head stacked driver) = script.Sizes side (head ∷ (sizes_of stacked ++ driver ∷ []))
line_of bytes (Booked booked) = script.Booked booked.direction booked.ledger
line_of bytes (Refused refusal) = script.Refused refusal
line_of bytes (Wrong n) = script.Wrong n
