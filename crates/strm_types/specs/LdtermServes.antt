-- Calls of ldterm's service procedures (ldterm(7M); srv(9E)).
use Rattle.std.specs.Prelude.{ℕ, Bool, true, false, Option, unwrap_or}
use Rattle.strm_types.specs.declared.names.Way.{Way}
use Rattle.strm_types.specs.declared.names.Way.TheVariants.{Up, Down}
use Rattle.strm_types.specs.declared.spots.Spot.{Spot}
use Rattle.strm_types.specs.Cells.{Cells}
use Rattle.strm_types.specs.Input.{input_begins, to_treat, treats}
use Rattle.strm_types.specs.Ldterms.{Discipline}
use Rattle.strm_types.specs.OutputTurns.{output_serves}
use Rattle.strm_types.specs.Service.{Serving}

module _ {C : Type 0} (cells : Cells C) (here : Spot) where
  -- A call of the service procedure of a queue: the first one of a turn (false), or one more in it (true). It goes as far as it may, or
  -- stops for want of blocks when so many bytes are treated. So many cells were made before in the direction of output.
  abbrev pub ldterm_serves : ℕ → Bool → Option ℕ → Discipline C → Serving C (Discipline C)
  ldterm_serves made again stop p = by here.way again
    where
      by : Way → Bool → Serving C (Discipline C)
      by Down again = output_serves cells here stop made p.write_queue.messages p
      by Up false = input_begins cells here stop made p.read_queue.messages p
      by Up true = treats cells here (unwrap_or stop (to_treat p)) made p
