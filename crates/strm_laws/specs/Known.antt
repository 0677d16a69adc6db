-- Whether there are modules of all names on the streams of a state: of those of a user's own there are some of the numbers that the behaviour knows.
use Rattle.std.specs.Prelude.{Bool, ◌&&◌, List, map}
use Rattle.std.specs.List.{list_all}
use Rattle.strm_laws.specs.Prelude.{ModuleName, Master, Slave}
use Rattle.strm_laws.specs.Behaviours.{Behaviour}
use Rattle.strm_laws.specs.Pushes.{is_known}
use Rattle.strm_laws.specs.Stacked.{module_name}
use Rattle.strm_laws.specs.State.{State, stream}

abbrev pub are_known : Behaviour → List ModuleName → Bool
are_known K names = list_all (is_known K) names

abbrev pub all_known : {C : Type 0} → Behaviour → State C → Bool
all_known K s = are_known K (map module_name (stream Master s).modules) && are_known K (map module_name (stream Slave s).modules)
