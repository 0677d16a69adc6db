-- Which messages a flush or a close takes, as the code says it.
use Rattle.std.specs.Prelude.{None, Some}
use Rattle.strm_types.specs.Emptied.{Choice, of_all, of_data}
use Rattle.strm_queue.specs.declared.emptying.Chosen.{Chosen}
use Rattle.strm_queue.specs.declared.emptying.Chosen.TheVariants.{All, Data, Of}

abbrev pub choice_of : Chosen → Choice
choice_of All = of_all
choice_of Data = of_data None
choice_of (Of band) = of_data (Some band)
