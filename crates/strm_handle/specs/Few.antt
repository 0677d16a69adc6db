-- That a call brings no more bytes than an empty journal takes: of a write 1024 at most.
use Rattle.std.specs.Prelude.{◌≤◌, Option, None, Some, length}
use Rattle.strm_types.specs.declared.events.Event.TheVariants.{Write}
use Rattle.strm_types.specs.Events.{Request}

abbrev pub FewBytes : Request → Type 0
FewBytes (Write bytes) = length bytes ≤ 1024
FewBytes _ = Unit {0}

abbrev pub FewAsked : Option Request → Type 0
FewAsked None = Unit {0}
FewAsked (Some asked) = FewBytes asked
