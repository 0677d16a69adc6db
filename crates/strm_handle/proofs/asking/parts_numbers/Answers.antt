use Rattle.strm_handle.proofs.BothParts.{both-parts}
use Rattle.strm_handle.proofs.asking.parts_numbers.Goals as goal

-- src/asking.rt:109:1
pub returns-in-Some-Some : goal.returns-in-Some-Some
returns-in-Some-Some c = both-parts c.in-Some-Some.len c.in-Some-Some.field-0-1 c.args.control c.args.body c.in-Some-Some.is-0 c.in-Some-Some.is-1
