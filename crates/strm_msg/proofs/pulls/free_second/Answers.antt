use Rattle.strm_msg.proofs.Pulling.{alone, behind-in_hand, second-in_hand, freed-more, first-in_hand, first-apart}
use Rattle.strm_msg.proofs.pulls.free_second.Goals as goal

pub returns-in_default-clause-freed : goal.returns-in_default-clause-freed
returns-in_default-clause-freed g c = alone (rw c.in_default.is at c.unlink-behind.ensures)

pub unlink-rest-requires : goal.unlink-rest-requires
unlink-rest-requires g c = behind-in_hand c.requires (rw c.in-Some.is at c.unlink-behind.ensures)

pub free-requires : goal.free-requires
free-requires g c = second-in_hand c.requires (rw c.in-Some.is at c.unlink-behind.ensures) _ _ c.unlink-rest.result.1 c.unlink-rest.ensures

pub link-requires-clause-first_in_hand : goal.link-requires-clause-first_in_hand
link-requires-clause-first_in_hand g c = first-in_hand c.requires (rw c.in-Some.is at c.unlink-behind.ensures) (rw c.in-Some-rest.is at c.unlink-rest.ensures) c.free.ensures

pub link-requires-clause-apart : goal.link-requires-clause-apart
link-requires-clause-apart g c = first-apart c.requires (rw c.in-Some.is at c.unlink-behind.ensures) (rw c.in-Some-rest.is at c.unlink-rest.ensures) c.free.ensures

pub returns-in-Some-rest-clause-freed : goal.returns-in-Some-rest-clause-freed
returns-in-Some-rest-clause-freed g c = freed-more c.requires (rw c.in-Some.is at c.unlink-behind.ensures) (rw c.in-Some-rest.is at c.unlink-rest.ensures) c.free.ensures c.link.ensures.linked
