use Rattle.std.proofs.Common.{arith, ◌<◌, ◌≤◌, ◌-◌, ◌∙◌, ap, length, refl}
use Rattle.std.proofs.lemmas.Bool.Decides.{nat_tests}
use Rattle.std.proofs.lemmas.List.{get_or_default}
use Rattle.strm_blocks.specs.Message.{no_message, listed_rank}
use Rattle.strm_blocks.proofs.Orders.{behind-last}
use Rattle.strm_blocks.proofs.parts.ends_in_rank.Goals as goal

pub returns-in-Some : goal.returns-in-Some
returns-in-Some c = λ yes. (
    let q = c.args.list.now in
    let some : 0 < length q = c.in-Some.ensures.variant.0 refl in
    let last = c.in-Some.ensures.lookup ∙ get_or_default q (length q - 1) c.in-Some.last.now no_message (omega arith) in
    let rank = c.rank_of.ensures ∙ ap listed_rank last in
    let least : c.args.rank ≤ c.rank_of.result = grind (arith, nat_tests) in
    behind-last listed_rank c.args.rank no_message q some c.requires (omega arith))
