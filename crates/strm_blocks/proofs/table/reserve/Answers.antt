use Rattle.std.proofs.Common.{◌≡◌, ◌<◌, length, inl, inr, refl, arith}
use Rattle.std.proofs.lemmas.Bool.Decides.{nat_tests}
use Rattle.strm_blocks.proofs.table.reserve.Goals as goal

pub returns-then-is_empty : goal.returns-then-is_empty
returns-then-is_empty c =
    let none : length c.args.spare.now ≡ 0 = grind (arith, nat_tests) in
    record { none = inl none; same = refl }

pub returns-in-Some : goal.returns-in-Some
returns-in-Some c =
    let some : 0 < length c.args.spare.now = grind (arith, nat_tests) in
    record { some = some; taken = c.in-Some.ensures }

pub returns-in-None : goal.returns-in-None
returns-in-None c = record { none = inr c.in-None.ensures.none; same = c.in-None.ensures.same }
