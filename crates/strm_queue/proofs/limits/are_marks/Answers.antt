use Rattle.std.proofs.Common.{◌≡◌, true, refl, arith}
use Rattle.std.specs.Prelude.{nat_le}
use Rattle.std.proofs.lemmas.Bool.Decides.{nat_tests}
use Rattle.strm_queue.proofs.limits.are_marks.Goals as goal

pub returns-then-high-ge1 : goal.returns-then-high-ge1
returns-then-high-ge1 c = let some : nat_le 1 c.args.high ≡ true = grind (arith, nat_tests) in rw some refl
