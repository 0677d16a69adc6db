use Rattle.std.proofs.Common.{◌≡◌, false, refl, arith}
use Rattle.std.specs.Prelude.{nat_lt}
use Rattle.std.proofs.lemmas.Bool.Decides.{nat_tests}
use Rattle.strm_queue.proofs.share.Share.enables.Goals as goal

pub returns-else-self-gt0 : goal.returns-else-self-gt0
returns-else-self-gt0 c =
    let ordinary : nat_lt 0 c.args.self.band.0 ≡ false = grind (arith, nat_tests) in
    rw (c.if-self.false, c.if-not-no_enable.true, ordinary) refl
