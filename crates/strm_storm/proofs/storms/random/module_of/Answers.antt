use Rattle.std.proofs.Common.{◌≡◌, ◌/◌, ◌%◌, ◌^◌, sym, ap}
use Rattle.strm_storm.specs.Storms.{module_at}
use Rattle.strm_storm.proofs.Hands.{other_module}
use Rattle.strm_storm.proofs.storms.random.module_of.Goals as goal

pub returns-then-number-eq0 : goal.returns-then-number-eq0
returns-then-number-eq0 c = let t : c.args.number / 2 ^ 40 % 2 ≡ 0 = c.if-number-eq0.true in sym (ap module_at t)

pub returns-else-number-eq0 : goal.returns-else-number-eq0
returns-else-number-eq0 c = other_module (c.args.number / 2 ^ 40 % 2) c.if-number-eq0.false
