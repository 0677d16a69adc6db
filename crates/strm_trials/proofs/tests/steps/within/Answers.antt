use Rattle.std.proofs.Common.{arith}
use Rattle.strm_trials.proofs.tests.steps.within.Goals as goal

pub returns-then-blocks-eq0-clause-few : goal.returns-then-blocks-eq0-clause-few
returns-then-blocks-eq0-clause-few g = omega arith

pub returns-then-blocks-eq0-clause-some : goal.returns-then-blocks-eq0-clause-some
returns-then-blocks-eq0-clause-some g = omega arith

pub returns-then-blocks-gt65536-clause-few : goal.returns-then-blocks-gt65536-clause-few
returns-then-blocks-gt65536-clause-few g = omega arith

pub returns-then-blocks-gt65536-clause-some : goal.returns-then-blocks-gt65536-clause-some
returns-then-blocks-gt65536-clause-some g = omega arith

pub returns-else-blocks-gt65536-clause-few : goal.returns-else-blocks-gt65536-clause-few
returns-else-blocks-gt65536-clause-few g = g.if-blocks-gt65536.false

pub returns-else-blocks-gt65536-clause-some : goal.returns-else-blocks-gt65536-clause-some
returns-else-blocks-gt65536-clause-some g = omega (arith, g.if-blocks-eq0.false)
