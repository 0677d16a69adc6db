-- The modules are tried one after the other.
use Rattle.std.proofs.Common.{◌+◌, ◌∙◌, sym, refl, arith}
use Rattle.strm_pair.proofs.Tried.{named-here, named-next, named-none}
use Rattle.strm_pair.proofs.named_queues.place_named.Goals as goal
use Rattle.strm_pair.specs.Stacks.{modules_in}

pub loop-index-init : goal.loop-index-init
loop-index-init c = record { same = λ s. refl }

pub loop-index-preserved : goal.loop-index-preserved
loop-index-preserved c = record {
  same = λ s.
      let i = c.loop-index.index in
      named-next c.args.place i (i + 1) (modules_in s c.args.stack.now) c.place_at.result (omega arith)
      (omega (arith, c.loop-index-test.true)) (omega (arith, c.loop-index-test.true, c.module_count.ensures s)) (c.place_at.ensures s) (sym c.if-is_there.false ∙ c.is_there.ensures)
      ∙ c.loop-index.invariant.same s;
}

pub returns-then-is_there-clause-place : goal.returns-then-is_there-clause-place
returns-then-is_there-clause-place c = λ s.
    let i = c.loop-index.index in
    named-here c.args.place i (i + 1) (modules_in s c.args.stack.now) c.place_at.result (omega arith)
    (omega (arith, c.loop-index-test.true)) (omega (arith, c.loop-index-test.true, c.module_count.ensures s)) (c.place_at.ensures s) (sym c.if-is_there.true ∙ c.is_there.ensures)
    ∙ c.loop-index.invariant.same s

pub returns-clause-place : goal.returns-clause-place
returns-clause-place c = λ s.
    named-none c.args.place c.loop-index.index (modules_in s c.args.stack.now) (omega (arith, c.loop-index-test.false, c.module_count.ensures s))
    ∙ c.loop-index.invariant.same s
