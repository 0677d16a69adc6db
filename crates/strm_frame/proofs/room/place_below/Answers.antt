-- The modules below the place are tried one after the other.
use Rattle.std.proofs.Common.{suc, ◌+◌, ◌∙◌, sym, refl, arith}
use Rattle.strm_frame.specs.Standings.{standing_in}
use Rattle.strm_frame.proofs.Nearest.{first-here, first-next, none-below}
use Rattle.strm_frame.proofs.room.place_below.Goals as goal

pub loop-index-init : goal.loop-index-init
loop-index-init g c = record { same = λ s. refl }

pub returns-then-has_queues-clause-place : goal.returns-then-has_queues-clause-place
returns-then-has_queues-clause-place g c = λ s.
    let w = g.M.Module in
    let i = c.loop-index.index in
    let d = c.index-modules-index.result in
    first-here (standing_in w.plain s) c.args.modules.now i (i + 1) d d (omega arith) c.loop-index-test.true c.index-modules-index.is (sym c.if-has_queues.true ∙ c.has_queues.ensures s)
    ∙ c.loop-index.invariant.same s

pub loop-index-preserved : goal.loop-index-preserved
loop-index-preserved g c = record {
  same = λ s.
      let w = g.M.Module in
      let i = c.loop-index.index in
      let d = c.index-modules-index.result in
      first-next (standing_in w.plain s) c.args.modules.now i (i + 1) d d (omega arith) c.loop-index-test.true c.index-modules-index.is (sym c.if-has_queues.false ∙ c.has_queues.ensures s)
      ∙ c.loop-index.invariant.same s;
}

pub returns-clause-place : goal.returns-clause-place
returns-clause-place g c = λ s.
    let w = g.M.Module in
    let i = c.loop-index.index in
    sym (none-below (standing_in w.plain s) c.args.modules.now i (suc i) (omega (arith, c.loop-index-test.false)))
    ∙ c.loop-index.invariant.same s
