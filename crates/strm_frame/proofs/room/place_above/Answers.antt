-- The modules above the place are tried one after the other, and the last one that has a queue is found.
use Rattle.std.proofs.Common.{◌+◌, ◌-◌, ◌∙◌, sym, arith}
use Rattle.strm_frame.specs.Standings.{standing_in}
use Rattle.strm_frame.proofs.Nearest.{last-here, last-next, last-past}
use Rattle.strm_frame.proofs.room.place_above.Goals as goal
use Rattle.strm_frame.proofs.room.place_above.Goals.{then-index-at+then-has_queues, else-index-at, else-index-at-via-then-index-at+else-has_queues, else-index-at-via-else-index-at}

pub loop-index-preserved : goal.loop-index-preserved
loop-index-preserved g c =
    let w = g.M.Module in
    let xs = c.args.modules.now in
    let i = c.loop-index.index in
    let n = c.args.at - 1 in
    let last = c.loop-index.last in
    let within = c.loop-index-test.true in
    elim c.if-index-at.branch [
      | then-index-at+then-has_queues b ↦
          (let x = b.index-modules-index.result in
          record { inside = rw b.last-is (omega arith, omega arith); same = λ s. rw b.last-is (last-here (standing_in w.plain s) xs n i (i + 1) x x last (omega arith) within b.index-modules-index.is (omega (arith, b.if-index-at.true)) (sym b.if-has_queues.true ∙ b.has_queues.ensures s) ∙ c.loop-index.invariant.same s) })
      | else-index-at b ↦
          elim b.else-index-at.branch [
            | else-index-at-via-then-index-at+else-has_queues e ↦
                (let x = e.index-modules-index.result in
                record { inside = rw b.last-is c.loop-index.invariant.inside; same = λ s. rw b.last-is (last-next (standing_in w.plain s) xs n i (i + 1) x x last (omega arith) within e.index-modules-index.is (omega (arith, e.if-index-at.true)) (sym e.if-has_queues.false ∙ e.has_queues.ensures s) ∙ c.loop-index.invariant.same s) })
            | else-index-at-via-else-index-at e ↦
                record { inside = rw b.last-is c.loop-index.invariant.inside; same = λ s. rw b.last-is (last-past (standing_in w.plain s) xs n i (i + 1) last (omega arith) (omega (arith, e.if-index-at.false)) ∙ c.loop-index.invariant.same s) }
          ]
    ]
