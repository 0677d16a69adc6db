-- One row changes, and what is common to all says the same of the others.
use Rattle.std.proofs.Common.{◌<◌, ap, subst, sym, ◌∙◌, length, arith}
use Rattle.std.specs.Prelude.{slice_set}
use Rattle.strm_queue.specs.Rows.{all_rows, flows_from, AreRows}
use Rattle.strm_queue.proofs.RowFlows.{first-set, rows-set}
use Rattle.strm_queue.proofs.banded.Banded.set.Goals as goal

pub returns : goal.returns
returns c =
    let b = c.self.inside in
    let e = c.set-row.ensures in
    let rows = all_rows b.table.rows.items in
    let within : c.args.at < length rows = omega (arith, c.requires.within, c.self.invariant.each) in
    ap (flows_from c.set-row.new.self 0) c.write.ensures
    ∙ first-set b.common c.set-row.new.self c.args.at c.set-row.result c.args.flow rows within e.here (λ k row apart. e.others k row apart)
    ∙ ap (λ fs. slice_set fs c.args.at c.args.flow) c.self.view_is

pub invariant_of-self : goal.invariant_of-self
invariant_of-self c =
    subst AreRows (sym c.write.ensures) (rows-set c.args.at c.set-row.result (all_rows c.self.inside.table.rows.items) c.self.invariant)
