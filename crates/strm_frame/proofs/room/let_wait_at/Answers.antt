-- The queue at the place changes.
use Rattle.std.proofs.Common.{map, ap, sym, ◌∙◌}
use Rattle.strm_types.specs.ModuleQueues.{waits_at}
use Rattle.strm_frame.specs.Standings.{standing_in}
use Rattle.strm_frame.proofs.room.let_wait_at.Goals as goal

pub returns-in-Some-clause-does : goal.returns-in-Some-clause-does
returns-in-Some-clause-does g c =
    let w = g.M.Module in
    let e = c.let_wait_among.ensures.does in
    record {
      state = λ s. e.state s ∙ ap (waits_at c.args.way c.args.band.0 (map (standing_in w.plain s) c.args.modules.now)) (sym c.in-Some.is);
      held = e.held;
      owns_same = e.owns_same;
      keeps_same = e.keeps_same;
    }
