-- What the queue at the place answers.
use Rattle.std.proofs.Common.{Some, not, map, ap, sym, ◌∙◌}
use Rattle.strm_types.specs.ModuleQueues.{room_at}
use Rattle.strm_frame.specs.Standings.{standing_in}
use Rattle.strm_frame.proofs.room.room_at.Goals as goal

pub returns-in-Some : goal.returns-in-Some
returns-in-Some g c =
    let w = g.M.Module in
    let ps = map (standing_in w.plain (g.B.Blocks.value c.args.store.now)) c.args.modules.now in
    ap (λ full. Some (not full)) c.is_full_among.ensures ∙ ap (room_at c.args.way c.args.band.0 ps) (sym c.in-Some.is)
