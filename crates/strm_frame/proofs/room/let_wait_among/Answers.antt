-- One module changes, and the others stay.
use Rattle.std.proofs.Common.{refl, get_or}
use Rattle.strm_types.specs.ModuleQueues.{waits}
use Rattle.strm_frame.specs.Standings.{standing_in, Fits, owns, keeps_of}
use Rattle.strm_frame.proofs.Beside.{change-plain, change-held, part-held, set-same}
use Rattle.strm_frame.proofs.room.let_wait_among.Goals as goal

pub returns-clause-does : goal.returns-clause-does
returns-clause-does g c =
    let w = g.M.Module in
    let d = c.index-modules-at.result in
    let xs = c.args.modules.now in
    let i = c.args.at in
    let x = get_or xs i d in
    let y = c.let_wait.new.self in
    let e = c.let_wait.ensures in
    record {
      state = λ s. change-plain (waits c.args.way c.args.band.0) (standing_in w.plain s) xs i x d y c.requires.within refl (e.state s);
      held = λ s held. change-held (Fits w.IsHeld) owns s xs i x d y c.requires.within refl e.owns_same held (e.held s (part-held (Fits w.IsHeld) s xs i x d c.requires.within refl held.each));
      owns_same = set-same owns xs i x d y c.requires.within refl e.owns_same;
      keeps_same = set-same (keeps_of w.keeps) xs i x d y c.requires.within refl e.keeps_same;
    }
