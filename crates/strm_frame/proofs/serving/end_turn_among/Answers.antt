-- One module changes, and the others stay.
use Rattle.strm_frame.proofs.Prelude.{◌∙◌, sym, refl, get_or}
use Rattle.strm_frame.specs.Prelude.{queue_changed, turn_ended, end_relieves, has_more}
use Rattle.strm_frame.specs.Standings.{standing_in, Fits, owns, keeps_of}
use Rattle.strm_frame.proofs.Beside.{said-of, change-plain, change-held, set-same}
use Rattle.strm_frame.proofs.serving.end_turn_among.Goals as goal

pub returns-clause-does : goal.returns-clause-does
returns-clause-does g c =
    let s = g.B.Blocks.value c.args.store.now in
    let w = g.M.Module in
    let d = c.index-modules-at.result in
    let xs = c.args.modules.now in
    let i = c.args.at in
    let x = get_or xs i d in
    let y = c.end_turn.new.self in
    let way = c.args.way in
    let e = c.end_turn.ensures in
    record {
      state = change-plain (queue_changed way (turn_ended c.args.took)) (standing_in w.plain s) xs i x d y c.requires.within refl e.state;
      room = e.room ∙ sym (said-of (standing_in w.plain s) (end_relieves c.args.took way) xs i x d _ c.requires.within refl);
      more = e.more ∙ sym (said-of (standing_in w.plain s) (has_more way) xs i x d _ c.requires.within refl);
      held = change-held (Fits w.IsHeld) owns s xs i x d y c.requires.within refl e.owns_same c.requires.held e.held;
      owns_same = set-same owns xs i x d y c.requires.within refl e.owns_same;
      keeps_same = set-same (keeps_of w.keeps) xs i x d y c.requires.within refl e.keeps_same;
    }
