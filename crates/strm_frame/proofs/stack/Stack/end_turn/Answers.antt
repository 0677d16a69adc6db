-- The modules are written back whole.
use Rattle.strm_frame.proofs.Prelude.{◌-◌, ◌∙◌, false, List, sym, ap, subst, length}
use Rattle.strm_frame.specs.Prelude.{at_place, queue_changed, change_among, turn_ended, end_relieves, has_more}
use Rattle.strm_frame.specs.Does.{EndsTurn}
use Rattle.strm_frame.specs.Stacks.{all_in, all_of, AreHeld}
use Rattle.strm_frame.specs.Standings.{standing_in, Fits, owns, keeps_of}
use Rattle.strm_frame.proofs.Beside.{refilled}
use Rattle.strm_frame.proofs.stack.Stack.end_turn.Goals as goal

pub returns-clause-does : goal.returns-clause-does
returns-clause-does g c =
    let w = g.M.Module in
    let s = g.B.Blocks.value c.args.store.now in
    let way = c.args.way in
    let took = c.args.took in
    let place = c.args.place in
    let before = c.as_mut_slice.ensures.value in
    let ys = c.end_turn_among.new.modules in
    let same = refilled c.args.self.now.modules.items ys (c.end_turn_among.ensures.length ∙ ap length before) in
    let These = λ (xs zs : List _).
    EndsTurn (all_in (standing_in w.plain)) (AreHeld (Fits w.IsHeld) owns) (all_of owns) (all_of (keeps_of w.keeps)) s xs zs c.end_turn_among.result
    (at_place (end_relieves took way) false place (all_in (standing_in w.plain) s xs)) (at_place (has_more way) false place (all_in (standing_in w.plain) s xs))
    (change_among (queue_changed way (turn_ended took)) (place - 1) (all_in (standing_in w.plain) s xs)) in
    subst (These c.args.self.now.modules.items) (sym same) (subst (λ xs. These xs ys) before c.end_turn_among.ensures.does)
