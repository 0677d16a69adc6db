-- The modules are written back whole.
use Rattle.strm_frame.proofs.Prelude.{◌-◌, ◌∙◌, true, List, sym, ap, subst, length, HoldsAt}
use Rattle.strm_frame.specs.Prelude.{at_place, of_part}
use Rattle.strm_frame.specs.Does.{Serves}
use Rattle.strm_frame.specs.Serves.{served_among, stop_of}
use Rattle.strm_frame.specs.Stacks.{all_in, all_of, AreHeld}
use Rattle.strm_frame.specs.Standings.{standing_in, Fits, owns, keeps_of}
use Rattle.strm_frame.proofs.Beside.{refilled}
use Rattle.strm_frame.proofs.stack.Stack.serve.Goals as goal

pub returns-clause-does : goal.returns-clause-does
returns-clause-does g c =
    let w = g.M.Module in
    let s = g.B.Blocks.value c.args.store.now in
    let t = g.B.Blocks.value c.serve_among.new.store in
    let here = c.args.here in
    let r = c.serve_among.result in
    let before = c.as_mut_slice.ensures.value in
    let ys = c.serve_among.new.modules in
    let same = refilled c.args.self.now.modules.items ys (c.serve_among.ensures.length ∙ ap length before) in
    let These = λ (xs zs : List _).
    Serves (all_in (standing_in w.plain)) (AreHeld (Fits w.IsHeld) owns) (all_of owns) (all_of (keeps_of w.keeps)) (at_place (of_part (w.turn_cost here true)) 0 here.at)
    (λ bytes ps. HoldsAt (w.MayStop here.way c.args.again bytes) ps (here.at - 1)) s t xs zs r c.args.told.now c.serve_among.new.told
    (served_among (w.serves g.M.Procedures.by here c.args.again (stop_of r)) (here.at - 1) (all_in (standing_in w.plain) s xs)) in
    subst (These c.args.self.now.modules.items) (sym same) (subst (λ xs. These xs ys) before c.serve_among.ensures.does)
