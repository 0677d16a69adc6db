-- The modules are taken as a slice, and written back whole.
use Rattle.strm_frame.proofs.Prelude.{◌∙◌, List, ap, sym, subst, [], length}
use Rattle.strm_frame.specs.Prelude.{Down, at_place, messages_at, act_among, cleared}
use Rattle.strm_frame.specs.Does.{Clears}
use Rattle.strm_frame.specs.Stacks.{all_in, all_of, AreHeld}
use Rattle.strm_frame.specs.Standings.{standing_in, Fits, owns, keeps_of}
use Rattle.strm_frame.proofs.Beside.{refilled}
use Rattle.strm_frame.proofs.stack.Stack.clear_top.Goals as goal

pub clear_among-requires-clause-held : goal.clear_among-requires-clause-held
clear_among-requires-clause-held g c =
    let w = g.M.Module in
    subst (AreHeld (Fits w.IsHeld) owns (g.B.Blocks.value c.args.store.now)) (sym c.as_mut_slice.ensures.value) c.requires.held

pub clear_among-requires-clause-rests : goal.clear_among-requires-clause-rests
clear_among-requires-clause-rests g c = λ i.
    ap (λ xs. all_of (keeps_of g.M.Module.keeps) xs i) c.as_mut_slice.ensures.value ∙ c.requires.rests i

pub returns-clause-length : goal.returns-clause-length
returns-clause-length g c =
    let same = c.clear_among.ensures.length ∙ ap length c.as_mut_slice.ensures.value in
    ap length (refilled c.args.self.now.modules.items c.clear_among.new.modules same) ∙ same

pub returns-clause-does : goal.returns-clause-does
returns-clause-does g c =
    let w = g.M.Module in
    let s = g.B.Blocks.value c.args.store.now in
    let t = g.B.Blocks.value c.clear_among.new.store in
    let before = c.as_mut_slice.ensures.value in
    let ys = c.clear_among.new.modules in
    let same = refilled c.args.self.now.modules.items ys (c.clear_among.ensures.length ∙ ap length before) in
    let clears = act_among (cleared w.line_of w.without_line c.args.side c.args.rule) 0 in
    let These = λ (xs zs : List _).
    let ps = all_in (standing_in w.plain) s xs in
    Clears (all_in (standing_in w.plain)) (AreHeld (Fits w.IsHeld) owns) (all_of owns) (all_of (keeps_of w.keeps)) s t xs zs c.args.seeking (at_place (messages_at Down) [] 1 ps) c.clear_among.result c.args.told.now c.clear_among.new.told (clears ps) in
    subst (These c.args.self.now.modules.items) (sym same) (subst (λ xs. These xs ys) before c.clear_among.ensures.does)
