-- The modules are written back whole.
use Rattle.std.proofs.Common.{◌∙◌, List, sym, ap, subst, length}
use Rattle.strm_types.specs.ModuleQueues.{place_past, waits_at, waits_past}
use Rattle.strm_blocks.specs.Blocks.{StoreValue}
use Rattle.strm_frame.specs.Does.{Changes}
use Rattle.strm_frame.specs.Stacks.{all_in, all_of, AreHeld}
use Rattle.strm_frame.specs.Standings.{standing_in, Fits, owns, keeps_of}
use Rattle.strm_frame.proofs.Beside.{refilled}
use Rattle.strm_frame.proofs.stack.Stack.let_wait_past.Goals as goal

pub returns-clause-does : goal.returns-clause-does
returns-clause-does g c =
    let w = g.M.Module in
    let before = c.as_mut_slice.ensures.value in
    let ys = c.let_wait_at.new.modules in
    let same = refilled c.args.self.now.modules.items ys (c.let_wait_at.ensures.length ∙ ap length before) in
    let These = λ (xs zs : List _).
    Changes (all_in (standing_in w.plain)) (AreHeld (Fits w.IsHeld) owns) (all_of owns) (all_of (keeps_of w.keeps)) xs zs (waits_past c.args.way c.args.band.0 c.args.at) in
    let did = c.let_wait_at.ensures.does in
    let waits = λ (s : StoreValue). waits_at c.args.way c.args.band.0 (all_in (standing_in w.plain) s c.as_mut_slice.result.now) in
    let past = λ (s : StoreValue) (xs : List _). place_past c.args.way c.args.at (all_in (standing_in w.plain) s xs) in
    let passes : These c.as_mut_slice.result.now ys = record {
      state = λ s. did.state s ∙ ap (waits s) (c.place_past-place.ensures.place s ∙ ap (past s) (sym before));
      held = did.held;
      owns_same = did.owns_same;
      keeps_same = did.keeps_same;
    } in
    subst (These c.args.self.now.modules.items) (sym same) (subst (λ xs. These xs ys) before passes)
