-- The modules are taken as a slice, and written back whole.
use Rattle.strm_frame.proofs.Prelude.{true, ◌-◌, ◌∙◌, List, ap, sym, subst, length, map, arith, slice_index_or}
use Rattle.strm_frame.specs.Prelude.{own_at, of_part, Standing, token}
use Rattle.std.specs.Prelude.{ℕ}
use Rattle.strm_types.specs.Modules.{put_among}
use Rattle.strm_frame.specs.Does.{Puts}
use Rattle.strm_frame.specs.Hands.{CanPut, HasRoom}
use Rattle.strm_frame.specs.Outboxes.{message_in}
use Rattle.strm_frame.specs.Stacks.{all_in, all_of, AreHeld}
use Rattle.strm_frame.proofs.Beside.{refilled}
use Rattle.strm_frame.proofs.stack.Stack.put.Goals as goal
use Rattle.strm_frame.specs.Standings.{standing_in, Fits, owns, keeps_of}

pub put_among-requires-clause-within : goal.put_among-requires-clause-within
put_among-requires-clause-within g c = let same = ap length c.as_mut_slice.ensures.value in omega arith

pub put_among-requires-clause-held : goal.put_among-requires-clause-held
put_among-requires-clause-held g c =
    let w = g.M.Module in
    subst (AreHeld (Fits w.IsHeld) owns (g.B.Blocks.value c.args.store.now)) (sym c.as_mut_slice.ensures.value) c.requires.held

pub put_among-requires-clause-can_put : goal.put_among-requires-clause-can_put
put_among-requires-clause-can_put g c =
    subst (λ xs. CanPut (g.B.Blocks.value c.args.store.now) (token c.args.message) (all_of (keeps_of g.M.Module.keeps) xs)) (sym c.as_mut_slice.ensures.value) c.requires.can_put

pub put_among-requires-clause-room : goal.put_among-requires-clause-room
put_among-requires-clause-room g c =
    let w = g.M.Module in
    let s = g.B.Blocks.value c.args.store.now in
    let m = message_in s (token c.args.message) in
    subst (λ xs. HasRoom s (slice_index_or (map (of_part (λ p. own_at (w.does p) c.args.to m)) (map (standing_in w.plain s) xs)) (c.args.to.at - 1) 0)) (sym c.as_mut_slice.ensures.value) c.requires.room

pub returns-clause-length : goal.returns-clause-length
returns-clause-length g c =
    let same = c.put_among.ensures.length ∙ ap length c.as_mut_slice.ensures.value in
    ap length (refilled c.args.self.now.modules.items c.put_among.new.modules same) ∙ same

pub returns-clause-does : goal.returns-clause-does
returns-clause-does g c =
    let w = g.M.Module in
    let s = g.B.Blocks.value c.args.store.now in
    let t = g.B.Blocks.value c.put_among.new.store in
    let n = token c.args.message in
    let m = message_in s n in
    let to = c.args.to in
    let before = c.as_mut_slice.ensures.value in
    let ys = c.put_among.new.modules in
    let same = refilled c.args.self.now.modules.items ys (c.put_among.ensures.length ∙ ap length before) in
    let said = λ (say : Standing w.Plain ℕ → _) (xs : List _). slice_index_or (map say (all_in (standing_in w.plain) s xs)) (to.at - 1) 0 in
    let These = λ (xs zs : List _).
    Puts (all_in (standing_in w.plain)) (AreHeld (Fits w.IsHeld) owns) (all_of owns) (all_of (keeps_of w.keeps)) s t xs zs (slice_index_or (map (of_part w.holds) (all_in (standing_in w.plain) s xs)) (to.at - 1) true) n
    (said (of_part (λ p. own_at (w.does p) to m)) xs)
    c.put_among.result c.args.told.now c.put_among.new.told (put_among (w.puts g.M.Procedures.by) (to.at - 1) to m (all_in (standing_in w.plain) s xs)) in
    subst (These c.args.self.now.modules.items) (sym same) (subst (λ xs. These xs ys) before c.put_among.ensures.does)
