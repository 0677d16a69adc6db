-- Nothing of a turn is under way at the modules, so that their stack keeps nothing in hand.
use Rattle.strm_pair.proofs.Prelude.{◌≡◌, ap, arith, sym, subst, ◌∙◌, Option, None, Some, IfSome, MatchOption, AllIdle}
use Rattle.strm_pair.specs.Prelude.{is_met, below_top}
use Rattle.std.specs.Prelude.{IfNone}
use Rattle.strm_pair.specs.declared.ends.StreamEnd.{StreamEnd}
use Rattle.strm_pair.specs.Pairs.{end_at, with_end}
use Rattle.strm_pair.specs.Taken.{TookNone, TookTop}
use Rattle.strm_pair.specs.declared.stacks.Taken.{Taken}
use Rattle.strm_pair.proofs.ShelfSteps.{in-side, in-with}
use Rattle.strm_pair.proofs.Sides.{modules-are, same-end, stack-there}
use Rattle.strm_pair.proofs.streams.Streams.take_off.Goals as goal
use Rattle.strm_pair.specs.ModuleStacks.{stack-idle}
use Rattle.strm_pair.specs.Stacks.{Stack, modules_in}

pub take_top-requires-clause-held : goal.take_top-requires-clause-held
take_top-requires-clause-held g c = rw c.get_mut-end.ensures.value (c.requires.rests.held.beside c.args.side).stack

pub take_top-requires-clause-rests : goal.take_top-requires-clause-rests
take_top-requires-clause-rests g c =
    let s = g.B.Blocks.value c.args.store.now in
    let p = c.args.self.now in
    let side = c.args.side in
    rw c.get_mut-end.ensures.value (stack-idle s (end_at side p).stack (c.requires.rests.held.beside side).stack (subst AllIdle (modules-are s p side) (c.requires.rests.idle side)))

pub take_top-requires-clause-room : goal.take_top-requires-clause-room
take_top-requires-clause-room g c = rw c.get_mut-end.ensures.value (omega (arith, c.requires.room, in-side c.args.self.now c.args.side))

pub returns-clause-streams : goal.returns-clause-streams
returns-clause-streams g c = (stack-there c.args.self.now c.args.side c.get_mut-end.result.now c.take_top.new.stack c.get_mut-end.ensures.value).1

pub returns-clause-none : goal.returns-clause-none
returns-clause-none g c = by c.take_top.result c.take_top.ensures.none
  where
    by : (o : Option Taken) → IfNone o (c.take_top.new.stack ≡ c.get_mut-end.result.now.stack)
        → IfNone o (with_end c.args.side (record c.get_mut-end.result.now { stack = c.take_top.new.stack }) c.args.self.now ≡ c.args.self.now)
    by None same =
        ap (λ (x : Stack). with_end c.args.side (record c.get_mut-end.result.now { stack = x }) c.args.self.now) same
        ∙ ap (λ e. with_end c.args.side e c.args.self.now) c.get_mut-end.ensures.value
        ∙ same-end c.args.side c.args.self.now
    by (Some taken) same = tt

pub returns-clause-shelf : goal.returns-clause-shelf
returns-clause-shelf g c =
    let p = c.args.self.now in
    let side = c.args.side in
    let e = record (end_at side p) { stack = c.take_top.new.stack } in
    let moved = rw c.get_mut-end.ensures.value at c.take_top.ensures.shelf in
    rw c.get_mut-end.ensures.value (record { tables = omega (arith, moved.tables, in-with p side e); room = moved.room })

pub returns-clause-took : goal.returns-clause-took
returns-clause-took g c =
    let s = g.B.Blocks.value c.args.store.now in
    let t = g.B.Blocks.value c.take_top.new.store in
    let x = (end_at c.args.side c.args.self.now).stack in
    let there = (stack-there c.args.self.now c.args.side c.get_mut-end.result.now c.take_top.new.stack c.get_mut-end.ensures.value).0 in
    subst (λ (y : Stack). MatchOption c.take_top.result (TookNone s t x y c.args.told.now c.take_top.new.told) (λ taken. TookTop c.args.side c.args.rule s t x y c.args.told.now c.take_top.new.told taken)) (sym there)
    (rw c.get_mut-end.ensures.value at c.take_top.ensures.took)

pub returns-clause-met : goal.returns-clause-met
returns-clause-met g c =
    let s = g.B.Blocks.value c.args.store.now in
    subst (λ ms. IfSome c.take_top.result (λ taken. taken.met ≡ is_met c.args.seeking (below_top ms)))
    (ap (λ (e : StreamEnd). modules_in s e.stack) c.get_mut-end.ensures.value ∙ sym (modules-are s c.args.self.now c.args.side))
    c.take_top.ensures.met
