-- The module stands on its side's stack.
use Rattle.strm_pair.proofs.Prelude.{ap, arith, sym, ◌∙◌, Some}
use Rattle.strm_pair.specs.Prelude.{may_stand, named_by}
use Rattle.strm_pair.specs.declared.ends.StreamEnd.{StreamEnd}
use Rattle.strm_pair.specs.Pairs.{end_at}
use Rattle.strm_pair.proofs.Puttings.{put-state, held-put, pushed-once}
use Rattle.strm_pair.proofs.ShelfSteps.{in-with}
use Rattle.strm_pair.proofs.Sides.{modules-are}
use Rattle.strm_pair.proofs.streams.Streams.put_on.Goals as goal
use Rattle.strm_pair.specs.Stacks.{modules_in}

pub push_named-requires-clause-may_stand : goal.push_named-requires-clause-may_stand
push_named-requires-clause-may_stand g c =
    let K = g.M.Behaves.does in
    let s = g.B.Blocks.value c.args.store.now in
    ap (λ ms. may_stand (named_by K (Some c.args.name)) ms)
    (ap (λ (e : StreamEnd). modules_in s e.stack) c.get_mut-end.ensures.value ∙ sym (modules-are s c.args.self.now c.args.side)) ∙
    c.requires.may_stand

pub push_named-requires-clause-held : goal.push_named-requires-clause-held
push_named-requires-clause-held g c = rw c.get_mut-end.ensures.value (c.requires.held.beside c.args.side).stack

pub push_named-requires-clause-lists : goal.push_named-requires-clause-lists
push_named-requires-clause-lists g c = rw (c.get_mut-end.ensures.value, c.first_list.ensures.list) (c.requires.held.beside c.args.side).lists

pub returns-clause-state : goal.returns-clause-state
returns-clause-state g c =
    let K = g.M.Behaves.does in
    rw c.get_mut-end.ensures.value
    (put-state (g.B.Blocks.value c.args.store.now) c.args.self.now c.args.side c.push_named.new.stack (named_by K (Some c.args.name)) (rw c.get_mut-end.ensures.value at c.push_named.ensures.modules))

pub returns-clause-held : goal.returns-clause-held
returns-clause-held g c =
    let K = g.M.Behaves.does in
    let s = g.B.Blocks.value c.args.store.now in
    let p = c.args.self.now in
    let side = c.args.side in
    let y = c.push_named.new.stack in
    let e = rw (c.get_mut-end.ensures.value, c.first_list.ensures.list) at c.push_named.ensures in
    let may = ap (λ ms. may_stand (named_by K (Some c.args.name)) ms) (sym (modules-are s p side)) ∙ c.requires.may_stand in
    rw c.get_mut-end.ensures.value
    (held-put s p side y c.requires.held e.held (pushed-once (named_by K (Some c.args.name)) (modules_in s y) (modules_in s (end_at side p).stack) may e.modules (c.requires.held.beside side).once) e.lists)

pub returns-clause-shelf : goal.returns-clause-shelf
returns-clause-shelf g c =
    let p = c.args.self.now in
    let side = c.args.side in
    let e = record (end_at side p) { stack = c.push_named.new.stack } in
    let moved = rw c.get_mut-end.ensures.value at c.push_named.ensures.shelf in
    rw c.get_mut-end.ensures.value (record { tables = omega (arith, moved.tables, in-with p side e); room = moved.room })
