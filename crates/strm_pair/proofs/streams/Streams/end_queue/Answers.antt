-- The modules keep their names, and the other side stays.
use Rattle.strm_pair.proofs.Prelude.{◌+◌, ◌-◌, length, map, ap, sym, ◌∙◌, arith, length-map, set-all, queue-names}
use Rattle.strm_pair.specs.Prelude.{turn_ended, other, module_name}
use Rattle.strm_pair.specs.AnyModules.{module_in}
use Rattle.strm_pair.specs.declared.ends.StreamEnd.{StreamEnd}
use Rattle.strm_pair.specs.Framing.{kept-parts, kept-with}
use Rattle.strm_pair.specs.Lists.{first_list}
use Rattle.strm_pair.specs.Pairs.{end_at}
use Rattle.strm_pair.specs.Streams.{IsSide}
use Rattle.strm_pair.proofs.Puttings.{side-changed}
use Rattle.strm_pair.proofs.Sides.{modules-are}
use Rattle.strm_pair.proofs.streams.Streams.end_queue.Goals as goal
use Rattle.strm_pair.specs.Stacks.{modules_in, stack_keeps}

pub end_turn-requires : goal.end_turn-requires
end_turn-requires g c =
    let s = g.B.Blocks.value c.args.store.now in
    let is = c.get_mut.ensures.value in
    let few = length-map c.get_mut.result.now.stack.modules.items (module_in s) in
    let same = modules-are s c.args.self.now c.args.here.side ∙ ap (λ (e : StreamEnd). modules_in s e.stack) (sym is) in
    (omega arith, (c.requires.inside, (omega (arith, c.requires.within, few, ap length same), rw is (c.requires.beside c.args.here.side).stack)))

pub returns-clause-keeps : goal.returns-clause-keeps
returns-clause-keeps g c =
    let p = c.args.self.now in
    let side = c.args.here.side in
    let r = c.get_mut.result.now in
    λ i. kept-with side (record r { stack = c.end_turn.new.self }) p i
    ∙ ap (λ n. n + stack_keeps (end_at (other side) p).stack i) (c.end_turn.ensures.does.keeps_same i ∙ ap (λ (e : StreamEnd). stack_keeps e.stack i) c.get_mut.ensures.value)
    ∙ sym (kept-parts side p i)

pub returns-clause-beside : goal.returns-clause-beside
returns-clause-beside g c =
    let s = g.B.Blocks.value c.args.store.now in
    let p = c.args.self.now in
    let side = c.args.here.side in
    let end = end_at side p in
    let e = rw c.get_mut.ensures.value at c.end_turn.ensures.does in
    rw c.get_mut.ensures.value
    (set-all (λ sd x. IsSide s (first_list sd) x) side (record end { stack = c.end_turn.new.self }) p.ends
    (side-changed s (first_list side) end c.end_turn.new.self (c.requires.beside side) e.held e.owns_same
    (ap (map module_name) e.state ∙ queue-names c.args.here.way (turn_ended c.args.took) (c.args.here.at - 1) (modules_in s end.stack)))
    c.requires.beside)
