-- The stack of the side serves, as its call says.
use Rattle.strm_pair.proofs.Prelude.{◌-◌, length, ap, sym, subst, ◌∙◌, arith, length-map, HoldsAt}
use Rattle.strm_pair.specs.Prelude.{at_place, HoldsOfPart, stream, HasRoom}
use Rattle.strm_pair.specs.AnyModules.{MayServe, module_in, turn_cost}
use Rattle.strm_pair.specs.declared.ends.StreamEnd.{StreamEnd}
use Rattle.strm_pair.specs.Framing.{kept-parts}
use Rattle.strm_pair.specs.ModuleServed.{StackServes}
use Rattle.strm_pair.specs.Pairs.{end_at, state_in}
use Rattle.strm_pair.specs.Stacks.{modules_in, stack_keeps}
use Rattle.strm_pair.proofs.ServeSteps.{may-serve, on-true}
use Rattle.strm_pair.proofs.Sides.{modules-are, stack-there}
use Rattle.strm_pair.proofs.streams.Streams.serve_at.Goals as goal

pub serve-requires : goal.serve-requires
serve-requires g c =
    let s = g.B.Blocks.value c.args.store.now in
    let p = c.args.self.now in
    let here = c.args.here in
    let is = c.get_mut.ensures.value in
    let few = length-map c.get_mut.result.now.stack.modules.items (module_in s) in
    let same = modules-are s p here.side ∙ ap (λ (e : StreamEnd). modules_in s e.stack) (sym is) in
    let turn = subst (λ ms. HoldsAt (HoldsOfPart (MayServe here.way c.args.again)) ms (here.at - 1)) same
    (may-serve here.way c.args.again (here.at - 1) (stream here.side (state_in s p)).modules (omega (arith, c.requires.may.inside, c.requires.may.within)) c.requires.may.begins) in (
      omega arith,
      (
        c.requires.may.inside,
        (
          omega (arith, c.requires.may.within, few, ap length same),
          (
            rw is (c.requires.may.beside here.side).stack,
            (
              turn,
              (
                record {
                  apart = λ i. omega (arith, c.requires.may.hand i, kept-parts here.side p i, ap (λ (e : StreamEnd). stack_keeps e.stack i) is);
                },
                (
                  subst (λ ms. HasRoom s (at_place (turn_cost here c.args.again) 0 here.at ms)) same c.requires.may.room,
                  c.requires.wide,
                ),
              ),
            ),
          ),
        ),
      ),
    )

pub returns-clause-streams : goal.returns-clause-streams
returns-clause-streams g c = (stack-there c.args.self.now c.args.here.side c.get_mut.result.now c.serve.new.self c.get_mut.ensures.value).1

pub returns-clause-serves : goal.returns-clause-serves
returns-clause-serves g c =
    let s = g.B.Blocks.value c.args.store.now in
    let t = g.B.Blocks.value c.serve.new.store in
    let x = (end_at c.args.here.side c.args.self.now).stack in
    let e = rw c.get_mut.ensures.value at c.serve.ensures.does in
    subst (λ y. StackServes g.M.Behaves.does s t x y c.args.here c.args.again c.serve.result c.args.told.now c.serve.new.told)
    (sym (stack-there c.args.self.now c.args.here.side c.get_mut.result.now c.serve.new.self c.get_mut.ensures.value).0)
    (record { state = e.state; notes = e.notes; sent = e.sent; tells = e.told; bytes = e.bytes; asks = e.again; over = on-true c.serve.result.stopped (λ stop. stop.1) e.stopped; few = on-true c.serve.result.stopped (λ stop. stop.0) e.stopped; some = e.some; ends = e.stops; made = e.made; held = e.held; own = e.own; chains = e.chains; hands = e.hands; room = e.room; pool = e.pool })
