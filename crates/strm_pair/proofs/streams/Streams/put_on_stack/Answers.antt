-- The stack of the side takes the message, as its put says.
use Rattle.strm_pair.proofs.Prelude.{length, ap, sym, subst, ◌∙◌, arith, length-map}
use Rattle.strm_pair.specs.Prelude.{at_place, module_takes, HasRoom, message_in, token}
use Rattle.strm_pair.specs.AnyModules.{module_in}
use Rattle.strm_pair.specs.declared.ends.StreamEnd.{StreamEnd}
use Rattle.strm_pair.specs.Framing.{kept-parts}
use Rattle.strm_pair.specs.Pairs.{end_at}
use Rattle.strm_pair.specs.PutBy.{StackTakes}
use Rattle.strm_pair.specs.Stacks.{modules_in, stack_keeps}
use Rattle.strm_pair.proofs.Sides.{modules-are, stack-there}
use Rattle.strm_pair.proofs.streams.Streams.put_on_stack.Goals as goal

pub put-requires : goal.put-requires
put-requires g c =
    let s = g.B.Blocks.value c.args.store.now in
    let p = c.args.self.now in
    let to = c.args.to in
    let is = c.get_mut.ensures.value in
    let few = length-map c.get_mut.result.now.stack.modules.items (module_in s) in
    let same = modules-are s p to.side ∙ ap (λ (e : StreamEnd). modules_in s e.stack) (sym is) in (
      omega arith,
      (
        c.requires.inside,
        (
          omega (arith, c.requires.within, few, ap length same),
          (
            rw is (c.requires.may.beside to.side).stack,
            (
              record { apart = λ i. omega (arith, c.requires.may.can_put.apart i, kept-parts to.side p i, ap (λ (e : StreamEnd). stack_keeps e.stack i) is) },
              (
                c.requires.may.chain,
                (
                  subst (λ ms. HasRoom s (at_place (module_takes to (message_in s (token c.args.message))) 0 to.at ms)) same c.requires.room,
                  c.requires.wide,
                ),
              ),
            ),
          ),
        ),
      ),
    )

pub returns-clause-streams : goal.returns-clause-streams
returns-clause-streams g c = (stack-there c.args.self.now c.args.to.side c.get_mut.result.now c.put.new.self c.get_mut.ensures.value).1

pub returns-clause-takes : goal.returns-clause-takes
returns-clause-takes g c =
    let s = g.B.Blocks.value c.args.store.now in
    let t = g.B.Blocks.value c.put.new.store in
    let x = (end_at c.args.to.side c.args.self.now).stack in
    let e = rw c.get_mut.ensures.value at c.put.ensures.does in
    subst (λ y. StackTakes g.M.Behaves.does s t x y (token c.args.message) c.args.to c.put.result c.args.told.now c.put.new.told)
    (sym (stack-there c.args.self.now c.args.to.side c.get_mut.result.now c.put.new.self c.get_mut.ensures.value).0) e
