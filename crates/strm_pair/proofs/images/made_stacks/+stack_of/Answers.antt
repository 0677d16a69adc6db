-- The one on top stands behind those below it.
use Rattle.strm_pair.proofs.Prelude.{◌≤◌, ◌+◌, ◌*◌, ◌∙◌, List, ◌∷◌, length, ap, arith, subst, sum_by, sum_by-cons, sym}
use Rattle.strm_pair.specs.Prelude.{HasRoom, ModuleText, module_now, names_now}
use Rattle.std.proofs.lemmas.List.{nil_from_length}
use Rattle.strm_laws.proofs.StackOnce.{pop-once}
use Rattle.strm_laws.specs.Stacked.{module_name}
use Rattle.strm_pair.specs.AnyModules.{AnyStanding}
use Rattle.strm_pair.specs.Placing.{AreModuleTexts, AreStacked, IsFreeFor, IsPlaced, module_blocks, text_pair}
use Rattle.strm_pair.specs.Shelves.{tables_on}
use Rattle.strm_pair.specs.Shows.{one_pair}
use Rattle.strm_pair.proofs.StacksMade.{free-next, room-next, room-rest, stacked-length, stacked-none, stacked-top}
use Rattle.strm_pair.proofs.images.made_stacks.+stack_of.Goals as goal

pub returns-in_default : goal.returns-in_default
returns-in_default g t c =
    let s = g.B.Blocks.value c.args.store.now in
    let none = nil_from_length c.args.texts.now c.in_default.ensures.cases in
    subst (λ ms. AreStacked s s c.args.first c.args.shelf.now c.args.shelf.now ms c.new.result.modules.items) (sym none)
    (stacked-none s c.args.first c.args.shelf.now c.new.result.modules.items c.new.ensures c.requires.empty)

-- what the text of those below has
rest-good : (m : ModuleText) (ms : List ModuleText) → AreModuleTexts (m ∷ ms) → AreModuleTexts ms
rest-good m ms good = record {
  few = omega (arith, good.few);
  each = good.each.1;
  names = pop-once (module_name (module_now m)) (names_now ms) good.names;
}

pub stack_of-stack-requires : goal.stack_of-stack-requires
stack_of-stack-requires g t c κs within =
    let s = g.B.Blocks.value c.args.store.now in
    let is = c.in-Some.ensures.cases.0 in
    let m = c.in-Some.text.now in
    let ms = c.in-Some.rest.now in
    let good = rest-good m ms (subst AreModuleTexts is c.requires.good) in
    let room = room-rest s m ms (subst (λ ns. HasRoom s (sum_by module_blocks ns)) is c.requires.room) in
    let less = ap length is in
    (omega (arith, less), (within, (c.requires.first, (c.requires.empty, (omega (arith, c.requires.shelf, ap (λ ns. sum_by text_pair ns) is, sum_by-cons text_pair m ms), (good, room))))))

pub pairs_among-pairs-requires : goal.pairs_among-pairs-requires
pairs_among-pairs-requires g t c =
    let good = subst AreModuleTexts c.in-Some.ensures.cases.0 c.requires.good in
    omega (arith, ap length c.as_slice.ensures.value, stacked-length c.stack_of-stack.ensures, good.few)

pub module_of-module-requires-clause-free : goal.module_of-module-requires-clause-free
module_of-module-requires-clause-free g t c = λ has.
    let u = g.B.Blocks.value c.stack_of-stack.new.store in
    let is = c.in-Some.ensures.cases.0 in
    let good = subst AreModuleTexts is c.requires.good in
    let enough = subst (λ ms. sum_by text_pair ms ≤ tables_on c.args.shelf.now) is c.requires.shelf in
    let many = c.pairs_among-pairs.ensures.pairs ∙ ap (λ ys. sum_by (λ (y : AnyStanding). one_pair y.queues) ys) c.as_slice.ensures.value in
    subst (λ n. IsFreeFor u (c.args.first + 2 * n) c.stack_of-stack.new.shelf) (sym many) (free-next c.stack_of-stack.ensures c.in-Some.text.now c.requires.first good.few enough has)

pub module_of-module-requires-clause-good : goal.module_of-module-requires-clause-good
module_of-module-requires-clause-good g t c = (subst AreModuleTexts c.in-Some.ensures.cases.0 c.requires.good).each.0

pub module_of-module-requires-clause-room : goal.module_of-module-requires-clause-room
module_of-module-requires-clause-room g t c =
    let s = g.B.Blocks.value c.args.store.now in
    let u = g.B.Blocks.value c.stack_of-stack.new.store in
    room-next s u c.in-Some.text.now c.in-Some.rest.now (subst (λ ms. HasRoom s (sum_by module_blocks ms)) c.in-Some.ensures.cases.0 c.requires.room) c.stack_of-stack.ensures.spent

pub insert-requires : goal.insert-requires
insert-requires g t c =
    let good = subst AreModuleTexts c.in-Some.ensures.cases.0 c.requires.good in
    let long = stacked-length c.stack_of-stack.ensures in
    (omega arith, (omega arith, omega (arith, long, good.few)))

pub returns : goal.returns
returns g t c =
    let s = g.B.Blocks.value c.args.store.now in
    let u = g.B.Blocks.value c.stack_of-stack.new.store in
    let v = g.B.Blocks.value c.module_of-module.new.store in
    let is = c.in-Some.ensures.cases.0 in
    let m = c.in-Some.text.now in
    let ms = c.in-Some.rest.now in
    let good = subst AreModuleTexts is c.requires.good in
    let many = c.pairs_among-pairs.ensures.pairs ∙ ap (λ ys. sum_by (λ (y : AnyStanding). one_pair y.queues) ys) c.as_slice.ensures.value in
    let placed = subst (λ n. IsPlaced u v (c.args.first + 2 * n) c.stack_of-stack.new.shelf c.module_of-module.new.shelf m c.module_of-module.result) many c.module_of-module.ensures in
    subst (λ ns. AreStacked s v c.args.first c.args.shelf.now c.module_of-module.new.shelf ns c.insert.new.self.items) (sym is)
    (subst (λ xs. AreStacked s v c.args.first c.args.shelf.now c.module_of-module.new.shelf (m ∷ ms) xs) (sym c.insert.ensures.items)
    (stacked-top c.stack_of-stack.ensures placed good.few))
