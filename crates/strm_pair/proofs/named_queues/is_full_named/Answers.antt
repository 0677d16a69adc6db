-- A place that is found is one of a module's.
use Rattle.strm_pair.proofs.Prelude.{ℕ, arith, sym, ap, ◌∙◌, false, Option, length-map}
use Rattle.strm_types.specs.ModuleQueues.{full_at}
use Rattle.strm_pair.specs.AnyModules.{module_in}
use Rattle.strm_pair.specs.Named.{at_found}
use Rattle.strm_pair.specs.Stacks.{modules_in}
use Rattle.strm_pair.proofs.named_queues.is_full_named.Goals as goal

pub is_full-requires : goal.is_full-requires
is_full-requires g c =
    let s = g.B.Blocks.value c.args.store.now in
    let inside = c.in-Some.ensures.inside s in
    (omega arith, (inside.0, (omega (arith, inside.1, length-map c.args.stack.now.modules.items (module_in s)), c.requires.held)))

pub returns-in-Some : goal.returns-in-Some
returns-in-Some g c =
    let s = g.B.Blocks.value c.args.store.now in
    let ms = modules_in s c.args.stack.now in
    c.is_full.ensures ∙ ap (λ (found : Option ℕ). at_found (full_at c.args.way c.args.band.0) false ms found) (sym (sym (c.place_named.ensures.place s) ∙ c.in-Some.is))

pub returns-in-None : goal.returns-in-None
returns-in-None g c =
    let s = g.B.Blocks.value c.args.store.now in
    let ms = modules_in s c.args.stack.now in
    ap (λ (found : Option ℕ). at_found (full_at c.args.way c.args.band.0) false ms found) (sym (sym (c.place_named.ensures.place s) ∙ c.in-None.is))
