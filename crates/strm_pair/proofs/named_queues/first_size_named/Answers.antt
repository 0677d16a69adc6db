-- A place that is found is one of a module's.
use Rattle.strm_pair.proofs.Prelude.{ℕ, arith, sym, ap, ◌∙◌, [], Option, length-map}
use Rattle.strm_pair.specs.Prelude.{messages_at, first_size}
use Rattle.strm_pair.specs.AnyModules.{module_in}
use Rattle.strm_pair.specs.Named.{at_found}
use Rattle.strm_pair.specs.Stacks.{modules_in}
use Rattle.strm_pair.proofs.named_queues.first_size_named.Goals as goal

pub first_size-requires : goal.first_size-requires
first_size-requires g c =
    let s = g.B.Blocks.value c.args.store.now in
    let inside = c.in-Some.ensures.inside s in
    (omega arith, (inside.0, (omega (arith, inside.1, length-map c.args.stack.now.modules.items (module_in s)), c.requires)))

pub returns-in-Some : goal.returns-in-Some
returns-in-Some g c =
    let s = g.B.Blocks.value c.args.store.now in
    let ms = modules_in s c.args.stack.now in
    c.first_size.ensures ∙ ap (λ (found : Option ℕ). first_size (at_found (messages_at c.args.way) [] ms found)) (sym (sym (c.place_named.ensures.place s) ∙ c.in-Some.is))

pub returns-in-None : goal.returns-in-None
returns-in-None g c =
    let s = g.B.Blocks.value c.args.store.now in
    let ms = modules_in s c.args.stack.now in
    ap (λ (found : Option ℕ). first_size (at_found (messages_at c.args.way) [] ms found)) (sym (sym (c.place_named.ensures.place s) ∙ c.in-None.is))
