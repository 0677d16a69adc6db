-- A place that is found is one of a module's.
use Rattle.strm_pair.proofs.Prelude.{ℕ, arith, sym, ap, ◌∙◌, [], length, Option, length-map}
use Rattle.strm_pair.specs.Prelude.{messages_at, bytes_of}
use Rattle.strm_pair.specs.AnyModules.{module_in}
use Rattle.strm_pair.specs.Named.{at_found}
use Rattle.strm_pair.specs.Stacks.{modules_in}
use Rattle.strm_pair.proofs.named_queues.sizes_named.Goals as goal

pub sizes-requires : goal.sizes-requires
sizes-requires g c =
    let s = g.B.Blocks.value c.args.store.now in
    let inside = c.in-Some.ensures.inside s in
    (omega arith, (inside.0, (omega (arith, inside.1, length-map c.args.stack.now.modules.items (module_in s)), c.requires)))

pub returns-in-Some-clause-messages : goal.returns-in-Some-clause-messages
returns-in-Some-clause-messages g c =
    let s = g.B.Blocks.value c.args.store.now in
    let ms = modules_in s c.args.stack.now in
    c.sizes.ensures.messages ∙ ap (λ (found : Option ℕ). length (at_found (messages_at c.args.way) [] ms found)) (sym (sym (c.place_named.ensures.place s) ∙ c.in-Some.is))

pub returns-in-None-clause-messages : goal.returns-in-None-clause-messages
returns-in-None-clause-messages g c =
    let s = g.B.Blocks.value c.args.store.now in
    let ms = modules_in s c.args.stack.now in
    ap (λ (found : Option ℕ). length (at_found (messages_at c.args.way) [] ms found)) (sym (sym (c.place_named.ensures.place s) ∙ c.in-None.is))

pub returns-in-Some-clause-bytes : goal.returns-in-Some-clause-bytes
returns-in-Some-clause-bytes g c =
    let s = g.B.Blocks.value c.args.store.now in
    let ms = modules_in s c.args.stack.now in
    c.sizes.ensures.bytes ∙ ap (λ (found : Option ℕ). bytes_of (at_found (messages_at c.args.way) [] ms found)) (sym (sym (c.place_named.ensures.place s) ∙ c.in-Some.is))

pub returns-in-None-clause-bytes : goal.returns-in-None-clause-bytes
returns-in-None-clause-bytes g c =
    let s = g.B.Blocks.value c.args.store.now in
    let ms = modules_in s c.args.stack.now in
    ap (λ (found : Option ℕ). bytes_of (at_found (messages_at c.args.way) [] ms found)) (sym (sym (c.place_named.ensures.place s) ∙ c.in-None.is))
