-- Its text is that of its kind, with its queues where it has some.
use Rattle.strm_pair.proofs.Prelude.{◌≡◌, sym, ap, subst, ◌∙◌, None}
use Rattle.strm_pair.specs.Prelude.{StoreValue, Second, module_format, put, standing}
use Rattle.strm_image.specs.Modules.{alone}
use Rattle.strm_pair.specs.declared.modules.AnyModule.{AnyModule}
use Rattle.strm_pair.specs.AnyModules.{AnyStanding, IsKindHeld, kind_in, module_in}
use Rattle.strm_pair.proofs.images.modules.put_module.Goals as goal

-- one without queues stands by itself
stands-alone : (s : StoreValue) (x : AnyStanding) (m : AnyModule) → x.module ≡ m → x.queues ≡ None → alone (kind_in s m)
    ≡ module_in s x
stands-alone s x m is none = sym (ap (λ m. module_in s (standing m x.queues)) is ∙ ap (λ o. module_in s (standing m o)) none)

pub put_ldterm-requires : goal.put_ldterm-requires
put_ldterm-requires g c = record {
  held = record {
    queues = c.requires.held.queues;
    itself = subst (λ m. IsKindHeld (g.B.Blocks.value c.args.store.now) m c.args.any.now.queues) c.in-Ldterm.is c.requires.held.itself;
  };
}

pub returns-in-Ldterm : goal.returns-in-Ldterm
returns-in-Ldterm g c =
    let s = g.B.Blocks.value c.args.store.now in
    c.put_ldterm.ensures ∙ ap (λ m. put ((module_format Second).text (module_in s (standing m c.args.any.now.queues))) c.args.out) (sym c.in-Ldterm.is)

pub returns-in-Ptem : goal.returns-in-Ptem
returns-in-Ptem g c =
    let s = g.B.Blocks.value c.args.store.now in
    let none = subst (λ m. IsKindHeld s m c.args.any.now.queues) c.in-Ptem.is c.requires.held.itself in
    c.put_ptem_module.ensures ∙ ap (λ p. put ((module_format Second).text p) c.args.out) (stands-alone s c.args.any.now _ c.in-Ptem.is none)

pub returns-in-Pckt : goal.returns-in-Pckt
returns-in-Pckt g c =
    let s = g.B.Blocks.value c.args.store.now in
    let none = subst (λ m. IsKindHeld s m c.args.any.now.queues) c.in-Pckt.is c.requires.held.itself in
    c.put_pckt.ensures ∙ ap (λ p. put ((module_format Second).text p) c.args.out) (stands-alone s c.args.any.now _ c.in-Pckt.is none)

pub returns-in-Own : goal.returns-in-Own
returns-in-Own g c =
    let s = g.B.Blocks.value c.args.store.now in
    c.put_own.ensures ∙ ap (λ m. put ((module_format Second).text (module_in s (standing m c.args.any.now.queues))) c.args.out) (sym c.in-Own.is)
