use Rattle.std.proofs.Common.{rules, ◌≡◌, length, ap, sym, ◌∙◌}
use Rattle.std.proofs.lemmas.List.{length-map, length-replicate}
use Rattle.std.specs.Prelude.{map, replicate}
use Rattle.strm_locks.specs.Books.{LockId}
use Rattle.strm_system.proofs.making.system.Goals as goal

pub returns-in-Ok : goal.returns-in-Ok
returns-in-Ok g c = let locks = c.in-Ok.made.0.locks in
    let sizes : map (λ (l : LockId). l.sizes) locks ≡ replicate c.args.pairs c.args.sizes = c.in-Ok.ensures.pairs ∙ c.in_ok-all.ensures.2 in (
      c.if-not-are_sizes.ensures.0 (search rules),
      sym (length-map locks (λ (l : LockId). l.sizes)) ∙ ap length sizes ∙ length-replicate c.args.pairs c.args.sizes,
      sizes,
      search rules,
    )
