use Rattle.std.proofs.Common.{rules, ◌≡◌, [], ◌∷◌, refl, sym, ap, subst}
use Rattle.std.specs.Prelude.{replicate}
use Rattle.atomic_table.specs.Table.{opening}
use Rattle.strm_locks.specs.Books.{Kept}
use Rattle.strm_locks.specs.Rules.{AddsUp, fresh}
use Rattle.strm_locks.proofs.Keeps.{starts}
use Rattle.strm_locks.proofs.lock.Lock.new.Goals as goal

pub new-requires : goal.new-requires
new-requires g c = let z = c.of-made.result.value.pair.limits in let is : c.push_reserved.new.self.items ≡ c.args.held ∷ [] = search rules in
    subst (λ l. AddsUp z (opening (replicate 16 0) l (fresh z))) (sym is) (starts z _ (replicate 16 0) (search rules) refl c.requires (sym (ap (λ (k : Kept). k.pair.limits) c.of-made.ensures)))
