use Rattle.std.proofs.Common.{◌∷◌, [], ◌++◌, sym, ap, ◌∙◌, subst}
use Rattle.strm_locks.specs.Sounds.{IsSoundAt}
use Rattle.strm_locks.specs.Turns.{IsVisit, Posted}
use Rattle.strm_locks.proofs.lock.Lock.turn.Goals as goal

pub returns : goal.returns
returns g c = let m = c.visit-made.ensures in subst (IsVisit c.args.self.now) (sym c.of.ensures) (
  ap (λ (x : Posted). x.lock) m.met ∙ ap (λ (x : Posted). x.lock) c.post-post.ensures,
  m.found,
  m.left,
  ap (λ (x : Posted). x.met) m.met ∙ ap (λ (x : Posted). x.met ++ m.found ∷ [] ++ m.left ∷ []) c.post-post.ensures,
  subst (λ (x : Posted). IsSoundAt x.lock m.found) c.post-post.ensures m.sound,
  m.visits,
)
