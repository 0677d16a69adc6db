use Rattle.std.proofs.Common.{rules, sym, ap, ◌∙◌}
use Rattle.strm_locks.specs.Books.{LockId}
use Rattle.strm_locks.proofs.Keeps.{passes}
use Rattle.strm_locks.proofs.lock.Lock.pass_by.Goals as goal

pub store-requires : goal.store-requires
store-requires g c = let t = c.requires.lock in (search rules, search rules, passes _ _ _ _ t.0 (search rules) c.requires.held t.1 (t.3 ∙ sym (ap (λ (l : LockId). l.sizes) c.self.view_is)) t.2)
