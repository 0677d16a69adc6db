use Rattle.std.proofs.Common.{ap, ◌∙◌}
use Rattle.strm_locks.specs.Books.{LockId}
use Rattle.strm_locks.proofs.lock.Lock.audit.Goals as goal

pub returns-clause-sizes : goal.returns-clause-sizes
returns-clause-sizes g c = let a = c.audited.ensures.found in (a.pair, a.met, a.made, a.sized ∙ ap (λ (l : LockId). l.sizes) c.audited.ensures.here)

pub returns-clause-legal : goal.returns-clause-legal
returns-clause-legal g c = let a = c.audited.ensures.found in (a.pair, a.met, a.made, a.shows.sound.legal)

pub returns-clause-stands : goal.returns-clause-stands
returns-clause-stands g c = let a = c.audited.ensures.found in (a.pair, a.met, a.made, a.shows.sound.replayed)

pub returns-clause-ordered : goal.returns-clause-ordered
returns-clause-ordered g c = let a = c.audited.ensures.found in (a.pair, a.met, a.made, a.shows.sound.ordered)

pub returns-clause-blocks : goal.returns-clause-blocks
returns-clause-blocks g c = let a = c.audited.ensures.found in (a.pair, a.met, a.made, a.shows.sound.blocks)

pub returns-clause-balanced : goal.returns-clause-balanced
returns-clause-balanced g c = let a = c.audited.ensures.found in (a.pair, a.met, a.made, a.shows.sound.balanced)

pub returns-clause-gone : goal.returns-clause-gone
returns-clause-gone g c = let a = c.audited.ensures.found in (a.pair, a.met, a.made, a.shows.sound.gone)

pub returns-clause-once : goal.returns-clause-once
returns-clause-once g c = let a = c.audited.ensures.found in (a.pair, a.met, a.made, a.shows.sound.once)

pub returns-clause-ledgers : goal.returns-clause-ledgers
returns-clause-ledgers g c = let a = c.audited.ensures.found in (a.pair, a.met, a.made, (a.shows.ms, a.shows.sm))

pub returns-clause-book : goal.returns-clause-book
returns-clause-book g c = let a = c.audited.ensures.found in (a.pair, a.met, a.made, a.book)

pub returns-clause-ends : goal.returns-clause-ends
returns-clause-ends g c = let a = c.audited.ensures.found in (a.pair, a.met, a.made, a.ends)
