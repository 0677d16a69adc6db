use Rattle.std.proofs.Common.{sym, ap, subst}
use Rattle.strm_locks.specs.Reports.{AreAt}
use Rattle.strm_locks.specs.Turns.{Posted}
use Rattle.strm_locks.proofs.Rows.{meets_own, post_at, within}
use Rattle.strm_locks.proofs.system.System.visit.Goals as goal

pub returns-clause-own : goal.returns-clause-own
returns-clause-own g c = let posts = c.worker.inside.posts.items in let post = c.index_mut-post.result.now in let locks = c.args.self.now.locks in
    let own = subst (AreAt locks) (sym c.worker.view_is) c.requires.own in
    let at = post_at posts c.args.at.pair post (within locks posts c.args.at.pair own c.requires.pair) c.index_mut-post.ensures.value in
    meets_own locks posts c.args.at.pair post c.visit.new.post own at (ap (λ (x : Posted). x.lock) c.visit.ensures.met)
