-- What is told is the list that the pair holds.
use Rattle.std.proofs.Common.{rules}
use Rattle.strm_pair.specs.BaseTexts.{start_in}
use Rattle.strm_pair.specs.Pairs.{state_in}
use Rattle.strm_pair.proofs.EnabledKnown.{enabled-known}
use Rattle.strm_pair.proofs.Steps.{kept-base}
use Rattle.strm_pair.proofs.pair.Pair.enabled.Goals as goal

pub returns-clause-names : goal.returns-clause-names
returns-clause-names g c = search rules steps 100000

pub returns-clause-queues : goal.returns-clause-queues
returns-clause-queues g c = c.as_slice.ensures.queues

pub returns-clause-known : goal.returns-clause-known
returns-clause-known g c =
    let K = g.M.Behaves.does in
    let p = c.self.inside in
    let s = g.B.Blocks.value p.store in
    let kept = c.self.invariant.kept in
    let is = kept-base K s p.streams p.journal (start_in p.base) p.limits p.fates kept in
    rw c.as_slice.ensures.names (enabled-known K (state_in s p.streams) kept.known p.streams.enabled is.restorable.enabled.there)
