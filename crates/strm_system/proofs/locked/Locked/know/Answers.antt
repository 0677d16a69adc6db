use Rattle.std.proofs.Common.{ℕ, ◌≡◌, ◌<◌, ◌^◌, List, length, subst, ap, ◌∙◌}
use Rattle.std.specs.Prelude.{slice_index_or}
use Rattle.strm_types.specs.declared.names.Dir.TheVariants.{MasterToSlave, SlaveToMaster}
use Rattle.strm_types.specs.Names.{direction_of, head_of}
use Rattle.strm_types.specs.Rules.{fates_of}
use Rattle.strm_system.proofs.locked.Locked.know.Goals as goal

pub returns-clause-counts : goal.returns-clause-counts
returns-clause-counts g c MasterToSlave =
    let e : c.of-master.result.now ≡ fates_of MasterToSlave c.args.self.now.pair.fates = c.of-master.ensures ∙ ap (λ f. fates_of MasterToSlave f) c.fates.ensures in
    (subst (λ (xs : List ℕ). 0 < length xs) e c.first.ensures.some, subst (λ (xs : List ℕ). slice_index_or xs 0 0 < 2 ^ 64) e c.first.ensures.small)
returns-clause-counts g c SlaveToMaster =
    let e : c.of-slave.result.now ≡ fates_of SlaveToMaster c.args.self.now.pair.fates = c.of-slave.ensures ∙ ap (λ f. fates_of SlaveToMaster f) c.fates-2.ensures in
    (subst (λ (xs : List ℕ). 0 < length xs) e c.first-2.ensures.some, subst (λ (xs : List ℕ). slice_index_or xs 0 0 < 2 ^ 64) e c.first-2.ensures.small)

pub returns-clause-agrees : goal.returns-clause-agrees
returns-clause-agrees g c = (c.audit.ensures.balanced (direction_of (head_of c.args.side))).agree
