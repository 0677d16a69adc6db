-- What a pair's invariant says of the plain state that its blocks stand for, and of its journal.
use Rattle.strm_pair.proofs.Prelude.{◌≡◌, subst}
use Rattle.strm_pair.specs.Prelude.{plain, told_by, PairState, Restorable, AreOrdered, messages_in, replay, IsLegal}
use Rattle.std.proofs.Common.{if◌then◌else◌}
use Rattle.strm_types.specs.Cells.{tagged}
use Rattle.strm_laws.specs.Based.{based}
use Rattle.strm_laws.specs.Ledgers.{Balanced, is_booked, own_places_of, places_of}
use Rattle.strm_laws.proofs.BaseSteps.{restorable-unread}
use Rattle.strm_laws.proofs.JournalPlaces.{one-place, own-place}
use Rattle.strm_laws.proofs.RefusedForgets.{legal-from}
use Rattle.strm_pair.specs.BaseTexts.{start_in}
use Rattle.strm_pair.specs.Pairs.{journal_of}
use Rattle.strm_pair.specs.Pool.{IsPoolOf}
use Rattle.strm_pair.proofs.Shown.{free-shown}
use Rattle.strm_pair.proofs.Steps.{kept-base, led-idle}
use Rattle.strm_pair.proofs.pair.Pair.audit.Goals as goal

pub returns-clause-ordered : goal.returns-clause-ordered
returns-clause-ordered g c =
    let K = g.M.Behaves.does in
    let p = c.self.inside in
    let s = g.B.Blocks.value p.store in
    subst (λ (v : PairState). AreOrdered v.state) c.self.view_is (kept-base K s p.streams p.journal (start_in p.base) p.limits p.fates c.self.invariant.kept).ordered

pub returns-clause-restorable : goal.returns-clause-restorable
returns-clause-restorable g c =
    let K = g.M.Behaves.does in
    let p = c.self.inside in
    let s = g.B.Blocks.value p.store in
    subst (λ (v : PairState). Restorable v.state) c.self.view_is (kept-base K s p.streams p.journal (start_in p.base) p.limits p.fates c.self.invariant.kept).restorable

pub returns-clause-blocks : goal.returns-clause-blocks
returns-clause-blocks g c =
    let p = c.self.inside in
    let s = g.B.Blocks.value p.store in
    let idle = led-idle g.M.Behaves.does s p.streams p.journal (start_in p.base) p.limits p.fates c.self.invariant.kept in
    subst (λ (v : PairState). IsPoolOf (messages_in v.state) v.limits v.free) c.self.view_is
    (free-shown s p.streams c.self.invariant.kept.held idle p.limits c.audit.ensures c.self.invariant.kept.mblks c.self.invariant.kept.dblks)

pub returns-clause-replayed : goal.returns-clause-replayed
returns-clause-replayed g c =
    subst (λ (v : PairState). v.state ≡ replay g.M.Behaves.does plain v.base v.journal) c.self.view_is c.self.invariant.kept.replayed

pub returns-clause-legal : goal.returns-clause-legal
returns-clause-legal g c = subst (λ (v : PairState). IsLegal g.M.Behaves.does plain v.base v.journal) c.self.view_is c.self.invariant.kept.legal

pub returns-clause-told : goal.returns-clause-told
returns-clause-told g c =
    subst (λ (v : PairState). v.fates ≡ told_by g.M.Behaves.does plain v.base v.journal v.base_fates) c.self.view_is c.self.invariant.kept.told

pub returns-clause-balanced : goal.returns-clause-balanced
returns-clause-balanced g c dir =
    let K = g.M.Behaves.does in
    let p = c.self.inside in
    let s = g.B.Blocks.value p.store in
    subst (λ (v : PairState). Balanced dir v.state v.fates) c.self.view_is ((kept-base K s p.streams p.journal (start_in p.base) p.limits p.fates c.self.invariant.kept).balanced dir)

pub returns-clause-once : goal.returns-clause-once
returns-clause-once g c = λ o.
    let K = g.M.Behaves.does in
    let p = c.self.inside in
    let base = (start_in p.base).state in
    let is = c.self.invariant.kept.based.restorable in
    subst (λ (v : PairState). places_of K o v.base v.journal ≡ (if is_booked o v.base (replay K tagged (based v.base) v.journal) then 1 else 0)) c.self.view_is
    (one-place K o base (journal_of p.journal) (restorable-unread base is) is.idle (legal-from K base (journal_of p.journal) is.idle c.self.invariant.kept.legal))

pub returns-clause-own : goal.returns-clause-own
returns-clause-own g c = λ o.
    let K = g.M.Behaves.does in
    let p = c.self.inside in
    let base = (start_in p.base).state in
    let is = c.self.invariant.kept.based.restorable in
    subst (λ (v : PairState). own_places_of K o v.base v.journal ≡ (if is_booked o v.base (replay K tagged (based v.base) v.journal) then 1 else 0)) c.self.view_is
    (own-place K o base (journal_of p.journal) (restorable-unread base is) is.idle (legal-from K base (journal_of p.journal) is.idle c.self.invariant.kept.legal))
