-- The base goes on to where the journal leads, which is the state.
use Rattle.std.proofs.Common.{◌++◌, ◌∙◌, ap, sym, arith}
use Rattle.strm_laws.specs.Pair.{PairState, restarted}
use Rattle.strm_pair.specs.BaseTexts.{start_in}
use Rattle.strm_pair.specs.Pairs.{journal_of, state_in}
use Rattle.strm_pair.proofs.BaseRows.{image-room, is-written, past-told}
use Rattle.strm_pair.proofs.PairImages.{has-image}
use Rattle.strm_pair.proofs.Steps.{kept-restarted, on-told, restarted-shown}
use Rattle.strm_pair.proofs.pair.Pair.restart.Goals as goal

pub write-requires-clause-has : goal.write-requires-clause-has
write-requires-clause-has g c =
    let K = g.M.Behaves.does in
    let p = c.self.inside in
    let s = g.B.Blocks.value p.store in
    has-image K s p.streams p.journal (start_in p.base) p.limits p.fates c.self.invariant.kept c.audit.ensures c.know_fates.ensures (c.know_streams.ensures s)

pub write-requires-clause-room : goal.write-requires-clause-room
write-requires-clause-room g c =
    let K = g.M.Behaves.does in
    let p = c.self.inside in
    let s = g.B.Blocks.value p.store in
    let room = image-room K s p.streams p.journal (start_in p.base) p.limits p.fates c.self.invariant.kept c.audit.ensures c.know_fates.ensures (c.know_streams.ensures s) in
    omega (arith, room, c.self.invariant.written.room)

pub invariant_of-self : goal.invariant_of-self
invariant_of-self g c =
    let K = g.M.Behaves.does in
    let p = c.self.inside in
    let s = g.B.Blocks.value p.store in
    let on = c.write.ensures.start ∙ on-told K s p.streams p.journal (start_in p.base) p.limits p.fates c.go_on.new.self.entries c.self.invariant.kept
    (c.go_on.ensures ∙ ap (λ es. es ++ journal_of p.journal) (sym (past-told p.base))) in
    record {
      kept = kept-restarted K s p.streams p.journal c.clear.new.self (start_in p.base) (start_in c.write.new.self) p.limits p.fates c.self.invariant.kept
          on c.clear.ensures.empty c.clear.ensures.most_entries c.clear.ensures.most_bytes;
      wide = c.self.invariant.wide;
      stocked = c.self.invariant.stocked;
      written = is-written c.write.new.self (state_in s p.streams) p.fates c.go_on.new.self.entries p.limits c.write.ensures.start c.write.ensures.text
          (omega (arith, c.self.invariant.written.room, c.write.ensures.memory));
    }

pub returns : goal.returns
returns g c =
    let K = g.M.Behaves.does in
    let p = c.self.inside in
    let s = g.B.Blocks.value p.store in
    let on = c.write.ensures.start ∙ on-told K s p.streams p.journal (start_in p.base) p.limits p.fates c.go_on.new.self.entries c.self.invariant.kept
    (c.go_on.ensures ∙ ap (λ es. es ++ journal_of p.journal) (sym (past-told p.base))) in
    restarted-shown K s p.streams p.journal c.clear.new.self (start_in p.base) (start_in c.write.new.self) p.limits p.fates c.self.invariant.kept on c.clear.ensures.empty
    ∙ ap (λ (v : PairState). restarted v) c.self.view_is
