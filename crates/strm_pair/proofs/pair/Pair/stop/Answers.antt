-- A call that stops its caller changes nothing, and the journal gains it with that answer.
use Rattle.strm_pair.proofs.Prelude.{ℕ, ◌≡◌, ◌≤◌, ◌+◌, ◌∙◌, length, ap, sym, refl, subst, arith, None, Some, call-allowed, or_else-none, free_m-is}
use Rattle.strm_pair.specs.Prelude.{Stop, Called, plain, tallied, payload_of, request, PlainEntry, content_max, Outcome, PairState, AddsEntry}
use Rattle.strm_pair.specs.Prelude.{call_refused, blocks_asked, enough, refused_at_once, refused_by_state, stop_of, IsCall, after, free_m}
use Rattle.strm_pair.specs.BaseTexts.{start_in}
use Rattle.strm_pair.specs.Pairs.{free_in, journal_of, state_in}
use Rattle.strm_pair.specs.PairViews.{pair_of}
use Rattle.strm_pair.specs.Effects.{Leads}
use Rattle.strm_pair.proofs.FewBytes.{few-kept}
use Rattle.strm_pair.proofs.JournalLemmas.{room-less}
use Rattle.strm_pair.proofs.Refusing.{as-stopped, asked-free, judged-stopped}
use Rattle.strm_pair.proofs.Steps.{kept-step, step-shown}
use Rattle.strm_pair.proofs.Leading.{leads-nowhere}
use Rattle.strm_pair.proofs.pair.Pair.stop.Goals as goal

pub invariant_of-self : goal.invariant_of-self
invariant_of-self g c =
    let K = g.M.Behaves.does in
    let p = c.self.inside in
    let s = g.B.Blocks.value p.store in
    let asked = request c.args.event.now in
    let old = state_in s p.streams in
    let entry : PlainEntry = Called c.args.caller asked (Stop c.args.signal) in
    let verdict = judged-stopped c.args.signal (call_refused K c.args.self.now c.args.caller asked) (stop_of c.args.self.now.state c.args.caller asked) c.requires in
    let allowed : call_refused K (pair_of s p.streams p.journal (start_in p.base) p.limits p.fates) c.args.caller asked ≡ None = ap (λ (v : PairState). call_refused K v c.args.caller asked) c.self.view_is ∙ verdict.0 in
    let stopped : stop_of old c.args.caller asked ≡ Some c.args.signal = ap (λ (v : PairState). stop_of v.state c.args.caller asked) c.self.view_is ∙ verdict.1 in
    let same = as-stopped K c.args.caller asked old c.args.signal stopped in
    record {
      kept =
          kept-step K s s p.streams p.streams p.journal c.add_call.new.self (start_in p.base) p.limits p.fates p.fates entry c.self.invariant.kept
          (record {
            allowed =
                (call-allowed K old (journal_of p.journal) p.limits (enough (blocks_asked asked) (free_in s)) c.args.caller asked allowed).0;
            answered = sym (ap (λ (o : Outcome ℕ). o.answer) same);
            leads = refl;
          })
          c.add_call.ensures.within (subst (λ (o : Outcome ℕ). Leads s s p.streams p.fates p.fates o.state o.gone) same (leads-nowhere s p.streams p.fates c.self.invariant.kept.held)) c.self.invariant.kept.few
          c.add_call.ensures.added c.add_call.ensures.most_entries c.add_call.ensures.most_bytes;
      wide = c.self.invariant.wide;
      stocked = c.self.invariant.stocked;
      written = c.self.invariant.written;
    }

pub returns-clause-adds : goal.returns-clause-adds
returns-clause-adds g c =
    let K = g.M.Behaves.does in
    let p = c.self.inside in
    let s = g.B.Blocks.value p.store in
    let asked = request c.args.event.now in
    let old = state_in s p.streams in
    let entry : PlainEntry = Called c.args.caller asked (Stop c.args.signal) in
    let verdict = judged-stopped c.args.signal (call_refused K c.args.self.now c.args.caller asked) (stop_of c.args.self.now.state c.args.caller asked) c.requires in
    let allowed : call_refused K (pair_of s p.streams p.journal (start_in p.base) p.limits p.fates) c.args.caller asked ≡ None = ap (λ (v : PairState). call_refused K v c.args.caller asked) c.self.view_is ∙ verdict.0 in
    let stopped : stop_of old c.args.caller asked ≡ Some c.args.signal = ap (λ (v : PairState). stop_of v.state c.args.caller asked) c.self.view_is ∙ verdict.1 in
    let same = as-stopped K c.args.caller asked old c.args.signal stopped in
    let taken : IsCall K plain old c.args.caller asked (Stop c.args.signal) (after K plain old entry) = record {
      allowed =
          (call-allowed K old (journal_of p.journal) p.limits (enough (blocks_asked asked) (free_in s)) c.args.caller asked allowed).0;
      answered = sym (ap (λ (o : Outcome ℕ). o.answer) same);
      leads = refl;
    } in
    subst (λ (v : PairState). AddsEntry K v (pair_of s p.streams c.add_call.new.self (start_in p.base) p.limits p.fates) entry) c.self.view_is
    (record {
      journal = c.add_call.ensures.added;
      step = step-shown K s s p.streams p.streams entry (ap (λ (o : Outcome ℕ). o.state) same) taken;
      fates = ap (λ (o : Outcome ℕ). tallied o.gone p.fates) same;
      base = refl;
      base_fates = refl;
      past = refl;
      limits = refl;
    })

pub add_call-requires-clause-small : goal.add_call-requires-clause-small
add_call-requires-clause-small g c =
    let K = g.M.Behaves.does in
    let p = c.self.inside in
    let s = g.B.Blocks.value p.store in
    let asked = request c.args.event.now in
    let old = state_in s p.streams in
    let allowed : call_refused K (pair_of s p.streams p.journal (start_in p.base) p.limits p.fates) c.args.caller asked ≡ None = ap (λ (v : PairState). call_refused K v c.args.caller asked) c.self.view_is ∙ (judged-stopped c.args.signal (call_refused K c.args.self.now c.args.caller asked) (stop_of c.args.self.now.state c.args.caller asked) c.requires).0 in
    let parts = call-allowed K old (journal_of p.journal) p.limits (enough (blocks_asked asked) (free_in s)) c.args.caller asked allowed in
    let at_once = (or_else-none (refused_at_once old c.args.caller asked) (refused_by_state K old c.args.caller asked) parts.0).0 in
    let blocks : blocks_asked asked ≤ free_m s = (asked-free (blocks_asked asked) s parts.2).mblks in
    few-kept old c.args.caller asked at_once (omega (arith, blocks, c.audit.ensures.few_mblks, free_m-is s))

pub add_call-requires-clause-room : goal.add_call-requires-clause-room
add_call-requires-clause-room g c =
    let K = g.M.Behaves.does in
    let p = c.self.inside in
    let s = g.B.Blocks.value p.store in
    let asked = request c.args.event.now in
    let old = state_in s p.streams in
    let allowed : call_refused K (pair_of s p.streams p.journal (start_in p.base) p.limits p.fates) c.args.caller asked ≡ None = ap (λ (v : PairState). call_refused K v c.args.caller asked) c.self.view_is ∙ (judged-stopped c.args.signal (call_refused K c.args.self.now c.args.caller asked) (stop_of c.args.self.now.state c.args.caller asked) c.requires).0 in
    let room = (call-allowed K old (journal_of p.journal) p.limits (enough (blocks_asked asked) (free_in s)) c.args.caller asked allowed).1 in
    room-less (journal_of p.journal) p.limits p.journal.most_entries p.journal.most_bytes (length (payload_of asked) + content_max asked) (length (payload_of asked) + 0)
    c.self.invariant.kept.events c.self.invariant.kept.bytes (omega arith) room
