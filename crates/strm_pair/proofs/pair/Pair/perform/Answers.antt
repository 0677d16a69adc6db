-- A call that isn't refused is a step, and the journal gains it with its answer.
use Rattle.strm_pair.proofs.Prelude.{ℕ, ◌≡◌, ◌≤◌, ◌+◌, ◌∙◌, ◌++◌, ◌∷◌, [], length, ap, sym, refl, subst, rules, arith, None, call-allowed}
use Rattle.strm_pair.proofs.Prelude.{or_else-none, free_m-is}
use Rattle.strm_pair.specs.Prelude.{Called, plain, Outcome, tallied, payload_of, request, PlainEntry, content_max, reply_in, spare, FewBooked, IsCall}
use Rattle.strm_pair.specs.Prelude.{after, enough, blocks_asked, refused_at_once, refused_by_state, stop_of, unfit, PairState, AddsEntry}
use Rattle.strm_pair.specs.Prelude.{call_refused, free_m}
use Rattle.std.specs.Bool.{OnTrue}
use Rattle.strm_laws.specs.Calls.{delivers}
use Rattle.strm_laws.specs.Refusals.{hold}
use Rattle.strm_laws.proofs.Balances.{call-few, written-by-blocks}
use Rattle.strm_laws.proofs.StackSpares.{call-low}
use Rattle.strm_pair.specs.BaseTexts.{start_in}
use Rattle.strm_pair.specs.Pairs.{state_in, journal_of, free_in}
use Rattle.strm_pair.specs.PairViews.{pair_of}
use Rattle.strm_pair.specs.Effects.{Leads}
use Rattle.strm_pair.proofs.JournalLemmas.{room-less, short-parts}
use Rattle.strm_pair.proofs.FewBytes.{few-kept}
use Rattle.strm_pair.proofs.Refusing.{as-performed, asked-free, free-fits, judged-allowed}
use Rattle.strm_pair.proofs.Steps.{kept-step, led-rests, step-shown}
use Rattle.strm_frame.proofs.WidePools.{wide-on}
use Rattle.strm_pair.proofs.pair.Pair.perform.Goals as goal

pub invariant_of-self : goal.invariant_of-self
invariant_of-self g c =
    let K = g.M.Behaves.does in
    let p = c.self.inside in
    let s = g.B.Blocks.value p.store in
    let new = g.B.Blocks.value c.carry_out-answer.new.store in
    let asked = request c.args.event.now in
    let out = c.carry_out-answer.new.out.items in
    let old = state_in s p.streams in
    let entry : PlainEntry = Called c.args.caller asked (reply_in c.carry_out-answer.result out) in
    let allowed : call_refused K (pair_of s p.streams p.journal (start_in p.base) p.limits p.fates) c.args.caller asked ≡ None = ap (λ (v : PairState). call_refused K v c.args.caller asked) c.self.view_is ∙ (judged-allowed _ (stop_of c.args.self.now.state c.args.caller asked) c.requires).0 in
    let free : stop_of old c.args.caller asked ≡ None = ap (λ (v : PairState). stop_of v.state c.args.caller asked) c.self.view_is ∙ (judged-allowed (call_refused K c.args.self.now c.args.caller asked) _ c.requires).1 in
    let same = as-performed K c.args.caller asked old free in
    let leads = subst (λ (o : Outcome ℕ). Leads s new c.carry_out-answer.new.self p.fates c.carry_out-answer.new.told o.state o.gone) same c.carry_out-answer.ensures.leads in
    let added : journal_of c.add_call.new.self ≡ journal_of p.journal ++ entry ∷ [] = c.add_call.ensures.added ∙ ap (λ b. journal_of p.journal ++ Called c.args.caller asked (reply_in c.carry_out-answer.result b) ∷ []) c.as_slice.ensures.value in
    let may = (call-allowed K old (journal_of p.journal) p.limits (enough (blocks_asked asked) (free_in s)) c.args.caller asked allowed).0 in
    let blocks : blocks_asked asked ≤ free_m s = (asked-free (blocks_asked asked) s (call-allowed K old (journal_of p.journal) p.limits (enough (blocks_asked asked) (free_in s)) c.args.caller asked allowed).2).mblks in
    let store = c.audit.ensures in
    let less : blocks_asked asked ≤ 65536 = omega (arith, blocks, store.few_mblks, free_m-is s) in
    let left = subst (λ v. OnTrue (delivers asked) (spare old ≤ spare v + 30)) leads.state c.carry_out-answer.ensures.left in
    let few = call-few K plain c.args.caller asked old may (written-by-blocks asked 65536 (omega arith) less) c.self.invariant.kept.few (λ room. call-low K plain c.args.caller asked old room left) in
    record {
      kept = kept-step K s new p.streams c.carry_out-answer.new.self p.journal c.add_call.new.self (start_in p.base) p.limits p.fates c.carry_out-answer.new.told entry c.self.invariant.kept
          (record {
            allowed =
                (call-allowed K old (journal_of p.journal) p.limits (enough (blocks_asked asked) (free_in s)) c.args.caller asked allowed).0;
            answered = sym (c.carry_out-answer.ensures.answer ∙ ap (λ (o : Outcome ℕ). o.answer) same);
            leads = refl;
          })
          c.add_call.ensures.within leads (subst FewBooked (sym leads.state) few) added c.add_call.ensures.most_entries c.add_call.ensures.most_bytes;
      wide = (let pool = c.carry_out-answer.ensures.leads.pool in wide-on g.M.OwnModule.wide s new pool.mblks pool.dblks c.self.invariant.wide);
      stocked = c.carry_out-answer.ensures.stocked;
      written = c.self.invariant.written;
    }

pub returns-clause-adds : goal.returns-clause-adds
returns-clause-adds g c =
    let K = g.M.Behaves.does in
    let p = c.self.inside in
    let s = g.B.Blocks.value p.store in
    let new = g.B.Blocks.value c.carry_out-answer.new.store in
    let q = c.carry_out-answer.new.self in
    let k = c.add_call.new.self in
    let asked = request c.args.event.now in
    let out = c.carry_out-answer.new.out.items in
    let old = state_in s p.streams in
    let entry : PlainEntry = Called c.args.caller asked (reply_in c.carry_out-answer.result out) in
    let allowed : call_refused K (pair_of s p.streams p.journal (start_in p.base) p.limits p.fates) c.args.caller asked ≡ None = ap (λ (v : PairState). call_refused K v c.args.caller asked) c.self.view_is ∙ (judged-allowed _ (stop_of c.args.self.now.state c.args.caller asked) c.requires).0 in
    let free : stop_of old c.args.caller asked ≡ None = ap (λ (v : PairState). stop_of v.state c.args.caller asked) c.self.view_is ∙ (judged-allowed (call_refused K c.args.self.now c.args.caller asked) _ c.requires).1 in
    let same = as-performed K c.args.caller asked old free in
    let leads = c.carry_out-answer.ensures.leads in
    let added : journal_of k ≡ journal_of p.journal ++ entry ∷ [] = c.add_call.ensures.added ∙ ap (λ b. journal_of p.journal ++ Called c.args.caller asked (reply_in c.carry_out-answer.result b) ∷ []) c.as_slice.ensures.value in
    let taken : IsCall K plain old c.args.caller asked (reply_in c.carry_out-answer.result out) (after K plain old entry) = record {
      allowed =
          (call-allowed K old (journal_of p.journal) p.limits (enough (blocks_asked asked) (free_in s)) c.args.caller asked allowed).0;
      answered = sym (c.carry_out-answer.ensures.answer ∙ ap (λ (o : Outcome ℕ). o.answer) same);
      leads = refl;
    } in
    subst (λ (v : PairState). AddsEntry K v (pair_of new q k (start_in p.base) p.limits c.carry_out-answer.new.told) entry) c.self.view_is
    (record {
      journal = added;
      step = step-shown K s new p.streams q entry (leads.state ∙ ap (λ (o : Outcome ℕ). o.state) same) taken;
      fates = leads.tells ∙ ap (λ (o : Outcome ℕ). tallied o.gone p.fates) same;
      base = refl;
      base_fates = refl;
      past = refl;
      limits = refl;
    })

pub carry_out-answer-requires-clause-allowed : goal.carry_out-answer-requires-clause-allowed
carry_out-answer-requires-clause-allowed g c =
    let K = g.M.Behaves.does in
    let p = c.self.inside in
    let s = g.B.Blocks.value p.store in
    let asked = request c.args.event.now in
    let old = state_in s p.streams in
    let allowed : call_refused K (pair_of s p.streams p.journal (start_in p.base) p.limits p.fates) c.args.caller asked ≡ None = ap (λ (v : PairState). call_refused K v c.args.caller asked) c.self.view_is ∙ (judged-allowed _ (stop_of c.args.self.now.state c.args.caller asked) c.requires).0 in
    (or_else-none (refused_at_once old c.args.caller asked) (refused_by_state K old c.args.caller asked) (call-allowed K old (journal_of p.journal) p.limits (enough (blocks_asked asked) (free_in s)) c.args.caller asked allowed).0).0

pub carry_out-answer-requires-clause-fits : goal.carry_out-answer-requires-clause-fits
carry_out-answer-requires-clause-fits g c =
    let K = g.M.Behaves.does in
    let p = c.self.inside in
    let s = g.B.Blocks.value p.store in
    let asked = request c.args.event.now in
    let old = state_in s p.streams in
    let allowed : call_refused K (pair_of s p.streams p.journal (start_in p.base) p.limits p.fates) c.args.caller asked ≡ None = ap (λ (v : PairState). call_refused K v c.args.caller asked) c.self.view_is ∙ (judged-allowed _ (stop_of c.args.self.now.state c.args.caller asked) c.requires).0 in
    let free : stop_of old c.args.caller asked ≡ None = ap (λ (v : PairState). stop_of v.state c.args.caller asked) c.self.view_is ∙ (judged-allowed (call_refused K c.args.self.now c.args.caller asked) _ c.requires).1 in
    free-fits (hold old c.args.caller asked) (unfit K old c.args.caller asked) (or_else-none (refused_at_once old c.args.caller asked) (refused_by_state K old c.args.caller asked) (call-allowed K old (journal_of p.journal) p.limits (enough (blocks_asked asked) (free_in s)) c.args.caller asked allowed).0).1 free

pub carry_out-answer-requires-clause-rests : goal.carry_out-answer-requires-clause-rests
carry_out-answer-requires-clause-rests g c = led-rests g.M.Behaves.does (g.B.Blocks.value c.self.inside.store) c.self.inside.streams c.self.inside.journal (start_in c.self.inside.base) c.self.inside.limits c.self.inside.fates c.self.invariant.kept

pub carry_out-answer-requires-clause-room : goal.carry_out-answer-requires-clause-room
carry_out-answer-requires-clause-room g c =
    let K = g.M.Behaves.does in
    let p = c.self.inside in
    let s = g.B.Blocks.value p.store in
    let asked = request c.args.event.now in
    let old = state_in s p.streams in
    let allowed : call_refused K (pair_of s p.streams p.journal (start_in p.base) p.limits p.fates) c.args.caller asked ≡ None = ap (λ (v : PairState). call_refused K v c.args.caller asked) c.self.view_is ∙ (judged-allowed _ (stop_of c.args.self.now.state c.args.caller asked) c.requires).0 in
    asked-free (blocks_asked asked) s (call-allowed K old (journal_of p.journal) p.limits (enough (blocks_asked asked) (free_in s)) c.args.caller asked allowed).2

pub carry_out-answer-requires-clause-wide : goal.carry_out-answer-requires-clause-wide
carry_out-answer-requires-clause-wide g c = c.self.invariant.wide

pub as_slice-requires : goal.as_slice-requires
as_slice-requires g c = search rules steps 30000

pub add_call-requires-clause-filled : goal.add_call-requires-clause-filled
add_call-requires-clause-filled g c = c.carry_out-answer.ensures.filled ∙ ap length (sym c.as_slice.ensures.value)

pub add_call-requires-clause-short : goal.add_call-requires-clause-short
add_call-requires-clause-short g c = short-parts c.carry_out-answer.result c.carry_out-answer.ensures.parts

pub add_call-requires-clause-small : goal.add_call-requires-clause-small
add_call-requires-clause-small g c =
    let K = g.M.Behaves.does in
    let p = c.self.inside in
    let s = g.B.Blocks.value p.store in
    let asked = request c.args.event.now in
    let old = state_in s p.streams in
    let allowed : call_refused K (pair_of s p.streams p.journal (start_in p.base) p.limits p.fates) c.args.caller asked ≡ None = ap (λ (v : PairState). call_refused K v c.args.caller asked) c.self.view_is ∙ (judged-allowed _ (stop_of c.args.self.now.state c.args.caller asked) c.requires).0 in
    let parts = call-allowed K old (journal_of p.journal) p.limits (enough (blocks_asked asked) (free_in s)) c.args.caller asked allowed in
    let at_once = (or_else-none (refused_at_once old c.args.caller asked) (refused_by_state K old c.args.caller asked) parts.0).0 in
    let blocks : blocks_asked asked ≤ free_m s = (asked-free (blocks_asked asked) s parts.2).mblks in
    few-kept old c.args.caller asked at_once (omega (arith, blocks, c.audit.ensures.few_mblks, free_m-is s))

pub add_call-requires-clause-room : goal.add_call-requires-clause-room
add_call-requires-clause-room g c =
    let K = g.M.Behaves.does in
    let p = c.self.inside in
    let s = g.B.Blocks.value p.store in
    let asked = request c.args.event.now in
    let old = state_in s p.streams in
    let allowed : call_refused K (pair_of s p.streams p.journal (start_in p.base) p.limits p.fates) c.args.caller asked ≡ None = ap (λ (v : PairState). call_refused K v c.args.caller asked) c.self.view_is ∙ (judged-allowed _ (stop_of c.args.self.now.state c.args.caller asked) c.requires).0 in
    let room = (call-allowed K old (journal_of p.journal) p.limits (enough (blocks_asked asked) (free_in s)) c.args.caller asked allowed).1 in
    room-less (journal_of p.journal) p.limits p.journal.most_entries p.journal.most_bytes (length (payload_of asked) + content_max asked) (length (payload_of asked) + length c.as_slice.result.now)
    c.self.invariant.kept.events c.self.invariant.kept.bytes (omega (arith, c.carry_out-answer.ensures.content, ap length c.as_slice.ensures.value)) room

pub carry_out-answer-requires-clause-known : goal.carry_out-answer-requires-clause-known
carry_out-answer-requires-clause-known g c = c.self.invariant.kept.known

pub carry_out-answer-requires-clause-stocked : goal.carry_out-answer-requires-clause-stocked
carry_out-answer-requires-clause-stocked g c = c.self.invariant.stocked
