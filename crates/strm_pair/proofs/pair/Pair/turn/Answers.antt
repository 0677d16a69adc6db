-- A turn that isn't refused is a step, and the journal gains it.
use Rattle.strm_pair.proofs.Prelude.{ℕ, ◌≡◌, ◌∙◌, ap, sym, refl, subst, rules, arith, None, turn-allowed}
use Rattle.strm_pair.specs.Prelude.{State, stands_of, Turned, plain, PlainEntry, after, enough, turn_blocks, PairState, AddsEntry, MovesOn, queue_refused}
use Rattle.strm_laws.specs.Step.{IsTurn}
use Rattle.strm_pair.specs.BaseTexts.{start_in}
use Rattle.strm_pair.specs.Pairs.{state_in, journal_of, free_in}
use Rattle.strm_pair.specs.PairViews.{pair_of}
use Rattle.strm_laws.proofs.StackStays.{turn-stands}
use Rattle.strm_pair.proofs.ShelfSteps.{stocked-same}
use Rattle.strm_pair.proofs.JournalLemmas.{room-less}
use Rattle.strm_pair.proofs.Steps.{kept-step, led-rests, step-shown}
use Rattle.strm_pair.proofs.Refusing.{asked-free, turn-free}
use Rattle.strm_frame.proofs.WidePools.{wide-on}
use Rattle.strm_pair.proofs.pair.Pair.turn.Goals as goal

pub invariant_of-self : goal.invariant_of-self
invariant_of-self g c =
    let K = g.M.Behaves.does in
    let p = c.self.inside in
    let s = g.B.Blocks.value p.store in
    let new = g.B.Blocks.value c.turn-turn.new.store in
    let old = state_in s p.streams in
    let entry : PlainEntry = Turned c.args.name c.turn-turn.result in
    let allowed : queue_refused (pair_of s p.streams p.journal (start_in p.base) p.limits p.fates) c.args.name ≡ None = ap (λ (v : PairState). queue_refused v c.args.name) c.self.view_is ∙ sym c.turn_refusal.ensures ∙ c.in_default.is in
    record {
      kept = kept-step K s new p.streams c.turn-turn.new.self p.journal c.add_turn.new.self (start_in p.base) p.limits p.fates c.turn-turn.new.told entry c.self.invariant.kept
          (record {
            enabled = (turn-allowed old (journal_of p.journal) p.limits (enough (turn_blocks c.args.name.place) (free_in s)) c.args.name allowed).0;
            in_range = (turn-allowed old (journal_of p.journal) p.limits (enough (turn_blocks c.args.name.place) (free_in s)) c.args.name allowed).1;
            answered = sym c.turn-turn.ensures.turn;
            leads = refl;
          })
          tt c.turn-turn.ensures.leads c.turn-turn.ensures.few c.add_turn.ensures.added c.add_turn.ensures.most_entries c.add_turn.ensures.most_bytes;
      wide = (let pool = c.turn-turn.ensures.leads.pool in wide-on g.M.OwnModule.wide s new pool.mblks pool.dblks c.self.invariant.wide);
      stocked =
          stocked-same g.M.OwnModule.queued p.shelf (stands_of old) (stands_of (state_in new c.turn-turn.new.self))
          (ap (λ (v : State ℕ). stands_of v) c.turn-turn.ensures.leads.state ∙ turn-stands K plain c.args.name c.turn-turn.result old) c.self.invariant.stocked;
      written = c.self.invariant.written;
    }

pub returns-clause-adds : goal.returns-clause-adds
returns-clause-adds g c =
    let K = g.M.Behaves.does in
    let p = c.self.inside in
    let s = g.B.Blocks.value p.store in
    let new = g.B.Blocks.value c.turn-turn.new.store in
    let q = c.turn-turn.new.self in
    let k = c.add_turn.new.self in
    let old = state_in s p.streams in
    let entry : PlainEntry = Turned c.args.name c.turn-turn.result in
    let allowed : queue_refused (pair_of s p.streams p.journal (start_in p.base) p.limits p.fates) c.args.name ≡ None = ap (λ (v : PairState). queue_refused v c.args.name) c.self.view_is ∙ sym c.turn_refusal.ensures ∙ c.in_default.is in
    let taken : IsTurn K plain old c.args.name c.turn-turn.result (after K plain old entry) = record {
      enabled = (turn-allowed old (journal_of p.journal) p.limits (enough (turn_blocks c.args.name.place) (free_in s)) c.args.name allowed).0;
      in_range = (turn-allowed old (journal_of p.journal) p.limits (enough (turn_blocks c.args.name.place) (free_in s)) c.args.name allowed).1;
      answered = sym c.turn-turn.ensures.turn;
      leads = refl;
    } in
    subst (λ (v : PairState). AddsEntry K v (pair_of new q k (start_in p.base) p.limits c.turn-turn.new.told) entry) c.self.view_is
    (record {
      journal = c.add_turn.ensures.added;
      step = step-shown K s new p.streams q entry c.turn-turn.ensures.leads.state taken;
      fates = c.turn-turn.ensures.leads.tells;
      base = refl;
      base_fates = refl;
      past = refl;
      limits = refl;
    })

pub returns-in-Some-clause-refused : goal.returns-in-Some-clause-refused
returns-in-Some-clause-refused g c = search rules steps 300000

pub returns-in-Some-clause-adds : goal.returns-in-Some-clause-adds
returns-in-Some-clause-adds g c = search rules steps 30000

pub add_turn-requires : goal.add_turn-requires
add_turn-requires g c =
    let p = c.self.inside in
    let s = g.B.Blocks.value p.store in
    let old = state_in s p.streams in
    let allowed : queue_refused (pair_of s p.streams p.journal (start_in p.base) p.limits p.fates) c.args.name ≡ None = ap (λ (v : PairState). queue_refused v c.args.name) c.self.view_is ∙ sym c.turn_refusal.ensures ∙ c.in_default.is in
    let room = (turn-allowed old (journal_of p.journal) p.limits (enough (turn_blocks c.args.name.place) (free_in s)) c.args.name allowed).2 in
    record { room = room-less (journal_of p.journal) p.limits p.journal.most_entries p.journal.most_bytes 0 0 c.self.invariant.kept.events c.self.invariant.kept.bytes (omega arith) room }

pub returns-clause-refused : goal.returns-clause-refused
returns-clause-refused g c = search rules steps 1000000

pub turn-turn-requires-clause-may : goal.turn-turn-requires-clause-may
turn-turn-requires-clause-may g c =
    let p = c.self.inside in
    let s = g.B.Blocks.value p.store in
    let old = state_in s p.streams in
    let asked = enough (turn_blocks c.args.name.place) (free_in s) in
    let allowed : queue_refused (pair_of s p.streams p.journal (start_in p.base) p.limits p.fates) c.args.name ≡ None = ap (λ (v : PairState). queue_refused v c.args.name) c.self.view_is ∙ sym c.turn_refusal.ensures ∙ c.in_default.is in
    record {
      rests = led-rests g.M.Behaves.does s p.streams p.journal (start_in p.base) p.limits p.fates c.self.invariant.kept;
      room = asked-free (turn_blocks c.args.name.place) s (turn-free old (journal_of p.journal) p.limits asked c.args.name allowed);
      range = (turn-allowed old (journal_of p.journal) p.limits asked c.args.name allowed).1;
    }

pub turn-turn-requires-clause-wide : goal.turn-turn-requires-clause-wide
turn-turn-requires-clause-wide g c = c.self.invariant.wide

pub returns-clause-stops : goal.returns-clause-stops
returns-clause-stops g c = subst (λ (v : PairState). MovesOn v.state (free_in (g.B.Blocks.value c.turn-turn.new.store)) c.args.name c.turn-turn.result) c.self.view_is c.turn-turn.ensures.stops

pub returns-in-Some-clause-stops : goal.returns-in-Some-clause-stops
returns-in-Some-clause-stops g c = search rules
