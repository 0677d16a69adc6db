-- Turn by turn.
use Rattle.strm_pair.proofs.Prelude.{◌≡◌, ◌≤◌, length, ap, sym, ◌∙◌, subst, arith, Some, slice_get}
use Rattle.strm_pair.specs.Prelude.{Config, PairState, RanTurns, next_refused, queue_refused}
use Rattle.strm_laws.proofs.Replay.{refused-by}
use Rattle.strm_pair.proofs.Runs.{full-refuses, next-allowed, next-is, none-first, one-more}
use Rattle.strm_pair.proofs.pair.Pair.runqueues.Goals as goal

pub returns-in_default-clause-rest : goal.returns-in_default-clause-rest
returns-in_default-clause-rest g c = none-first _ (sym c.first_enabled.ensures ∙ c.in_default.is)

pub returns-in-Err-clause-ran : goal.returns-in-Err-clause-ran
returns-in-Err-clause-ran g c =
    let l = c.loop-turns in
    let stays = refused-by (queue_refused l.self c.in-Some.queue) c.turn.result c.turn.ensures.refused c.in-Err.refusal c.in-Err.is in
    subst (λ (p : PairState). RanTurns g.M.Behaves.does l.turns c.args.self.now p) (sym stays.1) l.invariant.ran

pub returns-in-Err-clause-entries : goal.returns-in-Err-clause-entries
returns-in-Err-clause-entries g c =
    let l = c.loop-turns in
    let stays = refused-by (queue_refused l.self c.in-Some.queue) c.turn.result c.turn.ensures.refused c.in-Err.refusal c.in-Err.is in
    rw (stays.1) l.invariant.entries

pub returns-in-Err-clause-stopped : goal.returns-in-Err-clause-stopped
returns-in-Err-clause-stopped g c =
    let l = c.loop-turns in
    let stays = refused-by (queue_refused l.self c.in-Some.queue) c.turn.result c.turn.ensures.refused c.in-Err.refusal c.in-Err.is in
    sym (ap (λ (p : PairState). next_refused p) stays.1 ∙ next-is l.self c.in-Some.queue (sym c.first_enabled.ensures ∙ c.in-Some.is) ∙ stays.0)

pub loop-turns-preserved : goal.loop-turns-preserved
loop-turns-preserved g c =
    let K = g.M.Behaves.does in
    let l = c.loop-turns in
    one-more K l.turns c.entries_left-left.result c.args.self.now l.self c.turn.new.self c.in-Some.queue c.in_default-turn.field-0 l.invariant
    (sym c.first_enabled.ensures ∙ c.in-Some.is) c.in_default-turn.ensures.adds c.in_default-turn.ensures.stops

pub returns-in-None-clause-rest : goal.returns-in-None-clause-rest
returns-in-None-clause-rest g c = none-first _ (sym c.first_enabled-2.ensures ∙ c.in-None.is)

-- where turns come to rest, no queue is enabled in the end
pub returns-in_default-clause-rests : goal.returns-in_default-clause-rests
returns-in_default-clause-rests g c = λ once events bytes range blocks. none-first _ (sym c.first_enabled.ensures ∙ c.in_default.is)

pub returns-in-Err-clause-rests : goal.returns-in-Err-clause-rests
returns-in-Err-clause-rests g c = λ once events bytes range blocks.
    let K = g.M.Behaves.does in
    let going = next-allowed K c.loop-turns.turns c.args.self.now c.turn.new.self (returns-in-Err-clause-ran g c) c.audit.ensures.restorable once events bytes range blocks in
    absurd (cc (returns-in-Err-clause-stopped g c ∙ going))

pub returns-in-None-clause-rests : goal.returns-in-None-clause-rests
returns-in-None-clause-rests g c = λ once events bytes range blocks. none-first _ (sym c.first_enabled-2.ensures ∙ c.in-None.is)

pub returns-in-Some-first_enabled-clause-rests : goal.returns-in-Some-first_enabled-clause-rests
returns-in-Some-first_enabled-clause-rests g c = λ once events bytes range blocks.
    let K = g.M.Behaves.does in
    let l = c.loop-turns in
    let going = next-allowed K l.turns c.args.self.now l.self l.invariant.ran c.audit.ensures.restorable once events bytes range blocks in
    let name = c.in-Some-first_enabled.queue in
    let first : slice_get l.self.state.enabled 0 ≡ Some name = sym c.first_enabled-2.ensures ∙ c.in-Some-first_enabled.is in
    let full : l.self.limits.journal_events ≤ length l.self.journal =
    omega (arith, l.invariant.entries, l.invariant.room, ap (λ (limits : Config). limits.journal_events) l.invariant.limits, c.loop-turns-test.false) in
    absurd (full-refuses l.self name full (sym (next-is l.self name first) ∙ going))
