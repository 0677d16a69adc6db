use Rattle.std.proofs.Common.{◌≡◌, true, false, [], refl, sym, subst, ◌∙◌}
use Rattle.std.specs.Prelude.{None, Some}
use Rattle.strm_types.specs.declared.entries.Entry.TheVariants.{Turned}
use Rattle.strm_laws.specs.Pair.{PairState, queue_refused}
use Rattle.strm_laws.proofs.Replay.{refused-by}
use Rattle.strm_handle.specs.Kept.{IsKept, KeptPair, begun, is_full, made_at}
use Rattle.strm_handle.specs.Outcomes.{TurnsFirst, run_refused}
use Rattle.strm_handle.proofs.Fits.{begun-kept, stays-kept}
use Rattle.strm_handle.proofs.RunsAnew.{first-other, none-first, refused-first, turned-first}
use Rattle.strm_handle.proofs.kept.Kept.turn_first.Goals as goal

pub returns-in_default-clause-stopped : goal.returns-in_default-clause-stopped
returns-in_default-clause-stopped c =
    let k : KeptPair = record { pair = c.self.inside.pair; anew = c.self.inside.anew; reserve = c.self.inside.reserve } in
    subst (λ (o : KeptPair). (o ≡ made_at run_refused o) × ((None ≡ run_refused o) × (o.pair.state.enabled ≡ []))) c.self.view_is (none-first k (sym c.first_enabled.ensures ∙ c.in_default.is))

pub invariant_of-self : goal.invariant_of-self
invariant_of-self c =
    let k : KeptPair = record { pair = c.self.inside.pair; anew = c.self.inside.anew; reserve = c.self.inside.reserve } in
    let at : PairState = begun k.anew (queue_refused k.pair c.in-Some.queue) k.pair in
    let stays = refused-by (queue_refused at c.in-Some.queue) c.turn_at.result c.turn_at.ensures.refused c.in-Err.refusal c.in-Err.is in
    record { kept = subst (λ (p : PairState). IsKept (record k { pair = p })) (sym stays.1) (begun-kept k (queue_refused k.pair c.in-Some.queue) c.self.invariant.kept); answer = c.self.invariant.answer }

pub invariant_of-self-2 : goal.invariant_of-self-2
invariant_of-self-2 c =
    let k : KeptPair = record { pair = c.self.inside.pair; anew = c.self.inside.anew; reserve = c.self.inside.reserve } in
    let at : KeptPair = record k { pair = begun k.anew (queue_refused k.pair c.in-Some.queue) k.pair } in
    record {
      kept = stays-kept at (record k { pair = c.turn_at.new.pair }) (Turned c.in-Some.queue c.in_default-turn_at.field-0) (begun-kept k (queue_refused k.pair c.in-Some.queue) c.self.invariant.kept)
          (record { anew = refl; reserve = refl }) c.in_default-turn_at.ensures.adds;
      answer = c.self.invariant.answer;
    }

pub returns-clause-ok : goal.returns-clause-ok
returns-clause-ok c =
    let k : KeptPair = record { pair = c.self.inside.pair; anew = c.self.inside.anew; reserve = c.self.inside.reserve } in
    let new : KeptPair = record k { pair = c.turn_at.new.pair } in
    subst (λ (o : KeptPair). TurnsFirst o new) c.self.view_is
    (turned-first k new c.in-Some.queue c.in_default-turn_at.field-0 (sym c.first_enabled.ensures ∙ c.in-Some.is) (record { anew = refl; reserve = refl }) c.in_default-turn_at.ensures.adds c.in_default-turn_at.ensures.stops)

pub returns-in-Err-clause-stopped : goal.returns-in-Err-clause-stopped
returns-in-Err-clause-stopped c =
    let k : KeptPair = record { pair = c.self.inside.pair; anew = c.self.inside.anew; reserve = c.self.inside.reserve } in
    let new : KeptPair = record k { pair = c.turn_at.new.pair } in
    let at : PairState = begun k.anew (queue_refused k.pair c.in-Some.queue) k.pair in
    let stays = refused-by (queue_refused at c.in-Some.queue) c.turn_at.result c.turn_at.ensures.refused c.in-Err.refusal c.in-Err.is in
    subst (λ (o : KeptPair). (new ≡ made_at run_refused o) × ((Some c.in-Err.refusal ≡ run_refused new) × Unit {0})) c.self.view_is
    (refused-first k c.turn_at.new.pair c.in-Some.queue c.in-Err.refusal (sym c.first_enabled.ensures ∙ c.in-Some.is) stays)

pub returns-in-Err-clause-goes_on : goal.returns-in-Err-clause-goes_on
returns-in-Err-clause-goes_on c =
    let k : KeptPair = record { pair = c.self.inside.pair; anew = c.self.inside.anew; reserve = c.self.inside.reserve } in
    let new : KeptPair = record k { pair = c.turn_at.new.pair } in
    let at : PairState = begun k.anew (queue_refused k.pair c.in-Some.queue) k.pair in
    let stays = refused-by (queue_refused at c.in-Some.queue) c.turn_at.result c.turn_at.ensures.refused c.in-Err.refusal c.in-Err.is in
    let first = refused-first k c.turn_at.new.pair c.in-Some.queue c.in-Err.refusal (sym c.first_enabled.ensures ∙ c.in-Some.is) stays in
    subst (λ (o : KeptPair). o.anew ≡ true → is_full (Some c.in-Err.refusal) ≡ false) c.self.view_is (first-other k (Some c.in-Err.refusal) new c.self.invariant.kept first.0 first.1.0)
