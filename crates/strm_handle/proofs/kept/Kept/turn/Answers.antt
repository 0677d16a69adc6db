use Rattle.std.proofs.Common.{◌≡◌, refl, sym, subst, ap, ◌∙◌}
use Rattle.std.specs.Prelude.{Some}
use Rattle.strm_types.specs.declared.entries.Entry.TheVariants.{Turned}
use Rattle.strm_laws.specs.Pair.{PairState, queue_refused}
use Rattle.strm_laws.proofs.Replay.{refused-by}
use Rattle.strm_handle.specs.Kept.{IsKept, KeptPair, begun}
use Rattle.strm_handle.specs.Numbers.{queue_at}
use Rattle.strm_handle.specs.Outcomes.{CallsAt, Turns, turn_of, turn_refused}
use Rattle.strm_handle.proofs.Begun.{by-pair}
use Rattle.strm_handle.proofs.Decisions.{stayed}
use Rattle.strm_handle.proofs.Fits.{begun-kept, stays-kept}
use Rattle.strm_handle.proofs.NeverFull.{turn-other}
use Rattle.strm_handle.proofs.kept.Kept.turn.Goals as goal

pub invariant_of-self : goal.invariant_of-self
invariant_of-self c =
    let k : KeptPair = record { pair = c.self.inside.pair; anew = c.self.inside.anew; reserve = c.self.inside.reserve } in
    let at : PairState = begun k.anew (queue_refused k.pair c.in-Some.name) k.pair in
    let stays = refused-by (queue_refused at c.in-Some.name) c.turn_at.result c.turn_at.ensures.refused c.in-Err.refusal c.in-Err.is in
    record { kept = subst (λ (p : PairState). IsKept (record k { pair = p })) (sym stays.1) (begun-kept k (queue_refused k.pair c.in-Some.name) c.self.invariant.kept); answer = c.self.invariant.answer }

pub returns-in-Err : goal.returns-in-Err
returns-in-Err c =
    let k : KeptPair = record { pair = c.self.inside.pair; anew = c.self.inside.anew; reserve = c.self.inside.reserve } in
    let new : KeptPair = record k { pair = c.turn_at.new.pair } in
    let at : KeptPair = record k { pair = begun k.anew (queue_refused k.pair c.in-Some.name) k.pair } in
    let named : queue_at c.args.queue ≡ Some c.in-Some.name = sym c.queue_of.ensures ∙ c.in-Some.is in
    let stays = (c.args.told.now ≡ c.args.told.now) in
    let done = Turns c.args.queue c.args.told.now in
    subst (λ (o : KeptPair). CallsAt (turn_refused c.args.queue) stays done o new c.refused-in-Err.result) c.self.view_is
    (by-pair (turn_refused c.args.queue) (λ p. queue_refused p c.in-Some.name) stays done k new c.refused-in-Err.result (ap (λ q. turn_of q k) named) (ap (λ q. turn_of q at) named)
    (λ anew. turn-other k.pair c.in-Some.name (c.self.invariant.kept.anew anew))
    (stayed c.turn_at.result c.refused-in-Err.result (c.turn_at.new.pair ≡ at.pair) _ _ (queue_refused at.pair c.in-Some.name) c.in-Err.refusal c.turn_at.ensures.refused c.in-Err.is c.refused-in-Err.ensures
    (λ same. (ap (λ (p : PairState). record k { pair = p }) same, refl))))

pub invariant_of-self-2 : goal.invariant_of-self-2
invariant_of-self-2 c =
    let k : KeptPair = record { pair = c.self.inside.pair; anew = c.self.inside.anew; reserve = c.self.inside.reserve } in
    let at : KeptPair = record k { pair = begun k.anew (queue_refused k.pair c.in-Some.name) k.pair } in
    record { kept = stays-kept at (record k { pair = c.turn_at.new.pair }) (Turned c.in-Some.name c.in-Ok.turn) (begun-kept k (queue_refused k.pair c.in-Some.name) c.self.invariant.kept) (record { anew = refl; reserve = refl }) c.in-Ok.ensures.adds; answer = c.self.invariant.answer }
