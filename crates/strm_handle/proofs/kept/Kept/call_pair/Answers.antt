use Rattle.std.proofs.Common.{◌≡◌, ◌≤◌, ◌++◌, [], length, drop, refl, sym, subst, ap, ◌∙◌, arith}
use Rattle.std.specs.Prelude.{None}
use Rattle.strm_types.specs.declared.entries.Entry.TheVariants.{Called}
use Rattle.strm_types.specs.Events.{request}
use Rattle.strm_types.specs.Journal.{content_max, reply_in}
use Rattle.strm_laws.proofs.NoOwn.{none as no_own}
use Rattle.strm_laws.specs.Pair.{PairState, call_refused}
use Rattle.strm_handle.specs.Kept.{IsKept, KeptPair, begun}
use Rattle.strm_handle.specs.Outcomes.{Answers, CallsAt, Stay, refused_before, refused_within}
use Rattle.strm_handle.proofs.Decisions.{before-fits, called-at, left, stayed, was_done}
use Rattle.strm_handle.proofs.Fits.{answered, begun-kept, content-small, stays-kept}
use Rattle.strm_handle.proofs.kept.Kept.call_pair.Goals as goal

pub invariant_of-self : goal.invariant_of-self
invariant_of-self c =
    let asked = request c.args.event.now in
    let k : KeptPair = record { pair = c.self.inside.pair; anew = c.self.inside.anew; reserve = c.self.inside.reserve } in
    let at : PairState = begun k.anew (call_refused no_own k.pair c.args.caller asked) k.pair in
    let same = left c.call_at.result ((c.call_at.new.pair ≡ at) × (c.call_at.new.out ≡ c.self.inside.answer)) (call_refused no_own at c.args.caller asked) c.in-Err.refusal c.call_at.ensures.refused c.in-Err.is in
    record { kept = subst (λ (p : PairState). IsKept (record k { pair = p })) (sym same.0) (begun-kept k (call_refused no_own k.pair c.args.caller asked) c.self.invariant.kept); answer = subst (λ a. a.items ≡ []) (sym same.1) c.self.invariant.answer }

pub returns-in-Err : goal.returns-in-Err
returns-in-Err c =
    let asked = request c.args.event.now in
    let k : KeptPair = record { pair = c.self.inside.pair; anew = c.self.inside.anew; reserve = c.self.inside.reserve } in
    let at : PairState = begun k.anew (call_refused no_own k.pair c.args.caller asked) k.pair in
    let new : KeptPair = record k { pair = c.call_at.new.pair } in
    let free : refused_before c.args.caller asked (length c.args.out.now) k ≡ None = subst (λ (o : KeptPair). refused_before c.args.caller asked (length c.args.out.now) o ≡ None) (sym c.self.view_is) c.requires.free in
    let stays = Stay c.args.out.now c.args.out.now c.args.reply.now c.args.reply.now in
    let done = Answers c.args.caller asked c.args.reply.now c.args.out.now c.args.out.now in
    subst (λ (o : KeptPair). CallsAt (refused_within c.args.caller asked (length c.args.out.now)) stays done o new c.refused.result) c.self.view_is
    (called-at c.args.caller asked (length c.args.out.now) stays done k new c.refused.result free c.self.invariant.kept c.requires.few
    (stayed c.call_at.result c.refused.result ((c.call_at.new.pair ≡ at) × (c.call_at.new.out ≡ c.self.inside.answer)) _ _ (call_refused no_own at c.args.caller asked) c.in-Err.refusal c.call_at.ensures.refused c.in-Err.is c.refused.ensures
    (λ same. (ap (λ (p : PairState). record k { pair = p }) same.0, (refl, refl)))))

pub give-requires : goal.give-requires
give-requires c =
    let asked = request c.args.event.now in
    let k : KeptPair = record { pair = c.self.inside.pair; anew = c.self.inside.anew; reserve = c.self.inside.reserve } in
    let at : KeptPair = record k { pair = begun k.anew (call_refused no_own k.pair c.args.caller asked) k.pair } in
    let fits : content_max asked ≤ length c.args.out.now = before-fits c.args.caller asked (length c.args.out.now) c.args.self.now c.requires.free in
    let kept = begun-kept k (call_refused no_own k.pair c.args.caller asked) c.self.invariant.kept in
    let small = content-small at.pair c.call_at.new.pair c.args.caller asked c.in-Ok.answer c.call_at.new.out.items kept.within c.in-Ok.ensures.adds c.in-Ok.ensures.filled in
    let many = ap (λ bytes. length bytes) c.as_slice.ensures.value in
    omega (arith, fits, small, many)

pub invariant_of-self-2 : goal.invariant_of-self-2
invariant_of-self-2 c =
    let asked = request c.args.event.now in
    let k : KeptPair = record { pair = c.self.inside.pair; anew = c.self.inside.anew; reserve = c.self.inside.reserve } in
    let at : KeptPair = record k { pair = begun k.anew (call_refused no_own k.pair c.args.caller asked) k.pair } in
    record {
      kept = stays-kept at (record k { pair = c.call_at.new.pair }) (Called c.args.caller asked (reply_in c.in-Ok.answer c.call_at.new.out.items))
          (begun-kept k (call_refused no_own k.pair c.args.caller asked) c.self.invariant.kept) (record { anew = refl; reserve = refl }) c.in-Ok.ensures.adds;
      answer = c.clear.ensures;
    }

pub returns : goal.returns
returns c =
    let asked = request c.args.event.now in
    let k : KeptPair = record { pair = c.self.inside.pair; anew = c.self.inside.anew; reserve = c.self.inside.reserve } in
    let at : KeptPair = record k { pair = begun k.anew (call_refused no_own k.pair c.args.caller asked) k.pair } in
    let new : KeptPair = record k { pair = c.call_at.new.pair } in
    let free : refused_before c.args.caller asked (length c.args.out.now) k ≡ None = subst (λ (o : KeptPair). refused_before c.args.caller asked (length c.args.out.now) o ≡ None) (sym c.self.view_is) c.requires.free in
    let fits : content_max asked ≤ length c.args.out.now = before-fits c.args.caller asked (length c.args.out.now) k free in
    let filled = c.give.ensures ∙ ap (λ bytes. bytes ++ drop (length bytes) c.args.out.now) c.as_slice.ensures.value in
    let kept = begun-kept k (call_refused no_own k.pair c.args.caller asked) c.self.invariant.kept in
    let small = content-small at.pair c.call_at.new.pair c.args.caller asked c.in-Ok.answer c.call_at.new.out.items kept.within c.in-Ok.ensures.adds c.in-Ok.ensures.filled in
    let few : length c.call_at.new.out.items ≤ length c.args.out.now = omega (arith, fits, small) in
    let stays = Stay c.args.out.now c.give.new.out c.args.reply.now c.replied.result in
    let done = Answers c.args.caller asked c.replied.result c.args.out.now c.give.new.out in
    subst (λ (o : KeptPair). CallsAt (refused_within c.args.caller asked (length c.args.out.now)) stays done o new 0) c.self.view_is
    (called-at c.args.caller asked (length c.args.out.now) stays done k new 0 free c.self.invariant.kept c.requires.few
    (was_done c.call_at.result 0 ((c.call_at.new.pair ≡ at.pair) × (c.call_at.new.out ≡ c.self.inside.answer)) _ _ (call_refused no_own at.pair c.args.caller asked) c.in-Ok.answer c.call_at.ensures.refused c.in-Ok.is refl
    (answered c.args.caller asked c.replied.result c.in-Ok.answer c.call_at.new.out.items c.args.out.now c.give.new.out at new c.replied.ensures.bytes c.replied.ensures.told c.in-Ok.ensures.filled few filled c.in-Ok.ensures.adds
    (record { anew = refl; reserve = refl }))))
