use Rattle.std.proofs.Common.{◌≡◌, [], arith, refl, sym, ap, ◌∙◌, subst}
use Rattle.strm_types.specs.Events.{request}
use Rattle.strm_locks.specs.Books.{Fits, LockId, plus}
use Rattle.strm_locks.specs.Ends.{Calls, Share}
use Rattle.strm_locks.specs.Rules.{Mine, holding, grown}
use Rattle.strm_locks.specs.Shares.{IsSeated, MayGive, lock_of}
use Rattle.strm_locks.proofs.Calling.{call_seated, call_told, did_sized, fits_told, gives_applied, has_part}
use Rattle.std.proofs.lemmas.Bool.Decides.{when_false, when_true}
use Rattle.strm_locks.proofs.lock.Lock.try_call.Goals as goal

pub call_held-answer-requires-clause-lock : goal.call_held-answer-requires-clause-lock
call_held-answer-requires-clause-lock g c = let had = when_true _ _ c.if-not-try_take.false c.try_take.ensures.lock in let k = had.0 in let h = had.1 in
    let some = has_part _ _ _ c.end.invariant in let p = h.knows.parts in (k, ap (λ (m : Mine). m.1) h.seen, λ all. absurd (omega arith))

pub give-requires-clause-lock : goal.give-requires-clause-lock
give-requires-clause-lock g c = let i = c.end.inside in let had = when_true _ _ c.if-not-try_take.false c.try_take.ensures.lock in let k = had.0 in let h = had.1 in
    let did = c.call_held-answer.ensures.did k (ap (λ (m : Mine). m.1) h.seen) in
    let is : c.call_held-answer.new.seat.me.0 ≡ holding i.seat.me.0 k = c.call_held-answer.ensures.same.1 ∙ ap (λ (m : Mine). m.0) h.seen in (
      did.0,
      did.1,
      subst (λ w. MayGive w did.0.book) (sym is) (gives_applied k i.caller (request c.args.event.now) _ c.call_held-answer.new.out.items did.0 i.seat.me.0 c.call_held-answer.result (has_part _ _ _ c.end.invariant) did.2),
      did_sized k _ _ _ _ _ did.0 did.2.answer ∙ h.sized ∙ ap (λ (l : LockId). l.sizes) (ap (λ (x : Share). x.lock) c.end.view_is ∙ c.requires),
    )

pub plus-end-inside-requires : goal.plus-end-inside-requires
plus-end-inside-requires g c = let i = c.end.inside in let had = when_true _ _ c.if-not-try_take.false c.try_take.ensures.lock in let k = had.0 in let h = had.1 in
    let did = c.call_held-answer.ensures.did k (ap (λ (m : Mine). m.1) h.seen) in
    subst (λ t. Fits (plus t c.call_held-answer.result.1)) (ap (λ (m : Mine). m.0.told) c.end.invariant.shown)
    (fits_told k i.caller (request c.args.event.now) _ c.call_held-answer.new.out.items did.0 i.seat.me.0 c.call_held-answer.result h.knows did.2)

pub invariant_of-end-2 : goal.invariant_of-end-2
invariant_of-end-2 g c = let i = c.end.inside in let had = when_true _ _ c.if-not-try_take.false c.try_take.ensures.lock in let k = had.0 in let h = had.1 in
    let did = c.call_held-answer.ensures.did k (ap (λ (m : Mine). m.1) h.seen) in
    let is : c.call_held-answer.new.seat.me.0 ≡ holding i.seat.me.0 k = c.call_held-answer.ensures.same.1 ∙ ap (λ (m : Mine). m.0) h.seen in
    let e : Share = record { lock = lock_of i.seat; caller = i.caller; told = i.told; made = i.seat.me.0.made; parts = i.parts; met = i.seat.me.0.met } in
    call_seated k (request c.args.event.now) _ c.call_held-answer.new.out.items did.0 e i.seat.me c.give.new.seat.me c.call_held-answer.result c.plus-end-inside.result
    c.end.invariant did.2 (c.give.ensures.told did.0 did.1 ∙ ap (λ w. (grown w w.found did.0, [])) is) c.plus-end-inside.ensures

pub returns : goal.returns
returns g c = let i = c.end.inside in let had = when_true _ _ c.if-not-try_take.false c.try_take.ensures.lock in let k = had.0 in let h = had.1 in
    let did = c.call_held-answer.ensures.did k (ap (λ (m : Mine). m.1) h.seen) in
    let asked = request c.args.event.now in
    let bytes = c.call_held-answer.new.out.items in
    let is : c.call_held-answer.new.seat.me.0 ≡ holding i.seat.me.0 k = c.call_held-answer.ensures.same.1 ∙ ap (λ (m : Mine). m.0) h.seen in
    let e : Share = record { lock = lock_of i.seat; caller = i.caller; told = i.told; made = i.seat.me.0.made; parts = i.parts; met = i.seat.me.0.met } in
    let n : Share = record { lock = lock_of c.give.new.seat; caller = i.caller; told = c.plus-end-inside.result; made = c.give.new.seat.me.0.made; parts = i.parts; met = c.give.new.seat.me.0.met } in
    let table : c.give.new.seat.table_id ≡ i.seat.table_id = c.give.ensures.same.0 ∙ c.call_held-answer.ensures.same.0.0 ∙ c.try_take.ensures.same.0 in
    let now = c.give.ensures.told did.0 did.1 ∙ ap (λ w. (grown w w.found did.0, [])) is in
    let sizes : c.give.new.seat.me.0.sizes ≡ i.seat.me.0.sizes = ap (λ (m : Mine). m.0.sizes) now in
    subst (λ (x : Share). Calls x asked c.args.out.now.items bytes c.call_held-answer.result.0 n) c.end.view_is
    (call_told k asked c.args.out.now.items bytes did.0 e i.seat.me c.give.new.seat.me c.call_held-answer.result c.plus-end-inside.result
    c.end.invariant did.2 (c.give.ensures.told did.0 did.1 ∙ ap (λ w. (grown w w.found did.0, [])) is) c.plus-end-inside.ensures n refl refl
    (λ j. let x : Share = record { lock = record { table = table j; sizes = sizes j }; caller = i.caller; told = c.plus-end-inside.result; made = c.give.new.seat.me.0.made; parts = i.parts; met = c.give.new.seat.me.0.met } in x) h.sized)

pub invariant_of-end : goal.invariant_of-end
invariant_of-end g c = let i = c.end.inside in subst (λ m. IsSeated m i.told i.parts) (sym (when_false _ _ c.if-not-try_take.true c.try_take.ensures.lock)) c.end.invariant

pub returns-then-not-try_take : goal.returns-then-not-try_take
returns-then-not-try_take g c = let i = c.end.inside in let same : c.try_take.new.seat.me ≡ i.seat.me = when_false _ _ c.if-not-try_take.true c.try_take.ensures.lock in (
  (λ j. let e : Share = record { lock = record { table = c.try_take.ensures.same.0 j; sizes = ap (λ (m : Mine). m.0.sizes) same j }; caller = i.caller; told = i.told; made = ap (λ (m : Mine). m.0.made) same j; parts = i.parts; met = ap (λ (m : Mine). m.0.met) same j } in e) ∙ c.end.view_is,
  refl,
)
