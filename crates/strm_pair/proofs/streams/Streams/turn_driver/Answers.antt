-- What is seen of the first message says what becomes of it.
use Rattle.strm_pair.proofs.Prelude.{ℕ, Bool, true, false, [], refl, sym, ap, subst, ◌∙◌, arith, not, ◌&&◌}
use Rattle.strm_pair.specs.Prelude.{Up, Side, Fates, tallied, driver_place, is_held, other, has_room_past, writer_waits, spare, stream, TurnOutcome}
use Rattle.strm_pair.specs.Prelude.{with_driver, StoreValue}
use Rattle.strm_pair.specs.declared.streams.Streams.{Streams}
use Rattle.strm_pair.specs.Pairs.{state_in, end_at, AreHeld}
use Rattle.strm_pair.specs.Effects.{Becomes, Delivers}
use Rattle.strm_pair.proofs.TurnSteps.{taken-spare, turned-closed, turned-moved, turned-none, turned-stopped, waits-spare}
use Rattle.strm_pair.proofs.Leading.{leads-alone}
use Rattle.strm_pair.proofs.streams.Streams.turn_driver.Goals as goal

pub returns-then-is_stopped-clause-turn : goal.returns-then-is_stopped-clause-turn
returns-then-is_stopped-clause-turn g c =
    let K = g.M.Behaves.does in
    let s = g.B.Blocks.value c.args.store.now in
    let p = c.args.self.now in
    let side = c.args.side in
    let st = state_in s p in
    let x_is = c.end-across.ensures.end ∙ ap (λ sd. end_at sd p) c.other-above.ensures in
    let opened = sym c.is_open.ensures ∙ c.if-not-is_open.false in
    let asked = c.is_stopped.ensures ∙ ap (λ sd. is_held c.in-Some.first.kind && not (has_room_past sd Up (driver_place sd st) c.in-Some.first.band.0 st)) c.other-above.ensures in
    let is = turned-stopped s p side c.end.result.now c.end-across.result.now c.end.ensures.end x_is opened c.in-Some.first c.in-Some.ensures c.is_stopped.result asked K c.if-is_stopped.true in
    ap (λ (o : TurnOutcome ℕ). o.turn) (sym is)

pub returns-then-is_stopped-clause-delivers : goal.returns-then-is_stopped-clause-delivers
returns-then-is_stopped-clause-delivers g c =
    let K = g.M.Behaves.does in
    let s = g.B.Blocks.value c.args.store.now in
    let p = c.args.self.now in
    let side = c.args.side in
    let st = state_in s p in
    let x_is = c.end-across.ensures.end ∙ ap (λ sd. end_at sd p) c.other-above.ensures in
    let opened = sym c.is_open.ensures ∙ c.if-not-is_open.false in
    let asked = c.is_stopped.ensures ∙ ap (λ sd. is_held c.in-Some.first.kind && not (has_room_past sd Up (driver_place sd st) c.in-Some.first.band.0 st)) c.other-above.ensures in
    let is = turned-stopped s p side c.end.result.now c.end-across.result.now c.end.ensures.end x_is opened c.in-Some.first c.in-Some.ensures c.is_stopped.result asked K c.if-is_stopped.true in
    let kept = state_in s c.keep-then-is_stopped.new.self in
    let keeps = c.keep-then-is_stopped.ensures in
    let waits = c.wait_past.ensures in
    let band = c.in-Some.first.band.0 in
    record {
      leads = record {
        state = waits.state s
            ∙ ap (λ n. writer_waits c.other-above.result Up n band kept) (c.driver_place-at.ensures.place s)
            ∙ ap (λ sd. writer_waits sd Up (driver_place sd kept) band kept) c.other-above.ensures
            ∙ ap (λ v. writer_waits (other side) Up (driver_place (other side) v) band v) (keeps.state s)
            ∙ ap (λ (o : TurnOutcome ℕ). o.state) (sym is);
        tells = ap (λ (o : TurnOutcome ℕ). tallied o.gone c.args.told.now) (sym is);
        held = waits.held s (keeps.held s c.requires.may.rests.held);
        pool = record { mblks = refl; dblks = refl };
      };
      left = omega (
        arith,
        ap spare (waits.state s),
        waits-spare c.other-above.result Up c.driver_place-at.result band kept,
        ap spare (keeps.state s),
        taken-spare side (record (stream side st).driver.queue { want_read = false }) st,
      );
    }

pub returns-clause-turn : goal.returns-clause-turn
returns-clause-turn g c =
    let K = g.M.Behaves.does in
    let s = g.B.Blocks.value c.args.store.now in
    let p = c.args.self.now in
    let side = c.args.side in
    let st = state_in s p in
    let x_is = c.end-across.ensures.end ∙ ap (λ sd. end_at sd p) c.other-above.ensures in
    let opened = sym c.is_open.ensures ∙ c.if-not-is_open.false in
    let w = c.move_across.ensures in
    let asked = c.is_stopped.ensures ∙ ap (λ sd. is_held c.in-Some.first.kind && not (has_room_past sd Up (driver_place sd st) c.in-Some.first.band.0 st)) c.other-above.ensures in
    let is = turned-moved s p side c.end.result.now c.end-across.result.now c.end.ensures.end x_is opened c.in-Some.first c.in-Some.ensures c.is_stopped.result asked K c.if-is_stopped.false w.message w.rest w.first in
    w.answer ∙ ap (λ (o : TurnOutcome ℕ). o.turn) (sym is)

pub returns-clause-delivers : goal.returns-clause-delivers
returns-clause-delivers g c =
    let K = g.M.Behaves.does in
    let s = g.B.Blocks.value c.args.store.now in
    let p = c.args.self.now in
    let side = c.args.side in
    let st = state_in s p in
    let x_is = c.end-across.ensures.end ∙ ap (λ sd. end_at sd p) c.other-above.ensures in
    let opened = sym c.is_open.ensures ∙ c.if-not-is_open.false in
    let w = c.move_across.ensures in
    let asked = c.is_stopped.ensures ∙ ap (λ sd. is_held c.in-Some.first.kind && not (has_room_past sd Up (driver_place sd st) c.in-Some.first.band.0 st)) c.other-above.ensures in
    let is = turned-moved s p side c.end.result.now c.end-across.result.now c.end.ensures.end x_is opened c.in-Some.first c.in-Some.ensures c.is_stopped.result asked K c.if-is_stopped.false w.message w.rest w.first in
    subst (λ (o : TurnOutcome ℕ). Delivers s (g.B.Blocks.value c.move_across.new.store) p c.move_across.new.self c.args.told.now c.move_across.new.told o.state o.gone 8) (sym is) w.delivers

-- nothing moves, and the queue keeps what it has
stays-put : (side : Side) (want_read : Bool) (s : StoreValue) (p q : Streams) (f : Fates) → AreHeld s p
    → Becomes p q (λ st. with_driver side (record (stream side st).driver.queue { want_read = want_read }) st)
    → Delivers s s p q f f (with_driver side (record (stream side (state_in s p)).driver.queue { want_read = want_read }) (state_in s p)) [] 8
stays-put side want_read s p q f held keeps =
    let st = state_in s p in
    record {
      leads = leads-alone (λ v. with_driver side (record (stream side v).driver.queue { want_read = want_read }) v) s p q f held keeps;
      left = omega (arith, ap spare (keeps.state s), taken-spare side (record (stream side st).driver.queue { want_read = want_read }) st);
    }

pub returns-in_default-clause-delivers : goal.returns-in_default-clause-delivers
returns-in_default-clause-delivers g c =
    let s = g.B.Blocks.value c.args.store.now in
    let p = c.args.self.now in
    let f = c.args.told.now in
    let is = turned-none g.M.Behaves.does s p c.args.side c.end.result.now c.end.ensures.end (rw c.in_default.is at c.peek.ensures) in
    subst (λ (o : TurnOutcome ℕ). Delivers s s p c.keep.new.self f f o.state o.gone 8) (sym is) (stays-put c.args.side true s p c.keep.new.self f c.requires.may.rests.held c.keep.ensures)

pub returns-then-not-is_open-clause-delivers : goal.returns-then-not-is_open-clause-delivers
returns-then-not-is_open-clause-delivers g c =
    let K = g.M.Behaves.does in
    let s = g.B.Blocks.value c.args.store.now in
    let p = c.args.self.now in
    let f = c.args.told.now in
    let q = c.keep-then-not-is_open.new.self in
    let x_is = c.end-across.ensures.end ∙ ap (λ sd. end_at sd p) c.other-above.ensures in
    let closed = sym c.is_open.ensures ∙ c.if-not-is_open.true in
    let is = turned-closed K s p c.args.side c.end.result.now c.end-across.result.now c.end.ensures.end x_is closed c.in-Some.first
    c.in-Some.ensures in
    subst (λ (o : TurnOutcome ℕ). Delivers s s p q f f o.state o.gone 8) (sym is) (stays-put c.args.side false s p q f c.requires.may.rests.held c.keep-then-not-is_open.ensures)
