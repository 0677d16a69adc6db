-- The message is alone in hand.
use Rattle.strm_pair.proofs.Prelude.{ℕ, ◌∷◌, refl, sym, ap, subst, ◌∙◌, arith, range-spare}
use Rattle.strm_pair.specs.Prelude.{Moved, Side, Up, Spot, plain, tallied, Carried, AreIdle, size_of, other, delivered, modules_on, left_with, spare}
use Rattle.strm_pair.specs.Prelude.{stream, State, message_of, in_hand, token}
use Rattle.strm_laws.specs.Turns.{turn_ended}
use Rattle.strm_msg.proofs.Bounds.{bytes-few}
use Rattle.strm_msg.proofs.Chains.{size-shown}
use Rattle.strm_pair.specs.Enabling.{AreFewEnabled}
use Rattle.strm_pair.specs.Pairs.{state_in}
use Rattle.strm_pair.proofs.Enabling.{delivered-few, with-few}
use Rattle.strm_pair.proofs.TurnSteps.{ended-spare, taken-idle, taken-spare, up-few}
use Rattle.strm_frame.proofs.WidePools.{wide-on}
use Rattle.strm_pair.proofs.streams.Streams.move_across.Goals as goal

pub deliver_alone-requires-clause-alone : goal.deliver_alone-requires-clause-alone
deliver_alone-requires-clause-alone g c =
    let got = g.B.Blocks.value c.take_first.new.store in
    let i = token c.in-Some.message in
    let e = c.in-Some.ensures in
    record {
      hand = e.hand ∙ ap (λ h. record { name = i; chain = in_hand got i } ∷ h) c.requires.may.rests.held.hand;
      chain = e.chain;
      beside = e.beside;
      idle = subst AreIdle (sym e.state) (taken-idle c.args.side _ (state_in (g.B.Blocks.value c.args.store.now) c.args.self.now) c.requires.may.rests.idle);
      enabled = subst AreFewEnabled (sym e.state)
          (with-few (state_in (g.B.Blocks.value c.args.store.now) c.args.self.now) c.requires.may.rests.enabled c.args.side _ refl);
    }

pub deliver_alone-requires-clause-room : goal.deliver_alone-requires-clause-room
deliver_alone-requires-clause-room g c =
    let old = state_in (g.B.Blocks.value c.args.store.now) c.args.self.now in
    let m = message_of (in_hand (g.B.Blocks.value c.take_first.new.store) (token c.in-Some.message)) in
    let few = up-few c.other-above.result c.modules_on-at.result m in
    let e = c.in-Some.ensures.frees in
    let room = c.requires.may.room in
    record {
      room = record { mblks = omega (arith, few, e.mblks, room.mblks); dblks = omega (arith, few, e.dblks, room.dblks) };
      spare = omega (arith, few, range-spare old c.requires.may.range, ap spare c.in-Some.ensures.state, taken-spare c.args.side (left_with c.in-Some.ensures.rest (stream c.args.side old).driver.queue) old);
    }

pub deliver_alone-requires-clause-wide : goal.deliver_alone-requires-clause-wide
deliver_alone-requires-clause-wide g c =
    let e = c.in-Some.ensures in
    wide-on g.M.OwnModule.wide (g.B.Blocks.value c.args.store.now) (g.B.Blocks.value c.take_first.new.store) e.mblks e.dblks c.requires.wide

-- No message has more bytes than all blocks of a store.
pub overflow_cast-result : goal.overflow_cast-result
overflow_cast-result g c =
    let got = g.B.Blocks.value c.take_first.new.store in
    let i = token c.in-Some.message in
    let chain = c.in-Some.ensures.chain in
    omega (arith, c.message_size-size.ensures.message chain, size-shown (in_hand got i) chain, bytes-few got i c.audit.ensures)

-- the queues that the message enabled are there
pub end_turn-requires-clause-enabled : goal.end_turn-requires-clause-enabled
end_turn-requires-clause-enabled g c =
    let K = g.M.Behaves.does in
    let s = g.B.Blocks.value c.args.store.now in
    let took = g.B.Blocks.value c.take_first.new.store in
    let e = c.in-Some.ensures in
    let got = state_in took c.take_first.new.self in
    let few = subst AreFewEnabled (sym e.state) (with-few (state_in s c.args.self.now) c.requires.may.rests.enabled c.args.side _ refl) in
    subst AreFewEnabled (sym c.deliver_alone.ensures.leads.state) (delivered-few got few K _ (message_of (in_hand took (token c.in-Some.message))))

pub returns : goal.returns
returns g c =
    let K = g.M.Behaves.does in
    let side = c.args.side in
    let s = g.B.Blocks.value c.args.store.now in
    let took = g.B.Blocks.value c.take_first.new.store in
    let t = g.B.Blocks.value c.deliver_alone.new.store in
    let old = state_in s c.args.self.now in
    let got = state_in took c.take_first.new.self in
    let sent = state_in t c.deliver_alone.new.self in
    let m = message_of (in_hand took (token c.in-Some.message)) in
    let e = c.in-Some.ensures in
    let d = c.deliver_alone.ensures in
    let size_is = c.message_size-size.ensures.message e.chain in
    let place_is = c.modules_on-at.ensures.on took in
    let up : Side → ℕ → Spot = λ sd n. record { side = sd; at = n; way = Up } in
    let led =
    ap (λ n. delivered K plain (up c.other-above.result n) m got) place_is
    ∙ ap (λ sd. delivered K plain (up sd (modules_on sd got)) m got) c.other-above.ensures
    ∙ ap (λ v. delivered K plain (up (other side) (modules_on (other side) v)) m v) e.state in
    record {
      message = m;
      rest = e.rest;
      first = e.first;
      answer = ap Moved size_is;
      delivers = record {
        leads = record {
          state = c.end_turn.ensures.state ∙ ap (λ n. turn_ended side n sent) size_is ∙ ap (turn_ended side (size_of m)) (d.leads.state ∙ ap (λ (o : Carried ℕ (State ℕ)). o.state) led);
          tells = d.leads.tells ∙ ap (λ (o : Carried ℕ (State ℕ)). tallied o.gone c.args.told.now) led;
          held = c.end_turn.ensures.held;
          pool = record { mblks = d.leads.pool.mblks ∙ e.mblks; dblks = d.leads.pool.dblks ∙ e.dblks };
        };
        left = omega (
          arith,
          up-few c.other-above.result c.modules_on-at.result m,
          ap spare e.state,
          taken-spare side (left_with e.rest (stream side old).driver.queue) old,
          d.takes.spare,
          ap spare c.end_turn.ensures.state,
          ended-spare side c.message_size-size.result sent,
        );
      };
    }
