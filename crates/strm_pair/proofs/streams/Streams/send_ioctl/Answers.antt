-- The M_IOCTL is alone in hand.
use Rattle.strm_pair.proofs.Prelude.{ℕ, ◌≡◌, ◌≤◌, List, [], ◌∷◌, refl, sym, ap, subst, ◌∙◌, arith, range-spare}
use Rattle.strm_pair.specs.Prelude.{Side, Down, Spot, plain, AreIdle, Message, delivered, spare, most_of, State, in_hand, token, StoreValue}
use Rattle.strm_pair.specs.Prelude.{message_of, stream}
use Rattle.strm_laws.specs.Prelude.{Waiting}
use Rattle.strm_types.specs.declared.ioctls.Ioc.{Ioc}
use Rattle.strm_laws.specs.Calls.{ioctl_begun}
use Rattle.strm_types.specs.Ioctls.{asking, ioctl_message}
use Rattle.strm_head.specs.Sending.{ioctl_blocks}
use Rattle.strm_pair.specs.declared.streams.Streams.{Streams}
use Rattle.strm_pair.specs.Pairs.{state_in}
use Rattle.strm_pair.specs.Effects.{AreAtRest, Becomes, Leads}
use Rattle.strm_pair.specs.Enabling.{AreFewEnabled}
use Rattle.strm_pair.proofs.Enabling.{with-few}
use Rattle.strm_pair.proofs.Idle.{idle-with}
use Rattle.strm_pair.proofs.InHand.{made-alone, made-state, made-leads, made-left}
use Rattle.strm_pair.proofs.PlaceCosts.{may-by}
use Rattle.strm_frame.proofs.WidePools.{wide-on}
use Rattle.strm_pair.proofs.streams.Streams.send_ioctl.Goals as goal

-- the modules stay where an ioctl begins
begun-idle : (side : Side) (command : ℕ) (s : State ℕ) → AreIdle s → AreIdle (ioctl_begun side command s)
begun-idle side command s idle = idle-with side _ s (idle side) idle

-- and enabled queues
begun-few : (side : Side) (command : ℕ) (s : State ℕ) → AreFewEnabled s → AreFewEnabled (ioctl_begun side command s)
begun-few side command s e =
    let few = with-few s e side (record (stream side s) { head = record (stream side s).head { ioctl = Waiting s.next_ioctl command } }) refl in
    record { all = few.all; few = few.few; among = few.among; names = few.names }

-- an M_IOCTL on its way down
ioctl-few : (side : Side) (ioc : Ioc) (body : List ℕ) → most_of {C = ℕ} (record { side = side; at = 1; way = Down }) (ioctl_message ioc body) ≤ 30
ioctl-few side ioc body = omega arith

blocks-few : (body : List ℕ) → ioctl_blocks body ≤ 2
blocks-few [] = omega arith
blocks-few (b ∷ body) = omega arith

begun-spare : (side : Side) (command : ℕ) (s : State ℕ) → spare (ioctl_begun side command s) ≡ spare s
begun-spare side command s = refl

-- the streams are at rest where it is under way, as they were
begun-rests : (s : StoreValue) (p q : Streams) (side : Side) (command : ℕ) → AreAtRest s p → Becomes p q (ioctl_begun side command)
    → AreAtRest s q
begun-rests s p q side command at_rest begun = record {
  held = begun.held s at_rest.held;
  idle = subst AreIdle (sym (begun.state s)) (begun-idle side command (state_in s p) at_rest.idle);
  enabled = subst AreFewEnabled (sym (begun.state s)) (begun-few side command (state_in s p) at_rest.enabled);
}

pub deliver_alone-requires-clause-alone : goal.deliver_alone-requires-clause-alone
deliver_alone-requires-clause-alone g c =
    let s = g.B.Blocks.value c.args.store.now in
    let sends = c.make_ioctl-message.ensures in
    let q = c.begin_ioctl.new.self in
    made-alone s (g.B.Blocks.value c.make_ioctl-message.new.store) q (begun-rests s c.args.self.now q c.args.side c.args.command c.requires.may.rests c.begin_ioctl.ensures) (token c.make_ioctl-message.result) sends.after sends.chain

pub deliver_alone-requires-clause-room : goal.deliver_alone-requires-clause-room
deliver_alone-requires-clause-room g c =
    let s = g.B.Blocks.value c.args.store.now in
    let made = g.B.Blocks.value c.make_ioctl-message.new.store in
    let p = c.args.self.now in
    let q = c.begin_ioctl.new.self in
    let i = token c.make_ioctl-message.result in
    let sends = c.make_ioctl-message.ensures in
    let rests = begun-rests s p q c.args.side c.args.command c.requires.may.rests c.begin_ioctl.ensures in
    let begun = made-state s made q rests i sends.after ∙ c.begin_ioctl.ensures.state s in
    let room = c.requires.may.room in
    may-by made (spare (state_in made q)) (record { side = c.args.side; at = 1; way = Down }) (message_of (in_hand made i)) (ioctl_message c.asking.result c.args.body.now) 30 sends.shows (ioctl-few c.args.side c.asking.result c.args.body.now)
    (record { mblks = omega (arith, room.mblks, sends.room_m, blocks-few c.args.body.now); dblks = omega (arith, room.dblks, sends.room_d, blocks-few c.args.body.now) })
    (omega (arith, ap spare begun, begun-spare c.args.side c.args.command (state_in s p), range-spare (state_in s p) c.requires.may.range))

pub returns : goal.returns
returns g c =
    let K = g.M.Behaves.does in
    let s = g.B.Blocks.value c.args.store.now in
    let made = g.B.Blocks.value c.make_ioctl-message.new.store in
    let t = g.B.Blocks.value c.deliver_alone.new.store in
    let p = c.args.self.now in
    let begun = c.begin_ioctl.new.self in
    let q = c.deliver_alone.new.self in
    let i = token c.make_ioctl-message.result in
    let to : Spot = record { side = c.args.side; at = 1; way = Down } in
    let m : Message ℕ = ioctl_message (asking c.args.command p.next_ioctl) c.args.body.now in
    let sends = c.make_ioctl-message.ensures in
    let e = c.deliver_alone.ensures in
    let rests = begun-rests s p begun c.args.side c.args.command c.requires.may.rests c.begin_ioctl.ensures in
    let shown : message_of (in_hand made i) ≡ m = sends.shows ∙ ap (λ ioc. ioctl_message ioc c.args.body.now) c.asking.ensures in
    let left = made-left s made begun rests i sends.after t q to (ioctl_message c.asking.result c.args.body.now) 30 sends.shows (ioctl-few c.args.side c.asking.result c.args.body.now) e.takes in
    record {
      leads = subst (λ (v : State ℕ). let is = delivered K plain to m v in Leads s t q c.args.told.now c.deliver_alone.new.told is.state is.gone) (c.begin_ioctl.ensures.state s)
          (made-leads s made begun rests i sends.after K t q c.args.told.now c.deliver_alone.new.told to m shown e.leads);
      left = omega (arith, left, ap spare (c.begin_ioctl.ensures.state s), begun-spare c.args.side c.args.command (state_in s p));
    }

pub deliver_alone-requires-clause-wide : goal.deliver_alone-requires-clause-wide
deliver_alone-requires-clause-wide g c =
    let after = c.make_ioctl-message.ensures.after in
    let s = g.B.Blocks.value c.args.store.now in
    let t = g.B.Blocks.value c.make_ioctl-message.new.store in
    wide-on g.M.OwnModule.wide s t (ap (λ (v : StoreValue). v.mblks) after) (ap (λ (v : StoreValue). v.dblks) after) c.requires.wide
