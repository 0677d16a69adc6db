-- The M_FLUSH is alone in hand.
use Rattle.strm_pair.proofs.Prelude.{ℕ, ◌≡◌, ◌≤◌, Bool, true, false, cond, ap, ◌∙◌, arith, range-spare}
use Rattle.strm_pair.specs.Prelude.{FlushAsked, Side, Down, Spot, FlushR, FlushRW, FlushW, asked_by, flush_bytes, flush_message, spare, most_of}
use Rattle.strm_pair.specs.Prelude.{in_hand, token, message_of, StoreValue}
use Rattle.strm_types.specs.Flushing.{asked_of}
use Rattle.strm_types.specs.Budgets.{most_on}
use Rattle.strm_pair.specs.Pairs.{state_in}
use Rattle.strm_pair.proofs.InHand.{made-alone, made-state, made-leads, made-left}
use Rattle.strm_pair.proofs.PlaceCosts.{may-by}
use Rattle.strm_frame.proofs.WidePools.{wide-on}
use Rattle.strm_pair.proofs.streams.Streams.flush.Goals as goal

pub deliver_alone-requires-clause-alone : goal.deliver_alone-requires-clause-alone
deliver_alone-requires-clause-alone g c =
    let sends = c.make_flush-message.ensures in
    made-alone (g.B.Blocks.value c.args.store.now) (g.B.Blocks.value c.make_flush-message.new.store) c.args.self.now c.requires.may.rests (token c.make_flush-message.result) sends.after sends.chain

-- an M_FLUSH on its way down
flush-few : (side : Side) (asked : FlushAsked) → most_of {C = ℕ} (record { side = side; at = 1; way = Down }) (flush_message (flush_bytes asked)) ≤ 5
flush-few side asked = at (asked_by (flush_bytes asked)).for_write (asked_by (flush_bytes asked)).for_read
  where
    at : (write read : Bool) → most_on Down (cond write (cond read FlushRW FlushW) FlushR) ≤ 5
    at true true = omega arith
    at true false = omega arith
    at false read = omega arith

pub deliver_alone-requires-clause-room : goal.deliver_alone-requires-clause-room
deliver_alone-requires-clause-room g c =
    let s = g.B.Blocks.value c.args.store.now in
    let made = g.B.Blocks.value c.make_flush-message.new.store in
    let i = token c.make_flush-message.result in
    let sends = c.make_flush-message.ensures in
    let same = ap spare (made-state s made c.args.self.now c.requires.may.rests i sends.after) in
    let room = c.requires.may.room in
    may-by made (spare (state_in made c.args.self.now)) (record { side = c.args.side; at = 1; way = Down }) (message_of (in_hand made i)) (flush_message (flush_bytes c.of.result)) 5 sends.shows (flush-few c.args.side c.of.result)
    (record { mblks = omega (arith, room.mblks, sends.room_m); dblks = omega (arith, room.dblks, sends.room_d) }) (omega (arith, same, range-spare (state_in s c.args.self.now) c.requires.may.range))

pub returns-clause-delivers : goal.returns-clause-delivers
returns-clause-delivers g c =
    let K = g.M.Behaves.does in
    let s = g.B.Blocks.value c.args.store.now in
    let made = g.B.Blocks.value c.make_flush-message.new.store in
    let t = g.B.Blocks.value c.deliver_alone.new.store in
    let p = c.args.self.now in
    let q = c.deliver_alone.new.self in
    let i = token c.make_flush-message.result in
    let to : Spot = record { side = c.args.side; at = 1; way = Down } in
    let sends = c.make_flush-message.ensures in
    let e = c.deliver_alone.ensures in
    let shown : message_of (in_hand made i) ≡ flush_message (flush_bytes (asked_of c.args.what c.args.band)) = sends.shows ∙ ap (λ a. flush_message (flush_bytes a)) c.of.ensures in
    record {
      leads = made-leads s made p c.requires.may.rests i sends.after K t q c.args.told.now c.deliver_alone.new.told to (flush_message (flush_bytes (asked_of c.args.what c.args.band))) shown e.leads;
      left = made-left s made p c.requires.may.rests i sends.after t q to (flush_message (flush_bytes c.of.result)) 5 sends.shows (flush-few c.args.side c.of.result) e.takes;
    }

pub deliver_alone-requires-clause-wide : goal.deliver_alone-requires-clause-wide
deliver_alone-requires-clause-wide g c =
    let after = c.make_flush-message.ensures.after in
    let s = g.B.Blocks.value c.args.store.now in
    let t = g.B.Blocks.value c.make_flush-message.new.store in
    wide-on g.M.OwnModule.wide s t (ap (λ (v : StoreValue). v.mblks) after) (ap (λ (v : StoreValue). v.dblks) after) c.requires.wide
