-- The chunk is alone in hand.
use Rattle.strm_pair.proofs.Prelude.{ℕ, ◌≡◌, List, ap, ◌∙◌, arith}
use Rattle.strm_pair.specs.Prelude.{Side, Message, data_message, spare, most_of, below_head, in_hand, token, message_of, StoreValue}
use Rattle.strm_pair.specs.Pairs.{state_in}
use Rattle.strm_pair.proofs.ChunkSteps.{chunk-free}
use Rattle.strm_pair.proofs.InHand.{made-alone, made-leads, made-left}
use Rattle.strm_pair.proofs.PlaceCosts.{may-by}
use Rattle.strm_frame.proofs.WidePools.{spends-free, wide-on}
use Rattle.strm_pair.proofs.streams.Streams.send_chunk.Goals as goal

pub deliver_alone-requires-clause-alone : goal.deliver_alone-requires-clause-alone
deliver_alone-requires-clause-alone g c =
    let sends = c.write-message.ensures in
    made-alone (g.B.Blocks.value c.args.store.now) (g.B.Blocks.value c.write-message.new.store) c.args.self.now c.requires.rests (token c.write-message.result) sends.after sends.chain

pub deliver_alone-requires-clause-room : goal.deliver_alone-requires-clause-room
deliver_alone-requires-clause-room g c =
    let made = g.B.Blocks.value c.write-message.new.store in
    let free = chunk-free c.args.side c.args.chunk.now in
    may-by made (spare (state_in made c.args.self.now)) (below_head c.args.side) (message_of (in_hand made (token c.write-message.result))) (data_message c.args.chunk.now) 0 c.write-message.ensures.shows (omega (arith, free))
    (record { mblks = omega arith; dblks = omega arith }) (omega arith)

-- it takes none
free-of : (side : Side) (chunk : List ℕ) (m : Message ℕ) → m ≡ data_message chunk → most_of (below_head side) m ≡ 0
free-of side chunk m shows = ap (most_of (below_head side)) shows ∙ chunk-free side chunk

pub returns-clause-spends : goal.returns-clause-spends
returns-clause-spends g c =
    let free = free-of c.args.side c.args.chunk.now (message_of (in_hand (g.B.Blocks.value c.write-message.new.store) (token c.write-message.result))) c.write-message.ensures.shows in
    let blocks = c.deliver_alone.ensures.takes.blocks in
    let sends = c.write-message.ensures in
    let made = spends-free (g.B.Blocks.value c.args.store.now) (g.B.Blocks.value c.write-message.new.store)
    (record { mblks = ap (λ (v : StoreValue). v.mblks) sends.after; dblks = ap (λ (v : StoreValue). v.dblks) sends.after }) 1 0
    (omega (arith, sends.room_m)) (omega (arith, sends.room_d)) in
    record { mblks = omega (arith, free, blocks.mblks, made.mblks); dblks = omega (arith, free, blocks.dblks, made.dblks) }

pub returns-clause-delivers : goal.returns-clause-delivers
returns-clause-delivers g c =
    let s = g.B.Blocks.value c.args.store.now in
    let made = g.B.Blocks.value c.write-message.new.store in
    let t = g.B.Blocks.value c.deliver_alone.new.store in
    let p = c.args.self.now in
    let q = c.deliver_alone.new.self in
    let i = token c.write-message.result in
    let to = below_head c.args.side in
    let m : Message ℕ = data_message c.args.chunk.now in
    let sends = c.write-message.ensures in
    let e = c.deliver_alone.ensures in
    record {
      leads =
          made-leads s made p c.requires.rests i sends.after g.M.Behaves.does t q c.args.told.now c.deliver_alone.new.told to m sends.shows e.leads;
      left = made-left s made p c.requires.rests i sends.after t q to m 0 sends.shows (omega (arith, chunk-free c.args.side c.args.chunk.now)) e.takes;
    }

pub deliver_alone-requires-clause-wide : goal.deliver_alone-requires-clause-wide
deliver_alone-requires-clause-wide g c =
    let after = c.write-message.ensures.after in
    let s = g.B.Blocks.value c.args.store.now in
    let t = g.B.Blocks.value c.write-message.new.store in
    wide-on g.M.OwnModule.wide s t (ap (λ (v : StoreValue). v.mblks) after) (ap (λ (v : StoreValue). v.dblks) after) c.requires.wide
