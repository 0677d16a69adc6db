-- The message is alone in hand.
use Rattle.strm_pair.proofs.Prelude.{ℕ, ◌≡◌, ◌+◌, length, List, false, refl, ap, ◌∙◌, arith, None, Some, option_map, parts-few}
use Rattle.strm_pair.specs.Prelude.{Book, Prio, High, Band, Side, with_written, direction_from, no_parts, put_message, spare, most_of, State, book}
use Rattle.strm_pair.specs.Prelude.{with_book, in_hand, token, message_of, part, Message, Down, Spot, StoreValue}
use Rattle.std.proofs.Common.{Option, Bor}
use Rattle.strm_pair.specs.Pairs.{state_in}
use Rattle.strm_pair.proofs.InHand.{made-alone, made-state, made-leads, made-left}
use Rattle.strm_pair.proofs.PlaceCosts.{may-by}
use Rattle.strm_pair.proofs.PutBooks.{book-low, put-state, put-told, sent-written, written-spare}
use Rattle.strm_frame.proofs.WidePools.{wide-on}
use Rattle.strm_pair.proofs.streams.Streams.putmsg.Goals as goal

-- a part's bytes
abbrev shown : Option (Bor (List ℕ)) → Option (List ℕ)
shown o = option_map (λ bytes. bytes.now) o

pub deliver_alone-requires-clause-alone : goal.deliver_alone-requires-clause-alone
deliver_alone-requires-clause-alone g c =
    let sends = c.in-Some.ensures.made in
    made-alone (g.B.Blocks.value c.args.store.now) (g.B.Blocks.value c.make_message.new.store) c.args.self.now c.requires.may.rests (token c.in-Some.message) sends.after sends.chain

-- a message of parts takes no block on its way down, and no packet comes of it
parts-free : (side : Side) (prio : Prio) (control body : Option (List ℕ)) → no_parts control body ≡ false → most_of (record { side = side; at = 1; way = Down }) (put_message prio control body) ≡ 0
parts-free side prio None None some = absurd (cc)
parts-free side High (Some xs) body some = refl
parts-free side (Band band) (Some xs) body some = refl
parts-free side High None (Some ys) some = refl
parts-free side (Band band) None (Some ys) some = refl

pub deliver_alone-requires-clause-room : goal.deliver_alone-requires-clause-room
deliver_alone-requires-clause-room g c =
    let made = g.B.Blocks.value c.make_message.new.store in
    let free = parts-free c.args.side c.args.prio (shown c.args.control) (shown c.args.body) c.in-Some.ensures.none in
    may-by made (spare (state_in made c.args.self.now)) (record { side = c.args.side; at = 1; way = Down }) (message_of (in_hand made (token c.in-Some.message)))
    (put_message c.args.prio (shown c.args.control) (shown c.args.body)) 0 c.in-Some.ensures.made.shows (omega (arith, free)) (record { mblks = omega arith; dblks = omega arith }) (omega arith)

pub with_written-book-requires : goal.with_written-book-requires
with_written-book-requires g c =
    let s = g.B.Blocks.value c.args.store.now in
    let made = g.B.Blocks.value c.make_message.new.store in
    let t = g.B.Blocks.value c.deliver_alone.new.store in
    let i = token c.in-Some.message in
    let old = state_in s c.args.self.now in
    let dir = direction_from c.args.side in
    let to : Spot = record { side = c.args.side; at = 1; way = Down } in
    let is = ap (λ (b : Book). b.written) (c.book_of.ensures t) in
    let sent = ap (λ (v : State ℕ). (book dir v).written) c.deliver_alone.ensures.leads.state in
    let stays = sent-written g.M.Behaves.does to (message_of (in_hand made i)) dir (state_in made c.args.self.now) in
    let same = ap (λ (v : State ℕ). (book dir v).written) (made-state s made c.args.self.now c.requires.may.rests i c.in-Some.ensures.made.after) in
    let few = parts-few c.args.prio (shown c.args.control) (shown c.args.body) c.requires.allowed in
    omega (arith, book-low c.args.side old c.requires.may.range, is, sent, stays, same, few, c.len_of.ensures.value, c.len_of-2.ensures.value)

pub returns-clause-delivers : goal.returns-clause-delivers
returns-clause-delivers g c =
    let K = g.M.Behaves.does in
    let s = g.B.Blocks.value c.args.store.now in
    let made = g.B.Blocks.value c.make_message.new.store in
    let t = g.B.Blocks.value c.deliver_alone.new.store in
    let p = c.args.self.now in
    let q = c.deliver_alone.new.self in
    let i = token c.in-Some.message in
    let dir = direction_from c.args.side in
    let to : Spot = record { side = c.args.side; at = 1; way = Down } in
    let control = shown c.args.control in
    let body = shown c.args.body in
    let m : Message ℕ = put_message c.args.prio control body in
    let n = c.len_of.result + c.len_of-2.result in
    let sends = c.in-Some.ensures in
    let e = c.deliver_alone.ensures in
    let sent = made-leads s made p c.requires.may.rests i sends.made.after K t q c.args.told.now c.deliver_alone.new.told to m sends.made.shows e.leads in
    let left = made-left s made p c.requires.may.rests i sends.made.after t q to m 0 sends.made.shows (omega (arith, parts-free c.args.side c.args.prio control body sends.none)) e.takes in
    let kept = c.keep_book.ensures in
    let is = c.with_written-book.ensures ∙ ap (with_written n) (c.book_of.ensures t) in
    let booked = kept.state t ∙ ap (λ (b : Book). with_book dir b (state_in t q)) is in
    record {
      leads = record {
        state = put-state K c.args.side c.args.prio control body (state_in s p) sends.none m refl (state_in t q) (state_in t c.keep_book.new.self) c.with_written-book.result n sent.state (kept.state t) is
            (ap (λ k. k + c.len_of-2.result) c.len_of.ensures.value ∙ ap (λ k. length (part control) + k) c.len_of-2.ensures.value);
        tells =
            put-told K c.args.side c.args.prio control body (state_in s p) sends.none m refl c.args.told.now c.deliver_alone.new.told sent.tells;
        held = kept.held t sent.held;
        pool = sent.pool;
      };
      left = omega (arith, left, ap spare booked, written-spare dir n (state_in t q));
    }

pub deliver_alone-requires-clause-wide : goal.deliver_alone-requires-clause-wide
deliver_alone-requires-clause-wide g c =
    let after = c.in-Some.ensures.made.after in
    let s = g.B.Blocks.value c.args.store.now in
    let t = g.B.Blocks.value c.make_message.new.store in
    wide-on g.M.OwnModule.wide s t (ap (λ (v : StoreValue). v.mblks) after) (ap (λ (v : StoreValue). v.dblks) after) c.requires.wide
