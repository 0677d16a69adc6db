-- Nothing is in hand when all is delivered.
use Rattle.strm_pair.proofs.Prelude.{sym, subst, arith, keeps-most, delivered-idle}
use Rattle.strm_pair.specs.Prelude.{plain, AreIdle, stands_of, in_hand, token, message_of}
use Rattle.strm_laws.proofs.Budgeted.{ends}
use Rattle.strm_frame.specs.Outboxes.{spot_in}
use Rattle.strm_frame.proofs.Handing.{alone-can, none-left}
use Rattle.strm_pair.specs.Framing.{rests}
use Rattle.strm_pair.specs.Pairs.{kept_by, state_in}
use Rattle.strm_pair.proofs.PlaceCosts.{once-stands}
use Rattle.strm_pair.proofs.streams.Streams.deliver_alone.Goals as goal

pub deliver-requires-clause-can_put : goal.deliver-requires-clause-can_put
deliver-requires-clause-can_put g c =
    let s = g.B.Blocks.value c.args.store.now in
    let p = c.args.self.now in
    let i = token c.args.message in
    let is = c.requires.alone in
    alone-can s i (in_hand s i) (kept_by p) is.hand (rests s p is.beside is.idle)

pub deliver-requires-clause-held : goal.deliver-requires-clause-held
deliver-requires-clause-held g c = let is = c.requires.alone in record { beside = is.beside; wide = c.requires.wide; enabled = is.enabled }

pub deliver-requires-clause-may : goal.deliver-requires-clause-may
deliver-requires-clause-may g c =
    let s = g.B.Blocks.value c.args.store.now in
    let p = c.args.self.now in
    let a = spot_in s c.args.to (token c.args.message) in
    let few = keeps-most (stands_of (state_in s p)) (once-stands s p c.requires.alone.beside) a in
    let may = c.requires.room in
    record {
      room = record { mblks = omega (arith, may.room.mblks, few); dblks = omega (arith, may.room.dblks, few) };
      spare = omega (arith, may.spare, few);
      ends = ends (stands_of (state_in s p)) a;
    }

pub returns-clause-takes : goal.returns-clause-takes
returns-clause-takes g c =
    let s = g.B.Blocks.value c.args.store.now in
    let p = c.args.self.now in
    let few = keeps-most (stands_of (state_in s p)) (once-stands s p c.requires.alone.beside) (spot_in s c.args.to (token c.args.message)) in
    let takes = c.deliver.ensures.delivers.takes in
    record {
      blocks = record { mblks = omega (arith, takes.blocks.mblks, few); dblks = omega (arith, takes.blocks.dblks, few) };
      spare = omega (arith, takes.spare, few);
    }

pub returns-clause-leads : goal.returns-clause-leads
returns-clause-leads g c =
    let s = g.B.Blocks.value c.args.store.now in
    let t = g.B.Blocks.value c.deliver.new.store in
    let p = c.args.self.now in
    let q = c.deliver.new.stations in
    let i = token c.args.message in
    let is = c.requires.alone in
    let e = c.deliver.ensures.delivers in
    let idle = subst AreIdle (sym e.state) (delivered-idle g.M.Behaves.does plain c.args.to (message_of (in_hand s i)) (state_in s p) is.idle) in
    record {
      state = e.state;
      tells = e.told;
      held = record {
        hand = none-left s t i (in_hand s i) (kept_by p) (kept_by q) is.hand (rests t q e.held.beside idle) e.hands;
        beside = e.held.beside;
      };
      pool = record { mblks = e.pool.mblks; dblks = e.pool.dblks };
    }
