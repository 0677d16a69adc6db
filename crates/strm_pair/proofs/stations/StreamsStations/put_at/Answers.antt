-- A put takes no more than it may, of blocks and of the books.
use Rattle.strm_pair.proofs.Prelude.{ap, arith, subst, sym}
use Rattle.strm_pair.specs.Prelude.{spare, message_in, token}
use Rattle.strm_pair.specs.Enabling.{AreFewEnabled}
use Rattle.strm_pair.specs.Pairs.{state_in}
use Rattle.strm_pair.proofs.Enabling.{put-few}
use Rattle.strm_pair.proofs.PlaceCosts.{plain-few, puts-spend}
use Rattle.strm_frame.proofs.WidePools.{wide-on}
use Rattle.strm_pair.proofs.stations.StreamsStations.put_at.Goals as goal

pub returns-clause-puts : goal.returns-clause-puts
returns-clause-puts g c =
    let s = g.B.Blocks.value c.args.store.now in
    let i = token c.args.message in
    let e = c.put.ensures.does in
    let spends = puts-spend g.M.Behaves.does c.args.to (message_in s i) (state_in s c.args.self.now) (plain-few s i c.audit.ensures) in
    record {
      state = e.state;
      sent = e.sent;
      told = e.tells;
      held = record {
        beside = e.beside;
        wide = wide-on g.M.OwnModule.wide s (g.B.Blocks.value c.put.new.store) e.pool.mblks e.pool.dblks c.requires.held.wide;
        enabled = subst AreFewEnabled (sym e.state) (put-few (state_in s c.args.self.now) c.requires.held.enabled g.M.Behaves.does c.args.to (message_in s i));
      };
      chains = e.chains;
      hands = e.hands;
      takes = record { blocks = e.spends; spare = omega (arith, spends, ap spare e.state) };
      pool = e.pool;
    }
