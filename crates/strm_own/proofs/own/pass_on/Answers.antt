-- The message alone is sent on, and nothing else changes.
use Rattle.strm_own.proofs.Prelude.{refl, arith}
use Rattle.strm_pty.proofs.Packing.{passes-swaps}
use Rattle.strm_own.proofs.own.pass_on.Goals as goal

pub returns : goal.returns
returns c = λ s own told most may.
    let swaps = passes-swaps s (record { to = c.toward.result; message = c.args.message }) _ c.args.here c.one.ensures c.toward.ensures may.chain in
    record {
      state = refl;
      sent = swaps.sent;
      told = refl;
      lists = refl;
      chains = swaps.chains;
      hands = record {
        counts = λ j. let n = swaps.hands.counts j in omega arith;
        others = λ j gone kept some. refl;
      };
      spends = record { mblks = omega arith; dblks = omega arith };
      pool = swaps.hands.pool;
    }
