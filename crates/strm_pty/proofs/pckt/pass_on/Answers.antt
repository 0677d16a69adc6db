-- The message is sent on.
use Rattle.std.proofs.Common.{refl, arith}
use Rattle.strm_pty.proofs.Packing.{passes-swaps}
use Rattle.strm_pty.proofs.pckt.pass_on.Goals as goal

pub returns : goal.returns
returns g c = record {
  notes = c.new.ensures;
  told = refl;
  swaps = passes-swaps (g.B.Blocks.value c.args.store.now) (record { to = c.toward.result; message = c.args.message }) _ c.args.here c.one.ensures c.toward.ensures c.requires.chain;
  blocks = λ held. (omega arith, omega arith);
}
