-- A block of each kind is free behind a message that was freed.
use Rattle.std.proofs.Common.{arith}
use Rattle.strm_blocks.specs.Blocks.{token}
use Rattle.strm_msg.proofs.Translating.{some-free}
use Rattle.strm_msg.proofs.translated.exchange.Goals as goal

pub unreachable-requires : goal.unreachable-requires
unreachable-requires g c =
    some-free (g.B.Blocks.value c.args.store.now) (token c.args.block) c.audit.ensures c.requires.in_hand c.requires.wide
    (omega (arith, c.requires.single)) c.free.ensures (rw c.in_default.is at c.alloc_with.ensures)
