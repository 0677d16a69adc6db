-- What its procedure did, in the frame's words.
use Rattle.strm_blocks.specs.Blocks.{token}
use Rattle.strm_ldterm.proofs.Standing.{never-bare, puts-stand, stands-held}
use Rattle.strm_ldterm.proofs.module.LdtermProceduresUnit.put.Goals as goal

pub unreachable-requires : goal.unreachable-requires
unreachable-requires g c = never-bare (g.B.Blocks.value c.args.store.now) c.args.self.now c.args.queues.now c.in_default.is c.requires.held

pub put-requires-clause-held : goal.put-requires-clause-held
put-requires-clause-held g c = stands-held (g.B.Blocks.value c.args.store.now) c.args.self.now c.args.queues.now c.in-Some.pair c.in-Some.is c.requires.held

pub returns : goal.returns
returns g c =
    puts-stand (g.B.Blocks.value c.args.store.now) (g.B.Blocks.value c.put.new.store) c.args.self.now c.put.new.ldterm c.in-Some.pair c.put.new.queues c.args.here (token c.args.message) c.put.result
    c.args.told.now c.put.new.told c.args.queues.now c.in-Some.is c.put.ensures.does c.put.ensures.blocks
