-- A message stands there, which is one of data.
use Rattle.strm_ldterm.specs.Prelude.{token, messages_on}
use Rattle.strm_ldterm.proofs.Rewriting.{some-last, taken-ordinary}
use Rattle.strm_ldterm.proofs.standing_echo.take_echo.Goals as goal

pub unreachable-unreachable : goal.unreachable-unreachable
unreachable-unreachable g c = some-last (messages_on (g.B.Blocks.value c.args.store.now) c.args.queue.now.list) c.requires.last c.in_default.ensures.none

pub returns-clause-ordinary : goal.returns-clause-ordinary
returns-clause-ordinary g c =
    taken-ordinary (g.B.Blocks.value c.args.store.now) (g.B.Blocks.value c.take_last.new.store) c.args.queue.now c.take_last.new.queue (token c.in-Some.echo) c.in-Some.ensures c.requires.last
