-- Nothing of the slave's stands anywhere.
use Rattle.std.proofs.Common.{rules, arith}
use Rattle.strm_types.specs.declared.names.Side.TheVariants.{Master}
use Rattle.strm_pair.proofs.streams.Streams.is_at_end.Goals as goal

pub none_waits_up-requires : goal.none_waits_up-requires
none_waits_up-requires g c = (omega arith, (c.requires.beside Master).stack)

pub returns-then-none_waits_up : goal.returns-then-none_waits_up
returns-then-none_waits_up g c = search rules steps 300000
