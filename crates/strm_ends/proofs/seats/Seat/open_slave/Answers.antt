use Rattle.std.proofs.Common.{sym}
use Rattle.std.specs.Arc.{arc_value}
use Rattle.strm_ends.specs.Outcomes.{made_where}
use Rattle.strm_ends.proofs.Slaves.{slave_of_end}
use Rattle.strm_ends.proofs.seats.Seat.open_slave.Goals as goal

pub returns-in-End : goal.returns-in-End
returns-in-End g c =
    slave_of_end (arc_value c.self.inside.host) c.self.inside.opener c.self.inside.hold c.args.self.now c.self.view_is
    c.replace.new.dest c.in-End.system c.in-End.end (made_where c.open_slave_by.result c.open_slave_by.new.second) c.open_slave_by.new.self
    c.open_slave_by.result (sym c.in-End.ensures.value) c.open_slave_by.ensures
