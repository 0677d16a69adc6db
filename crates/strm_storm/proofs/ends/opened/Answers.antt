use Rattle.strm_storm.proofs.Calls.{are_opened}
use Rattle.strm_storm.proofs.ends.opened.Goals as goal

pub returns : goal.returns
returns g c =
    let slave = c.in_ok-slave.ensures.opened in
    are_opened c.args.system.now c.args.minor c.in-Ok.end c.call.new.end c.open_slave.new.end c.in_ok-slave.slave c.in-Ok.ensures.3 c.in_ok-call.field-0 slave.1 _ c.call.new.out.items slave.2 slave.3 c.open_slave.ensures.one
    c.in_ok-slave.ensures.slave c.in-Ok.ensures.0 c.call.ensures.pair c.open_slave.ensures.pair c.in_ok-call.ensures.told slave.4 slave.5 slave.6
