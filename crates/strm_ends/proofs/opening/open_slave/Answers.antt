use Rattle.std.proofs.Common.{◌≡◌, sym, ◌∙◌}
use Rattle.std.specs.Prelude.{None, Some}
use Rattle.strm_ends.specs.Opening.{OpensSlave}
use Rattle.strm_ends.proofs.AtMembers.{with_made}
use Rattle.strm_ends.proofs.Opens.{closes}
use Rattle.strm_ends.proofs.opening.open_slave.Goals as goal

pub open_slave-outcome-requires : goal.open_slave-outcome-requires
open_slave-outcome-requires c = closes c.args.made.now.held.kept (sym c.is_open.ensures ∙ c.if-is_open.false)

pub returns : goal.returns
returns c =
    let none : c.args.made.now.held.kept ≡ None = closes c.args.made.now.held.kept (sym c.is_open.ensures ∙ c.if-is_open.false) in
    let before : c.args.handle.now.held.kept ≡ Some c.as_mut.result.now = cc (c.in-Some.ensures.taken, c.as_mut.ensures.value) in
    let behind : c.put.new.self.held.kept ≡ Some c.open_slave-outcome.new.self = c.put.ensures in
    with_made OpensSlave c.args.handle.now.held.kept c.put.new.self.held.kept c.args.made.now.held.kept c.open_slave-outcome.new.made.held.kept
    c.as_mut.result.now c.open_slave-outcome.new.self c.open_slave-outcome.result c.number.result none before behind c.number.ensures
    c.open_slave-outcome.ensures
