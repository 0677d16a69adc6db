use Rattle.std.proofs.Common.{◌∙◌, ap, subst}
use Rattle.std.specs.Prelude.{None, Result}
use Rattle.strm_types.specs.declared.refusals.Refusal.{Refusal}
use Rattle.strm_locks.specs.Ends.{CallsSlave}
use Rattle.strm_locks.specs.Systems.{Numbered, numbered}
use Rattle.strm_ends.specs.declared.hold.Hold.TheVariants.{End}
use Rattle.strm_ends.specs.Members.{Seated, seated}
use Rattle.strm_ends.proofs.Slaves.{opened_slave}
use Rattle.strm_ends.proofs.seats.Seat.open_slave_by.Goals as goal

pub returns-in-Ok-Ok : goal.returns-in-Ok-Ok
returns-in-Ok-Ok g c =
    let e = c.args.end in
    let f = c.try_open_slave-opened.new.end in
    opened_slave c.args.self.now c.have.new.self c.args.system e f c.in-Ok-Ok.slave c.have-in-Ok-Ok.new.self c.try_open_slave-opened.ensures.pair
    c.try_open_slave-opened.ensures.minor
    (subst (λ (o : Result Numbered Refusal). CallsSlave (numbered e.pair None) e.end o f.end) c.in-Ok-Ok.field-0-is c.in-Ok-Ok.ensures.opened)
    c.have.ensures
    (c.have-in-Ok-Ok.ensures ∙ ap (λ (m : Seated). seated m.host m.opener (End c.args.system c.in-Ok-Ok.slave)) c.requires.beside)
