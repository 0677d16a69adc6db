use Rattle.std.proofs.Common.{sym, ◌∙◌}
use Rattle.strm_ends.proofs.Firsts.{first_made, none_made}
use Rattle.strm_ends.proofs.Opens.{closes}
use Rattle.strm_ends.proofs.making.make.Goals as goal

pub returns-in-Ok : goal.returns-in-Ok
returns-in-Ok c =
    first_made c.args.pairs c.args.sizes c.in-Ok.member.value c.args.handle.now.held.kept c.put.new.self.held.kept
    (closes c.args.handle.now.held.kept (sym c.is_open.ensures ∙ c.if-is_open.false)) c.put.ensures c.in-Ok.ensures

pub returns-in-Err : goal.returns-in-Err
returns-in-Err c = none_made c.args.pairs c.args.sizes c.in-Err.why c.args.handle.now.held.kept c.refused-in-Err.result
    (closes c.args.handle.now.held.kept (sym c.is_open.ensures ∙ c.if-is_open.false)) c.refused-in-Err.ensures c.in-Err.ensures
