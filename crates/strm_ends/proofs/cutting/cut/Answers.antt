use Rattle.std.proofs.Common.{◌≡◌, sym, ◌∙◌}
use Rattle.std.specs.Prelude.{None, Some}
use Rattle.strm_handle.proofs.Opens.{closes}
use Rattle.strm_ends.proofs.AtMembers.{with_trace}
use Rattle.strm_ends.proofs.cutting.cut.Goals as goal

pub cut-outcome-requires : goal.cut-outcome-requires
cut-outcome-requires c = closes c.args.trace.now.held.kept (sym c.is_open.ensures ∙ c.if-is_open.false)

pub returns : goal.returns
returns c =
    let none : c.args.trace.now.held.kept ≡ None = closes c.args.trace.now.held.kept (sym c.is_open.ensures ∙ c.if-is_open.false) in
    let before : c.args.handle.now.held.kept ≡ Some c.behind-member.inside.seat = cc (c.in-Some.ensures.taken, c.as_ref.ensures, c.behind-member.view_is) in
    let behind : c.put.new.self.held.kept ≡ Some c.behind-member.inside.seat = cc (c.put.ensures, c.as_ref.ensures, c.behind-member.view_is) in
    with_trace c.args.handle.now.held.kept c.put.new.self.held.kept c.args.trace.now.held.kept c.cut-outcome.new.trace.held.kept
    c.behind-member.inside.seat c.behind-member.inside.seat c.cut-outcome.result c.number.result none before behind c.number.ensures c.cut-outcome.ensures
