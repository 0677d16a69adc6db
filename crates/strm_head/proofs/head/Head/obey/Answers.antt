-- What goes down again is what was asked for, without FLUSHR.
use Rattle.std.proofs.Common.{sym, ap, ◌∙◌}
use Rattle.strm_head.specs.Heads.{sent_down}
use Rattle.strm_head.proofs.Coming.{goes-round, stays-up}
use Rattle.strm_head.proofs.head.Head.obey.Goals.{then-asked, else-asked}
use Rattle.strm_head.proofs.head.Head.obey.Goals as goal

pub returns-clause-sent : goal.returns-clause-sent
returns-clause-sent g c =
    let here = c.args.here in
    elim c.if-asked.branch [
      | then-asked w ↦ ap (λ down. sent_down here down) w.down-is ∙ sym (goes-round here c.args.asked w.if-asked.true)
      | else-asked w ↦ ap (λ down. sent_down here down) w.down-is ∙ sym (stays-up here c.args.asked w.if-asked.false)
    ]
