use Rattle.std.proofs.Common.{length, refl, sym, ◌∙◌}
use Rattle.strm_types.specs.Events.{request}
use Rattle.strm_handle.specs.Outcomes.{Answers, Stay}
use Rattle.strm_handle.proofs.Decisions.{called-early}
use Rattle.strm_handle.proofs.kept.Kept.call.Goals as goal

pub returns-in-Some : goal.returns-in-Some
returns-in-Some c =
    let asked = request c.args.event.now in
    called-early c.args.caller asked (length c.args.out.now) (Stay c.args.out.now c.args.out.now c.args.reply.now c.args.reply.now)
    (Answers c.args.caller asked c.args.reply.now c.args.out.now c.args.out.now) c.args.self.now c.in-Some.refusal c.refused.result (sym c.refusal_before.ensures ∙ c.in-Some.is) c.refused.ensures (refl, refl)
