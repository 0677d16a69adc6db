-- A get that may go on isn't refused.
use Rattle.std.proofs.Common.{◌∙◌, cond, sym, ap, Some, None}
use Rattle.strm_types.specs.declared.refusals.Refusal.TheVariants.{Eagain}
use Rattle.strm_queue.specs.Stored.{messages_on}
use Rattle.strm_head.proofs.Seen.{get-refused}
use Rattle.strm_head.proofs.standing.get_refusal.Goals as goal

pub returns-then-gets_on : goal.returns-then-gets_on
returns-then-gets_on g c =
    let q = messages_on (g.B.Blocks.value c.args.store.now) c.args.queue.now.list in
    sym (ap (λ b. cond b None (Some Eagain)) (sym c.gets_on.ensures ∙ c.if-gets_on.true)) ∙ get-refused c.args.wanted c.args.at_end q

pub returns-else-gets_on : goal.returns-else-gets_on
returns-else-gets_on g c =
    let q = messages_on (g.B.Blocks.value c.args.store.now) c.args.queue.now.list in
    sym (ap (λ b. cond b None (Some Eagain)) (sym c.gets_on.ensures ∙ c.if-gets_on.false)) ∙ get-refused c.args.wanted c.args.at_end q
