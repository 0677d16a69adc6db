-- What is seen of the first message tells whether it has a control part.
use Rattle.strm_head.proofs.Prelude.{◌∙◌, sym, ap, subst, map, first-holds}
use Rattle.strm_head.specs.Prelude.{Refuse, is_data_kind, is_control_kind, starts_refused, message_of, HoldsReadable, messages_on}
use Rattle.strm_head.proofs.Seen.{control-there}
use Rattle.strm_head.proofs.standing.starts_refused.Goals as goal

pub returns-in-Refuse-Some : goal.returns-in-Refuse-Some
returns-in-Refuse-Some g c =
    let p = c.in-Refuse-Some.ensures in
    let readable = first-holds is_data_kind p.message p.rest (subst HoldsReadable p.joined c.requires.readable) in
    c.is_control_kind.ensures ∙ ap is_control_kind p.seen.kind ∙ control-there p.message readable
    ∙ sym (ap (λ q. starts_refused Refuse (map message_of q)) p.joined)
    ∙ sym (ap (λ control. starts_refused control (messages_on (g.B.Blocks.value c.args.store.now) c.args.queue.now.list)) c.in-Refuse-Some.is-0)
