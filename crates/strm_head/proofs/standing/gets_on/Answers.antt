-- What is seen of the first message tells whether it is the one that is asked for.
use Rattle.std.proofs.Common.{◌∙◌, sym, ap, map}
use Rattle.strm_msg.specs.Messages.{message_of}
use Rattle.strm_head.specs.Seen.{gets_on}
use Rattle.strm_head.proofs.Seen.{wanted-seen}
use Rattle.strm_head.proofs.standing.gets_on.Goals as goal

pub returns-in-Some : goal.returns-in-Some
returns-in-Some g c =
    let p = c.in-Some.ensures in
    c.is_asked_for.ensures ∙ wanted-seen p.message c.args.wanted c.in-Some.peek p.seen
    ∙ sym (ap (λ q. gets_on c.args.wanted c.args.at_end (map message_of q)) p.joined)
