-- The messages are as many as the chains.
use Rattle.std.proofs.Common.{◌∙◌, sym}
use Rattle.std.proofs.lemmas.List.{length-map}
use Rattle.strm_blocks.specs.Blocks.{list_at}
use Rattle.strm_msg.specs.Messages.{message_of}
use Rattle.strm_queue.proofs.standing.messages.Goals as goal

pub returns : goal.returns
returns g c = c.messages.ensures ∙ sym (length-map (list_at (g.B.Blocks.value c.args.store.now) c.args.queue.now.list) message_of)
