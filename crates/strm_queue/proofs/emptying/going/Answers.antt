-- All messages have no more cells than those of data.
use Rattle.std.proofs.Common.{length, sym, ap, ◌∙◌}
use Rattle.strm_types.specs.Emptied.{cells_gone}
use Rattle.strm_blocks.specs.Blocks.{list_at}
use Rattle.strm_queue.specs.declared.emptying.Chosen.{Chosen}
use Rattle.strm_queue.specs.Choices.{choice_of}
use Rattle.strm_queue.specs.Stored.{messages_on}
use Rattle.strm_queue.proofs.Going.{gone-all, gone-every}
use Rattle.strm_queue.proofs.emptying.going.Goals as goal

pub returns-in-All : goal.returns-in-All
returns-in-All g c =
    let s = g.B.Blocks.value c.args.store.now in
    let list = list_at s c.args.queue.now.list in
    let chains = c.requires.ready.messages.chains in
    c.data_bytes.ensures ∙ gone-all list chains ∙ sym (gone-every list chains)
    ∙ ap (λ (chosen : Chosen). length (cells_gone (choice_of chosen) (messages_on s c.args.queue.now.list))) (sym c.in-All.is)
