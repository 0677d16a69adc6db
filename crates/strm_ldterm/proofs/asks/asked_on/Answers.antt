-- What is seen of the first message is what it asks by.
use Rattle.std.proofs.Common.{◌∙◌, sym}
use Rattle.strm_frame.proofs.FirstSizes.{first-few}
use Rattle.strm_ldterm.proofs.Asked.{asked-none, asked-peek}
use Rattle.strm_ldterm.proofs.asks.asked_on.Goals as goal

pub returns-in-Some-clause-asks : goal.returns-in-Some-clause-asks
returns-in-Some-clause-asks g c = c.asked_by.ensures.asks ∙ sym (asked-peek (g.B.Blocks.value c.args.store.now) c.args.queue.now.list c.args.way c.args.stopped c.in-Some.peek c.in-Some.ensures)

pub returns-in-Some-clause-few : goal.returns-in-Some-clause-few
returns-in-Some-clause-few g c = first-few (g.B.Blocks.value c.args.store.now) c.args.queue.now c.audit.ensures c.requires.ready

pub returns-in-None-clause-asks : goal.returns-in-None-clause-asks
returns-in-None-clause-asks g c = asked-none (g.B.Blocks.value c.args.store.now) c.args.queue.now.list c.args.way c.args.stopped c.in-None.ensures

pub returns-in-None-clause-few : goal.returns-in-None-clause-few
returns-in-None-clause-few g c = first-few (g.B.Blocks.value c.args.store.now) c.args.queue.now c.audit.ensures c.requires.ready
