-- The message is the last one, and takes its blocks.
use Rattle.std.proofs.Common.{subst, sym}
use Rattle.strm_queue.specs.Kept.{AreCounted}
use Rattle.strm_pair.proofs.PutBehind.{list-kept, makes-in_hand, stood-changes, stood-queue, stood-spent}
use Rattle.strm_pair.proofs.images.made_messages.stand.Goals as goal

pub putq-requires-clause-counted : goal.putq-requires-clause-counted
putq-requires-clause-counted g c = subst (AreCounted c.args.queue.now.flows) (sym (list-kept c.make-made.ensures c.args.queue.now.list)) c.requires.ready.counted

pub putq-requires-clause-in_hand : goal.putq-requires-clause-in_hand
putq-requires-clause-in_hand g c = makes-in_hand c.make-made.ensures

pub returns-clause-queue : goal.returns-clause-queue
returns-clause-queue g c = stood-queue c.args.queue.now c.make-made.ensures c.audit.ensures c.putq.ensures.placed c.putq.new.self c.requires.last c.putq.ensures.others c.putq.ensures.flows

pub returns-clause-changes : goal.returns-clause-changes
returns-clause-changes g c = stood-changes c.args.queue.now c.make-made.ensures c.audit.ensures c.putq.ensures.placed c.putq.new.self c.requires.ready c.putq.ensures.others c.putq.ensures.counted

pub returns-clause-spent : goal.returns-clause-spent
returns-clause-spent g c = stood-spent c.args.queue.now c.make-made.ensures c.audit.ensures c.putq.ensures.placed
