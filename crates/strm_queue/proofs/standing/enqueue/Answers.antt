-- The message stands on the list, and it is no longer in hand.
use Rattle.std.proofs.Common.{◌<◌, length, ◌∙◌, arith}
use Rattle.strm_blocks.specs.Blocks.{in_hand, token}
use Rattle.strm_queue.specs.Stored.{queue_in}
use Rattle.strm_queue.proofs.Chains.{enables-same}
use Rattle.strm_queue.proofs.Joined.{joined-queue, joined-holds, joined-changes, joined-frees, joined-none}
use Rattle.strm_queue.proofs.standing.enqueue.Goals as goal

pub returns-clause-queue : goal.returns-clause-queue
returns-clause-queue g c =
    let s = g.B.Blocks.value c.args.store.now in
    let q = c.args.queue.now in
    let within : q.list < length s.lists = let low = q.on_list in omega (arith, low, c.audit.ensures.eight) in
    joined-queue s (g.B.Blocks.value c.putq.new.store) q c.putq.new.self (token c.args.message) within c.requires.in_hand c.putq.ensures.placed c.putq.ensures.others c.putq.ensures.flows

pub returns-clause-enables : goal.returns-clause-enables
returns-clause-enables g c =
    let s = g.B.Blocks.value c.args.store.now in
    c.putq.ensures.enables ∙ enables-same (in_hand s (token c.args.message)) (queue_in s c.args.queue.now)

pub returns-clause-holds : goal.returns-clause-holds
returns-clause-holds g c =
    let s = g.B.Blocks.value c.args.store.now in
    let q = c.args.queue.now in
    let within : q.list < length s.lists = let low = q.on_list in omega (arith, low, c.audit.ensures.eight) in
    joined-holds s (g.B.Blocks.value c.putq.new.store) q c.putq.new.self (token c.args.message) within c.requires.in_hand c.putq.ensures.placed c.putq.ensures.others.list

pub returns-clause-changes : goal.returns-clause-changes
returns-clause-changes g c =
    let s = g.B.Blocks.value c.args.store.now in
    let q = c.args.queue.now in
    let within : q.list < length s.lists = let low = q.on_list in omega (arith, low, c.audit.ensures.eight) in
    joined-changes s (g.B.Blocks.value c.putq.new.store) q c.putq.new.self (token c.args.message) within c.requires.in_hand c.putq.ensures.placed c.requires.ready c.requires.chain c.putq.ensures.others c.putq.ensures.counted

pub returns-clause-frees : goal.returns-clause-frees
returns-clause-frees g c =
    let s = g.B.Blocks.value c.args.store.now in
    let q = c.args.queue.now in
    let within : q.list < length s.lists = let low = q.on_list in omega (arith, low, c.audit.ensures.eight) in
    joined-frees s (g.B.Blocks.value c.putq.new.store) q c.putq.new.self (token c.args.message) within c.requires.in_hand c.putq.ensures.placed

pub returns-clause-blocks : goal.returns-clause-blocks
returns-clause-blocks g c =
    let s = g.B.Blocks.value c.args.store.now in
    let q = c.args.queue.now in
    let within : q.list < length s.lists = let low = q.on_list in omega (arith, low, c.audit.ensures.eight) in
    joined-none s (g.B.Blocks.value c.putq.new.store) q c.putq.new.self (token c.args.message) within c.requires.in_hand c.putq.ensures.placed
