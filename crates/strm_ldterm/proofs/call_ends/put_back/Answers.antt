-- The message stands on the list, and it is no longer in hand.
use Rattle.std.proofs.Common.{◌<◌, length, arith}
use Rattle.strm_blocks.specs.Blocks.{token}
use Rattle.strm_ldterm.proofs.Freeing.{back-none}
use Rattle.strm_ldterm.proofs.Returning.{back-queue, back-changes, back-frees}
use Rattle.strm_ldterm.proofs.call_ends.put_back.Goals as goal

pub returns-clause-queue : goal.returns-clause-queue
returns-clause-queue g c =
    let s = g.B.Blocks.value c.args.store.now in
    let q = c.args.queue.now in
    let within : q.list < length s.lists = let low = q.on_list in omega (arith, low, c.audit.ensures.eight) in
    back-queue s (g.B.Blocks.value c.putbq.new.store) q c.putbq.new.self (token c.args.message) within c.requires.in_hand c.putbq.ensures.placed c.putbq.ensures.others c.putbq.ensures.flows

pub returns-clause-changes : goal.returns-clause-changes
returns-clause-changes g c =
    let s = g.B.Blocks.value c.args.store.now in
    let q = c.args.queue.now in
    let within : q.list < length s.lists = let low = q.on_list in omega (arith, low, c.audit.ensures.eight) in
    back-changes s (g.B.Blocks.value c.putbq.new.store) q c.putbq.new.self (token c.args.message) within c.requires.in_hand c.putbq.ensures.placed c.requires.ready c.requires.chain c.putbq.ensures.others c.putbq.ensures.counted

pub returns-clause-frees : goal.returns-clause-frees
returns-clause-frees g c =
    let s = g.B.Blocks.value c.args.store.now in
    let q = c.args.queue.now in
    let within : q.list < length s.lists = let low = q.on_list in omega (arith, low, c.audit.ensures.eight) in
    back-frees s (g.B.Blocks.value c.putbq.new.store) q c.putbq.new.self (token c.args.message) within c.requires.in_hand c.putbq.ensures.placed

pub returns-clause-blocks : goal.returns-clause-blocks
returns-clause-blocks g c =
    let s = g.B.Blocks.value c.args.store.now in
    let q = c.args.queue.now in
    let within : q.list < length s.lists = let low = q.on_list in omega (arith, low, c.audit.ensures.eight) in
    back-none s q.list (token c.args.message) within c.requires.in_hand (g.B.Blocks.value c.putbq.new.store) c.putbq.ensures.placed
