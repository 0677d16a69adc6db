-- It is made in hand, and put on the queue.
use Rattle.std.proofs.Common.{◌∙◌}
use Rattle.strm_blocks.specs.Blocks.{token}
use Rattle.strm_ldterm.specs.Echoes.{echo_bytes}
use Rattle.strm_ldterm.proofs.Grows.{data-in-hand}
use Rattle.strm_ldterm.proofs.Rewriting.{begins-enables, begins-last, begins-ready}
use Rattle.strm_ldterm.proofs.standing_echo.begin_echo.Goals as goal

pub enqueue-requires-clause-ready : goal.enqueue-requires-clause-ready
enqueue-requires-clause-ready g c =
    begins-ready (g.B.Blocks.value c.args.store.now) (g.B.Blocks.value c.begin_by_runs-begun.new.store) (g.B.Blocks.value c.begin_by_runs-begun.new.store) c.args.queue.now c.args.queue.now (token c.begin_by_runs-begun.result) c.args.runs (echo_bytes c.args.plan c.args.line.now) c.begin_by_runs-begun.ensures c.requires.ready

pub enqueue-requires-clause-in_hand : goal.enqueue-requires-clause-in_hand
enqueue-requires-clause-in_hand g c = data-in-hand (g.B.Blocks.value c.begin_by_runs-begun.new.store) (token c.begin_by_runs-begun.result) c.audit.ensures c.begin_by_runs-begun.ensures.are.are

pub enqueue-requires-clause-chain : goal.enqueue-requires-clause-chain
enqueue-requires-clause-chain g c = c.begin_by_runs-begun.ensures.are.are.chain

pub returns-clause-begins : goal.returns-clause-begins
returns-clause-begins g c =
    let e = c.enqueue.ensures in
    begins-last (g.B.Blocks.value c.args.store.now) (g.B.Blocks.value c.begin_by_runs-begun.new.store) (g.B.Blocks.value c.enqueue.new.store) c.args.queue.now c.enqueue.new.queue (token c.begin_by_runs-begun.result) c.args.runs (echo_bytes c.args.plan c.args.line.now)
    c.begin_by_runs-begun.ensures c.audit.ensures e.changes e.frees e.queue

pub returns-clause-enables : goal.returns-clause-enables
returns-clause-enables g c =
    c.enqueue.ensures.enables
    ∙ begins-enables (g.B.Blocks.value c.args.store.now) (g.B.Blocks.value c.begin_by_runs-begun.new.store) (g.B.Blocks.value c.enqueue.new.store) c.args.queue.now c.enqueue.new.queue (token c.begin_by_runs-begun.result) c.args.runs (echo_bytes c.args.plan c.args.line.now) c.begin_by_runs-begun.ensures
