-- What stands last is taken, grows in hand, and is put back.
use Rattle.strm_ldterm.proofs.Prelude.{sym, subst}
use Rattle.strm_ldterm.specs.Prelude.{IsInHand, in_hand, token, IsChain}
use Rattle.strm_ldterm.proofs.Grows.{data-in-hand}
use Rattle.strm_ldterm.proofs.Rewriting.{grown-ready, grows-last, taken-room}
use Rattle.strm_ldterm.proofs.standing_echo.grow_run.Goals as goal

pub grow-grown-requires-clause-data : goal.grow-grown-requires-clause-data
grow-grown-requires-clause-data g c = c.take_echo-echo.ensures.ordinary.are

pub grow-grown-requires-clause-room : goal.grow-grown-requires-clause-room
grow-grown-requires-clause-room g c =
    taken-room (g.B.Blocks.value c.args.store.now) (g.B.Blocks.value c.take_echo-echo.new.store) c.args.queue.now c.take_echo-echo.new.queue (token c.take_echo-echo.result) c.take_echo-echo.ensures.taken 1 c.requires.room

pub enqueue-requires-clause-ready : goal.enqueue-requires-clause-ready
enqueue-requires-clause-ready g c =
    grown-ready (g.B.Blocks.value c.args.store.now) (g.B.Blocks.value c.take_echo-echo.new.store) (g.B.Blocks.value c.grow-grown.new.store) c.args.queue.now c.take_echo-echo.new.queue
    (token c.take_echo-echo.result) 1 c.args.run.now c.take_echo-echo.ensures.taken c.grow-grown.ensures.grown

pub enqueue-requires-clause-in_hand : goal.enqueue-requires-clause-in_hand
enqueue-requires-clause-in_hand g c =
    let u = g.B.Blocks.value c.grow-grown.new.store in
    subst (λ k. IsInHand u k) (sym c.grow-grown.ensures.kept_name) (data-in-hand u (token c.take_echo-echo.result) c.audit-2.ensures c.grow-grown.ensures.grown.are)

pub enqueue-requires-clause-chain : goal.enqueue-requires-clause-chain
enqueue-requires-clause-chain g c =
    let u = g.B.Blocks.value c.grow-grown.new.store in
    subst (λ k. IsChain (in_hand u k)) (sym c.grow-grown.ensures.kept_name) c.grow-grown.ensures.grown.are.chain

pub returns : goal.returns
returns g c =
    let e = c.enqueue.ensures in
    grows-last (g.B.Blocks.value c.args.store.now) (g.B.Blocks.value c.take_echo-echo.new.store) (g.B.Blocks.value c.grow-grown.new.store) c.args.queue.now c.take_echo-echo.new.queue
    (token c.take_echo-echo.result) 1 c.args.run.now c.take_echo-echo.ensures.taken c.grow-grown.ensures.grown
    (g.B.Blocks.value c.enqueue.new.store) c.enqueue.new.queue (token c.grow-grown.result) c.audit-2.ensures c.grow-grown.ensures.kept_name c.requires.last e.changes e.frees e.queue
