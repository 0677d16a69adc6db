-- Nothing stands on queues that it hasn't.
use Rattle.strm_pty.proofs.Prelude.{◌≤◌, sym, subst, arith, Option}
use Rattle.strm_pty.specs.Prelude.{first_size, messages_on, QueuePair, queues_in}
use Rattle.strm_pty.proofs.module.PtemProceduresUnit.asks.Goals as goal

pub returns-clause-few : goal.returns-clause-few
returns-clause-few g c =
    let s = g.B.Blocks.value c.args._store.now in
    subst (λ (q : Option QueuePair). first_size (messages_on c.args._way (queues_in s q)) ≤ 16777216) (sym c.requires.held.itself) (omega arith)
