-- By the way.
use Rattle.strm_ldterm.proofs.Prelude.{sym, subst}
use Rattle.strm_ldterm.specs.Prelude.{queued_at, message_in, token}
use Rattle.strm_ldterm.specs.Stands.{ldterm_in, paired}
use Rattle.strm_ldterm.specs.Does.{Does}
use Rattle.strm_ldterm.proofs.puts.wait.Goals as goal

pub returns-in-Up-clause-does : goal.returns-in-Up-clause-does
returns-in-Up-clause-does g c = λ f.
    let s = g.B.Blocks.value c.args.store.now in
    let x = (paired c.args.ldterm.now c.args.queues.now) in
    let i = token c.args.message in
    subst (λ w. Does s (g.B.Blocks.value c.wait_up.new.store) x (paired c.wait_up.new.ldterm c.wait_up.new.queues) i c.wait_up.result f f (queued_at w (message_in s i) (ldterm_in s x))) (sym c.in-Up.is) (c.wait_up.ensures.does f)

pub returns-in-Down-clause-does : goal.returns-in-Down-clause-does
returns-in-Down-clause-does g c = λ f.
    let s = g.B.Blocks.value c.args.store.now in
    let x = (paired c.args.ldterm.now c.args.queues.now) in
    let i = token c.args.message in
    subst (λ w. Does s (g.B.Blocks.value c.wait_down.new.store) x (paired c.wait_down.new.ldterm c.wait_down.new.queues) i c.wait_down.result f f (queued_at w (message_in s i) (ldterm_in s x))) (sym c.in-Down.is) (c.wait_down.ensures.does f)
