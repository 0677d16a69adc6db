-- By the way.
use Rattle.strm_ldterm.proofs.Prelude.{sym, subst}
use Rattle.strm_ldterm.specs.Prelude.{own_at, ldterm_does, passes_on_way, message_in, token}
use Rattle.strm_ldterm.specs.Does.{Puts}
use Rattle.strm_ldterm.specs.Stands.{ldterm_in, paired}
use Rattle.strm_ldterm.proofs.answers.pass.Goals as goal

pub returns-in-Down : goal.returns-in-Down
returns-in-Down g c =
    let s = g.B.Blocks.value c.args.store.now in
    let x = (paired c.args.ldterm.now c.args.queues.now) in
    let i = token c.args.message in
    let here = c.args.here in
    let m = message_in s i in
    let f = c.args.told.now in
    subst (λ w. Puts s s x x i (own_at ldterm_does here m) c.go_on.result f f (passes_on_way w here m (ldterm_in s x))) (sym c.in-Down.is) (c.go_on.ensures s x f c.requires.held c.requires.chain)

pub returns-in-Up : goal.returns-in-Up
returns-in-Up g c =
    let s = g.B.Blocks.value c.args.store.now in
    let x = (paired c.args.ldterm.now c.args.queues.now) in
    let i = token c.args.message in
    let here = c.args.here in
    let m = message_in s i in
    subst (λ w. Puts s (g.B.Blocks.value c.pass_up.new.store) x (paired c.pass_up.new.ldterm c.pass_up.new.queues) i (own_at ldterm_does here m) c.pass_up.result c.args.told.now c.pass_up.new.told (passes_on_way w here m (ldterm_in s x))) (sym c.in-Up.is) c.pass_up.ensures
