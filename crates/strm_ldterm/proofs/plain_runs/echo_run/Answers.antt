-- Nothing without ECHO, and else an echo that stands.
use Rattle.strm_ldterm.proofs.Prelude.{[], cond, length, refl, sym, ap, subst, ◌∙◌}
use Rattle.strm_ldterm.specs.Prelude.{plain, tallied, echo_dir, echo_grows, echo_stands}
use Rattle.strm_ldterm.specs.PlainRuns.{run_echoed}
use Rattle.strm_ldterm.specs.Stands.{ldterm_in, paired}
use Rattle.strm_ldterm.specs.Does.{Proceeds}
use Rattle.strm_ldterm.proofs.EchoStands.{proceeds-still, proceeds-told, stands-gone, told-made}
use Rattle.strm_ldterm.proofs.RunsDone.{echoed-so, unechoed}
use Rattle.strm_ldterm.proofs.plain_runs.echo_run.Goals as goal

pub returns : goal.returns
returns g c =
    let s = g.B.Blocks.value c.args.store.now in
    let x = (paired c.args.ldterm.now c.args.queues.now) in
    let p = ldterm_in s x in
    let f = c.args.told.now in
    proceeds-still s x 1 c.new.result.items f f [] (run_echoed c.args.here c.args.run.now p) c.requires.held c.new.ensures refl
    (unechoed c.args.here p c.args.run.now (sym (c.contains.ensures tt) ∙ c.if-contains.false))

pub returns-then-contains : goal.returns-then-contains
returns-then-contains g c =
    let s = g.B.Blocks.value c.args.store.now in
    let t = g.B.Blocks.value c.stand_run.new.store in
    let x = (paired c.args.ldterm.now c.args.queues.now) in
    let x' = (paired c.stand_run.new.ldterm c.stand_run.new.queues) in
    let here = c.args.here in
    let run = c.args.run.now in
    let d = echo_dir plain here in
    let p = ldterm_in s x in
    let f = c.args.told.now in
    let f' = c.tell_made.new.self in
    let notes = c.stand_run.result.items in
    let stands = cond (x.echoing) (echo_grows plain here run p) (echo_stands plain here run p) in
    let told = told-made c.direction_at.result d (length run) (length run) f f' c.direction_at.ensures refl c.tell_made.ensures in
    subst (λ a. Proceeds s t x x' 1 notes [] f f' a) (sym (echoed-so here p run (sym (c.contains.ensures tt) ∙ c.if-contains.true)))
    (proceeds-told s t x x' 1 notes f f' stands (told ∙ sym (ap (λ gone. tallied gone f) (stands-gone here p run (x.echoing)))) (c.stand_run.ensures here f))
