-- No echo grows from then on, the message in work goes back, and what was gathered goes up.
use Rattle.strm_ldterm.proofs.Prelude.{ℕ, false, [], sym, subst, append-nil, false≢true, None}
use Rattle.strm_ldterm.specs.Prelude.{plain, back_on, finished, sends, gathered_up}
use Rattle.std.specs.Option.{option_to_list}
use Rattle.strm_types.specs.Ldterms as ldterms
use Rattle.strm_ldterm.specs.declared.ldterm.Stage.TheVariants.{Between}
use Rattle.strm_ldterm.specs.Stands.{ldterm_in, paired}
use Rattle.strm_ldterm.specs.Does.{Proceeds}
use Rattle.strm_ldterm.proofs.Beside.{alters-quieter, held-quieter}
use Rattle.strm_ldterm.proofs.Proceeding.{proceeds-alters, proceeds-both, proceeds-staged}
use Rattle.strm_ldterm.proofs.call_ends.finish.Goals as goal

pub return_work-requires-clause-held : goal.return_work-requires-clause-held
return_work-requires-clause-held g c = held-quieter (g.B.Blocks.value c.args.store.now) (paired c.args.ldterm.now c.args.queues.now) false (λ on. absurd (false≢true on)) c.requires.held

pub return_work-requires-clause-kept : goal.return_work-requires-clause-kept
return_work-requires-clause-kept g c = c.requires.kept

pub returns-clause-did : goal.returns-clause-did
returns-clause-did g c = λ f.
    let s = g.B.Blocks.value c.args.store.now in
    let u = g.B.Blocks.value c.return_work.new.store in
    let x = (paired c.args.ldterm.now c.args.queues.now) in
    let z = (paired c.return_work.new.ldterm c.return_work.new.queues) in
    let w = (paired c.send_gathered-first.new.ldterm c.return_work.new.queues) in
    let p = ldterm_in s x in
    let sent = option_to_list c.send_gathered-first.result in
    let q : ldterms.Discipline ℕ = record p { echoing = false; in_work = None; read_queue = back_on p.in_work p.read_queue } in
    subst (λ l. Proceeds s u x (record w { stage = Between }) 0 [] l f f (finished plain c.args.here p)) (sym (append-nil sent))
    (proceeds-staged s u x w 0 sent f f _ Between
    (proceeds-both s u u x z w 0 0 [] sent f f f (sends [] q) (λ r. sends (gathered_up plain c.args.here r.gathered) (record r { gathered = [] })) c.audit.ensures c.requires.kept
    (proceeds-alters s u x z f q (alters-quieter s u x z false c.return_work.ensures.alters) c.return_work.ensures.state) (c.send_gathered-first.ensures u c.return_work.new.queues f c.return_work.ensures.alters.held)))

pub returns-clause-blocks : goal.returns-clause-blocks
returns-clause-blocks g c = c.return_work.ensures.blocks
