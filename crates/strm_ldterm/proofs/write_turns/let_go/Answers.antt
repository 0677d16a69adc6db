-- The message in work goes back, and what was gathered goes down.
use Rattle.strm_ldterm.proofs.Prelude.{ℕ, [], map, None}
use Rattle.strm_ldterm.specs.Prelude.{Down, back_on, onward, sends, with_given, sent_of}
use Rattle.strm_types.specs.Ldterms as ldterms
use Rattle.strm_ldterm.specs.Outgone.{data_of}
use Rattle.strm_ldterm.specs.Stands.{ldterm_in, paired}
use Rattle.strm_ldterm.proofs.Flushed.{kept-still}
use Rattle.strm_ldterm.proofs.Freeing.{none-freed-both}
use Rattle.strm_ldterm.proofs.Proceeding.{proceeds-alters, proceeds-both}
use Rattle.strm_ldterm.proofs.write_turns.let_go.Goals as goal

pub send_output-requires-clause-gathers : goal.send_output-requires-clause-gathers
send_output-requires-clause-gathers g c = c.return_output.ensures.alters.held.gathers

pub returns-clause-did : goal.returns-clause-did
returns-clause-did g c = λ f.
    let s = g.B.Blocks.value c.args.store.now in
    let t = g.B.Blocks.value c.return_output.new.store in
    let u = g.B.Blocks.value c.send_output.new.store in
    let x = (paired c.args.ldterm.now c.args.queues.now) in
    let y = (paired c.return_output.new.ldterm c.return_output.new.queues) in
    let p = ldterm_in s x in
    let q : ldterms.Discipline ℕ = record p { in_work = None; write_queue = back_on p.in_work p.write_queue } in
    let alters = c.return_output.ensures.alters in
    proceeds-both s t u x y (paired c.send_output.new.ldterm c.return_output.new.queues) 0 0 [] (sent_of c.send_output.result) f f f (sends [] q) (λ (r : ldterms.Discipline ℕ). sends (map (onward Down c.args.here) (with_given r.gathered (data_of c.args.band.0 []))) (record r { gathered = [] })) c.audit.ensures c.requires.kept
    (proceeds-alters s t x y f q alters c.return_output.ensures.state) (c.send_output.ensures.did c.return_output.new.queues f alters.held (kept-still s t x y alters c.requires.kept))

pub returns-clause-blocks : goal.returns-clause-blocks
returns-clause-blocks g c = λ left.
    none-freed-both (g.B.Blocks.value c.args.store.now) (g.B.Blocks.value c.return_output.new.store) (g.B.Blocks.value c.send_output.new.store) (c.return_output.ensures.blocks left) c.send_output.ensures.blocks
