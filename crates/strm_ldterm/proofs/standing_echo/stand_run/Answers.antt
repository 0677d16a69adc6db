-- It grows where there is one, and else it begins.
use Rattle.strm_ldterm.proofs.Prelude.{true, false, [], ◌∷◌, cond, List}
use Rattle.strm_ldterm.specs.Prelude.{Down, Note, Enable}
use Rattle.strm_ldterm.specs.Stands.{paired}
use Rattle.strm_ldterm.proofs.EchoStands.{begins-proceeds, grows-proceeds, stands-by}
use Rattle.strm_ldterm.proofs.standing_echo.stand_run.Goals as goal

pub grow_run-requires-clause-last : goal.grow_run-requires-clause-last
grow_run-requires-clause-last g c = c.requires.held.echoes c.if-ldterm.true c.requires.work

pub returns-then-ldterm : goal.returns-then-ldterm
returns-then-ldterm g c = λ here f.
    let s = g.B.Blocks.value c.args.store.now in
    let t = g.B.Blocks.value c.grow_run.new.store in
    let x = (paired c.args.ldterm.now c.args.queues.now) in
    let q = c.grow_run.new.queue in
    let run = c.args.run.now in
    stands-by s t x (record x { write_queue = q }) 1 [] c.new.result.items here f run true x.echoing c.if-ldterm.true c.new.ensures
    (grows-proceeds s t x q run 1 c.requires.held c.requires.kept c.grow_run.ensures here f)

pub returns : goal.returns
returns g c = λ here f.
    let s = g.B.Blocks.value c.args.store.now in
    let b = c.begin_run-enables in
    let t = g.B.Blocks.value b.new.store in
    let x = (paired c.args.ldterm.now c.args.queues.now) in
    let run = c.args.run.now in
    stands-by s t x (record x { write_queue = b.new.queue; echoing = true }) 1 (cond {A = List Note} b.result (Enable Down ∷ []) []) c.note_if.result.items here f run false x.echoing c.if-ldterm.false c.note_if.ensures
    (begins-proceeds s t x b.new.queue run 1 c.requires.held c.requires.kept b.ensures.begins here f b.result b.ensures.enables)
