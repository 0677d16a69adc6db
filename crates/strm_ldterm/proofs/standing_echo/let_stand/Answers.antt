-- It grows where there is one, and else it begins.
use Rattle.strm_ldterm.proofs.Prelude.{true, false, [], ◌∷◌, cond, List}
use Rattle.strm_ldterm.specs.Prelude.{Down, Note, Enable}
use Rattle.strm_ldterm.specs.Echoes.{echo_bytes}
use Rattle.strm_ldterm.specs.Stands.{paired}
use Rattle.strm_ldterm.proofs.EchoStands.{begins-proceeds, grows-proceeds, stands-by}
use Rattle.strm_ldterm.proofs.standing_echo.let_stand.Goals as goal

pub grow_echo-requires-clause-last : goal.grow_echo-requires-clause-last
grow_echo-requires-clause-last g c = c.requires.held.echoes c.if-ldterm.true c.requires.work

pub returns-then-ldterm : goal.returns-then-ldterm
returns-then-ldterm g c = λ here f.
    let s = g.B.Blocks.value c.args.store.now in
    let t = g.B.Blocks.value c.grow_echo.new.store in
    let x = (paired c.args.ldterm.now c.args.queues.now) in
    let q = c.grow_echo.new.queue in
    let bytes = echo_bytes c.args.plan x.line in
    stands-by s t x (record x { write_queue = q }) c.args.runs [] c.new.result.items here f bytes true x.echoing c.if-ldterm.true c.new.ensures
    (grows-proceeds s t x q bytes c.args.runs c.requires.held c.requires.kept c.grow_echo.ensures here f)

pub returns : goal.returns
returns g c = λ here f.
    let s = g.B.Blocks.value c.args.store.now in
    let b = c.begin_echo-enables in
    let t = g.B.Blocks.value b.new.store in
    let x = (paired c.args.ldterm.now c.args.queues.now) in
    let bytes = echo_bytes c.args.plan x.line in
    stands-by s t x (record x { write_queue = b.new.queue; echoing = true }) c.args.runs (cond {A = List Note} b.result (Enable Down ∷ []) []) c.note_if.result.items here f bytes false x.echoing c.if-ldterm.false c.note_if.ensures
    (begins-proceeds s t x b.new.queue bytes c.args.runs c.requires.held c.requires.kept b.ensures.begins here f b.result b.ensures.enables)
