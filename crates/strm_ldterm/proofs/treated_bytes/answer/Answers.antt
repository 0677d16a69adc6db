use Rattle.std.proofs.Common.{length, sym, ap, ◌∙◌, arith}
use Rattle.strm_ldterm.specs.Echoes.{echo_bytes}
use Rattle.strm_ldterm.specs.Stands.{paired}
use Rattle.strm_ldterm.proofs.treated_bytes.answer.Goals as goal
use Rattle.strm_ldterm.proofs.Struck.{answer-proceeds, short-chunk}

pub echo-requires-clause-room : goal.echo-requires-clause-room
echo-requires-clause-room g c =
    let few = short-chunk (length (echo_bytes c.of_slice.result c.args.ldterm.now.line)) (let e = ap length (c.of_slice.ensures c.args.ldterm.now.line) in let f = c.as_slice.ensures.fits in omega arith) in
    let m = c.requires.room.mblks in
    let d = c.requires.room.dblks in
    record { mblks = omega arith; dblks = omega arith }

pub returns : goal.returns
returns g c =
    let line = c.args.ldterm.now.line in
    let few = short-chunk (length (echo_bytes c.of_slice.result line)) (let e = ap length (c.of_slice.ensures line) in let f = c.as_slice.ensures.fits in omega arith) in
    answer-proceeds (g.B.Blocks.value c.args.store.now) (g.B.Blocks.value c.echo.new.store) (paired c.args.ldterm.now c.args.queues.now) (paired c.echo.new.ldterm c.echo.new.queues) c.args.here c.in-Answered.bytes c.replace.new.dest
    (echo_bytes c.of_slice.result line) _ c.echo.result.items c.args.told.now c.echo.new.told (sym c.replace.ensures.value ∙ c.in-Answered.is) c.replace.ensures.after
    (c.of_slice.ensures line ∙ c.as_slice.ensures.value) few c.echo.ensures
