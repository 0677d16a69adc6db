-- The message stands on the queue of its way.
use Rattle.std.proofs.Common.{◌≤◌, length, subst, sym}
use Rattle.strm_types.specs.declared.spots.Note.TheVariants.{Enable}
use Rattle.strm_blocks.specs.Blocks.{token}
use Rattle.strm_own.proofs.Queueing.{note-few, waits}
use Rattle.strm_own.proofs.putting.wait.Goals as goal

pub returns-clause-did : goal.returns-clause-did
returns-clause-did g c = λ o f most has.
    waits (g.B.Blocks.value c.args.store.now) (g.B.Blocks.value c.put-enables.new.store) c.args.pair.now c.put-enables.new.self c.args.way
    (token c.args.message) c.put-enables.result (record { notes = c.note_if.result; sent = c.none.result }) o f most has c.put-enables.ensures
    c.none.ensures c.note_if.ensures

pub returns-clause-few : goal.returns-clause-few
returns-clause-few g c =
    subst (λ ns. length ns ≤ 2) (sym c.note_if.ensures) (note-few c.put-enables.result (Enable c.args.way))
