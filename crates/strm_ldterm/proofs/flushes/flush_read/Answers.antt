-- First the queue, then the line.
use Rattle.strm_ldterm.proofs.Prelude.{◌≡◌, Bool, true, false, cond, List, [], ◌∷◌, refl, ap, ◌∙◌, not}
use Rattle.strm_ldterm.specs.Prelude.{Up, Note, Room, Goes, counted_with, Flushed, of_data, cells_gone, messages_on}
use Rattle.strm_ldterm.specs.Stands.{paired}
use Rattle.strm_ldterm.proofs.Flushed.{flushes-up, line-after}
use Rattle.strm_ldterm.proofs.flushes.flush_read.Goals as goal

not-false : (v : Bool) → not v ≡ false → v ≡ true
not-false true is = refl
not-false false is = absurd (cc)

pub returns : goal.returns
returns g c =
    let s = g.B.Blocks.value c.args.store.now in
    let x = (paired c.args.ldterm.now c.args.queues.now) in
    let f = c.flush_queue-room in
    let t = g.B.Blocks.value f.new.store in
    let e = f.ensures in
    let told = e.told ∙ ap (λ d. counted_with (Goes d Flushed (cells_gone (of_data c.args.asked.band) (messages_on s x.read_queue.list))) c.args.told.now) c.direction_at-direction.ensures in
    let first = flushes-up s t x f.new.queue c.args.here c.args.asked.band f.result (cond {A = List Note} f.result (Room Up ∷ []) []) c.args.told.now f.new.told c.requires.held e.frees e.changes e.queue e.went told refl in
    line-after s t x (record x { read_queue = f.new.queue }) (paired c.flush_line.new.ldterm (record c.args.queues.now { read = f.new.queue })) c.args.here c.args.asked (cond {A = List Note} f.result (Room Up ∷ []) []) c.args.told.now f.new.told c.flush_line.new.told
    (not-false c.args.asked.for_read c.if-not-asked.false) first (c.flush_line.ensures t (record c.args.queues.now { read = f.new.queue }) first.alters.held)
