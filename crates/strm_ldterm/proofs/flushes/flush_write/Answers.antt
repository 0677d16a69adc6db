-- The turn's echo goes with band 0.
use Rattle.strm_ldterm.proofs.Prelude.{◌≡◌, Bool, true, false, cond, List, [], ◌∷◌, refl, sym, ap, ◌∙◌, not, ◌&&◌, and_parts}
use Rattle.strm_ldterm.specs.Prelude.{Down, Note, Room, Goes, counted_with, Flushed, of_data, cells_gone, messages_on}
use Rattle.strm_ldterm.specs.Stands.{paired}
use Rattle.strm_ldterm.proofs.Beside.{held-quieter}
use Rattle.strm_ldterm.proofs.Flushed.{flushes-down, write-after}
use Rattle.strm_ldterm.proofs.flushes.flush_write.Goals as goal

not-false : (v : Bool) → not v ≡ false → v ≡ true
not-false true is = refl
not-false false is = absurd (cc)

not-true : (v : Bool) → not v ≡ true → v ≡ false
not-true true is = absurd (cc)
not-true false is = refl

pub returns : goal.returns
returns g c =
    let s = g.B.Blocks.value c.args.store.now in
    let x = (paired c.args.ldterm.now c.args.queues.now) in
    let b = c.flush_queue in
    let e = b.ensures in
    let t = g.B.Blocks.value b.new.store in
    let band = c.args.asked.band in
    let whole = c.takes_band_0-whole.result in
    let v = x.echoing && not whole in
    let is = ap (λ w. x.echoing && not w) c.takes_band_0-whole.ensures in
    let on : v ≡ true → (x.echoing ≡ true) × (not whole ≡ true) = λ still. and_parts x.echoing (not whole) still in
    let told = e.told ∙ ap (λ d. counted_with (Goes d Flushed (cells_gone (of_data band) (messages_on s x.write_queue.list))) c.args.told.now) c.direction_at-direction.ensures in
    let notes = cond {A = List Note} b.result (Room Down ∷ []) [] in
    write-after s t x (record x { echoing = v; write_queue = b.new.queue }) c.args.here c.args.asked notes c.args.told.now b.new.told v is
    (not-false c.args.asked.for_write c.if-not-asked.false)
    (flushes-down s t (record x { echoing = v }) b.new.queue c.args.here band b.result notes c.args.told.now b.new.told (held-quieter s x v (λ still. (on still).0) c.requires.held) e.frees
    e.changes e.queue e.went told refl (λ still. sym c.takes_band_0-whole.ensures ∙ not-true whole (on still).1))
