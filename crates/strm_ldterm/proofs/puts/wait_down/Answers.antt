-- The message stands on the write queue, before the turn's echo or behind it.
use Rattle.strm_ldterm.proofs.Prelude.{sym, ap, ◌∙◌, ◌&&◌, nat_lt, band-is, can-in_hand}
use Rattle.strm_ldterm.specs.Prelude.{in_hand, token}
use Rattle.strm_ldterm.specs.Stands.{paired}
use Rattle.strm_ldterm.proofs.Steps.{waits-down}
use Rattle.strm_ldterm.proofs.puts.wait_down.Goals as goal

pub band-band-requires : goal.band-band-requires
band-band-requires g c = can-in_hand _ _ _ c.audit.ensures c.requires.can_put

pub enqueue-enables-requires-clause-in_hand : goal.enqueue-enables-requires-clause-in_hand
enqueue-enables-requires-clause-in_hand g c = can-in_hand _ _ _ c.audit.ensures c.requires.can_put

pub returns-clause-does : goal.returns-clause-does
returns-clause-does g c = λ f.
    let e = c.enqueue-enables in
    let s = g.B.Blocks.value c.args.store.now in
    let x = (paired c.args.ldterm.now c.args.queues.now) in
    let i = token c.args.message in
    waits-down s (g.B.Blocks.value e.new.store) x i e.new.queue
    (record { notes = c.note_if.result; sent = c.none.result }) f e.result c.audit.ensures c.requires.held c.requires.can_put e.ensures.frees c.none.ensures
    (x.echoing && nat_lt 0 c.band-band.result.0) (ap (λ b. x.echoing && nat_lt 0 b) (c.band-band.ensures ∙ sym (band-is (in_hand s i)))) c.requires.low
    e.ensures.changes e.ensures.queue e.ensures.enables c.note_if.ensures
