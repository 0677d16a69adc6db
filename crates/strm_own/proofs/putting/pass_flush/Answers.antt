-- First the read queue is flushed, then the write queue, and then the message goes on.
use Rattle.std.proofs.Common.{◌≤◌, length, sym, ap, subst, ◌∙◌}
use Rattle.std.specs.Prelude.{Some}
use Rattle.strm_types.specs.declared.flushing.FlushAsked.{FlushAsked}
use Rattle.strm_types.specs.Flushing.{is_flush}
use Rattle.strm_blocks.specs.Blocks.{in_hand, token}
use Rattle.strm_msg.proofs.Chains.{kind-is}
use Rattle.strm_frame.specs.declared.modules.Acts.{Acts}
use Rattle.strm_frame.specs.Outboxes.{message_in}
use Rattle.strm_frame.specs.Standings.{pair_in}
use Rattle.strm_own.specs.Stands.{PutsThere}
use Rattle.strm_own.proofs.Flushing.{flush-passes, flush-plain, flushed_by, passes-may, rooms-few}
use Rattle.strm_own.proofs.putting.pass_flush.Goals as goal

pub asked_of-asked-requires-clause-kind : goal.asked_of-asked-requires-clause-kind
asked_of-asked-requires-clause-kind g c =
    let s = g.B.Blocks.value c.args.store.now in
    flush-plain _ (ap is_flush (sym (kind-is (in_hand s (token c.args.message)))) ∙ c.requires.kind)

pub returns-clause-did : goal.returns-clause-did
returns-clause-did g c = λ o most has.
    let s = g.B.Blocks.value c.args.store.now in
    let first = c.flush_way-up in
    let second = c.flush_way-down in
    let t = g.B.Blocks.value first.new.store in
    let u = g.B.Blocks.value second.new.store in
    let x = c.args.pair.now in
    let i = token c.args.message in
    let here = c.args.here in
    let asked = c.asked_of-asked.result in
    let f = c.args.told.now in
    let f2 = second.new.told in
    let acts : Acts = record { notes = c.rooms.result; sent = c.pass_on.result } in
    let may = passes-may s t u x first.new.pair second.new.pair here asked.band asked.for_read asked.for_write first.result second.result f first.new.told
    f2 first.ensures second.ensures i c.requires.may in
    subst (λ (a : FlushAsked). PutsThere s u o (Some x) o (Some second.new.pair) i most acts f f2 (flushed_by a here (message_in s i) o (pair_in s x)))
    c.asked_of-asked.ensures.asked
    (flush-passes s t u x first.new.pair second.new.pair here asked.band asked.for_read asked.for_write first.result second.result f first.new.told f2
    first.ensures second.ensures i most o acts has (c.pass_on.ensures u o f2 most may) c.rooms.ensures)

pub returns-clause-few : goal.returns-clause-few
returns-clause-few g c = subst (λ ns. length ns ≤ 2) (sym c.rooms.ensures) (rooms-few c.flush_way-up.result c.flush_way-down.result)
