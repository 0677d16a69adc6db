-- The master's stream stands first, and stays as it is.
use Rattle.strm_pair.proofs.Prelude.{◌≤◌, length, arith, refl, subst, sym, ◌∙◌}
use Rattle.strm_pair.specs.Prelude.{Master, Slave, laid_blocks, laid_now}
use Rattle.strm_types.specs.Names.{AreQueues}
use Rattle.strm_laws.specs.StackCosts.{stands_of}
use Rattle.strm_laws.proofs.EnabledFew.{restorable-few}
use Rattle.strm_image.specs.ImageTexts.{imaged_now}
use Rattle.strm_pair.specs.Laying.{IsStood, stream_now}
use Rattle.strm_pair.specs.Streams.{IsBlank}
use Rattle.strm_pair.proofs.EnabledKnown.{there-queues}
use Rattle.strm_pair.proofs.PairsMade.{blank-behind, blank-last, both-sides, master-stream, text-named}
use Rattle.strm_pair.proofs.TextsTold.{stream-told}
use Rattle.strm_pair.proofs.images.made_pairs.streams_of.Goals as goal

pub end_of-master-requires-clause-good : goal.end_of-master-requires-clause-good
end_of-master-requires-clause-good g c = stream-told Master c.args.text.now.opened.master c.args.text.now.streams.master (c.requires.good.streams Master) (c.requires.good.heads Master)

pub end_of-slave-requires-clause-good : goal.end_of-slave-requires-clause-good
end_of-slave-requires-clause-good g c = stream-told Slave c.args.text.now.opened.slave c.args.text.now.streams.slave (c.requires.good.streams Slave) (c.requires.good.heads Slave)

pub end_of-slave-requires-clause-blank : goal.end_of-slave-requires-clause-blank
end_of-slave-requires-clause-blank g c =
    let s = g.B.Blocks.value c.args.store.now in
    let t = g.B.Blocks.value c.end_of-master.new.store in
    let text = c.args.text.now in
    let stood = subst (λ n. IsStood s t n (stream_now text.opened.master text.streams.master) (laid_blocks (laid_now text.streams.master)) c.end_of-master.result) c.first_list.ensures.list c.end_of-master.ensures.stood in
    subst (λ n. IsBlank t n) (sym c.first_list-2.ensures.list) (blank-behind stood (blank-last s c.requires.lists))

pub enabled_of-requires-clause-queues : goal.enabled_of-requires-clause-queues
enabled_of-requires-clause-queues g c =
    let s = (imaged_now c.args.text.now).state in
    subst AreQueues (sym c.as_slice.ensures.value) (there-queues (stands_of s) s.enabled c.requires.good.enabled.there)

pub enabled_of-requires-clause-few : goal.enabled_of-requires-clause-few
enabled_of-requires-clause-few g c =
    let s = (imaged_now c.args.text.now).state in
    subst (λ names. length names ≤ 14) (sym c.as_slice.ensures.value) (restorable-few s c.requires.good)

pub returns-clause-state : goal.returns-clause-state
returns-clause-state g c =
    let s = g.B.Blocks.value c.args.store.now in
    let t = g.B.Blocks.value c.end_of-master.new.store in
    let u = g.B.Blocks.value c.end_of-slave.new.store in
    let text = c.args.text.now in
    let master = subst (λ n. IsStood s t n (stream_now text.opened.master text.streams.master) (laid_blocks (laid_now text.streams.master)) c.end_of-master.result) c.first_list.ensures.list c.end_of-master.ensures.stood in
    let slave = subst (λ n. IsStood t u n (stream_now text.opened.slave text.streams.slave) (laid_blocks (laid_now text.streams.slave)) c.end_of-slave.result) c.first_list-2.ensures.list c.end_of-slave.ensures.stood in
    rw (master-stream master slave, slave.stream, c.enabled_of.ensures, c.as_slice.ensures.value, c.book_of.ensures, c.book_of-2.ensures) refl

pub returns-clause-held : goal.returns-clause-held
returns-clause-held g c =
    let s = g.B.Blocks.value c.args.store.now in
    let t = g.B.Blocks.value c.end_of-master.new.store in
    let u = g.B.Blocks.value c.end_of-slave.new.store in
    let text = c.args.text.now in
    let master = subst (λ n. IsStood s t n (stream_now text.opened.master text.streams.master) (laid_blocks (laid_now text.streams.master)) c.end_of-master.result) c.first_list.ensures.list c.end_of-master.ensures.stood in
    let slave = subst (λ n. IsStood t u n (stream_now text.opened.slave text.streams.slave) (laid_blocks (laid_now text.streams.slave)) c.end_of-slave.result) c.first_list-2.ensures.list c.end_of-slave.ensures.stood in
    record { hand = slave.hand ∙ master.hand ∙ c.requires.hand; beside = both-sides master slave }

pub end_of-master-requires-clause-shelf : goal.end_of-master-requires-clause-shelf
end_of-master-requires-clause-shelf g c = omega (
  arith,
  c.requires.shelf,
  text-named Master c.args.text.now.opened.master c.args.text.now.streams.master (c.requires.good.streams Master),
)

pub end_of-slave-requires-clause-shelf : goal.end_of-slave-requires-clause-shelf
end_of-slave-requires-clause-shelf g c = omega (
  arith,
  c.requires.shelf,
  c.end_of-master.ensures.shelf.tables,
  text-named Master c.args.text.now.opened.master c.args.text.now.streams.master (c.requires.good.streams Master),
  text-named Slave c.args.text.now.opened.slave c.args.text.now.streams.slave (c.requires.good.streams Slave),
)

pub returns-clause-shelf : goal.returns-clause-shelf
returns-clause-shelf g c = record {
  tables = omega (
    arith,
    c.end_of-master.ensures.shelf.tables,
    c.end_of-slave.ensures.shelf.tables,
    text-named Master c.args.text.now.opened.master c.args.text.now.streams.master (c.requires.good.streams Master),
    text-named Slave c.args.text.now.opened.slave c.args.text.now.streams.slave (c.requires.good.streams Slave),
  );
  room = omega (arith, c.end_of-master.ensures.shelf.room, c.end_of-slave.ensures.shelf.room);
}
