-- The queue of the way is flushed, and the other one stays.
use Rattle.strm_frame.proofs.Prelude.{ap, sym, ◌∙◌}
use Rattle.strm_frame.specs.Prelude.{Way, Up, Down, pair_changed, way_queue}
use Rattle.strm_types.specs.Deliver.{Goes, counted_with}
use Rattle.strm_types.specs.Emptied.{cells_gone, of_data, queue_behind, writer_goes}
use Rattle.strm_types.specs.Names.{direction_at}
use Rattle.strm_types.specs.declared.rules.Rule.TheVariants.{Flushed}
use Rattle.strm_frame.specs.Standings.{pair_in}
use Rattle.strm_frame.proofs.Pairs.{read-lists, read-own, read-pair, read-ready, same-hand, write-lists, write-own, write-pair, write-ready}
use Rattle.strm_frame.proofs.queue_pair.QueuePair.flush.Goals as goal

pub returns-in-Up-clause-state : goal.returns-in-Up-clause-state
returns-in-Up-clause-state g c =
    let s = g.B.Blocks.value c.args.store.now in
    let t = g.B.Blocks.value c.flush_queue.new.store in
    let pair = c.args.self.now in
    read-pair s t pair c.requires.ready c.flush_queue.new.queue c.flush_queue.ensures.changes
    ∙ ap (λ q. record (pair_in s pair) { read = q }) c.flush_queue.ensures.queue
    ∙ ap (λ w. pair_changed w (queue_behind (of_data c.args.band)) (pair_in s pair)) (sym c.in-Up.is)

pub returns-in-Up-clause-went : goal.returns-in-Up-clause-went
returns-in-Up-clause-went g c =
    let s = g.B.Blocks.value c.args.store.now in
    c.flush_queue.ensures.went ∙ ap (λ w. writer_goes (of_data c.args.band) (way_queue w (pair_in s c.args.self.now))) (sym c.in-Up.is)

pub returns-in-Up-clause-told : goal.returns-in-Up-clause-told
returns-in-Up-clause-told g c =
    let s = g.B.Blocks.value c.args.store.now in
    let gone = λ (w : Way). cells_gone (of_data c.args.band) (way_queue w (pair_in s c.args.self.now)).messages in
    c.flush_queue.ensures.told
    ∙ ap (λ d. counted_with (Goes d Flushed (gone Up)) c.args.told.now) c.direction_at-direction.ensures
    ∙ ap (λ w. counted_with (Goes (direction_at c.args.way c.args.side) Flushed (gone w)) c.args.told.now) (sym c.in-Up.is)

pub returns-in-Up-clause-ready : goal.returns-in-Up-clause-ready
returns-in-Up-clause-ready g c =
    read-ready (g.B.Blocks.value c.args.store.now) (g.B.Blocks.value c.flush_queue.new.store) c.args.self.now c.requires.ready c.flush_queue.new.queue c.flush_queue.ensures.changes

pub returns-in-Up-clause-lists : goal.returns-in-Up-clause-lists
returns-in-Up-clause-lists g c =
    read-lists (g.B.Blocks.value c.args.store.now) (g.B.Blocks.value c.flush_queue.new.store) c.args.self.now c.requires.ready c.flush_queue.new.queue c.flush_queue.ensures.changes

pub returns-in-Up-clause-own : goal.returns-in-Up-clause-own
returns-in-Up-clause-own g c =
    read-own (g.B.Blocks.value c.args.store.now) (g.B.Blocks.value c.flush_queue.new.store) c.args.self.now c.requires.ready c.flush_queue.new.queue c.flush_queue.ensures.changes

pub returns-in-Up-clause-hand : goal.returns-in-Up-clause-hand
returns-in-Up-clause-hand g c =
    same-hand (g.B.Blocks.value c.args.store.now) (g.B.Blocks.value c.flush_queue.new.store) _ _ c.flush_queue.ensures.changes

pub returns-in-Down-clause-state : goal.returns-in-Down-clause-state
returns-in-Down-clause-state g c =
    let s = g.B.Blocks.value c.args.store.now in
    let t = g.B.Blocks.value c.flush_queue-in-Down.new.store in
    let pair = c.args.self.now in
    write-pair s t pair c.requires.ready c.flush_queue-in-Down.new.queue c.flush_queue-in-Down.ensures.changes
    ∙ ap (λ q. record (pair_in s pair) { write = q }) c.flush_queue-in-Down.ensures.queue
    ∙ ap (λ w. pair_changed w (queue_behind (of_data c.args.band)) (pair_in s pair)) (sym c.in-Down.is)

pub returns-in-Down-clause-went : goal.returns-in-Down-clause-went
returns-in-Down-clause-went g c =
    let s = g.B.Blocks.value c.args.store.now in
    c.flush_queue-in-Down.ensures.went ∙ ap (λ w. writer_goes (of_data c.args.band) (way_queue w (pair_in s c.args.self.now))) (sym c.in-Down.is)

pub returns-in-Down-clause-told : goal.returns-in-Down-clause-told
returns-in-Down-clause-told g c =
    let s = g.B.Blocks.value c.args.store.now in
    let gone = λ (w : Way). cells_gone (of_data c.args.band) (way_queue w (pair_in s c.args.self.now)).messages in
    c.flush_queue-in-Down.ensures.told
    ∙ ap (λ d. counted_with (Goes d Flushed (gone Down)) c.args.told.now) c.direction_at-direction.ensures
    ∙ ap (λ w. counted_with (Goes (direction_at c.args.way c.args.side) Flushed (gone w)) c.args.told.now) (sym c.in-Down.is)

pub returns-in-Down-clause-ready : goal.returns-in-Down-clause-ready
returns-in-Down-clause-ready g c =
    write-ready (g.B.Blocks.value c.args.store.now) (g.B.Blocks.value c.flush_queue-in-Down.new.store) c.args.self.now c.requires.ready c.flush_queue-in-Down.new.queue c.flush_queue-in-Down.ensures.changes

pub returns-in-Down-clause-lists : goal.returns-in-Down-clause-lists
returns-in-Down-clause-lists g c =
    write-lists (g.B.Blocks.value c.args.store.now) (g.B.Blocks.value c.flush_queue-in-Down.new.store) c.args.self.now c.requires.ready c.flush_queue-in-Down.new.queue c.flush_queue-in-Down.ensures.changes

pub returns-in-Down-clause-own : goal.returns-in-Down-clause-own
returns-in-Down-clause-own g c =
    write-own (g.B.Blocks.value c.args.store.now) (g.B.Blocks.value c.flush_queue-in-Down.new.store) c.args.self.now c.requires.ready c.flush_queue-in-Down.new.queue c.flush_queue-in-Down.ensures.changes

pub returns-in-Down-clause-hand : goal.returns-in-Down-clause-hand
returns-in-Down-clause-hand g c =
    same-hand (g.B.Blocks.value c.args.store.now) (g.B.Blocks.value c.flush_queue-in-Down.new.store) _ _ c.flush_queue-in-Down.ensures.changes
