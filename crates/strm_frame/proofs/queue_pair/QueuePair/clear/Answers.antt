-- The queue of the way is cleared, and the other one stays.
use Rattle.strm_frame.proofs.Prelude.{ap, sym, ◌∙◌}
use Rattle.strm_frame.specs.Prelude.{Way, Up, Down, is_met, of_all, pair_changed, way_queue}
use Rattle.std.specs.Prelude.{length}
use Rattle.strm_types.specs.Emptied.{cells_gone, queue_behind, writer_goes}
use Rattle.strm_types.specs.Names.{direction_at}
use Rattle.strm_types.specs.Rules.{told_more}
use Rattle.strm_frame.specs.Standings.{pair_in}
use Rattle.strm_frame.proofs.Pairs.{read-lists, read-own, read-pair, read-ready, same-hand, write-lists, write-own, write-pair, write-ready}
use Rattle.strm_frame.proofs.queue_pair.QueuePair.clear.Goals as goal

pub returns-in-Up-clause-state : goal.returns-in-Up-clause-state
returns-in-Up-clause-state g c =
    let s = g.B.Blocks.value c.args.store.now in
    let t = g.B.Blocks.value c.clear_queue.new.store in
    let pair = c.args.self.now in
    read-pair s t pair c.requires.ready c.clear_queue.new.queue c.clear_queue.ensures.changes
    ∙ ap (λ q. record (pair_in s pair) { read = q }) c.clear_queue.ensures.queue
    ∙ ap (λ w. pair_changed w (queue_behind of_all) (pair_in s pair)) (sym c.in-Up.is)

pub returns-in-Up-clause-room : goal.returns-in-Up-clause-room
returns-in-Up-clause-room g c =
    let s = g.B.Blocks.value c.args.store.now in
    c.clear_queue.ensures.room ∙ ap (λ w. writer_goes of_all (way_queue w (pair_in s c.args.self.now))) (sym c.in-Up.is)

pub returns-in-Up-clause-met : goal.returns-in-Up-clause-met
returns-in-Up-clause-met g c =
    let s = g.B.Blocks.value c.args.store.now in
    c.clear_queue.ensures.met ∙ ap (λ w. is_met c.args.seeking (way_queue w (pair_in s c.args.self.now)).messages) (sym c.in-Up.is)

pub returns-in-Up-clause-told : goal.returns-in-Up-clause-told
returns-in-Up-clause-told g c =
    let s = g.B.Blocks.value c.args.store.now in
    let gone = λ (w : Way). length (cells_gone of_all (way_queue w (pair_in s c.args.self.now)).messages) in
    c.clear_queue.ensures.told
    ∙ ap (λ d. told_more d c.args.rule (gone Up) c.args.told.now) c.direction_at-direction.ensures
    ∙ ap (λ w. told_more (direction_at c.args.way c.args.side) c.args.rule (gone w) c.args.told.now) (sym c.in-Up.is)

pub returns-in-Up-clause-ready : goal.returns-in-Up-clause-ready
returns-in-Up-clause-ready g c =
    read-ready (g.B.Blocks.value c.args.store.now) (g.B.Blocks.value c.clear_queue.new.store) c.args.self.now c.requires.ready c.clear_queue.new.queue c.clear_queue.ensures.changes

pub returns-in-Up-clause-lists : goal.returns-in-Up-clause-lists
returns-in-Up-clause-lists g c =
    read-lists (g.B.Blocks.value c.args.store.now) (g.B.Blocks.value c.clear_queue.new.store) c.args.self.now c.requires.ready c.clear_queue.new.queue c.clear_queue.ensures.changes

pub returns-in-Up-clause-own : goal.returns-in-Up-clause-own
returns-in-Up-clause-own g c =
    read-own (g.B.Blocks.value c.args.store.now) (g.B.Blocks.value c.clear_queue.new.store) c.args.self.now c.requires.ready c.clear_queue.new.queue c.clear_queue.ensures.changes

pub returns-in-Up-clause-hand : goal.returns-in-Up-clause-hand
returns-in-Up-clause-hand g c =
    same-hand (g.B.Blocks.value c.args.store.now) (g.B.Blocks.value c.clear_queue.new.store) _ _ c.clear_queue.ensures.changes

pub returns-in-Down-clause-state : goal.returns-in-Down-clause-state
returns-in-Down-clause-state g c =
    let s = g.B.Blocks.value c.args.store.now in
    let t = g.B.Blocks.value c.clear_queue-in-Down.new.store in
    let pair = c.args.self.now in
    write-pair s t pair c.requires.ready c.clear_queue-in-Down.new.queue c.clear_queue-in-Down.ensures.changes
    ∙ ap (λ q. record (pair_in s pair) { write = q }) c.clear_queue-in-Down.ensures.queue
    ∙ ap (λ w. pair_changed w (queue_behind of_all) (pair_in s pair)) (sym c.in-Down.is)

pub returns-in-Down-clause-room : goal.returns-in-Down-clause-room
returns-in-Down-clause-room g c =
    let s = g.B.Blocks.value c.args.store.now in
    c.clear_queue-in-Down.ensures.room ∙ ap (λ w. writer_goes of_all (way_queue w (pair_in s c.args.self.now))) (sym c.in-Down.is)

pub returns-in-Down-clause-met : goal.returns-in-Down-clause-met
returns-in-Down-clause-met g c =
    let s = g.B.Blocks.value c.args.store.now in
    c.clear_queue-in-Down.ensures.met ∙ ap (λ w. is_met c.args.seeking (way_queue w (pair_in s c.args.self.now)).messages) (sym c.in-Down.is)

pub returns-in-Down-clause-told : goal.returns-in-Down-clause-told
returns-in-Down-clause-told g c =
    let s = g.B.Blocks.value c.args.store.now in
    let gone = λ (w : Way). length (cells_gone of_all (way_queue w (pair_in s c.args.self.now)).messages) in
    c.clear_queue-in-Down.ensures.told
    ∙ ap (λ d. told_more d c.args.rule (gone Down) c.args.told.now) c.direction_at-direction.ensures
    ∙ ap (λ w. told_more (direction_at c.args.way c.args.side) c.args.rule (gone w) c.args.told.now) (sym c.in-Down.is)

pub returns-in-Down-clause-ready : goal.returns-in-Down-clause-ready
returns-in-Down-clause-ready g c =
    write-ready (g.B.Blocks.value c.args.store.now) (g.B.Blocks.value c.clear_queue-in-Down.new.store) c.args.self.now c.requires.ready c.clear_queue-in-Down.new.queue c.clear_queue-in-Down.ensures.changes

pub returns-in-Down-clause-lists : goal.returns-in-Down-clause-lists
returns-in-Down-clause-lists g c =
    write-lists (g.B.Blocks.value c.args.store.now) (g.B.Blocks.value c.clear_queue-in-Down.new.store) c.args.self.now c.requires.ready c.clear_queue-in-Down.new.queue c.clear_queue-in-Down.ensures.changes

pub returns-in-Down-clause-own : goal.returns-in-Down-clause-own
returns-in-Down-clause-own g c =
    write-own (g.B.Blocks.value c.args.store.now) (g.B.Blocks.value c.clear_queue-in-Down.new.store) c.args.self.now c.requires.ready c.clear_queue-in-Down.new.queue c.clear_queue-in-Down.ensures.changes

pub returns-in-Down-clause-hand : goal.returns-in-Down-clause-hand
returns-in-Down-clause-hand g c =
    same-hand (g.B.Blocks.value c.args.store.now) (g.B.Blocks.value c.clear_queue-in-Down.new.store) _ _ c.clear_queue-in-Down.ensures.changes
