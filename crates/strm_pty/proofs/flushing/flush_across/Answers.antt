-- The message is freed, the own queue flushed, and then the readers are told.
use Rattle.std.proofs.Common.{refl, [], append-nil}
use Rattle.std.specs.Option.{option_to_list}
use Rattle.strm_pty.proofs.Doing.{swaps-freed, room-kept}
use Rattle.strm_pty.proofs.Flushed.{across-does}
use Rattle.strm_pty.proofs.flushing.flush_across.Goals as goal
use Rattle.strm_blocks.specs.Blocks.{token}

pub returns : goal.returns
returns g c =
    let s = g.B.Blocks.value c.args.store.now in
    let t = g.B.Blocks.value c.free.new.self in
    let i = token c.args.message in
    across-does s t (g.B.Blocks.value c.flush_own-notes.new.store) c.args.queue.now c.flush_own-notes.new.queue i c.args.side c.args.across c.asked_of-asked.result _ c.args.told.now c.flush_own-notes.new.told
    c.flush_own-notes.result.items (option_to_list c.flush_readers-readers.result) _ c.requires.ready (swaps-freed s t i [] c.audit.ensures c.requires.in_hand c.free.ensures refl) c.asked_of-asked.ensures.asked refl
    (g.B.Blocks.value c.flush_readers-readers.new.store) c.flush_own-notes.ensures c.flush_readers-readers.ensures (append-nil (option_to_list c.flush_readers-readers.result))

pub flush_readers-readers-requires : goal.flush_readers-readers-requires
flush_readers-readers-requires g c =
    let s = g.B.Blocks.value c.args.store.now in
    let t = g.B.Blocks.value c.free.new.self in
    let i = token c.args.message in
    room-kept s t (g.B.Blocks.value c.flush_own-notes.new.store) i 1 _ (swaps-freed s t i [] c.audit.ensures c.requires.in_hand c.free.ensures refl) c.flush_own-notes.ensures.hands c.requires.room
