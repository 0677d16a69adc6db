-- The message is freed, the own queue flushed, and then both messages are made.
use Rattle.std.proofs.Common.{refl, [], arith}
use Rattle.std.specs.Option.{option_to_list}
use Rattle.strm_pty.proofs.Doing.{swaps-freed, room-kept, room-left, room-less}
use Rattle.strm_pty.proofs.Flushed.{append-none, down-does}
use Rattle.strm_pty.proofs.flushing.flush_down.Goals as goal
use Rattle.strm_blocks.specs.Blocks.{token}

pub returns : goal.returns
returns g c =
    let s = g.B.Blocks.value c.args.store.now in
    let t = g.B.Blocks.value c.free.new.self in
    let i = token c.args.message in
    down-does s t (g.B.Blocks.value c.flush_own-notes.new.store) c.args.queue.now c.flush_own-notes.new.queue i c.args.side c.args.across c.asked_of-asked.result _ c.args.told.now c.flush_own-notes.new.told
    c.flush_own-notes.result.items (option_to_list c.flush_readers-readers.result) _ c.requires.ready (swaps-freed s t i [] c.audit.ensures c.requires.in_hand c.free.ensures refl) c.asked_of-asked.ensures.asked refl
    (g.B.Blocks.value c.flush_readers-readers.new.store) (g.B.Blocks.value c.flush_to-driver.new.store) (option_to_list c.flush_to-driver.result) c.driver_across.result
    c.flush_own-notes.ensures c.flush_readers-readers.ensures c.flush_to-driver.ensures c.driver_across.ensures (append-none (option_to_list c.flush_readers-readers.result) (option_to_list c.flush_to-driver.result))

pub flush_readers-readers-requires : goal.flush_readers-readers-requires
flush_readers-readers-requires g c =
    let s = g.B.Blocks.value c.args.store.now in
    let t = g.B.Blocks.value c.free.new.self in
    let u = g.B.Blocks.value c.flush_own-notes.new.store in
    let i = token c.args.message in
    let room = room-kept s t u i 2 _ (swaps-freed s t i [] c.audit.ensures c.requires.in_hand c.free.ensures refl) c.flush_own-notes.ensures.hands c.requires.room in
    room-less u 2 1 (omega arith) room

pub flush_to-driver-requires : goal.flush_to-driver-requires
flush_to-driver-requires g c =
    let s = g.B.Blocks.value c.args.store.now in
    let t = g.B.Blocks.value c.free.new.self in
    let u = g.B.Blocks.value c.flush_own-notes.new.store in
    let i = token c.args.message in
    let room = room-kept s t u i 2 _ (swaps-freed s t i [] c.audit.ensures c.requires.in_hand c.free.ensures refl) c.flush_own-notes.ensures.hands c.requires.room in
    room-left u (g.B.Blocks.value c.flush_readers-readers.new.store) _ _ 1 1 c.flush_readers-readers.ensures.hands room
