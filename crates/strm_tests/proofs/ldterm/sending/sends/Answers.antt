-- Nothing is in hand at first, four blocks are free, and each key takes one at most.
use Rattle.std.proofs.Common.{arith}
use Rattle.strm_frame.specs.Hands.{AreIn, HasRoom}
use Rattle.strm_ldterm.specs.Stands.{keeps, paired}
use Rattle.strm_ldterm.proofs.Sends.{held-line, proceeds-kept, proceeds-room, proceeds-sent}
use Rattle.strm_tests.proofs.ldterm.sending.sends.Goals as goal

pub goes-requires : goal.goes-requires
goes-requires g c =
    let s = g.B.Blocks.value c.args.store.now in
    let pair = c.new-queues.result in
    let x = record (paired c.new-ldterm.result pair) { line = c.push.new.self } in
    let ready = c.new-queues.ensures.ready s c.requires.read c.requires.write in
    let own = c.new-ldterm.ensures.held s pair in
    let fits = held-line s (paired c.new-ldterm.result pair) c.push.new.self (record { read = ready.read; write = ready.write; apart = ready.apart; work = own.work; gathers = own.gathers; echoes = own.echoes; once_each = own.once_each }) in
    let kept : AreIn s (λ _. 0) (keeps x) = record { apart = λ i. let r = c.new-ldterm.ensures.rests i in omega arith } in
    let line = c.end_line-sent.ensures pair c.none-told.result fits kept in
    proceeds-sent _ _ _ _ _ _ _ _ _ _ line kept

pub end_file-sent-requires-clause-room : goal.end_file-sent-requires-clause-room
end_file-sent-requires-clause-room g c =
    let s = g.B.Blocks.value c.args.store.now in
    let pair = c.new-queues.result in
    let x = record (paired c.new-ldterm.result pair) { line = c.push.new.self } in
    let ready = c.new-queues.ensures.ready s c.requires.read c.requires.write in
    let own = c.new-ldterm.ensures.held s pair in
    let fits = held-line s (paired c.new-ldterm.result pair) c.push.new.self (record { read = ready.read; write = ready.write; apart = ready.apart; work = own.work; gathers = own.gathers; echoes = own.echoes; once_each = own.once_each }) in
    let kept : AreIn s (λ _. 0) (keeps x) = record { apart = λ i. let r = c.new-ldterm.ensures.rests i in omega arith } in
    let line = c.end_line-sent.ensures pair c.none-told.result fits kept in
    let room : HasRoom s 4 = record { mblks = (let e = c.free_blocks-mblks.ensures.message_blocks in let l = c.if-mblks-lt4.false in omega arith); dblks = (let e = c.free_blocks-mblks.ensures.data_blocks in let l = c.if-dblks-lt4.false in omega arith) } in
    proceeds-room _ _ _ _ _ _ _ _ _ _ line 4 1 (omega arith) room

pub goes-requires-2 : goal.goes-requires-2
goes-requires-2 g c =
    let s = g.B.Blocks.value c.args.store.now in
    let pair = c.new-queues.result in
    let x = record (paired c.new-ldterm.result pair) { line = c.push.new.self } in
    let ready = c.new-queues.ensures.ready s c.requires.read c.requires.write in
    let own = c.new-ldterm.ensures.held s pair in
    let fits = held-line s (paired c.new-ldterm.result pair) c.push.new.self (record { read = ready.read; write = ready.write; apart = ready.apart; work = own.work; gathers = own.gathers; echoes = own.echoes; once_each = own.once_each }) in
    let kept : AreIn s (λ _. 0) (keeps x) = record { apart = λ i. let r = c.new-ldterm.ensures.rests i in omega arith } in
    let line = c.end_line-sent.ensures pair c.none-told.result fits kept in
    let kept1 = proceeds-kept _ _ _ _ _ _ _ _ _ _ line kept in
    let file = c.end_file-sent.ensures pair line.held kept1 in
    proceeds-sent _ _ _ _ _ _ _ _ _ _ file kept1

pub stop-sent-requires-clause-room : goal.stop-sent-requires-clause-room
stop-sent-requires-clause-room g c =
    let s = g.B.Blocks.value c.args.store.now in
    let pair = c.new-queues.result in
    let x = record (paired c.new-ldterm.result pair) { line = c.push.new.self } in
    let ready = c.new-queues.ensures.ready s c.requires.read c.requires.write in
    let own = c.new-ldterm.ensures.held s pair in
    let fits = held-line s (paired c.new-ldterm.result pair) c.push.new.self (record { read = ready.read; write = ready.write; apart = ready.apart; work = own.work; gathers = own.gathers; echoes = own.echoes; once_each = own.once_each }) in
    let kept : AreIn s (λ _. 0) (keeps x) = record { apart = λ i. let r = c.new-ldterm.ensures.rests i in omega arith } in
    let line = c.end_line-sent.ensures pair c.none-told.result fits kept in
    let room : HasRoom s 4 = record { mblks = (let e = c.free_blocks-mblks.ensures.message_blocks in let l = c.if-mblks-lt4.false in omega arith); dblks = (let e = c.free_blocks-mblks.ensures.data_blocks in let l = c.if-dblks-lt4.false in omega arith) } in
    let kept1 = proceeds-kept _ _ _ _ _ _ _ _ _ _ line kept in
    let file = c.end_file-sent.ensures pair line.held kept1 in
    proceeds-room _ _ _ _ _ _ _ _ _ _ file 3 1 (omega arith) (proceeds-room _ _ _ _ _ _ _ _ _ _ line 4 3 (omega arith) room)

pub goes-requires-3 : goal.goes-requires-3
goes-requires-3 g c =
    let s = g.B.Blocks.value c.args.store.now in
    let pair = c.new-queues.result in
    let x = record (paired c.new-ldterm.result pair) { line = c.push.new.self } in
    let ready = c.new-queues.ensures.ready s c.requires.read c.requires.write in
    let own = c.new-ldterm.ensures.held s pair in
    let fits = held-line s (paired c.new-ldterm.result pair) c.push.new.self (record { read = ready.read; write = ready.write; apart = ready.apart; work = own.work; gathers = own.gathers; echoes = own.echoes; once_each = own.once_each }) in
    let kept : AreIn s (λ _. 0) (keeps x) = record { apart = λ i. let r = c.new-ldterm.ensures.rests i in omega arith } in
    let line = c.end_line-sent.ensures pair c.none-told.result fits kept in
    let kept1 = proceeds-kept _ _ _ _ _ _ _ _ _ _ line kept in
    let file = c.end_file-sent.ensures pair line.held kept1 in
    let kept2 = proceeds-kept _ _ _ _ _ _ _ _ _ _ file kept1 in
    let stop = c.stop-sent.ensures pair file.held kept2 in
    proceeds-sent _ _ _ _ _ _ _ _ _ _ stop kept2

pub stop-sent-requires-2-clause-room : goal.stop-sent-requires-2-clause-room
stop-sent-requires-2-clause-room g c =
    let s = g.B.Blocks.value c.args.store.now in
    let pair = c.new-queues.result in
    let x = record (paired c.new-ldterm.result pair) { line = c.push.new.self } in
    let ready = c.new-queues.ensures.ready s c.requires.read c.requires.write in
    let own = c.new-ldterm.ensures.held s pair in
    let fits = held-line s (paired c.new-ldterm.result pair) c.push.new.self (record { read = ready.read; write = ready.write; apart = ready.apart; work = own.work; gathers = own.gathers; echoes = own.echoes; once_each = own.once_each }) in
    let kept : AreIn s (λ _. 0) (keeps x) = record { apart = λ i. let r = c.new-ldterm.ensures.rests i in omega arith } in
    let line = c.end_line-sent.ensures pair c.none-told.result fits kept in
    let room : HasRoom s 4 = record { mblks = (let e = c.free_blocks-mblks.ensures.message_blocks in let l = c.if-mblks-lt4.false in omega arith); dblks = (let e = c.free_blocks-mblks.ensures.data_blocks in let l = c.if-dblks-lt4.false in omega arith) } in
    let kept1 = proceeds-kept _ _ _ _ _ _ _ _ _ _ line kept in
    let file = c.end_file-sent.ensures pair line.held kept1 in
    let kept2 = proceeds-kept _ _ _ _ _ _ _ _ _ _ file kept1 in
    let stop = c.stop-sent.ensures pair file.held kept2 in
    proceeds-room _ _ _ _ _ _ _ _ _ _ stop 2 1 (omega arith) (proceeds-room _ _ _ _ _ _ _ _ _ _ file 3 2 (omega arith) (proceeds-room _ _ _ _ _ _ _ _ _ _ line 4 3 (omega arith) room))
