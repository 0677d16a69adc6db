use Rattle.std.proofs.Common.{false}
use Rattle.strm_frame.specs.Outboxes.{sent_of}
use Rattle.strm_ldterm.specs.Stands.{paired}
use Rattle.strm_ldterm.proofs.Struck.{held-lnext, sent-proceeds}
use Rattle.strm_ldterm.proofs.treated_bytes.strike_and_send.Goals as goal

pub returns-clause-does : goal.returns-clause-does
returns-clause-does g c =
    let x = (paired c.args.ldterm.now c.args.queues.now) in
    let held = held-lnext (g.B.Blocks.value c.args.store.now) x false c.requires.held in
    sent-proceeds (g.B.Blocks.value c.args.store.now) (g.B.Blocks.value c.strike_sending-sent.new.store) x (paired c.strike_sending-sent.new.ldterm c.args.queues.now) c.args.here c.args.started c.args.byte c.args.stroke c.wakes-notes.result.items
    c.args.told.now c.strike_sending-sent.new.told c.requires.stroke (c.wakes-notes.ensures c.args.here) (sent_of c.strike_sending-sent.result) c.short_echo-echo.result c.requires.sends c.short_echo-echo.ensures (c.strike_sending-sent.ensures c.args.queues.now held c.requires.kept)
