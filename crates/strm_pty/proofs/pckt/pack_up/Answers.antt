-- By the kind.
use Rattle.strm_pty.specs.Prelude.{is_flush, message_in, token}
use Rattle.strm_pty.proofs.Packing.{kind-test, others-stay, packs-one}
use Rattle.strm_pty.proofs.pckt.pack_up.Goals as goal

pub pack_flush-requires-clause-flush : goal.pack_flush-requires-clause-flush
pack_flush-requires-clause-flush g c =
    kind-test is_flush (g.B.Blocks.value c.args.store.now) (token c.args.message) c.kind.result c.is_flush.result _ c.kind.ensures c.is_flush.ensures c.if-is_flush.true

pub returns : goal.returns
returns g c =
    let s = g.B.Blocks.value c.args.store.now in
    let i = token c.args.message in
    let m = message_in s i in
    let other = kind-test is_flush s i c.kind.result c.is_flush.result _ c.kind.ensures c.is_flush.ensures c.if-is_flush.false in
    packs-one s (g.B.Blocks.value c.send_packet-packet.new.store) i c.args.here c.send_packet-packet.result _ c.args.told.now c.send_packet-packet.new.told c.requires.packed
    c.send_packet-packet.ensures.swaps c.send_packet-packet.ensures.blocks c.new.ensures (others-stay m.kind m.plain other) c.one.ensures c.send_packet-packet.ensures.told
