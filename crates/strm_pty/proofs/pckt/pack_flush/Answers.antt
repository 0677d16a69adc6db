-- The packet goes, and behind it what is passed.
use Rattle.strm_pty.proofs.Prelude.{ap, sym, subst, ◌∙◌, ◌∷◌, [], kind-is}
use Rattle.strm_pty.specs.Prelude.{is_data_kind, writers_flush, in_hand, token, message_in}
use Rattle.std.proofs.lemmas.Bool.{not-false}
use Rattle.strm_pty.specs.Does.{Makes}
use Rattle.strm_pty.proofs.Packing.{flush-goes, flush-packed, flush-plain, packs-two}
use Rattle.strm_pty.proofs.pckt.pack_flush.Goals as goal

pub asked_of-asked-requires-clause-kind : goal.asked_of-asked-requires-clause-kind
asked_of-asked-requires-clause-kind g c =
    let s = g.B.Blocks.value c.args.store.now in
    let i = token c.args.message in
    ap is_data_kind (sym (kind-is (in_hand s i))) ∙ flush-plain (message_in s i).kind c.requires.flush

pub returns : goal.returns
returns g c =
    let s = g.B.Blocks.value c.args.store.now in
    let t = g.B.Blocks.value c.send_packet-packet.new.store in
    let u = g.B.Blocks.value c.pass_flush-flush.new.store in
    let i = token c.args.message in
    let m = message_in s i in
    let asked = c.asked_of-asked.ensures.asked in
    packs-two s t i c.args.here c.send_packet-packet.result _ c.args.told.now c.send_packet-packet.new.told (flush-packed m.kind c.requires.flush) c.send_packet-packet.ensures.swaps c.send_packet-packet.ensures.blocks c.new-2.ensures
    u c.pass_flush-flush.result c.requires.passes.held (subst (λ a. Makes t u 1 (c.pass_flush-flush.result ∷ []) (writers_flush c.args.here a ∷ [])) asked c.pass_flush-flush.ensures)
    (flush-goes m.kind m.plain c.requires.flush ∙ sym (ap (λ a. a.for_write) asked) ∙ not-false c.asked_of-asked.result.for_write c.if-not-asked.false) c.two.ensures c.send_packet-packet.ensures.told
