-- The packet goes to the next place, and what is made was counted.
use Rattle.strm_pty.proofs.Prelude.{ap, ◌∙◌}
use Rattle.strm_pty.specs.Prelude.{Up, onward, plain_packed, message_in, token}
use Rattle.strm_types.specs.Names.{direction_at}
use Rattle.strm_pty.specs.Packs.{packet_of}
use Rattle.strm_pty.proofs.Packing.{becomes-swaps, told-made}
use Rattle.strm_pty.proofs.pckt.send_packet.Goals as goal

pub returns-clause-swaps : goal.returns-clause-swaps
returns-clause-swaps g c =
    let s = g.B.Blocks.value c.args.store.now in
    let here = c.args.here in
    becomes-swaps s (g.B.Blocks.value c.pack-message.new.store) (token c.args.message) (record { to = c.toward.result; message = c.pack-message.result })
    (onward Up here (packet_of here (message_in s (token c.args.message)))) (c.pack-message.ensures here) c.toward.ensures

pub returns-clause-told : goal.returns-clause-told
returns-clause-told g c =
    let here = c.args.here in
    let m = message_in (g.B.Blocks.value c.args.store.now) (token c.args.message) in
    told-made c.direction.result (direction_at Up here.side) c.count_made-made.result (plain_packed m) c.args.told.now c.tell_made.new.self c.tell_made.ensures
    (c.direction.ensures ∙ ap (λ way. direction_at way here.side) c.requires.goes) c.count_made-made.ensures

pub returns-clause-blocks : goal.returns-clause-blocks
returns-clause-blocks g c = λ held. (c.pack-message.ensures c.args.here).blocks held
