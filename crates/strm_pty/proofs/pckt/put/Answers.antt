-- By the way.
use Rattle.strm_pty.proofs.Prelude.{ap, sym, subst}
use Rattle.strm_pty.specs.Prelude.{plain, pckt_passes, HasRoom, message_in, token}
use Rattle.strm_types.specs.Costs.{pckt_takes_on}
use Rattle.strm_types.specs.Pckts.{pckt_on_way}
use Rattle.strm_pty.proofs.Packing.{packs-as}
use Rattle.strm_pty.proofs.pckt.put.Goals as goal

pub put_up-requires-clause-room : goal.put_up-requires-clause-room
put_up-requires-clause-room g c =
    let s = g.B.Blocks.value c.args.store.now in
    let m = message_in s (token c.args.message) in
    subst (λ way. HasRoom s (pckt_takes_on way m.kind m.plain)) c.in-Up.is c.requires.room

pub returns-in-Down : goal.returns-in-Down
returns-in-Down g c =
    let s = g.B.Blocks.value c.args.store.now in
    let i = token c.args.message in
    let here = c.args.here in
    let m = message_in s i in
    packs-as s s i 0 _ c.pass_on.result c.args.told.now c.args.told.now (pckt_passes here m) _ c.pass_on.ensures (ap (λ way. pckt_takes_on way m.kind m.plain) (sym c.in-Down.is))
    (ap (λ way. pckt_on_way plain 0 here way m) (sym c.in-Down.is))

pub returns-in-Up : goal.returns-in-Up
returns-in-Up g c =
    let s = g.B.Blocks.value c.args.store.now in
    let i = token c.args.message in
    let here = c.args.here in
    let m = message_in s i in
    packs-as s (g.B.Blocks.value c.put_up.new.store) i _ _ c.put_up.result c.args.told.now c.put_up.new.told _ _ c.put_up.ensures (ap (λ way. pckt_takes_on way m.kind m.plain) (sym c.in-Up.is))
    (ap (λ way. pckt_on_way plain 0 here way m) (sym c.in-Up.is))
