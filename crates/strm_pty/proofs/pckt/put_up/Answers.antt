-- By the kind.
use Rattle.strm_pty.proofs.Prelude.{ap, sym, cond, refl}
use Rattle.strm_pty.specs.Prelude.{plain, is_packed, pckt_packs, pckt_passes, message_in, token}
use Rattle.strm_pty.proofs.Packing.{kind-test, packs-as, takes-none}
use Rattle.strm_pty.proofs.pckt.put_up.Goals as goal

pub pack_up-requires-clause-packed : goal.pack_up-requires-clause-packed
pack_up-requires-clause-packed g c =
    kind-test is_packed (g.B.Blocks.value c.args.store.now) (token c.args.message) c.kind.result c.is_packed.result _ c.kind.ensures c.is_packed.ensures c.if-is_packed.true

pub returns-then-is_packed : goal.returns-then-is_packed
returns-then-is_packed g c =
    let s = g.B.Blocks.value c.args.store.now in
    let i = token c.args.message in
    let here = c.args.here in
    let m = message_in s i in
    let packed = kind-test is_packed s i c.kind.result c.is_packed.result _ c.kind.ensures c.is_packed.ensures c.if-is_packed.true in
    packs-as s (g.B.Blocks.value c.pack_up.new.store) i _ _ c.pack_up.result c.args.told.now c.pack_up.new.told (pckt_packs plain 0 here m) _ c.pack_up.ensures refl
    (ap (λ b. cond b (pckt_packs plain 0 here m) (pckt_passes here m)) (sym packed))

pub returns-else-is_packed : goal.returns-else-is_packed
returns-else-is_packed g c =
    let s = g.B.Blocks.value c.args.store.now in
    let i = token c.args.message in
    let here = c.args.here in
    let m = message_in s i in
    let other = kind-test is_packed s i c.kind.result c.is_packed.result _ c.kind.ensures c.is_packed.ensures c.if-is_packed.false in
    packs-as s s i 0 _ c.pass_on.result c.args.told.now c.args.told.now (pckt_passes here m) _ c.pass_on.ensures (takes-none m.kind m.plain other)
    (ap (λ b. cond b (pckt_packs plain 0 here m) (pckt_passes here m)) (sym other))
