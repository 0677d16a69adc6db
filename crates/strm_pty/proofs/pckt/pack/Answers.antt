-- The message is freed, or its blocks become the data part.
use Rattle.strm_pty.proofs.Prelude.{sym, ◌∙◌, subst}
use Rattle.strm_pty.specs.Prelude.{message_in, token}
use Rattle.strm_types.specs.declared.kinds.MsgKind.TheVariants as kinds
use Rattle.strm_pty.specs.Packs.{Becomes, packet_of}
use Rattle.strm_pty.proofs.Packing.{became-alone, became-full, both-there}
use Rattle.strm_pty.proofs.pckt.pack.Goals as goal

pub returns-then-is_stop_or_start : goal.returns-then-is_stop_or_start
returns-then-is_stop_or_start g c = λ here.
    let s = g.B.Blocks.value c.args.store.now in
    let t = g.B.Blocks.value c.alloc_with.new.self in
    became-alone s t (token c.args.message) (token c.in-Ok.front) c.requires.in_hand c.requires.chain c.audit.ensures _ _ c.kind-kind.result c.in-Ok.ensures c.band-band.ensures c.number.ensures c.kind-kind.ensures
    (g.B.Blocks.value c.free.new.self) here (sym c.is_stop_or_start.ensures ∙ c.if-is_stop_or_start.true) c.free.ensures

pub link-requires-clause-first_in_hand : goal.link-requires-clause-first_in_hand
link-requires-clause-first_in_hand g c =
    let s = g.B.Blocks.value c.args.store.now in
    let t = g.B.Blocks.value c.alloc_with.new.self in
    (both-there s t (token c.args.message) (token c.in-Ok.front) c.requires.in_hand c.requires.chain c.audit.ensures _ _ c.kind-kind.result c.in-Ok.ensures c.band-band.ensures c.number.ensures c.kind-kind.ensures
    (g.B.Blocks.value c.set_kinds.new.store) c.blocks-blocks.result kinds.Data c.set_kinds.ensures).0

pub link-requires-clause-second_in_hand : goal.link-requires-clause-second_in_hand
link-requires-clause-second_in_hand g c =
    let s = g.B.Blocks.value c.args.store.now in
    let t = g.B.Blocks.value c.alloc_with.new.self in
    (both-there s t (token c.args.message) (token c.in-Ok.front) c.requires.in_hand c.requires.chain c.audit.ensures _ _ c.kind-kind.result c.in-Ok.ensures c.band-band.ensures c.number.ensures c.kind-kind.ensures
    (g.B.Blocks.value c.set_kinds.new.store) c.blocks-blocks.result kinds.Data c.set_kinds.ensures).1

pub returns : goal.returns
returns g c = λ here.
    let s = g.B.Blocks.value c.args.store.now in
    let t = g.B.Blocks.value c.alloc_with.new.self in
    let i = token c.args.message in
    subst (λ f. Becomes s (g.B.Blocks.value c.link.new.self) i f (packet_of here (message_in s i))) (sym c.link.ensures.kept_name)
    (became-full s t i (token c.in-Ok.front) c.requires.in_hand c.requires.chain c.audit.ensures _ _ c.kind-kind.result c.in-Ok.ensures c.band-band.ensures c.number.ensures c.kind-kind.ensures
    (g.B.Blocks.value c.set_kinds.new.store) (g.B.Blocks.value c.link.new.self) c.blocks-blocks.result here (sym c.is_stop_or_start.ensures ∙ c.if-is_stop_or_start.false) c.blocks-blocks.ensures.count c.set_kinds.ensures c.link.ensures.linked)
