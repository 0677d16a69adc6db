-- The header alone, or its bytes behind it.
use Rattle.std.proofs.Common.{sym, ◌∙◌}
use Rattle.strm_head.proofs.Commands.{made-header, made-with-body, behind-room_m, behind-room_d}
use Rattle.strm_head.proofs.ioctls.make_ioctl.Goals as goal
use Rattle.strm_blocks.specs.Blocks.{token}

pub returns-then-is_empty : goal.returns-then-is_empty
returns-then-is_empty g c =
    made-header (g.B.Blocks.value c.args.store.now) (g.B.Blocks.value c.make-header.new.store) (token c.make-header.result)
    c.args.ioc c.bytes.result c.bytes.ensures.bytes c.args.body.now c.make-header.ensures (sym c.is_empty.ensures ∙ c.if-is_empty.true)

pub make-behind-requires-clause-room_m : goal.make-behind-requires-clause-room_m
make-behind-requires-clause-room_m g c =
    behind-room_m (g.B.Blocks.value c.args.store.now) (g.B.Blocks.value c.make-header.new.store) (token c.make-header.result)
    c.args.ioc c.bytes.result c.bytes.ensures.bytes c.args.body.now c.make-header.ensures (sym c.is_empty.ensures ∙ c.if-is_empty.false) c.requires.room_m

pub make-behind-requires-clause-room_d : goal.make-behind-requires-clause-room_d
make-behind-requires-clause-room_d g c =
    behind-room_d (g.B.Blocks.value c.args.store.now) (g.B.Blocks.value c.make-header.new.store) (token c.make-header.result)
    c.args.ioc c.bytes.result c.bytes.ensures.bytes c.args.body.now c.make-header.ensures (sym c.is_empty.ensures ∙ c.if-is_empty.false) c.requires.room_d

pub returns : goal.returns
returns g c =
    made-with-body (g.B.Blocks.value c.args.store.now) (g.B.Blocks.value c.make-header.new.store) (token c.make-header.result)
    c.args.ioc c.bytes.result c.bytes.ensures.bytes c.args.body.now c.make-header.ensures
    (g.B.Blocks.value c.make-behind.new.store) (g.B.Blocks.value c.link.new.self) (token c.make-behind.result) (token c.link.result)
    (sym c.is_empty.ensures ∙ c.if-is_empty.false) c.make-behind.ensures c.link.ensures.kept_name c.link.ensures.linked
