-- One block, or two, by the parts that are there.
use Rattle.std.proofs.Common.{ap}
use Rattle.strm_head.specs.Sending.{lent}
use Rattle.strm_head.proofs.Sent.{made-data, made-control, made-both, second-room_m, second-room_d}
use Rattle.strm_head.proofs.sending.make_message.Goals as goal
use Rattle.strm_blocks.specs.Blocks.{token}

pub returns-in-Some-body-clause-made : goal.returns-in-Some-body-clause-made
returns-in-Some-body-clause-made g c =
    made-data c.args.prio (lent c.args.control) (lent c.args.body) c.requires.allowed
    (g.B.Blocks.value c.args.store.now) (g.B.Blocks.value c.make.new.store) (token c.make.result) c.band_of-band.result.0 c.band_of-band.ensures.band c.band_of-band.ensures.low
    c.in-Some-body.body.now (ap lent c.in_default.is) (ap lent c.in-Some-body.is) c.make.ensures

pub returns-in_default-body-clause-made : goal.returns-in_default-body-clause-made
returns-in_default-body-clause-made g c =
    made-control c.args.prio (lent c.args.control) (lent c.args.body) c.requires.allowed
    (g.B.Blocks.value c.args.store.now) (g.B.Blocks.value c.make-first.new.store) (token c.make-first.result) c.band_of-band.result.0 c.band_of-band.ensures.band c.band_of-band.ensures.low
    c.in-Some.control.now c.control_kind.result (ap lent c.in-Some.is) (ap lent c.in_default-body.is) c.control_kind.ensures c.make-first.ensures

pub make-second-requires-clause-room_m : goal.make-second-requires-clause-room_m
make-second-requires-clause-room_m g c =
    second-room_m c.args.prio (lent c.args.control) (lent c.args.body) c.requires.allowed
    (g.B.Blocks.value c.args.store.now) (g.B.Blocks.value c.make-first.new.store) (token c.make-first.result) c.band_of-band.result.0 c.band_of-band.ensures.band c.band_of-band.ensures.low
    c.in-Some.control.now c.in-Some-body-2.body.now c.control_kind.result (ap lent c.in-Some.is) (ap lent c.in-Some-body-2.is) c.control_kind.ensures c.make-first.ensures c.requires.room_m

pub make-second-requires-clause-room_d : goal.make-second-requires-clause-room_d
make-second-requires-clause-room_d g c =
    second-room_d c.args.prio (lent c.args.control) (lent c.args.body) c.requires.allowed
    (g.B.Blocks.value c.args.store.now) (g.B.Blocks.value c.make-first.new.store) (token c.make-first.result) c.band_of-band.result.0 c.band_of-band.ensures.band c.band_of-band.ensures.low
    c.in-Some.control.now c.in-Some-body-2.body.now c.control_kind.result (ap lent c.in-Some.is) (ap lent c.in-Some-body-2.is) c.control_kind.ensures c.make-first.ensures c.requires.room_d

pub returns-clause-made : goal.returns-clause-made
returns-clause-made g c =
    made-both c.args.prio (lent c.args.control) (lent c.args.body) c.requires.allowed
    (g.B.Blocks.value c.args.store.now) (g.B.Blocks.value c.make-first.new.store) (token c.make-first.result) c.band_of-band.result.0 c.band_of-band.ensures.band c.band_of-band.ensures.low
    c.in-Some.control.now c.in-Some-body-2.body.now c.control_kind.result (ap lent c.in-Some.is) (ap lent c.in-Some-body-2.is) c.control_kind.ensures c.make-first.ensures
    (g.B.Blocks.value c.make-second.new.store) (g.B.Blocks.value c.link.new.self) (token c.make-second.result) (token c.link.result)
    c.make-second.ensures c.link.ensures.kept_name c.link.ensures.linked
