-- What the module sent is delivered before anything else is done.
use Rattle.strm_pair.proofs.Prelude.{◌<◌, ◌-◌, length, arith}
use Rattle.strm_pair.specs.Prelude.{stream, sent_of}
use Rattle.strm_pair.specs.ModuleServed.{call_of}
use Rattle.strm_pair.specs.Pairs.{state_in}
use Rattle.strm_pair.proofs.ServeSteps.{calls-by, calls-may}
use Rattle.strm_frame.proofs.WidePools.{wide-on}
use Rattle.strm_pair.proofs.streams.Streams.call_module.Goals as goal

pub deliver_all-requires-clause-may : goal.deliver_all-requires-clause-may
deliver_all-requires-clause-may g c =
    let st = state_in (g.B.Blocks.value c.args.store.now) c.args.self.now in
    let low : c.args.here.at - 1 < length (stream c.args.here.side st).modules = let inside = c.requires.may.inside in let within = c.requires.may.within in omega arith in
    calls-may g.M.Behaves.does (g.B.Blocks.value c.args.store.now) (g.B.Blocks.value c.act-served.new.store) c.args.self.now c.act-served.new.self c.args.here c.args.again
    (call_of c.act-served.result) (sent_of c.act-served.result.acts.sent) c.args.told.now c.act-served.new.told c.requires.may.inside c.requires.may.begins low c.act-served.ensures c.requires.books

pub deliver_all-requires-clause-held : goal.deliver_all-requires-clause-held
deliver_all-requires-clause-held g c =
    let s = g.B.Blocks.value c.args.store.now in
    let t = g.B.Blocks.value c.act-served.new.store in
    let e = c.act-served.ensures in
    record { beside = e.beside; wide = wide-on g.M.OwnModule.wide s t e.pool.mblks e.pool.dblks c.requires.wide; enabled = e.enabled }

pub returns : goal.returns
returns g c =
    let K = g.M.Behaves.does in
    let d = c.deliver_all.ensures.delivers in
    let st = state_in (g.B.Blocks.value c.args.store.now) c.args.self.now in
    let low : c.args.here.at - 1 < length (stream c.args.here.side st).modules = let inside = c.requires.may.inside in let within = c.requires.may.within in omega arith in
    calls-by K (g.B.Blocks.value c.args.store.now) (g.B.Blocks.value c.act-served.new.store) c.args.self.now c.act-served.new.self c.args.here c.args.again
    (call_of c.act-served.result) (sent_of c.act-served.result.acts.sent) c.args.told.now c.act-served.new.told c.requires.may.inside c.requires.may.begins low c.act-served.ensures
    (g.B.Blocks.value c.deliver_all.new.store) c.deliver_all.new.stations c.deliver_all.new.told c.requires.may.hand c.deliver_all.ensures.blocks d.told d.state d.held.beside d.hands d.takes d.pool d.held.enabled
