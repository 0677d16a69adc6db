-- The message goes on.
use Rattle.std.proofs.Common.{ap}
use Rattle.strm_frame.specs.Outboxes.{sent_of}
use Rattle.strm_pair.proofs.PutSteps.{passed-put}
use Rattle.strm_pair.proofs.streams.Streams.pass_up.Goals as goal

pub returns : goal.returns
returns g c = λ told.
    let s = g.B.Blocks.value c.args.store.now in
    let at = c.modules_on-at.result in
    passed-put s c.args.self.now (record { to = record c.args.to { at = at }; message = c.args.message }) (sent_of c.one.result) told c.args.to
    c.requires.beside c.requires.chain (ap (λ n. record c.args.to { at = n }) (c.modules_on-at.ensures.on s)) c.one.ensures
