-- The message is sent on.
use Rattle.strm_pty.proofs.Replied.{passes-answers}
use Rattle.strm_pty.proofs.ptem.pass_on.Goals as goal

pub returns : goal.returns
returns g c =
    passes-answers (g.B.Blocks.value c.args.store.now) c.args.ptem.now (record { to = c.toward.result; message = c.args.message }) _ c.args.here c.new.ensures c.one.ensures
    c.toward.ensures c.requires.chain c.requires.inside c.requires.small
