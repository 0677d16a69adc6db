-- The message is freed, and the other one takes its place.
use Rattle.strm_blocks.specs.Blocks.{token}
use Rattle.strm_own.proofs.Replies.{replied, reply-room}
use Rattle.strm_own.proofs.own.reply.Goals as goal

pub make-message-requires-clause-room : goal.make-message-requires-clause-room
make-message-requires-clause-room g c =
    reply-room (g.B.Blocks.value c.args.store.now) (g.B.Blocks.value c.free.new.self) (g.B.Blocks.value c.free.new.self) (token c.args.message)
    c.audit.ensures c.requires.may.held c.free.ensures c.requires.wide

pub returns : goal.returns
returns g c =
    replied (g.B.Blocks.value c.args.store.now) (g.B.Blocks.value c.free.new.self) (g.B.Blocks.value c.make-message.new.store) (token c.args.message)
    c.audit.ensures c.requires.may.held c.free.ensures c.requires.wide
    (record { to = c.toward.result; message = c.make-message.result }) _ c.args.kind c.args.bytes.now c.args.here
    c.make-message.ensures c.one.ensures c.toward.ensures
