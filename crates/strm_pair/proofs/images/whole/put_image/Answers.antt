-- Six pieces are its text.
use Rattle.strm_pair.proofs.Prelude.{sym, ap, ◌∙◌, arith, true, false}
use Rattle.strm_pair.specs.Prelude.{Master, Slave, Second, laid_on, put, imaged}
use Rattle.strm_image.specs.Image.{account, enabled}
use Rattle.strm_image.specs.Streams.{laid}
use Rattle.strm_image.specs.Written.{front_text}
use Rattle.strm_image.proofs.WrittenRows.{image_told}
use Rattle.strm_pair.specs.Pairs.{state_in}
use Rattle.strm_pair.specs.Streams.{stream_in}
use Rattle.strm_pair.proofs.PairTexts.{put_six}
use Rattle.strm_pair.proofs.images.whole.put_image.Goals as goal

pub put_stream-out-requires-clause-head : goal.put_stream-out-requires-clause-head
put_stream-out-requires-clause-head g c = (c.requires.beside Master).head.ready

pub put_stream-out-requires-clause-driver : goal.put_stream-out-requires-clause-driver
put_stream-out-requires-clause-driver g c = (c.requires.beside Master).driver

pub put_stream-out-requires-clause-stack : goal.put_stream-out-requires-clause-stack
put_stream-out-requires-clause-stack g c = (c.requires.beside Master).stack

pub put_stream-out-requires-2-clause-head : goal.put_stream-out-requires-2-clause-head
put_stream-out-requires-2-clause-head g c = (c.requires.beside Slave).head.ready

pub put_stream-out-requires-2-clause-driver : goal.put_stream-out-requires-2-clause-driver
put_stream-out-requires-2-clause-driver g c = (c.requires.beside Slave).driver

pub put_stream-out-requires-2-clause-stack : goal.put_stream-out-requires-2-clause-stack
put_stream-out-requires-2-clause-stack g c = (c.requires.beside Slave).stack

pub put_enabled-requires : goal.put_enabled-requires
put_enabled-requires g c = let few = c.as_slice.ensures.few in omega (arith, few)

pub returns : goal.returns
returns g c =
    let s = g.B.Blocks.value c.args.store.now in
    let p = c.args.streams.now in
    let x = imaged (state_in s p) c.args.fates.now in
    let front = front_text p.ends.master.opened p.ends.slave.opened p.locked p.next_ioctl in
    let master = (laid Second false).text (laid_on (stream_in s p.ends.master)) in
    let slave = (laid Second true).text (laid_on (stream_in s p.ends.slave)) in
    let names = enabled.text p.enabled in
    let from_master = account.text (record { book = p.books.master; fates = c.args.fates.now.from_master }) in
    let from_slave = account.text (record { book = p.books.slave; fates = c.args.fates.now.from_slave }) in
    c.put_account-2.ensures
    ∙ ap (put from_slave) (c.put_account.ensures ∙ ap (put from_master) (c.put_enabled.ensures ∙ ap (λ ns. put (enabled.text ns) c.put_stream-out-2.result) c.as_slice.ensures.names
    ∙ ap (put names) (c.put_stream-out-2.ensures true ∙ ap (put slave) (c.put_stream-out.ensures false ∙ ap (put master) c.put_front.ensures))))
    ∙ put_six front master slave names from_master from_slave c.args.out
    ∙ ap (λ xs. put xs c.args.out) (sym (image_told x))
