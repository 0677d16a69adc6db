-- The answer says whether a page came.
use Rattle.std.proofs.Common.{◌≡◌, cond, sym, ap, subst, ◌∙◌}
use Rattle.strm_types.specs.declared.ioctls.Ioc.{Ioc}
use Rattle.strm_types.specs.Acks.{payload}
use Rattle.strm_types.specs.Ioctls.{ioc_bytes}
use Rattle.strm_blocks.specs.Blocks.{token}
use Rattle.strm_frame.specs.Outboxes.{message_in}
use Rattle.strm_pty.proofs.Made.{nak-plain}
use Rattle.strm_pty.proofs.Replied.{ack-plain}
use Rattle.strm_own.specs.OwnPuts.{OwnPuts}
use Rattle.code_page.specs.CodePages.{page_of}
use Rattle.code_page.proofs.PagesAsked.{not-obeyed, obeyed}
use Rattle.code_page.proofs.asking.answer.Goals as goal

pub reply-requires-clause-kind : goal.reply-requires-clause-kind
reply-requires-clause-kind g c = ack-plain

pub reply-requires-else-set_page-clause-kind : goal.reply-requires-else-set_page-clause-kind
reply-requires-else-set_page-clause-kind g c = nak-plain

pub returns-then-set_page : goal.returns-then-set_page
returns-then-set_page g c = λ told most.
    let s = g.B.Blocks.value c.args.store.now in
    let i = token c.args.message in
    let given = payload (message_in s i).plain in
    let x = c.args.own.now in
    let y = c.set_page.new.own in
    let state : y ≡ record x { settings = page_of given } =
    c.set_page.ensures.set ∙ ap (λ b. cond b (record x { settings = page_of given }) x) c.if-set_page.true in
    let bytes = c.bytes.ensures.bytes ∙ ap (λ (header : Ioc). ioc_bytes header) c.acked.ensures in
    subst (λ is. OwnPuts s (g.B.Blocks.value c.reply.new.store) y i most c.reply.result told told is)
    (obeyed c.args.ioc c.args.here given c.bytes.result x y (sym c.set_page.ensures.page ∙ c.if-set_page.true) state bytes)
    (c.reply.ensures y told most)

pub returns-else-set_page : goal.returns-else-set_page
returns-else-set_page g c = λ told most.
    let s = g.B.Blocks.value c.args.store.now in
    let i = token c.args.message in
    let given = payload (message_in s i).plain in
    let x = c.args.own.now in
    let y = c.set_page.new.own in
    let state : y ≡ x = c.set_page.ensures.set ∙ ap (λ b. cond b (record x { settings = page_of given }) x) c.if-set_page.false in
    let bytes = c.bytes-else-set_page.ensures.bytes ∙ ap (λ (header : Ioc). ioc_bytes header) c.refused.ensures in
    subst (λ is. OwnPuts s (g.B.Blocks.value c.reply-else-set_page.new.store) y i most c.reply-else-set_page.result told told is)
    (not-obeyed c.args.ioc c.args.here given c.bytes-else-set_page.result x y (sym c.set_page.ensures.page ∙ c.if-set_page.false) state bytes)
    (c.reply-else-set_page.ensures y told most)
