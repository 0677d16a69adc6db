-- Without a page the message goes on; with one, that which has other bytes.
use Rattle.std.proofs.Common.{◌≡◌, true, false, sym, subst}
use Rattle.strm_types.specs.Cells.{plain}
use Rattle.strm_blocks.specs.Blocks.{token}
use Rattle.strm_msg.specs.Translated.{Translated}
use Rattle.strm_frame.specs.Outboxes.{message_in}
use Rattle.strm_laws.specs.Behaviours.{passes_all}
use Rattle.strm_own.specs.OwnPuts.{OwnPuts}
use Rattle.code_page.specs.CodePages.{is_page, passed}
use Rattle.code_page.proofs.PagesPassed.{may-on, passes-on}
use Rattle.code_page.proofs.PagesRead.{no-page, page-is}
use Rattle.code_page.proofs.passing.pass.Goals as goal

pub returns-then-page-ne-PAGE_SIZE : goal.returns-then-page-ne-PAGE_SIZE
returns-then-page-ne-PAGE_SIZE g c = λ told most.
    let s = g.B.Blocks.value c.args.store.now in
    let i = token c.args.message in
    let own = c.args.own.now in
    let here = c.args.here in
    let none : is_page own.settings ≡ false = no-page c.settings-page.result.now own.settings c.settings-page.ensures.settings c.if-page-ne-PAGE_SIZE.true in
    subst (λ is. OwnPuts s s own i most c.pass_on.result told told (passes_all here (passed is plain own.settings (message_in s i)) own)) (sym none)
    (c.pass_on.ensures s own told most c.requires.may)

pub returns : goal.returns
returns g c = λ told most.
    let s = g.B.Blocks.value c.args.store.now in
    let t = g.B.Blocks.value c.translate-message.new.store in
    let i = token c.args.message in
    let j = token c.translate-message.result in
    let own = c.args.own.now in
    let here = c.args.here in
    let yes : is_page own.settings ≡ true = page-is c.settings-page.result.now own.settings c.settings-page.ensures.settings c.if-page-ne-PAGE_SIZE.false in
    let done = subst (λ page. Translated s t i j page) c.settings-page.ensures.settings c.translate-message.ensures in
    subst (λ is. OwnPuts s t own i most c.pass_on-2.result told told (passes_all here (passed is plain own.settings (message_in s i)) own)) (sym yes)
    (passes-on s t here i j own.settings done c.pass_on-2.result own told most c.requires.wide
    (c.pass_on-2.ensures t own told most (may-on s t here i j own.settings done c.requires.may)))
