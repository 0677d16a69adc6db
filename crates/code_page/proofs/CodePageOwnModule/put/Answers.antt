-- By what comes.
use Rattle.std.proofs.Common.{sym, subst, ◌∙◌}
use Rattle.strm_types.specs.Budgets.{own_at}
use Rattle.strm_types.specs.Cells.{plain}
use Rattle.strm_types.specs.Tables.{own_does}
use Rattle.strm_blocks.specs.Blocks.{token}
use Rattle.strm_frame.specs.Outboxes.{message_in}
use Rattle.strm_own.specs.OwnPuts.{OwnPuts}
use Rattle.code_page.specs.CodePages.{page_puts}
use Rattle.code_page.specs.PageLaws.{ours-asked}
use Rattle.code_page.proofs.CodePageOwnModule.put.Goals as goal

pub answer-requires-clause-asked : goal.answer-requires-clause-asked
answer-requires-clause-asked g c =
    let m = message_in (g.B.Blocks.value c.args.store.now) (token c.args.message) in
    ours-asked c.args.here.way m c.in-Some.ioc (sym c.asked_of.ensures ∙ c.in-Some.is)

pub returns-in-Some : goal.returns-in-Some
returns-in-Some g c =
    let s = g.B.Blocks.value c.args.store.now in
    let i = token c.args.message in
    let m = message_in s i in
    let here = c.args.here in
    let told = c.args._told.now in
    let most = own_at own_does here m in
    subst (λ o. OwnPuts s (g.B.Blocks.value c.answer.new.store) c.answer.new.own i most c.answer.result told told (page_puts o plain here m c.args.own.now))
    (sym (sym c.asked_of.ensures ∙ c.in-Some.is)) (c.answer.ensures told most)

pub returns-in-None : goal.returns-in-None
returns-in-None g c =
    let s = g.B.Blocks.value c.args.store.now in
    let i = token c.args.message in
    let m = message_in s i in
    let here = c.args.here in
    let told = c.args._told.now in
    let most = own_at own_does here m in
    subst (λ o. OwnPuts s (g.B.Blocks.value c.pass.new.store) c.args.own.now i most c.pass.result told told (page_puts o plain here m c.args.own.now))
    (sym (sym c.asked_of.ensures ∙ c.in-None.is)) (c.pass.ensures told most)
