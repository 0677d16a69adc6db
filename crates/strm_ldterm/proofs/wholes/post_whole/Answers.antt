-- The message leaves the module, and the carriage stands where it was moved to.
use Rattle.strm_ldterm.proofs.Prelude.{[], ◌+◌, ap, sym, subst, ◌∙◌, arith}
use Rattle.strm_ldterm.specs.Prelude.{wrapped, sent_of}
use Rattle.strm_ldterm.specs.Does.{Proceeds}
use Rattle.strm_ldterm.specs.Outgone.{let_go}
use Rattle.strm_ldterm.specs.Posting.{poured}
use Rattle.strm_ldterm.specs.Stands.{ldterm_in, paired}
use Rattle.strm_ldterm.specs.Turns.{one_after}
use Rattle.strm_ldterm.proofs.WholeOut.{whole-went}
use Rattle.strm_ldterm.proofs.wholes.post_whole.Goals as goal

pub returns-clause-did : goal.returns-clause-did
returns-clause-did g c = λ q f held kept none size printed.
    let s = g.B.Blocks.value c.args.store.now in
    let t = g.B.Blocks.value c.pass_work-sent.new.store in
    let x = (paired c.args.ldterm.now q) in
    let y = (paired c.pass_work-sent.new.ldterm q) in
    let p = ldterm_in s x in
    let moved = c.moved_on-column.ensures.moved ∙ ap (λ k. wrapped (p.column + k)) size in
    subst (λ k. Proceeds s t x (record y { column = k }) 0 [] (sent_of c.pass_work-sent.result) f f (one_after (poured c.args.here c.args.bytes p) (let_go c.args.here c.args.band.0))) (sym moved)
    (whole-went c.args.here p c.args.band.0 c.moved_on-column.ensures.low (let short = c.requires.short in omega (arith, size, short)) printed none
    s t x y c.args.bytes (sent_of c.pass_work-sent.result) f size (let some = c.requires.some in omega (arith, size, some)) (c.pass_work-sent.ensures q f held kept))
