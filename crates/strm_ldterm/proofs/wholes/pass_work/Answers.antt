-- It leaves the module under its band.
use Rattle.strm_ldterm.proofs.Prelude.{sym, subst, [], ◌∷◌, ◌∙◌, ◌≡◌, IfSome, None, Some}
use Rattle.strm_ldterm.specs.Prelude.{cells_left, onward, sends, token, sent_of}
use Rattle.strm_ldterm.specs.Becoming.{Becomes}
use Rattle.strm_ldterm.specs.Does.{Proceeds}
use Rattle.strm_ldterm.specs.Outgone.{data_of}
use Rattle.strm_ldterm.specs.Stands.{ldterm_in, IsData, paired}
use Rattle.strm_ldterm.proofs.Beside.{chain-in-hand}
use Rattle.strm_ldterm.proofs.Finished.{work-cells}
use Rattle.strm_ldterm.proofs.Rebanded.{work-goes}
use Rattle.strm_ldterm.proofs.wholes.pass_work.Goals as goal

pub reband-requires-clause-in_hand : goal.reband-requires-clause-in_hand
reband-requires-clause-in_hand g c =
    let s = g.B.Blocks.value c.args.store.now in
    let there : c.args.ldterm.now.in_work ≡ Some c.in-Some.message = sym c.take.ensures.value ∙ c.in-Some.is in
    let is : IsData s (token c.in-Some.message) = subst (λ o. IfSome o (λ m. IsData s (token m))) there c.requires.is in
    chain-in-hand s (token c.in-Some.message) c.audit.ensures is.chain.some

pub reband-requires-clause-is : goal.reband-requires-clause-is
reband-requires-clause-is g c =
    let there : c.args.ldterm.now.in_work ≡ Some c.in-Some.message = sym c.take.ensures.value ∙ c.in-Some.is in
    subst (λ o. IfSome o (λ m. IsData (g.B.Blocks.value c.args.store.now) (token m))) there c.requires.is

pub returns : goal.returns
returns g c = λ q f held kept.
    let s = g.B.Blocks.value c.args.store.now in
    let t = g.B.Blocks.value c.reband.new.store in
    let x = (paired c.args.ldterm.now q) in
    let m = c.in-Some.message in
    let p = ldterm_in s x in
    let there : x.in_work ≡ Some m = sym c.take.ensures.value ∙ c.in-Some.is in
    subst (λ o. Proceeds s t x (record x { in_work = o }) 0 [] (sent_of c.one.result) f f (sends (onward c.args.way c.args.here (data_of c.args.band.0 (cells_left p)) ∷ []) (record p { in_work = None }))) (sym c.take.ensures.after)
    (work-goes s t x m there held kept _
    (subst (λ cells. Becomes s t (token m) (token m) (data_of c.args.band.0 cells)) (sym (work-cells s x m there)) c.reband.ensures.became)
    c.args.way c.args.here c.toward.result f (sent_of c.one.result) c.one.ensures c.toward.ensures)
