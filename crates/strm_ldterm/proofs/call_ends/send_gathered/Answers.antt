-- What was gathered leaves the module.
use Rattle.strm_ldterm.proofs.Prelude.{sym, subst, [], ◌∷◌, ◌∙◌, ◌≡◌, Some}
use Rattle.strm_ldterm.specs.Prelude.{plain, sends, gathered_up}
use Rattle.strm_ldterm.specs.Stands.{ldterm_in, paired}
use Rattle.strm_ldterm.specs.Does.{Proceeds}
use Rattle.strm_ldterm.proofs.Finished.{gathered-sent, gathered-none}
use Rattle.strm_ldterm.proofs.call_ends.send_gathered.Goals as goal

pub returns-in_default : goal.returns-in_default
returns-in_default c = λ s q f held.
    let x = (paired c.args.ldterm.now q) in
    let p = ldterm_in s x in
    subst (λ o. Proceeds s s x (record x { gathered = o }) 0 [] [] f f (sends (gathered_up plain c.args.here p.gathered) (record p { gathered = [] }))) (sym c.take.ensures.after)
    (gathered-none s x c.args.here f (sym c.take.ensures.value ∙ c.in_default.is) held)

pub returns : goal.returns
returns c = λ s q f held.
    let x = (paired c.args.ldterm.now q) in
    let m = c.in-Some.message in
    let p = ldterm_in s x in
    let there : x.gathered ≡ Some m = sym c.take.ensures.value ∙ c.in-Some.is in
    subst (λ o. Proceeds s s x (record x { gathered = o }) 0 [] (record { to = c.toward.result; message = m } ∷ []) f f (sends (gathered_up plain c.args.here p.gathered) (record p { gathered = [] }))) (sym c.take.ensures.after)
    (gathered-sent s x m there c.args.here c.toward.result f held c.toward.ensures)
