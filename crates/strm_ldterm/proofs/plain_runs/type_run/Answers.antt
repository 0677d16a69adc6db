-- By the mode.
use Rattle.std.proofs.Common.{[], ◌++◌, refl, sym, subst, ◌∙◌}
use Rattle.strm_types.specs.Ldterms.{sends}
use Rattle.strm_ldterm.specs.Stands.{ldterm_in, paired}
use Rattle.strm_ldterm.specs.Does.{Proceeds}
use Rattle.strm_ldterm.proofs.RunsDone.{typed-lines, typed-raw}
use Rattle.strm_ldterm.proofs.Strikes.{line-proceeds}
use Rattle.strm_ldterm.proofs.plain_runs.type_run.Goals as goal

pub returns-then-contains : goal.returns-then-contains
returns-then-contains g c = λ q f held kept.
    let s = g.B.Blocks.value c.args.store.now in
    let x = (paired c.args.ldterm.now q) in
    let p = ldterm_in s x in
    let run = c.args.run.now in
    subst (λ a. Proceeds s s x (record x { line = c.extend.new.self }) 1 [] [] f f a) (sym (typed-lines p run (sym (c.contains.ensures tt) ∙ c.if-contains.true)))
    (line-proceeds s x c.extend.new.self (x.line ++ run) f f (sends [] (record p { line = x.line ++ run })) held c.extend.ensures refl refl refl refl)

pub returns-else-contains : goal.returns-else-contains
returns-else-contains g c = λ q f held kept.
    let s = g.B.Blocks.value c.args.store.now in
    let x = (paired c.args.ldterm.now q) in
    subst (λ a. Proceeds s (g.B.Blocks.value c.gather.new.store) x (paired c.gather.new.ldterm q) 1 [] [] f f a) (sym (typed-raw (ldterm_in s x) c.args.run.now (sym (c.contains.ensures tt) ∙ c.if-contains.false))) (c.gather.ensures q f held kept)
