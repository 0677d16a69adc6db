-- Where nothing was given, nothing is gathered.
use Rattle.strm_ldterm.proofs.Prelude.{◌≡◌, ◌++◌, [], length, sym, ap, subst, ◌∙◌, arith, append-nil, nat_tests}
use Rattle.strm_ldterm.specs.Prelude.{sends}
use Rattle.strm_types.specs.Ldterms as ldterms
use Rattle.strm_ldterm.specs.Does.{Proceeds}
use Rattle.strm_ldterm.specs.Stands.{ldterm_in, paired}
use Rattle.strm_ldterm.proofs.Joining.{stays-so, takes-more}
use Rattle.strm_ldterm.proofs.Skipped.{no-bytes}
use Rattle.strm_ldterm.proofs.output.gather_flow.Goals as goal

pub gather-requires-clause-some : goal.gather-requires-clause-some
gather-requires-clause-some g c = (let e = sym c.is_empty.ensures ∙ c.if-not-is_empty.true in grind (arith, nat_tests))

pub returns-else-not-is_empty : goal.returns-else-not-is_empty
returns-else-not-is_empty g c = λ pair f held kept.
    let s = g.B.Blocks.value c.args.store.now in
    let x = (paired c.args.ldterm.now pair) in
    let p = ldterm_in s x in
    let none : length c.args.bytes.now ≡ 0 = (let e = sym c.is_empty.ensures ∙ c.if-not-is_empty.false in grind (arith, nat_tests)) in
    subst (λ (q : ldterms.Discipline _). Proceeds s s x x 1 [] [] f f (sends [] q)) (sym (ap (λ l. record p { gathered = p.gathered ++ l }) (no-bytes c.args.bytes.now none) ∙ ap (λ l. record p { gathered = l }) (append-nil p.gathered)))
    (takes-more s s x x 0 1 [] [] f f (sends [] p) (omega arith) (stays-so s x f held))
