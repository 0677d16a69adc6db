-- A new message, or one that grows.
use Rattle.strm_ldterm.proofs.Prelude.{[], ◌++◌, sym, subst, ◌≡◌, ◌∙◌, None, Some}
use Rattle.strm_ldterm.specs.Prelude.{sends, AreIn}
use Rattle.strm_ldterm.specs.Stands.{ldterm_in, kept_in, cells_kept, keeps, IsHeld, paired}
use Rattle.strm_ldterm.specs.Does.{Proceeds}
use Rattle.strm_ldterm.proofs.Gathered.{new-gathered, grown-gathered}
use Rattle.strm_ldterm.proofs.line_keys.gather.Goals as goal

pub returns-in-None : goal.returns-in-None
returns-in-None g c = λ q f was kept.
    let s = g.B.Blocks.value c.args.store.now in
    let t = g.B.Blocks.value c.begin-first.new.store in
    let x = (paired c.args.ldterm.now q) in
    let m = c.begin-first.result in
    let bytes = c.args.bytes.now in
    let none : x.gathered ≡ None = sym c.take.ensures.value ∙ c.in-None.is in
    let held = subst (λ o. IsHeld s (record x { gathered = o })) none was in
    let can = subst (λ o. AreIn s (λ _. 0) (keeps (record x { gathered = o }))) none kept in
    subst (λ o. Proceeds s t (record x { gathered = o }) (record x { gathered = Some m }) 1 [] [] f f (sends [] (record (ldterm_in s (record x { gathered = o })) { gathered = cells_kept (kept_in s o) ++ bytes }))) (sym none)
    (new-gathered s t x m bytes f c.audit.ensures held can c.requires.some c.begin-first.ensures)

pub returns-in-Some : goal.returns-in-Some
returns-in-Some g c = λ q f was kept.
    let s = g.B.Blocks.value c.args.store.now in
    let t = g.B.Blocks.value c.grow.new.store in
    let x = (paired c.args.ldterm.now q) in
    let e = c.in-Some.message in
    let r = c.grow.result in
    let bytes = c.args.bytes.now in
    let some : x.gathered ≡ Some e = sym c.take.ensures.value ∙ c.in-Some.is in
    let held = subst (λ o. IsHeld s (record x { gathered = o })) some was in
    subst (λ o. Proceeds s t (record x { gathered = o }) (record x { gathered = Some r }) 1 [] [] f f (sends [] (record (ldterm_in s (record x { gathered = o })) { gathered = cells_kept (kept_in s o) ++ bytes }))) (sym some)
    (grown-gathered s t x e r bytes f c.grow.ensures.kept_name held c.grow.ensures.grown)
