-- The byte is taken first.
use Rattle.strm_ldterm.proofs.Prelude.{ℕ, [], drop, sym, ap, subst, ◌∙◌, arith}
use Rattle.strm_ldterm.specs.Prelude.{plain, cells_left, with_left, begins_next, sends, begins, Acted, sent_of}
use Rattle.strm_types.specs.Ldterms as ldterms
use Rattle.strm_ldterm.specs.Stands.{ldterm_in, paired}
use Rattle.strm_ldterm.specs.Does.{Proceeds}
use Rattle.strm_ldterm.proofs.Begun.{takes-more}
use Rattle.strm_ldterm.proofs.Proceeding.{proceeds-kept, proceeds-both}
use Rattle.strm_ldterm.proofs.first_steps.begin.Goals as goal

pub begin_with-requires-clause-room : goal.begin_with-requires-clause-room
begin_with-requires-clause-room g c =
    let frees = c.next_byte.ensures.frees in
    record {
      mblks = (let a = frees.mblks in let b = c.requires.room.mblks in omega (arith, a, b));
      dblks = (let a = frees.dblks in let b = c.requires.room.dblks in omega (arith, a, b));
    }

pub returns-in_default : goal.returns-in_default
returns-in_default g c = λ pair f held kept.
    let s = g.B.Blocks.value c.args.store.now in
    let t = g.B.Blocks.value c.next_byte.new.store in
    let x = (paired c.args.ldterm.now pair) in
    let y = (paired c.next_byte.new.ldterm pair) in
    let p = ldterm_in s x in
    let none = rw c.in_default.is at (c.next_byte.ensures.byte pair held) in
    subst (λ l. Proceeds s t x y 1 [] l f f (begins_next plain c.args.here (cells_left p) p)) (sym c.none.ensures)
    (subst (λ (a : Acted ℕ (ldterms.Discipline ℕ)). Proceeds s t x y 1 [] [] f f a) (ap (λ (q : ldterms.Discipline ℕ). sends [] q) none.1 ∙ sym (ap (λ l. begins_next plain c.args.here l p) none.0))
    (takes-more s t x y 0 [] f f (sends [] (with_left (drop 1 (cells_left p)) p)) (c.next_byte.ensures.did pair f held kept)))

pub returns : goal.returns
returns g c = λ pair f held kept.
    let s = g.B.Blocks.value c.args.store.now in
    let t = g.B.Blocks.value c.next_byte.new.store in
    let u = g.B.Blocks.value c.begin_with.new.store in
    let x = (paired c.args.ldterm.now pair) in
    let y = (paired c.next_byte.new.ldterm pair) in
    let z = (paired c.begin_with.new.ldterm pair) in
    let p = ldterm_in s x in
    let q = with_left (drop 1 (cells_left p)) p in
    let b = c.in-Some.byte in
    let did = c.next_byte.ensures.did pair f held kept in
    let left = proceeds-kept s t x y 0 [] f f _ kept did in
    let is = rw c.in-Some.is at (c.next_byte.ensures.byte pair held) in
    subst (λ (a : Acted ℕ (ldterms.Discipline ℕ)). Proceeds s u x z 1 [] (sent_of c.begin_with.result) f f a) (sym (ap (λ l. begins_next plain c.args.here l p) is))
    (proceeds-both s t u x y z 0 1 [] (sent_of c.begin_with.result) f f f (sends [] q) (λ r. begins plain c.args.here b r) c.audit.ensures kept did (c.begin_with.ensures pair f did.held left))
