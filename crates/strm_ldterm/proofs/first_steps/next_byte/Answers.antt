-- The message in work has a byte less.
use Rattle.strm_ldterm.proofs.Prelude.{ℕ, ◌≡◌, [], drop, sym, subst, ◌∙◌, arith, IfSome, Some}
use Rattle.strm_ldterm.specs.Prelude.{cells_left, left_of, with_left, sends, cells_of, message_in, token}
use Rattle.strm_types.specs.Ldterms as ldterms
use Rattle.strm_ldterm.specs.Stands.{ldterm_in, IsData, paired}
use Rattle.strm_ldterm.specs.Does.{Proceeds}
use Rattle.strm_ldterm.proofs.Beside.{chain-in-hand}
use Rattle.strm_ldterm.proofs.Begun.{work-comes, idle-proceeds, busy-left, busy-byte}
use Rattle.strm_ldterm.proofs.first_steps.next_byte.Goals as goal

pub take_byte-byte-requires-clause-in_hand : goal.take_byte-byte-requires-clause-in_hand
take_byte-byte-requires-clause-in_hand g c =
    let s = g.B.Blocks.value c.args.store.now in
    let there : c.args.ldterm.now.in_work ≡ Some c.in-Some.message = sym c.take.ensures.value ∙ c.in-Some.is in
    let is : IsData s (token c.in-Some.message) = subst (λ o. IfSome o (λ m. IsData s (token m))) there c.requires.is in
    chain-in-hand s (token c.in-Some.message) c.audit.ensures is.chain.some

pub returns-in_default-clause-did : goal.returns-in_default-clause-did
returns-in_default-clause-did g c = λ q f held kept.
    let s = g.B.Blocks.value c.args.store.now in
    let x = (paired c.args.ldterm.now q) in
    let p = ldterm_in s x in
    subst (λ o. Proceeds s s x (record x { in_work = o }) 0 [] [] f f (sends [] (with_left (drop 1 (cells_left p)) p))) (sym c.take.ensures.after)
    (idle-proceeds s x (sym c.take.ensures.value ∙ c.in_default.is) f held (drop 1 (cells_left p)))

pub returns-clause-did : goal.returns-clause-did
returns-clause-did g c = λ q f held kept.
    let s = g.B.Blocks.value c.args.store.now in
    let t = g.B.Blocks.value c.take_byte-byte.new.store in
    let x = (paired c.args.ldterm.now q) in
    let m = c.in-Some.message in
    let r = c.take_byte-byte.result.0 in
    let there : x.in_work ≡ Some m = sym c.take.ensures.value ∙ c.in-Some.is in
    let w = message_in s (token m) in
    subst (λ (p : ldterms.Discipline ℕ). Proceeds s t x (record x { in_work = Some r }) 0 [] [] f f (sends [] p)) (sym (busy-left s x m there 1))
    (work-comes s t x m r (left_of (drop 1 (cells_of w)) w) there c.audit-2.ensures held kept c.take_byte-byte.ensures.became f)

pub returns-clause-byte : goal.returns-clause-byte
returns-clause-byte g c = λ q held.
    let s = g.B.Blocks.value c.args.store.now in
    let x = (paired c.args.ldterm.now q) in
    let there : x.in_work ≡ Some c.in-Some.message = sym c.take.ensures.value ∙ c.in-Some.is in
    busy-byte s x c.in-Some.message there c.take_byte-byte.result.1 held c.take_byte-byte.ensures.byte

pub returns-clause-frees : goal.returns-clause-frees
returns-clause-frees g c = let shifts = c.take_byte-byte.ensures.became.hands in record { mblks = omega (arith, shifts.mblks); dblks = omega (arith, shifts.dblks) }
