-- The message in work has fewer bytes.
use Rattle.strm_ldterm.proofs.Prelude.{ℕ, ◌≡◌, [], ◌++◌, drop, length, sym, ap, subst, ◌∙◌, IfSome, Some}
use Rattle.strm_ldterm.specs.Prelude.{cells_left, left_of, with_left, sends, cells_of, message_in, token}
use Rattle.strm_types.specs.Ldterms as ldterms
use Rattle.strm_ldterm.specs.Stands.{ldterm_in, IsData, paired}
use Rattle.strm_ldterm.specs.Does.{Proceeds}
use Rattle.strm_ldterm.proofs.Beside.{chain-in-hand}
use Rattle.strm_ldterm.proofs.Begun.{busy-cells, busy-left, idle-cells, idle-proceeds, work-comes}
use Rattle.strm_ldterm.proofs.plain_runs.take_front.Goals as goal

pub take_plain-message-requires-clause-in_hand : goal.take_plain-message-requires-clause-in_hand
take_plain-message-requires-clause-in_hand g c =
    let s = g.B.Blocks.value c.args.store.now in
    let there : c.args.ldterm.now.in_work ≡ Some c.in-Some.message = sym c.take.ensures.value ∙ c.in-Some.is in
    let is : IsData s (token c.in-Some.message) = subst (λ o. IfSome o (λ m. IsData s (token m))) there c.requires.is in
    chain-in-hand s (token c.in-Some.message) c.audit.ensures is.chain.some

pub returns-in_default-clause-did : goal.returns-in_default-clause-did
returns-in_default-clause-did g c = λ q f held kept.
    let s = g.B.Blocks.value c.args.store.now in
    let x = (paired c.args.ldterm.now q) in
    let p = ldterm_in s x in
    let rest = drop (length c.args.run.now.items) (cells_left p) in
    subst (λ o. Proceeds s s x (record x { in_work = o }) 0 [] [] f f (sends [] (with_left rest p))) (sym c.take.ensures.after)
    (idle-proceeds s x (sym c.take.ensures.value ∙ c.in_default.is) f held rest)

pub returns-in_default-clause-front : goal.returns-in_default-clause-front
returns-in_default-clause-front g c = λ q.
    let s = g.B.Blocks.value c.args.store.now in
    let x = (paired c.args.ldterm.now q) in
    let none = idle-cells s x (sym c.take.ensures.value ∙ c.in_default.is) in
    none ∙ sym (ap (λ l. l ++ drop (length l) (cells_left (ldterm_in s x))) c.requires.fresh ∙ none)

pub returns-clause-did : goal.returns-clause-did
returns-clause-did g c = λ q f held kept.
    let s = g.B.Blocks.value c.args.store.now in
    let t = g.B.Blocks.value c.take_plain-message.new.store in
    let x = (paired c.args.ldterm.now q) in
    let m = c.in-Some.message in
    let r = c.take_plain-message.result in
    let n = length c.take_plain-message.new.run.items in
    let there : x.in_work ≡ Some m = sym c.take.ensures.value ∙ c.in-Some.is in
    let w = message_in s (token m) in
    subst (λ (q : ldterms.Discipline ℕ). Proceeds s t x (record x { in_work = Some r }) 0 [] [] f f (sends [] q)) (sym (busy-left s x m there n))
    (work-comes s t x m r (left_of (drop n (cells_of w)) w) there c.audit-2.ensures held kept c.take_plain-message.ensures.became f)

pub returns-clause-front : goal.returns-clause-front
returns-clause-front g c = λ q.
    let s = g.B.Blocks.value c.args.store.now in
    let x = (paired c.args.ldterm.now q) in
    let run = c.take_plain-message.new.run.items in
    let there : x.in_work ≡ Some c.in-Some.message = sym c.take.ensures.value ∙ c.in-Some.is in
    let cells = busy-cells s x c.in-Some.message there in
    cells ∙ c.take_plain-message.ensures.front ∙ ap (λ l. run ++ drop (length run) l) (sym cells)

pub returns-clause-plain : goal.returns-clause-plain
returns-clause-plain g c = c.take_plain-message.ensures.plain
