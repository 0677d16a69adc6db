-- All bytes stand in the first block.
use Rattle.strm_ldterm.proofs.Prelude.{◌≡◌, length, take, true, sym, ap, subst, ◌∙◌, arith, IfSome}
use Rattle.strm_ldterm.specs.Prelude.{in_hand, token}
use Rattle.std.proofs.Math.Seq.{take-length}
use Rattle.std.specs.List.{AllByRecursion}
use Rattle.strm_ldterm.specs.Posting.{is_printed}
use Rattle.strm_ldterm.specs.Stands.{IsData, paired}
use Rattle.strm_ldterm.proofs.Beside.{chain-in-hand}
use Rattle.strm_ldterm.proofs.Finished.{work-cells}
use Rattle.strm_ldterm.proofs.WholeOut.{first-all}
use Rattle.strm_ldterm.proofs.wholes.goes_down.Goals as goal

pub bytes_at-first-requires-clause-in_hand : goal.bytes_at-first-requires-clause-in_hand
bytes_at-first-requires-clause-in_hand g c =
    let s = g.B.Blocks.value c.args.store.now in
    let is : IsData s (token c.in-Some.message) = subst (λ o. IfSome o (λ m. IsData s (token m))) c.in-Some.is c.requires.is in
    chain-in-hand s (token c.in-Some.message) c.audit.ensures is.chain.some

pub bytes_at-first-requires-clause-within : goal.bytes_at-first-requires-clause-within
bytes_at-first-requires-clause-within g c =
    let s = g.B.Blocks.value c.args.store.now in
    let is : IsData s (token c.in-Some.message) = subst (λ o. IfSome o (λ m. IsData s (token m))) c.in-Some.is c.requires.is in
    is.chain.some

pub is_free_for-requires-clause-in_hand : goal.is_free_for-requires-clause-in_hand
is_free_for-requires-clause-in_hand g c =
    let s = g.B.Blocks.value c.args.store.now in
    let is : IsData s (token c.in-Some.message) = subst (λ o. IfSome o (λ m. IsData s (token m))) c.in-Some.is c.requires.is in
    chain-in-hand s (token c.in-Some.message) c.audit.ensures is.chain.some

pub returns-clause-printed : goal.returns-clause-printed
returns-clause-printed g c = λ q size goes.
    let s = g.B.Blocks.value c.args.store.now in
    let x = (paired c.args.ldterm.now q) in
    let m = c.in-Some.message in
    let is : IsData s (token m) = subst (λ o. IfSome o (λ m. IsData s (token m))) c.in-Some.is c.requires.is in
    let shown = work-cells s x m c.in-Some.is in
    let first = c.bytes_at-first.result.now in
    let same = c.bytes_at-first.ensures.bytes in
    let cells = first-all (in_hand s (token m)) is.chain is.kind (omega (arith, size, ap length shown, ap length same, c.if-first-bytes.false)) in
    let all : c.printed_len.result ≡ length first = omega (arith, c.printed_len.ensures.within, size, ap length shown, ap length cells, ap length same, c.if-printed_len-bytes.false) in
    subst (AllByRecursion (λ b. is_printed c.args.ldterm.now.termios b ≡ true)) (sym (shown ∙ cells ∙ sym same))
    (subst (AllByRecursion (λ b. is_printed c.args.ldterm.now.termios b ≡ true)) (ap (λ k. take k first) all ∙ take-length first) c.printed_len.ensures.printed)
