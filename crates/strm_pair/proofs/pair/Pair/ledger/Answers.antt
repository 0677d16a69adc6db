-- What stands on the queues is what the balance leaves.
use Rattle.strm_pair.proofs.Prelude.{ℕ, ◌≡◌, ◌+◌, ◌-◌, List, ap, ◌∙◌, arith, sum_of}
use Rattle.strm_pair.specs.Prelude.{Book, inline, queued, PairState, book}
use Rattle.strm_types.specs.declared.ledger.Ledger.{Ledger}
use Rattle.strm_laws.specs.Ledgers.{ledger_of}
use Rattle.strm_pair.specs.BaseTexts.{start_in}
use Rattle.strm_pair.specs.Pairs.{state_in}
use Rattle.strm_pair.proofs.Balanced.{balance, elsewhere-few}
use Rattle.strm_pair.proofs.pair.Pair.ledger.Goals as goal

pub sum-requires : goal.sum-requires
sum-requires g c =
    let K = g.M.Behaves.does in
    let p = c.self.inside in
    let low = elsewhere-few K (g.B.Blocks.value p.store) p.streams p.journal (start_in p.base) p.limits p.fates c.self.invariant.kept c.args.direction in
    omega (arith, low, ap (λ counts. sum_of counts) c.of-fates.ensures)

pub overflow_add-elsewhere : goal.overflow_add-elsewhere
overflow_add-elsewhere g c =
    let p = c.self.inside in
    let s = g.B.Blocks.value p.store in
    let low = elsewhere-few g.M.Behaves.does s p.streams p.journal (start_in p.base) p.limits p.fates c.self.invariant.kept c.args.direction in
    omega (arith, low, c.sum.ensures, ap (λ counts. sum_of counts) c.of-fates.ensures, c.line_lens-inline.ensures s)

pub overflow_add-result : goal.overflow_add-result
overflow_add-result g c =
    let p = c.self.inside in
    let s = g.B.Blocks.value p.store in
    let few = c.self.invariant.kept.few in
    let written = few.written c.args.direction in
    let made = few.made c.args.direction in
    let is = c.book-book.ensures s in
    omega (arith, written, made, ap (λ (b : Book). b.written) is, ap (λ (b : Book). b.made) is)

pub overflow_sub-result : goal.overflow_sub-result
overflow_sub-result g c =
    let p = c.self.inside in
    let s = g.B.Blocks.value p.store in
    let dir = c.args.direction in
    let all = balance g.M.Behaves.does s p.streams p.journal (start_in p.base) p.limits p.fates c.self.invariant.kept dir in
    let gone = c.sum.ensures ∙ ap (λ counts. sum_of counts) c.of-fates.ensures in
    let is = c.book-book.ensures s in
    omega (arith, all, gone, c.line_lens-inline.ensures s, ap (λ (b : Book). b.written) is, ap (λ (b : Book). b.made) is)

pub returns-clause-ledger : goal.returns-clause-ledger
returns-clause-ledger g c =
    let p = c.self.inside in
    let s = g.B.Blocks.value p.store in
    let dir = c.args.direction in
    let st = state_in s p.streams in
    let all = balance g.M.Behaves.does s p.streams p.journal (start_in p.base) p.limits p.fates c.self.invariant.kept dir in
    let gone = c.sum.ensures ∙ ap (λ counts. sum_of counts) c.of-fates.ensures in
    let is = c.book-book.ensures s in
    let written = ap (λ (b : Book). b.written) is in
    let made = ap (λ (b : Book). b.made) is in
    let inl = c.line_lens-inline.ensures s in
    let stands : c.book-book.result.written + c.book-book.result.made - (c.line_lens-inline.result + c.sum.result) ≡ queued dir st = omega (arith, all, gone, inl, written, made) in
    let ledger : ℕ → ℕ → ℕ → ℕ → List ℕ → Ledger = λ w m q i f. record { written = w; made = m; queued = q; inline = i; fates = f } in
    let w = c.book-book.result.written in
    let m = c.book-book.result.made in
    let q = c.book-book.result.written + c.book-book.result.made - (c.line_lens-inline.result + c.sum.result) in
    let i = c.line_lens-inline.result in
    let f = c.of-fates.result.now in
    ap (λ x. ledger x m q i f) written
    ∙ ap (λ x. ledger (book dir st).written x q i f) made
    ∙ ap (λ x. ledger (book dir st).written (book dir st).made x i f) stands
    ∙ ap (λ x. ledger (book dir st).written (book dir st).made (queued dir st) x f) inl
    ∙ ap (λ x. ledger (book dir st).written (book dir st).made (queued dir st) (inline dir st) x) c.of-fates.ensures
    ∙ ap (λ (v : PairState). ledger_of dir v.state v.fates) c.self.view_is

pub returns-clause-balance : goal.returns-clause-balance
returns-clause-balance g c =
    let p = c.self.inside in
    let s = g.B.Blocks.value p.store in
    let dir = c.args.direction in
    let all = balance g.M.Behaves.does s p.streams p.journal (start_in p.base) p.limits p.fates c.self.invariant.kept dir in
    let is = c.book-book.ensures s in
    let gone = ap (λ counts. sum_of counts) c.of-fates.ensures in
    omega (arith, all, gone, c.sum.ensures, c.line_lens-inline.ensures s, ap (λ (b : Book). b.written) is, ap (λ (b : Book). b.made) is)
