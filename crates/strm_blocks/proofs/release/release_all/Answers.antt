-- Each block takes one reference away.
use Rattle.std.proofs.Common.{ℕ, ◌≡◌, ◌<◌, ◌∙◌, cond, eqb, List, length, get_or, ap, arith}
use Rattle.std.proofs.Math.ListN.{length-set}
use Rattle.std.specs.Prelude.{count_by}
use Rattle.std.proofs.lemmas.Bool.Decides.{nat_tests}
use Rattle.std.proofs.lemmas.List.Sums.{sum_by-cons}
use Rattle.strm_blocks.specs.Pool.{Pool}
use Rattle.strm_blocks.specs.declared.message.MessageBlock.{MessageBlock}
use Rattle.strm_blocks.proofs.FreeList.{released-one}
use Rattle.strm_blocks.proofs.release.release_all.Goals as goal

pub loop-block-preserved : goal.loop-block-preserved
loop-block-preserved c =
    let counts = c.loop-block.pool.references in
    let number = c.in-Some.block.now.number in
    let names = λ (d : ℕ) (b : MessageBlock). eqb b.number d in
    let first = λ (d : ℕ). ap (λ (blocks : List MessageBlock). count_by (names d) blocks) c.in-Some.ensures.steps ∙ sum_by-cons (λ (b : MessageBlock). cond {A = ℕ} (eqb b.number d) 1 0) c.in-Some.block.now c.next.new.self in
    let here : cond {A = ℕ} (eqb number number) 1 0 ≡ 1 = grind (arith, nat_tests) in
    let some : 0 < get_or counts number 0 = omega (arith, here, first number, c.loop-block.invariant.enough number) in
    let less = λ (d : ℕ). ap (λ (p : Pool). get_or p.references d 0) c.release.ensures in
    record {
      can = tt;
      finite = tt;
      enough = λ d. omega (arith, first d, less d, released-one counts number d some, c.loop-block.invariant.enough d);
      released = λ d. omega (arith, first d, less d, released-one counts number d some, c.loop-block.invariant.released d);
      bytes = ap (λ (p : Pool). p.bytes) c.release.ensures ∙ c.loop-block.invariant.bytes;
      count = ap (λ (p : Pool). length p.references) c.release.ensures ∙ length-set counts number _ ∙ c.loop-block.invariant.count;
    }
