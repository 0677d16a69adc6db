use Rattle.std.proofs.Common.{arith, refl, sym, ◌≡◌, ◌∙◌, length, ap, ℕ}
use Rattle.std.proofs.lemmas.List.{length-replicate}
use Rattle.strm_blocks.specs.Pool.{Pool}
use Rattle.strm_blocks.proofs.FreeList.{times-next, IsFreeList-new, bounded-zeros}
use Rattle.strm_blocks.proofs.data.DataBlocks.reset.Goals as goal

pub loop-number-preserved : goal.loop-number-preserved
loop-number-preserved c = record {
  each = rw c.push_reserved.ensures.items (times-next c.loop-number.self-inside.free.items c.loop-number.number c.loop-number.invariant.each);
  len = omega arith;
  room = omega arith;
  bytes = c.loop-number.invariant.bytes;
  references = c.loop-number.invariant.references;
}

pub invariant_of-self : goal.invariant_of-self
invariant_of-self c =
    let count = c.len-count.result in
    let same : c.loop-number.number ≡ count = omega arith in
    let kept = c.loop-number.invariant in
    let before = c.self.invariant in
    let len = length-replicate {A = ℕ} count 0 in
    let bytes : c.loop-number.self-inside.bytes.items ≡ c.self.inside.bytes.items = kept.bytes ∙ ap (λ (p : Pool). p.bytes) (sym c.self.view_is) in
    record {
      few = rw kept.references (omega (arith, before.few, c.self.inside.references.ok.0));
      same_count = rw (kept.references, bytes) (omega (arith, before.same_count, c.self.inside.references.ok.0));
      sized = rw (kept.references, bytes) (λ n within. before.sized n (omega (arith, c.self.inside.references.ok.0)));
      bounded = rw kept.references (bounded-zeros count);
      free = rw kept.references (IsFreeList-new c.loop-number.self-inside.free.items count (rw same at kept.each) (omega (arith, c.loop-number.self-inside.free.ok.0)));
      room = rw kept.references (omega arith);
    }

pub returns : goal.returns
returns c =
    let kept = c.loop-number.invariant in
    let seen = ap (λ (p : Pool). length p.references) c.self.view_is in
    let count : c.len-count.result ≡ length c.args.self.now.references = omega (arith, c.self.inside.references.ok.0) in
    rw (kept.bytes, kept.references, count) refl
