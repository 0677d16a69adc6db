use Rattle.std.proofs.Common.{arith, rules, refl, ◌≡◌}
use Rattle.std.specs.Prelude.{ℕ, replicate}
use Rattle.std.proofs.lemmas.List.{length-replicate}
use Rattle.strm_blocks.proofs.FreeList.{times-next, IsFreeList-new, bounded-zeros}
use Rattle.strm_blocks.proofs.Shown.{sized-push}
use Rattle.strm_blocks.proofs.data.DataBlocks.new.Goals as goal

pub loop-number-preserved : goal.loop-number-preserved
loop-number-preserved c = record {
  each = rw c.push_reserved-in-loop-number.ensures.items (times-next c.loop-number.free.items c.loop-number.number c.loop-number.invariant.each);
  len = omega arith;
  room = omega arith;
  bytes_len = omega arith;
  bytes_room = omega arith;
  sized = rw c.push_reserved.ensures.items (sized-push c.loop-number.bytes.items _ c.loop-number.number 256 (omega (arith, c.loop-number.bytes.ok.0)) refl c.loop-number.invariant.sized);
}

pub invariant_of-result : goal.invariant_of-result
invariant_of-result c =
    let count = c.args.count in
    let same : c.loop-number.number ≡ count = omega arith in
    let references : c.in_ok-references.references.items ≡ replicate count 0 = search rules in
    let len = length-replicate {A = ℕ} count 0 in
    record {
      few = rw references (omega arith);
      same_count = rw references (omega (arith, c.loop-number.bytes.ok.0));
      sized = rw references (λ n within. c.loop-number.invariant.sized n (omega arith));
      bounded = rw references (bounded-zeros count);
      free = rw references (IsFreeList-new c.loop-number.free.items count (rw same at c.loop-number.invariant.each) (omega (arith, c.loop-number.free.ok.0)));
      room = rw references (omega arith);
    }
