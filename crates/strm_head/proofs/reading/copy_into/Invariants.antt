use Rattle.strm_head.proofs.Prelude.{◌≡◌, ◌≤◌, ◌+◌, ◌++◌, length, take, drop}
use Rattle.strm_head.specs.Prelude.{in_hand, token, bytes_of}
use Rattle.strm_head.proofs.reading.copy_into.Given as goal

abbrev pub invariant-loop-at : goal.invariant-loop-at
invariant-loop-at g l =
    let chain = in_hand (g.B.Blocks.value l.store) (token l.message) in
    record {
      joined : l.out.items ++ take l.left (bytes_of (drop l.at chain)) ≡ l.fn.out.items ++ take l.fn.count (bytes_of chain);
      room : length l.out.items + l.left ≡ length l.fn.out.items + l.fn.count;
      has : l.left ≤ length (bytes_of (drop l.at chain));
    }
