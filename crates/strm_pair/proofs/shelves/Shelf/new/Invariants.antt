use Rattle.std.proofs.Common.{◌≡◌, ◌≤◌, length}
use Rattle.std.specs.Vec.{vec_capacity}
use Rattle.strm_pair.proofs.shelves.Shelf.new.Given as goal

abbrev pub invariant-loop-count : goal.invariant-loop-count
invariant-loop-count l = record {
  many : length l.tables.items ≡ l.count;
  room : l.pairs ≤ vec_capacity l.tables;
}
