use Rattle.std.proofs.Common.{ℕ, ◌≡◌, if◌then◌else◌, nat_lt, length}
use Rattle.std.specs.Prelude.{sum_by}
use Rattle.strm_blocks.specs.Message.{named}
use Rattle.strm_blocks.proofs.table.TableStore.new.Given as goal

abbrev pub invariant-loop-name : goal.invariant-loop-name
invariant-loop-name l = record {
  messages : length l.idle ≡ l.name;
  blocks : length l.spare ≡ l.name;
  names : (i : ℕ) → sum_by (named i) l.idle ≡ (if nat_lt i l.name then 1 else 0);
}
