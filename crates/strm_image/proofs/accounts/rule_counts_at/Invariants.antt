use Rattle.std.proofs.Common.{◌≡◌, ◌-◌, [], length, take}
use Rattle.strm_types.specs.declared.rules.TheConstants.{RULES}
use Rattle.strm_image.specs.Format.{always, at_end, keep, gather_from, u64}
use Rattle.strm_image.proofs.accounts.rule_counts_at.Given as goal

abbrev pub invariant-loop-i : goal.invariant-loop-i
invariant-loop-i l = record {
  told : gather_from keep (always u64) at_end (take l.i l.counts) tt (RULES - l.i) l.rest ≡ gather_from keep (always u64) at_end [] tt RULES l.text;
  long : length l.counts ≡ RULES;
}
