use Rattle.std.proofs.Common.{◌≡◌, take}
use Rattle.std.specs.List.{flat_map}
use Rattle.strm_image.specs.Format.{u64}
use Rattle.strm_image.specs.Sinks.{put}
use Rattle.strm_image.proofs.writing.accounts.put_counts.Given as goal

abbrev pub invariant-loop-count : goal.invariant-loop-count
invariant-loop-count l = l.out ≡ put (flat_map u64.text (take l.count-index l.counts)) l.fn.out
