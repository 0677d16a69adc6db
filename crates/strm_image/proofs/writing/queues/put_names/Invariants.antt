use Rattle.std.proofs.Common.{◌≡◌, take}
use Rattle.std.specs.List.{flat_map}
use Rattle.strm_image.specs.Image.{queue_name}
use Rattle.strm_image.specs.Sinks.{put}
use Rattle.strm_image.proofs.writing.queues.put_names.Given as goal

abbrev pub invariant-loop-name : goal.invariant-loop-name
invariant-loop-name l = l.out ≡ put (flat_map queue_name.text (take l.name-index l.names)) l.fn.out
