use Rattle.std.proofs.Common.{[]}
use Rattle.strm_image.specs.Format.{byte}
use Rattle.strm_image.specs.Image.{enabled, enabled_behind, next_enabled}
use Rattle.strm_image.proofs.Formats.{counted_reads}
use Rattle.strm_image.proofs.enabled.enabled_at.Goals as goal

pub returns : goal.returns
unfolding enabled
returns c = counted_reads (λ x. (x.0.items, x.1.now)) c.pass_names.result byte next_enabled enabled_behind [] c.in_ok-count.count c.args.text.now c.in_ok-count.rest.now c.in_ok-count.ensures c.pass_names.ensures
