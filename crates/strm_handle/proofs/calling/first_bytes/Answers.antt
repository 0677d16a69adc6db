use Rattle.std.proofs.Common.{take, ap, ◌∙◌}
use Rattle.std.proofs.lemmas.List.{take_min}
use Rattle.strm_handle.proofs.calling.first_bytes.Goals as goal

pub returns : goal.returns
returns c = ap (λ n. take n c.args.bytes.now) c.min.ensures ∙ take_min 1024 c.args.bytes.now
