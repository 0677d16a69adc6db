use Rattle.std.proofs.Common.{subst}
use Rattle.strm_handle.specs.Images.{ImageInto}
use Rattle.strm_handle.proofs.tracing.put_base.Goals as goal

pub returns : goal.returns
returns c = subst (λ text. ImageInto text c.put_text.new.told c.args.out.now c.put_text.new.out c.put_text.result) c.as_slice.ensures.value c.put_text.ensures
