use Rattle.std.proofs.Common.{arith}
use Rattle.std.proofs.lemmas.Simd.{zip2_splat}
use Rattle.strm_types.specs.Echo.{is_control}
use Rattle.strm_ldterm.proofs.Lanes.{hit, below, either, masked}
use Rattle.strm_ldterm.proofs.graphic.controls.Goals as goal

pub returns : goal.returns
returns c =
    let v = c.args.block in
    let long = c.fits-block.0 in
    masked _ is_control v _ (omega arith) c.fits-block.1 (either _ _ v (zip2_splat below v 16 32 long) (zip2_splat hit v 16 127 long)) tt
