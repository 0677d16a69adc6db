use Rattle.std.proofs.Common.{◌≤◌, ◌+◌, ◌∙◌, ap, sym, length, arith}
use Rattle.std.proofs.lemmas.Simd.{length-chunk, leading_from_mask_l, trailing_mask_l, run_in_chunk_le}
use Rattle.strm_types.specs.Echo.{is_control}
use Rattle.strm_ldterm.proofs.Lanes.{none-on}
use lib.Count.{count_trailing_zeros}
use lib.Lanes.{chunk}
use Rattle.strm_ldterm.proofs.graphic.graphic_len.Goals as goal

pub returns-then-found-ne0-clause-within : goal.returns-then-found-ne0-clause-within
returns-then-found-ne0-clause-within c =
    let bytes = c.args.bytes.now in
    let block = chunk c.loop-at.at 16 bytes in
    let room : c.loop-at.at + 16 ≤ length bytes = omega (arith, c.loop-at.invariant.0) in
    let counted = ap (count_trailing_zeros 64) c.controls-found.ensures
    ∙ trailing_mask_l is_control 64 block (omega (arith, length-chunk c.loop-at.at 16 bytes room)) (omega (arith, c.controls-found.ensures)) in
    let few = run_in_chunk_le is_control bytes c.loop-at.at 16 _ 0 room counted in
    omega (arith, few)

pub returns-then-found-ne0-clause-graphic : goal.returns-then-found-ne0-clause-graphic
returns-then-found-ne0-clause-graphic c =
    let bytes = c.args.bytes.now in
    let block = chunk c.loop-at.at 16 bytes in
    let room : c.loop-at.at + 16 ≤ length bytes = omega (arith, c.loop-at.invariant.0) in
    let counted = ap (count_trailing_zeros 64) c.controls-found.ensures
    ∙ trailing_mask_l is_control 64 block (omega (arith, length-chunk c.loop-at.at 16 bytes room)) (omega (arith, c.controls-found.ensures)) in
    let few = run_in_chunk_le is_control bytes c.loop-at.at 16 _ 0 room counted in
    none-on is_control bytes c.loop-at.at 16 _ room (omega (arith, few)) counted c.loop-at.invariant.1

pub loop-at-preserved : goal.loop-at-preserved
loop-at-preserved c =
    let bytes = c.args.bytes.now in
    let block = chunk c.loop-at.at 16 bytes in
    let room : c.loop-at.at + 16 ≤ length bytes = omega (arith, c.loop-at.invariant.0) in
    let long = length-chunk c.loop-at.at 16 bytes room in
    let counted = sym (leading_from_mask_l is_control block (omega (arith, c.controls-found.ensures)) ∙ long) in
    (omega arith, none-on is_control bytes c.loop-at.at 16 16 room room counted c.loop-at.invariant.1)
