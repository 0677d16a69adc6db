use Rattle.std.proofs.Common.{arith, refl, ◌≡◌, ◌<◌, [], length, get_or, ap}
use Rattle.std.proofs.lemmas.List.{get_or_read}
use Rattle.strm_blocks.specs.Pool.{Pool}
use Rattle.strm_blocks.proofs.Shown.{shown-written}
use Rattle.strm_blocks.proofs.data.DataBlocks.write.Goals as goal

pub returns : goal.returns
returns c =
    let inside = c.self.inside in
    let block = c.index_mut-block.result.now in
    let seen = ap (λ (p : Pool). length p.references) c.self.view_is in
    let there : c.args.number < length inside.bytes.items = omega (arith, c.self.invariant.same_count, c.requires.there) in
    let value : block ≡ get_or inside.bytes.items c.args.number [] = get_or_read inside.bytes.items c.args.number block there c.index_mut-block.ensures.value [] in
    let sized : length block ≡ 256 = rw value (c.self.invariant.sized c.args.number (omega (arith, c.self.invariant.same_count))) in
    rw (← c.self.view_is) (record {
      content = _;
      after = refl;
      shown = λ start le. rw (← value, c.copy_from_slice.ensures.after) (shown-written block c.args.bytes.now _ start c.args.at le (omega (arith, c.requires.room)));
    })
