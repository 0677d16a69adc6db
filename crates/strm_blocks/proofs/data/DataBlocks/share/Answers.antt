use Rattle.std.proofs.Common.{arith, ap, get_or, refl}
use Rattle.std.proofs.lemmas.List.{get_or_read}
use Rattle.strm_blocks.specs.Pool.{Pool}
use Rattle.strm_blocks.proofs.FreeList.{named-within}
use Rattle.strm_blocks.proofs.data.DataBlocks.share.Goals as goal

pub returns : goal.returns
returns c =
    let counts = c.self.inside.references.items in
    let seen = ap (λ (p : Pool). get_or p.references c.args.number 0) c.self.view_is in
    let within = named-within counts c.args.number (omega (arith, seen, c.requires.named)) in
    let had = get_or_read counts c.args.number c.index_mut.result.now within c.index_mut.ensures.value 0 in
    rw (← c.self.view_is, had) refl
