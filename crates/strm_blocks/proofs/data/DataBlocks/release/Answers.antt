use Rattle.std.proofs.Common.{arith, ap, get_or, refl}
use Rattle.std.proofs.lemmas.List.{get_or_read}
use Rattle.std.specs.Prelude.{slice_index_or}
use Rattle.strm_blocks.specs.Pool.{Pool}
use Rattle.strm_blocks.proofs.FreeList.{free-fewer, named-within}
use Rattle.strm_blocks.proofs.data.DataBlocks.release.Goals as goal

pub push_reserved-requires : goal.push_reserved-requires
push_reserved-requires c =
    let inside = c.self.inside in
    let seen = ap (λ (p : Pool). slice_index_or p.references c.args.number 0) c.self.view_is in
    let few = free-fewer inside.free.items inside.references.items c.args.number (omega arith) c.self.invariant.free in
    omega (arith, inside.references.ok.0, inside.free.ok.0, c.self.invariant.room)

pub returns-then-index-eq0 : goal.returns-then-index-eq0
returns-then-index-eq0 c =
    let counts = c.self.inside.references.items in
    let seen = ap (λ (p : Pool). get_or p.references c.args.number 0) c.self.view_is in
    let within = named-within counts c.args.number (omega (arith, seen, c.requires)) in
    let had = get_or_read counts c.args.number c.index_mut.result.now within c.index_mut.ensures.value 0 in
    rw (← c.self.view_is, had) refl

pub returns-else-index-eq0 : goal.returns-else-index-eq0
returns-else-index-eq0 c =
    let counts = c.self.inside.references.items in
    let seen = ap (λ (p : Pool). get_or p.references c.args.number 0) c.self.view_is in
    let within = named-within counts c.args.number (omega (arith, seen, c.requires)) in
    let had = get_or_read counts c.args.number c.index_mut.result.now within c.index_mut.ensures.value 0 in
    rw (← c.self.view_is, had) refl
