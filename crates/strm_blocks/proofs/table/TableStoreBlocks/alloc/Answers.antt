use Rattle.std.proofs.Common.{arith, refl, ◌≡◌, length, ap, ◌∙◌, sym, subst}
use Rattle.std.proofs.Math.ListN.{length-set}
use Rattle.std.proofs.lemmas.Result.{err_from_is_err_and}
use Rattle.strm_blocks.specs.Pool.{Pool}
use Rattle.strm_blocks.specs.Blocks.{StoreValue}
use Rattle.strm_blocks.specs.Outcomes.{Allocated}
use Rattle.strm_blocks.proofs.Stores.{value-same}
use Rattle.strm_blocks.proofs.FreeList.{count-taken}
use Rattle.strm_blocks.proofs.Moves.{idle-some, hand-few, IsTable-added}
use Rattle.strm_blocks.proofs.Calls.{NoneFree-value, Allocated-value}
use Rattle.strm_blocks.proofs.table.TableStoreBlocks.alloc.Goals as goal

pub returns-in_err-number : goal.returns-in_err-number
returns-in_err-number c =
    let t = c.self.inside in
    let failed = err_from_is_err_and c.from_residual.result c.from_residual.ensures.1 in
    rw (failed.1, ← c.self.view_is, c.in_err-number.ensures.same) (NoneFree-value t.data.bytes c.self.invariant c.in_err-number.ensures.none)

pub hold_block-requires-clause-some : goal.hold_block-requires-clause-some
hold_block-requires-clause-some c =
    idle-some c.self.invariant c.in_ok-number.ensures.some

pub hold_block-requires-clause-few : goal.hold_block-requires-clause-few
hold_block-requires-clause-few c = let few = hand-few c.self.invariant in omega arith

pub invariant_of-self-2 : goal.invariant_of-self-2
invariant_of-self-2 c =
    let t = c.self.inside in
    let taken = c.in_ok-number.ensures.taken in
    let some = c.in_ok-number.ensures.some in
    let counts = ap (λ (p : Pool). p.references) taken.after in
    rw (c.hold_block.ensures.hand, c.hold_block.ensures.idle, c.hold_block.ensures.spare, counts) (IsTable-added c.self.invariant _ _ some (omega arith) (count-taken t.data.references c.in_ok-number.number taken.within taken.was_free))

pub returns : goal.returns
returns c =
    let t = c.self.inside in
    let taken = c.in_ok-number.ensures.taken in
    let some = c.in_ok-number.ensures.some in
    let bytes = ap (λ (p : Pool). p.bytes) taken.after in
    let count : length c.reserve.new.pool.references ≡ length t.data.references = ap (λ (p : Pool). length p.references) taken.after ∙ length-set t.data.references c.in_ok-number.number 1 in
    let new = value-same t.data.bytes t.lists _ t.mblks _ bytes refl c.hold_block.ensures.hand count in
    subst (λ (s : StoreValue). Allocated c.args.self.now s c.hold_block.result c.args.kind) (sym new) (rw (← c.self.view_is, c.hold_block.ensures.name) (Allocated-value t.data.bytes c.self.invariant c.args.kind c.in_ok-number.number some taken.some taken.within taken.was_free))
