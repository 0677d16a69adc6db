use Rattle.std.proofs.Common.{arith, ℕ, ◌≡◌, ◌<◌, ◌+◌, ◌∙◌, List, ap, length, refl}
use Rattle.std.proofs.Math.ListN.{set, length-set}
use Rattle.std.specs.Prelude.{slice_range}
use Rattle.std.proofs.lemmas.Result.{err_from_is_err_and}
use Rattle.strm_blocks.specs.Blocks.{filled_block}
use Rattle.strm_blocks.specs.Outcomes.{Copied}
use Rattle.strm_blocks.specs.Pool.{Pool}
use Rattle.strm_blocks.proofs.Calls.{carried, NoneFree-value, Copied-value}
use Rattle.strm_blocks.proofs.FreeList.{count-taken}
use Rattle.strm_blocks.proofs.Moves.{idle-some, hand-few, IsTable-added}
use Rattle.strm_blocks.proofs.Stores.{value-same}
use Rattle.strm_blocks.proofs.table.TableStoreBlocks.alloc_with.Goals as goal

pub returns-in_err-number : goal.returns-in_err-number
returns-in_err-number c =
    let t = c.self.inside in
    let failed = err_from_is_err_and c.from_residual.result c.from_residual.ensures.1 in
    rw (failed.1, ← c.self.view_is, c.in_err-number.ensures.same) (NoneFree-value t.data.bytes c.self.invariant c.in_err-number.ensures.none)

pub write-requires-clause-there : goal.write-requires-clause-there
write-requires-clause-there c =
    let count = ap (λ (p : Pool). length p.references) c.in_ok-number.ensures.taken.after ∙ length-set c.self.inside.data.references c.in_ok-number.number 1 in
    omega (arith, c.in_ok-number.ensures.taken.within)

pub hold_block-requires-clause-some : goal.hold_block-requires-clause-some
hold_block-requires-clause-some c =
    idle-some c.self.invariant c.in_ok-number.ensures.some

pub hold_block-requires-clause-few : goal.hold_block-requires-clause-few
hold_block-requires-clause-few c = let few = hand-few c.self.invariant in omega arith

pub invariant_of-self-2 : goal.invariant_of-self-2
invariant_of-self-2 c =
    let t = c.self.inside in
    let taken = c.in_ok-number.ensures.taken in
    let some = c.in_ok-number.ensures.some in
    let counts = ap (λ (p : Pool). p.references) c.write.ensures.after ∙ ap (λ (p : Pool). p.references) taken.after in
    rw (c.hold_block.ensures.hand, c.hold_block.ensures.idle, c.hold_block.ensures.spare, counts) (IsTable-added c.self.invariant _ _ some (omega (arith, c.requires)) (count-taken t.data.references c.in_ok-number.number taken.within taken.was_free))

pub returns : goal.returns
returns c =
    let t = c.self.inside in
    let taken = c.in_ok-number.ensures.taken in
    let number = c.in_ok-number.number in
    let content = c.write.ensures.content in
    let xs = c.args.bytes.now in
    let some = c.in_ok-number.ensures.some in
    let bytes = ap (λ (p : Pool). p.bytes) taken.after in
    let count = ap (λ (p : Pool). length p.references) taken.after ∙ length-set t.data.references number 1 in
    let all = ap (λ (bytes : List (List ℕ)). length bytes) bytes in
    let there : number < length t.data.bytes = omega (arith, c.audit.ensures.same_count, taken.within) in
    let long : length xs ≡ 0 + length xs = omega arith in
    let front = ap (λ (n : ℕ). slice_range content 0 n) long ∙ c.write.ensures.shown 0 (omega arith) in
    let bytes_after = ap (λ (p : Pool). p.bytes) c.write.ensures.after ∙ ap (λ (bytes : List (List ℕ)). set bytes number content) bytes in
    let count_after = ap (λ (p : Pool). length p.references) c.write.ensures.after ∙ count in
    let new = value-same (set t.data.bytes number content) t.lists _ t.mblks _ bytes_after refl c.hold_block.ensures.hand count_after in
    carried (λ old new name b. Copied old new name b) c.self.view_is new c.hold_block.ensures.name refl (Copied-value t.data.bytes c.self.invariant (filled_block c.args.kind c.args.band.0 xs) number content (length xs) some taken.some taken.within there taken.was_free refl front)
