use Rattle.std.proofs.Common.{arith, ℕ, ◌≡◌, ◌<◌, ◌+◌, ◌-◌, ◌∙◌, [], List, sym, ap, length, get_or, refl}
use Rattle.std.proofs.Math.ListN.{set, length-set}
use Rattle.std.specs.Prelude.{slice_range}
use Rattle.std.proofs.lemmas.Result.{err_from_is_err_and}
use Rattle.strm_blocks.specs.Outcomes.{Copied}
use Rattle.strm_blocks.specs.Table.{shown}
use Rattle.strm_blocks.specs.Pool.{Pool}
use Rattle.strm_blocks.proofs.Calls.{carried, NoneFree-value, Copied-value}
use Rattle.strm_blocks.proofs.Edits.{in-order, there, row-is}
use Rattle.strm_blocks.proofs.Found as found
use Rattle.strm_blocks.proofs.FreeList.{count-taken}
use Rattle.strm_blocks.proofs.Moves.{idle-some, hand-few, IsTable-added}
use Rattle.strm_blocks.proofs.Shown.{length-range}
use Rattle.strm_blocks.proofs.Stores.{value-same}
use Rattle.strm_blocks.proofs.table.TableStoreBlocks.copy.Goals as goal

pub block_in-block-requires-clause-there : goal.block_in-block-requires-clause-there
block_in-block-requires-clause-there c = found.within c.self.inside c.self.view_is c.args.message.now.name c.requires.in_hand

pub block_in-block-requires-clause-within : goal.block_in-block-requires-clause-within
block_in-block-requires-clause-within c = found.block-within c.self.inside c.self.view_is c.args.message.now.name c.args.at c.requires.within

pub returns-in_err-number : goal.returns-in_err-number
returns-in_err-number c =
    let t = c.self.inside in
    let failed = err_from_is_err_and c.from_residual.result c.from_residual.ensures.1 in
    rw (failed.1, ← c.self.view_is, c.in_err-number.ensures.same) (NoneFree-value t.data.bytes c.self.invariant c.in_err-number.ensures.none)

pub copy-requires-clause-from_there : goal.copy-requires-clause-from_there
copy-requires-clause-from_there c =
    let t = c.self.inside in
    let name = c.args.message.now.name in
    let row = c.block_in-block.result in
    let same = c.block_in-block.ensures in
    let exists = there t c.self.view_is c.self.invariant name c.args.at c.requires.in_hand c.requires.within row same in
    let count = ap (λ (p : Pool). length p.references) c.in_ok-number.ensures.taken.after ∙ length-set t.data.references c.in_ok-number.number 1 in
    omega arith

pub copy-requires-clause-ordered : goal.copy-requires-clause-ordered
copy-requires-clause-ordered c =
    let t = c.self.inside in
    let name = c.args.message.now.name in
    let row = c.block_in-block.result in
    let same = c.block_in-block.ensures in
    let order = in-order t c.self.view_is c.self.invariant name c.args.at c.requires.in_hand c.requires.within row same in
    omega arith

pub copy-requires-clause-within : goal.copy-requires-clause-within
copy-requires-clause-within c =
    let t = c.self.inside in
    let name = c.args.message.now.name in
    let row = c.block_in-block.result in
    let same = c.block_in-block.ensures in
    let order = in-order t c.self.view_is c.self.invariant name c.args.at c.requires.in_hand c.requires.within row same in
    omega arith

pub overflow_sub-copied : goal.overflow_sub-copied
overflow_sub-copied c =
    let t = c.self.inside in
    let name = c.args.message.now.name in
    let row = c.block_in-block.result in
    let same = c.block_in-block.ensures in
    let order = in-order t c.self.view_is c.self.invariant name c.args.at c.requires.in_hand c.requires.within row same in
    omega arith

pub hold_block-requires-clause-some : goal.hold_block-requires-clause-some
hold_block-requires-clause-some c =
    idle-some c.self.invariant c.in_ok-number.ensures.some

pub hold_block-requires-clause-few : goal.hold_block-requires-clause-few
hold_block-requires-clause-few c = let few = hand-few c.self.invariant in omega arith

pub invariant_of-self-2 : goal.invariant_of-self-2
invariant_of-self-2 c =
    let t = c.self.inside in
    let name = c.args.message.now.name in
    let row = c.block_in-block.result in
    let same = c.block_in-block.ensures in
    let order = in-order t c.self.view_is c.self.invariant name c.args.at c.requires.in_hand c.requires.within row same in
    let taken = c.in_ok-number.ensures.taken in
    let some = c.in_ok-number.ensures.some in
    let counts = ap (λ (p : Pool). p.references) c.copy.ensures.after ∙ ap (λ (p : Pool). p.references) taken.after in
    rw (c.hold_block.ensures.hand, c.hold_block.ensures.idle, c.hold_block.ensures.spare, counts) (IsTable-added c.self.invariant _ _ some (omega arith) (count-taken t.data.references c.in_ok-number.number taken.within taken.was_free))

pub returns : goal.returns
returns c =
    let t = c.self.inside in
    let name = c.args.message.now.name in
    let row = c.block_in-block.result in
    let same = c.block_in-block.ensures in
    let order = in-order t c.self.view_is c.self.invariant name c.args.at c.requires.in_hand c.requires.within row same in
    let exists = there t c.self.view_is c.self.invariant name c.args.at c.requires.in_hand c.requires.within row same in
    let block = row-is t c.self.view_is c.self.invariant name c.args.at c.requires.in_hand c.requires.within row same in
    let taken = c.in_ok-number.ensures.taken in
    let number = c.in_ok-number.number in
    let content = c.copy.ensures.content in
    let some = c.in_ok-number.ensures.some in
    let bytes = ap (λ (p : Pool). p.bytes) taken.after in
    let count = ap (λ (p : Pool). length p.references) taken.after ∙ length-set t.data.references number 1 in
    let sized : length (get_or t.data.bytes row.number []) ≡ 256 = ap (λ (bytes : List (List ℕ)). length (get_or bytes row.number [])) (sym bytes) ∙ c.audit.ensures.sized row.number (omega arith) in
    let source = ap (λ (bytes : List (List ℕ)). slice_range (get_or bytes row.number []) row.start row.end) bytes in
    let len = length-range (get_or t.data.bytes row.number []) row.start row.end (omega arith) (omega arith) in
    let long : row.end - row.start ≡ 0 + length (slice_range (get_or c.reserve.new.pool.bytes row.number []) row.start row.end) = let l = ap (λ (xs : List ℕ). length xs) source in omega arith in
    let front = ap (λ (n : ℕ). slice_range content 0 n) long ∙ c.copy.ensures.shown 0 (omega arith) ∙ source in
    let all = ap (λ (bytes : List (List ℕ)). length bytes) bytes in
    let there : number < length t.data.bytes = omega (arith, c.audit.ensures.same_count, taken.within) in
    let bytes_after = ap (λ (p : Pool). p.bytes) c.copy.ensures.after ∙ ap (λ (bytes : List (List ℕ)). set bytes number content) bytes in
    let count_after = ap (λ (p : Pool). length p.references) c.copy.ensures.after ∙ count in
    let new = value-same (set t.data.bytes number content) t.lists _ t.mblks _ bytes_after refl c.hold_block.ensures.hand count_after in
    carried (λ old new name b. Copied old new name b) c.self.view_is new c.hold_block.ensures.name block (Copied-value t.data.bytes c.self.invariant (shown t.data.bytes row) number content (row.end - row.start) some taken.some taken.within there taken.was_free len front)
