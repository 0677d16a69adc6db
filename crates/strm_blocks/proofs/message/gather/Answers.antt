use Rattle.std.proofs.Common.{arith, [], List, length, get_or, ap, ◌∙◌}
use Rattle.std.specs.Prelude.{sum_by}
use Rattle.std.proofs.lemmas.List.Sums.{get_or-le-sum_by}
use Rattle.std.proofs.lemmas.List.{get_or_default}
use Rattle.strm_types.specs.declared.limits.TheConstants.{LISTS}
use Rattle.strm_blocks.specs.declared.message.Message.{Message}
use Rattle.strm_blocks.proofs.Nodes.{ones}
use Rattle.strm_blocks.proofs.ListParts.{sums-empty, all-empty}
use Rattle.strm_blocks.proofs.message.gather.Goals as goal

pub unwrap-requires : goal.unwrap-requires
unwrap-requires c =
    let lists = c.loop-list.lists in
    let k = c.loop-list.list in
    let all = c.loop-list.invariant.sums (λ m. 1) in
    let taken = ones c.loop-list.taken in
    let here = get_or-le-sum_by (λ (q : List Message). sum_by (λ m. 1) q) lists k [] (omega (arith, c.loop-list.invariant.eight)) in
    let len = ap (λ (q : List Message). length q) (get_or_default lists k c.index-lists-list.result [] (omega (arith, c.loop-list.invariant.eight))) in
    let one = ones (get_or lists k []) in
    c.append.ensures.succeeds (omega (arith, c.requires))

pub returns-clause-lists : goal.returns-clause-lists
returns-clause-lists c = all-empty c.loop-list.lists LISTS c.loop-list.invariant.eight (λ k within. c.loop-list.invariant.below k (omega arith))

pub returns-clause-taken : goal.returns-clause-taken
returns-clause-taken c g =
    let lists = all-empty c.loop-list.lists LISTS c.loop-list.invariant.eight (λ k within. c.loop-list.invariant.below k (omega arith)) in
    let none = ap (λ (lists : List (List Message)). sum_by (λ q. sum_by g q) lists) lists ∙ sums-empty g LISTS in
    let all = c.loop-list.invariant.sums g in
    omega arith
