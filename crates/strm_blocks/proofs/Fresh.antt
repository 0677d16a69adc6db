-- A store with nothing in it.
use Rattle.std.proofs.Common.{ℕ, ◌≡◌, ◌≤◌, ◌+◌, cond, ltb, List, [], ◌∷◌, ◌++◌, length, get_or, refl, ap, ◌∙◌, arith}
use Rattle.std.specs.Prelude.{sum_by, replicate}
use Rattle.std.proofs.lemmas.Bool.Decides.{nat_tests}
use Rattle.std.proofs.lemmas.List.Sums.{sum_by_push}
use Rattle.strm_types.specs.declared.limits.TheConstants.{LISTS}
use Rattle.strm_blocks.specs.Message.{named}
use Rattle.strm_blocks.specs.Table.{IsTable}
use Rattle.strm_blocks.specs.declared.message.Message.{Message}
use Rattle.strm_blocks.specs.declared.message.MessageBlock.{MessageBlock}
use Rattle.strm_blocks.proofs.FreeList.{get_or-zeros}
use Rattle.strm_blocks.proofs.Orders.{AreOrdered-empty}

-- one more message, of the next name
pub names-next : (idle : List Message) (m : Message) (k : ℕ) → m.name ≡ k → ((i : ℕ) → sum_by (named i) idle ≡ cond (ltb i k) 1 0) → (i : ℕ) → sum_by (named i) (idle ++ m ∷ []) ≡ cond (ltb i (k + 1)) 1 0
names-next idle m k e all i =
    let p = sum_by_push (named i) idle m in
    let a = all i in
    grind (arith, nat_tests)

-- what holds of its fields
pub IsTable-new : (mblks dblks : ℕ) (idle : List Message) (spare : List MessageBlock) (counts : List ℕ) → mblks ≤ 65536 → length idle ≡ mblks → length spare ≡ mblks → ((i : ℕ) → sum_by (named i) idle ≡ cond (ltb i mblks) 1 0) → counts ≡ replicate dblks 0 → IsTable mblks (replicate LISTS []) [] idle spare counts
IsTable-new mblks dblks idle spare counts few messages blocks names none = record {
  eight = refl;
  few = few;
  blocks = omega arith;
  messages = omega arith;
  filled = refl;
  apart = λ i. (let a = names i in grind (arith, nat_tests));
  referenced = λ d. ap (λ (counts : List ℕ). get_or counts d 0) none ∙ get_or-zeros dblks d;
  straight = refl;
  ordered = AreOrdered-empty LISTS;
}
