-- What steps of a read leave of a list together, and which blocks are free then.
use Rattle.strm_head.proofs.Prelude.{ℕ, ◌≡◌, ◌<◌, ◌+◌, List, [], ◌∷◌, length, drop, inl, inr, refl, sym, ap, ◌∙◌, arith, sum_by-cons, used-is}
use Rattle.strm_head.proofs.Prelude.{references-is, free_m-is, has-list}
use Rattle.strm_head.specs.Prelude.{Block, StoreValue, IsStore, list_at, names_of, Queue, Keeps}
use Rattle.std.proofs.Common.{zero, suc, ◌≢◌}
use Rattle.std.specs.Prelude.{sum_by, slice_index_or}
use Rattle.std.proofs.lemmas.List.{drop-drop}
use Rattle.strm_blocks.specs.Blocks.{Held}
use Rattle.strm_head.specs.Leaving.{Taken, PartTaken, Leaves, StepLeaves, Frees}

pub taken-none : (q new : List (List Block)) → new ≡ q → Taken q new
taken-none q new same = record { count = 0; is = same }

pub taken-first : (old new : List (List Block)) (chain : List Block) (rest : List (List Block)) → old ≡ chain ∷ rest → new ≡ rest → Taken old new
taken-first old new chain rest was is = record { count = 1; is = is ∙ sym (ap (drop 1) was) }

pub taken-both : (a b c : List (List Block)) → Taken a b → Taken b c → Taken a c
taken-both a b c first second = record {
  count = first.count + second.count;
  is = second.is ∙ ap (drop second.count) first.is ∙ drop-drop second.count first.count a;
}

-- a list that lost whole messages, or none
pub leaves-taken : (old new : List (List Block)) → Taken old new → Leaves old new
leaves-taken old new taken = record { between = new; whole = taken; last = inl refl }

pub leaves-none : (q : List (List Block)) → Leaves q q
leaves-none q = leaves-taken q q (taken-none q q refl)

pub leaves-part : (old new : List (List Block)) → PartTaken old new → Leaves old new
leaves-part old new part = record { between = old; whole = taken-none old old refl; last = inr part }

-- one step
pub step-taken : (more : ℕ) (old new : List (List Block)) → Taken old new → StepLeaves more old new
step-taken more old new taken = record { leaves = leaves-taken old new taken; whole = λ some. taken }

pub step-part : (more : ℕ) (old new : List (List Block)) → more ≡ 0 → PartTaken old new → StepLeaves more old new
step-part more old new none part = record { leaves = leaves-part old new part; whole = λ some. absurd (omega (arith, some, none)) }

pub step-behind : (more : ℕ) (a b c : List (List Block)) → Taken a b → StepLeaves more b c → StepLeaves more a c
step-behind more a b c taken step = record {
  leaves = record { between = step.leaves.between; whole = taken-both a b step.leaves.between taken step.leaves.whole; last = step.leaves.last };
  whole = λ some. taken-both a b c taken (step.whole some);
}

-- sums over lists of which one changed
sum-same : (f : List (List Block) → ℕ) (xs ys : List (List (List Block))) → length ys ≡ length xs → ((j : ℕ) → slice_index_or ys j [] ≡ slice_index_or xs j []) → sum_by f ys ≡ sum_by f xs
sum-same f [] [] long same = refl
sum-same f [] (y ∷ ys) long same = absurd (omega (arith, long))
sum-same f (x ∷ xs) [] long same = absurd (omega (arith, long))
sum-same f (x ∷ xs) (y ∷ ys) long same =
    omega (arith, sum_by-cons f x xs, sum_by-cons f y ys, ap f (same 0), sum-same f xs ys (omega (arith, long)) (λ j. same (suc j)))

sum-other : (f : List (List Block) → ℕ) (k : ℕ) (xs ys : List (List (List Block))) → length ys ≡ length xs → k < length xs → ((j : ℕ) → j ≢ k → slice_index_or ys j [] ≡ slice_index_or xs j [])
    → sum_by f ys + f (slice_index_or xs k []) ≡ sum_by f xs + f (slice_index_or ys k [])
sum-other f k [] ys long within same = absurd (omega (arith, within))
sum-other f k (x ∷ xs) [] long within same = absurd (omega (arith, long))
sum-other f zero (x ∷ xs) (y ∷ ys) long within same =
    omega (arith, sum_by-cons f x xs, sum_by-cons f y ys, sum-same f xs ys (omega (arith, long)) (λ j. same (suc j) (λ e. omega (arith, e))))
sum-other f (suc k) (x ∷ xs) (y ∷ ys) long within same =
    omega (
      arith,
      sum_by-cons f x xs,
      sum_by-cons f y ys,
      ap f (same 0 (λ e. omega (arith, e))),
      sum-other f k xs ys (omega (arith, long)) (omega (arith, within)) (λ j apart. same (suc j) (λ e. apart (omega (arith, e)))),
    )

-- what left the list is free
pub frees : (s t : StoreValue) (q q' : Queue) → IsStore s → IsStore t → Keeps s t q q' → Leaves (list_at s q.list) (list_at t q.list) → Frees s t q.list
frees s t q q' before after keeps left =
    let sums = λ (f : List Block → ℕ). sum-other (λ l. sum_by f l) q.list s.lists t.lists (omega (arith, before.eight, after.eight)) (has-list s q before) keeps.others in
    let hands = λ (f : List Block → ℕ). ap (λ (h : List Held). sum_by (λ (x : Held). f x.chain) h) keeps.hand in
    record {
      left = left;
      message_blocks = omega (arith, free_m-is s, free_m-is t, used-is s, used-is t, keeps.mblks, before.enough, after.enough, sums length, hands length);
      data_blocks = λ d. omega (arith, references-is s d, references-is t d, sums (names_of d), hands (names_of d));
    }

pub frees-none : (s : StoreValue) (k : ℕ) → Frees s s k
frees-none s k = record { left = leaves-none (list_at s k); message_blocks = refl; data_blocks = λ d. refl }
