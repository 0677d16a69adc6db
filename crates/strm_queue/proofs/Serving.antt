-- Queues serve in order, over whole runs.
use Rattle.std.proofs.Common.{ℕ, ◌≡◌, Bool, true, false, cond, List, [], ◌∷◌, ◌++◌, refl, sym, ap, ◌∙◌, append-nil, append_assoc}
use Rattle.std.specs.Prelude.{◌==◌}
use Rattle.strm_types.proofs.Ranked.{behind, lane-put, lane-put_back, Ordered-put, Ordered-put_back}
use Rattle.strm_blocks.specs.Blocks.{Block, rank_of, put}
use Rattle.strm_queue.specs.Order.{Operation, Put, PutBack, Take, lane, IsOrdered, after, after_all, taken_all, put_all, PutsNothingBack, ServesInOrder, ServesAllInOrder}

-- an operation keeps the order
after-ordered : (operation : Operation) (q : List (List Block)) → IsOrdered q → IsOrdered (after operation q)
after-ordered (Put m) q o = Ordered-put rank_of m q o
after-ordered (PutBack m) q o = Ordered-put_back rank_of m q o
after-ordered Take [] o = tt
after-ordered Take (m ∷ q) o = o.1

pub all-ordered : (operations : List Operation) (q : List (List Block)) → IsOrdered q → IsOrdered (after_all operations q)
all-ordered [] q o = o
all-ordered (operation ∷ operations) q o = all-ordered operations (after operation q) (after-ordered operation q o)

serves : (operation : Operation) (q : List (List Block)) → IsOrdered q → ServesInOrder operation q
serves (Put m) q o = λ r. lane-put rank_of r m q o
serves (PutBack m) q o = λ r. lane-put_back rank_of r m q
serves Take [] o = tt
serves Take (m ∷ q) o = (o.0, λ r. refl)

pub serves-all : (operations : List Operation) (q : List (List Block)) → IsOrdered q → ServesAllInOrder operations q
serves-all [] q o = tt
serves-all (operation ∷ operations) q o = (serves operation q o, serves-all operations (after operation q) (after-ordered operation q o))

-- what was put last of a rank, and what was taken first
joined : (b : Bool) (m : List Block) (front back : List (List Block)) → behind rank_of b m front ++ back ≡ front ++ cond b (m ∷ back) back
joined true m front back = append_assoc front (m ∷ []) back
joined false m front back = refl

in-front : (b : Bool) (m : List Block) (xs ys : List (List Block)) → cond b (m ∷ xs) xs ++ ys ≡ cond b (m ∷ (xs ++ ys)) (xs ++ ys)
in-front true m xs ys = refl
in-front false m xs ys = refl

pub first-come : (operations : List Operation) (q : List (List Block)) (r : ℕ) → IsOrdered q → PutsNothingBack operations
    → lane r (taken_all operations q) ++ lane r (after_all operations q) ≡ lane r q ++ lane r (put_all operations)
first-come [] q r o none = sym (append-nil (lane r q))
first-come (Put m ∷ operations) q r o none =
    first-come operations (put m q) r (Ordered-put rank_of m q o) none
    ∙ ap (λ l. l ++ lane r (put_all operations)) (lane-put rank_of r m q o)
    ∙ joined (rank_of m == r) m (lane r q) (lane r (put_all operations))
first-come (PutBack m ∷ operations) q r o none = absurd none
first-come (Take ∷ operations) [] r o none = first-come operations [] r tt none
first-come (Take ∷ operations) (m ∷ q) r o none =
    in-front (rank_of m == r) m (lane r (taken_all operations q)) (lane r (after_all operations q))
    ∙ ap (λ l. cond (rank_of m == r) (m ∷ l) l) (first-come operations q r o.1 none)
    ∙ sym (in-front (rank_of m == r) m (lane r q) (lane r (put_all operations)))
