-- The order in which a queue serves its messages, over whole runs of operations (putq(9F), putbq(9F), getq(9F)).
use Rattle.std.specs.Prelude.{ℕ, ◌≡◌, ◌≤◌, ◌==◌, if◌then◌else◌, List, [], ◌∷◌, ◌++◌}
use Rattle.std.specs.List.{AllByRecursion}
use Rattle.strm_blocks.specs.Blocks.{Block, rank_of, put, put_back}
use Rattle.strm_types.specs.Ranked as ranked

-- what may come to a queue
pub data Operation : Type 0 where
  Put : List Block → Operation
  PutBack : List Block → Operation
  Take : Operation

-- the messages of one rank, in their order
abbrev pub lane : ℕ → List (List Block) → List (List Block)
lane = ranked.lane rank_of

-- no message has a higher rank than one before it
abbrev pub IsOrdered : List (List Block) → Type 0
IsOrdered = ranked.IsOrdered rank_of

-- what a take leaves
abbrev pub rest_of : List (List Block) → List (List Block)
rest_of [] = []
rest_of (m ∷ q) = q

-- a queue after an operation, and after several
abbrev pub after : Operation → List (List Block) → List (List Block)
after (Put m) q = put m q
after (PutBack m) q = put_back m q
after Take q = rest_of q

abbrev pub after_all : List Operation → List (List Block) → List (List Block)
after_all [] q = q
after_all (operation ∷ operations) q = after_all operations (after operation q)

-- what an operation takes, and what several take, in turn
abbrev pub taken : Operation → List (List Block) → List (List Block)
taken Take (m ∷ q) = m ∷ []
taken Take [] = []
taken (Put m) q = []
taken (PutBack m) q = []

abbrev pub taken_all : List Operation → List (List Block) → List (List Block)
taken_all [] q = []
taken_all (operation ∷ operations) q = taken operation q ++ taken_all operations (after operation q)

-- what was put, in turn
abbrev pub put_all : List Operation → List (List Block)
put_all [] = []
put_all (Put m ∷ operations) = m ∷ put_all operations
put_all (PutBack m ∷ operations) = put_all operations
put_all (Take ∷ operations) = put_all operations

-- nothing was put back
abbrev pub PutsNothingBack : List Operation → Type 0
PutsNothingBack [] = Unit {0}
PutsNothingBack (Put m ∷ operations) = PutsNothingBack operations
PutsNothingBack (PutBack m ∷ operations) = ⊥
PutsNothingBack (Take ∷ operations) = PutsNothingBack operations

-- One operation is served in order. A put stands last of its rank, a put back first of its rank, and other ranks stay. A
-- take gives the first of its rank, where nothing of a higher rank stands, and other ranks stay.
abbrev pub ServesInOrder : Operation → List (List Block) → Type 0
ServesInOrder (Put m) q = (r : ℕ) → lane r (put m q) ≡ (if rank_of m == r then lane r q ++ m ∷ [] else lane r q)
ServesInOrder (PutBack m) q = (r : ℕ) → lane r (put_back m q) ≡ (if rank_of m == r then m ∷ lane r q else lane r q)
ServesInOrder Take [] = Unit {0}
ServesInOrder Take (m ∷ q) = AllByRecursion (λ later. rank_of later ≤ rank_of m) q × ((r : ℕ) → lane r (m ∷ q) ≡ (if rank_of m == r then m ∷ lane r q else lane r q))

-- all operations are, one after the other
abbrev pub ServesAllInOrder : List Operation → List (List Block) → Type 0
ServesAllInOrder [] q = Unit {0}
ServesAllInOrder (operation ∷ operations) q = ServesInOrder operation q × ServesAllInOrder operations (after operation q)
