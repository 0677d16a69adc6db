-- How many blocks are free before a byte of a call begins.
use Rattle.strm_ldterm.proofs.Prelude.{ℕ, zero, suc, ◌≡◌, ◌≤◌, ◌<◌, ◌+◌, ◌-◌, ◌*◌, Bool, true, false, List, [], ◌∷◌, ◌++◌, length, take, refl, ap}
use Rattle.strm_ldterm.proofs.Prelude.{subst, arith, nat_tests, nat_lt}
use Rattle.strm_ldterm.specs.Prelude.{STOP_BLOCKS, Spot, Discipline, Message, cells_of, StoreValue, HasRoom}
use Rattle.std.specs.List.{AllByRecursion}
use Rattle.strm_ldterm.specs.FreeBefore.{blocks_for, blocks_grown, echo_size, last_size}
use Rattle.strm_ldterm.specs.Turns.{ahead, bytes_on, stages_left}

pub all-front : {A : Type 0} (P : A → Type 0) (n : ℕ) (xs : List A) → AllByRecursion P xs → AllByRecursion P (take n xs)
all-front P zero xs all = tt
all-front P (suc n) [] all = tt
all-front P (suc n) (x ∷ xs) all = (all.0, all-front P n xs all.1)

pub take-front : {A : Type 0} (n : ℕ) (xs ys : List A) → n ≤ length xs → take n (xs ++ ys) ≡ take n xs
take-front zero xs ys few = refl
take-front (suc n) [] ys few = absurd (omega arith)
take-front (suc n) (x ∷ xs) ys few = ap (λ l. x ∷ l) (take-front n xs ys (omega arith))

pub last-size : (ms : List (Message ℕ)) (m : Message ℕ) → last_size (ms ++ m ∷ []) ≡ length (cells_of m)
last-size [] m = refl
last-size (k ∷ []) m = refl
last-size (k ∷ l ∷ ms) m = last-size (l ∷ ms) m

-- 256 bytes more fill a block more at most
one-more : (n m : ℕ) → m ≤ n + 256 → blocks_for m - blocks_for n ≤ 1
one-more n m few = omega arith

pub grown-none : (p : Discipline ℕ) → blocks_grown p p ≡ 0
grown-none p = omega arith

pub grown-two : (p q : Discipline ℕ) → length q.gathered ≤ length p.gathered + 256 → echo_size q ≤ echo_size p + 256 → blocks_grown p q ≤ 2
grown-two p q gathered echo = omega (arith, one-more (length p.gathered) (length q.gathered) gathered, one-more (echo_size p) (echo_size q) echo)

-- where so many more are free than they take
pub room-for : (s : StoreValue) (n : ℕ) → HasRoom s (STOP_BLOCKS + 2) → n ≤ 2 → HasRoom s (STOP_BLOCKS + n)
room-for s n room few = record { mblks = (let r = room.mblks in omega arith); dblks = (let r = room.dblks in omega arith) }

pub room-none : (s : StoreValue) (n : ℕ) → HasRoom s STOP_BLOCKS → n ≡ 0 → HasRoom s (STOP_BLOCKS + n)
room-none s n room none = record { mblks = (let r = room.mblks in omega arith); dblks = (let r = room.dblks in omega arith) }

-- what holds of the first bytes, and of those behind them
pub each-more : (P : ℕ → Type 0) (n k : ℕ) → ((i : ℕ) → i < n → P i) → ((i : ℕ) → i < k → P (n + i)) → (i : ℕ) → i < n + k → P i
each-more P n k first second i within = at (nat_lt i n) refl
  where
    at : (v : Bool) → nat_lt i n ≡ v → P i
    at true is = first i (grind (arith, nat_tests))
    at false is =
        let behind : n ≤ i = grind (arith, nat_tests) in
        let same : n + (i - n) ≡ i = omega arith in
        subst P same (second (i - n) (omega arith))

module _ (here : Spot) (s : StoreValue) (p : Discipline ℕ) (between : stages_left p.stage ≡ 0) where
  -- between two bytes
  pub free-on : (n : ℕ) → HasRoom s (STOP_BLOCKS + blocks_grown p (ahead here (3 * n) p).state) → HasRoom s (STOP_BLOCKS + blocks_grown p (bytes_on here n p).state)
  free-on n room =
      let same : 3 * n ≡ stages_left p.stage + 3 * n = omega arith in
      subst (λ k. HasRoom s (STOP_BLOCKS + blocks_grown p (ahead here k p).state)) same room

  -- before the next one
  pub free-next : HasRoom s STOP_BLOCKS → (byte : ℕ) → byte < 1 → HasRoom s (STOP_BLOCKS + blocks_grown p (bytes_on here byte p).state)
  free-next room zero first = free-on 0 (room-none s (blocks_grown p p) room (grown-none p))
  free-next room (suc n) first = absurd (omega arith)
