-- Where the cells are that a delivery moves: each was there or was made on the way, and is held, on its way, or gone by a rule.
use Rattle.std.specs.Prelude.{ℕ, zero, suc, ◌≡◌, ◌+◌, Bool, List, [], ◌∷◌, count_by}
use Rattle.strm_laws.specs.Prelude.{Dir, Way, Up, Spot, Message, weight_of, direction_at, Parcel, Fate, Goes, Comes, Took, Carried}

-- The direction in which a message goes that is on its way to a spot: to a head it comes up.
abbrev pub way_to : ℕ → Way → Way
way_to zero way = Up
way_to (suc at) way = way

abbrev pub direction_to : Spot → Dir
direction_to to = direction_at (way_to to.at to.way) to.side

-- A test on the cells of each direction.
module _ {C : Type 0} (p : Dir → C → Bool) where
  -- how many cells that pass a test are on their way
  abbrev pub weight_sent : List (Parcel C) → ℕ
  weight_sent [] = 0
  weight_sent (q ∷ qs) = weight_of (p (direction_to q.to)) q.message + weight_sent qs

  -- how many have gone
  abbrev pub count_gone : Fate C → ℕ
  count_gone (Goes direction rule cells) = count_by (p direction) cells
  count_gone (Comes direction cells) = 0

  abbrev pub weight_gone : List (Fate C) → ℕ
  weight_gone [] = 0
  weight_gone (f ∷ fs) = count_gone f + weight_gone fs

  -- and how many were made
  abbrev pub count_made : Fate C → ℕ
  count_made (Goes direction rule cells) = 0
  count_made (Comes direction cells) = count_by (p direction) cells

  abbrev pub weight_made : List (Fate C) → ℕ
  weight_made [] = 0
  weight_made (f ∷ fs) = count_made f + weight_made fs

module _ {C S : Type 0} (p : Dir → C → Bool) (weigh : S → ℕ) where
  -- a put loses no cell, and makes none but those that it tells
  abbrev pub PutKeeps : (Spot → Message C → S → Took C S) → Type 0
  PutKeeps put = (to : Spot) (m : Message C) (s : S) →
      weigh (put to m s).state + (weight_sent p (put to m s).sent + weight_gone p (put to m s).gone) ≡ weigh s + (weight_of (p (direction_to to)) m + weight_made p (put to m s).gone)

  -- nor does the carrying of a message, from a state or from any
  abbrev pub KeepsFrom : (Parcel C → S → Carried C S) → Parcel C → S → Type 0
  KeepsFrom carry q s = weigh (carry q s).state + weight_gone p (carry q s).gone ≡ weigh s + (weight_of (p (direction_to q.to)) q.message + weight_made p (carry q s).gone)

  abbrev pub CarryKeeps : (Parcel C → S → Carried C S) → Parcel C → Type 0
  CarryKeeps carry q = (s : S) → KeepsFrom carry q s
