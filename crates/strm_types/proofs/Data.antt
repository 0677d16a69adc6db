-- Ordinary messages of data, and queues of nothing else.
use Rattle.std.proofs.Common.{ℕ, ◌≡◌, ◌≤◌, true, List, [], ◌∷◌, ◌++◌, length, map, drop, refl, sym, ap, ◌∙◌, arith}
use Rattle.std.specs.Prelude.{sum_by, if◌then◌else◌, ◌==◌, ◌&&◌, not}
use Rattle.std.specs.List.{AllByRecursion}
use Rattle.std.proofs.lemmas.List.Sums.{sum_by-cons}
use Rattle.strm_types.specs.Message.{Message, data_message, rank_of, band_of, size_of, cells_of, is_high_priority, is_held}
use Rattle.strm_types.specs.Queue.{Queue, put, put_back, put_enables, count_of, IsOrdered}
use Rattle.strm_types.specs.Head.{rest_of}
use Rattle.strm_types.proofs.Ranked.{put-last, put_back-first}

module _ {C : Type 0} where
  pub data-rank : (xs : List C) → rank_of (data_message xs) ≡ 0
  unfolding data_message rank_of is_high_priority
  data-rank xs = refl

  pub data-band : (xs : List C) → band_of (data_message xs) ≡ 0
  unfolding data_message band_of is_high_priority
  data-band xs = refl

  pub data-cells : (xs : List C) → cells_of (data_message xs) ≡ xs
  unfolding data_message cells_of
  data-cells xs = refl

  pub data-size : (xs : List C) → size_of (data_message xs) ≡ length xs
  unfolding data_message size_of cells_of
  data-size xs = omega arith

  pub data-held : (xs : List C) → is_held (data_message xs).kind ≡ true
  unfolding data_message is_held
  data-held xs = refl

  pub data-rest : (n : ℕ) (xs : List C) → rest_of n (data_message xs) ≡ data_message (drop n xs)
  unfolding data_message cells_of
  data-rest n xs = refl

  pub data-enables : (xs : List C) (q : Queue C) → put_enables (data_message xs) q ≡ (not q.no_enable && q.want_read)
  unfolding data_message band_of is_high_priority
  data-enables xs q = refl

  -- all of rank 0
  none-above : (q : List (List C)) (r : ℕ) → AllByRecursion (λ m. rank_of m ≤ r) (map data_message q)
  none-above [] r = tt
  none-above (xs ∷ q) r = (omega (arith, data-rank xs), none-above q r)

  none-below : (m : Message C) (q : List (List C)) → rank_of m ≡ 0 → AllByRecursion (λ other. rank_of m ≤ rank_of other) (map data_message q)
  none-below m [] is = tt
  none-below m (xs ∷ q) is = (omega (arith, is), none-below m q is)

  map-behind : (xs : List C) (q : List (List C)) → map data_message (q ++ xs ∷ []) ≡ map data_message q ++ data_message xs ∷ []
  map-behind xs [] = refl
  map-behind xs (ys ∷ q) = ap (λ l. data_message ys ∷ l) (map-behind xs q)

  -- among ordinary messages a put is behind all
  pub data-put : (xs : List C) (q : List (List C)) → put (data_message xs) (map data_message q) ≡ map data_message (q ++ xs ∷ [])
  data-put xs q = put-last rank_of (data_message xs) (map data_message q) (none-below (data_message xs) q (data-rank xs)) ∙ sym (map-behind xs q)

  -- and what is put back is first
  pub data-put_back : (xs : List C) (q : List (List C)) → put_back (data_message xs) (map data_message q) ≡ map data_message (xs ∷ q)
  data-put_back xs q = put_back-first rank_of (data_message xs) (map data_message q) (none-above q (rank_of (data_message xs)))

  -- all bytes count in band 0
  pub data-count : (q : List (List C)) → count_of 0 (map data_message q) ≡ sum_by length q
  data-count [] = refl
  data-count (xs ∷ q) =
      let here : (if band_of (data_message xs) == 0 then size_of (data_message xs) else 0) ≡ length xs = rw (data-band xs, data-size xs) refl in
      omega (arith, here, data-count q, sum_by-cons (λ m. if band_of m == 0 then size_of m else 0) (data_message xs) (map data_message q), sum_by-cons length xs q)

  -- a queue of ordinary messages alone is in order
  pub data-ordered : (q : List (List C)) → IsOrdered (map data_message q)
  data-ordered [] = tt
  data-ordered (xs ∷ q) = (none-above q (rank_of (data_message xs)), data-ordered q)
