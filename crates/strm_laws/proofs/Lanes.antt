-- Queues of messages by their lanes.
use Rattle.strm_laws.proofs.Prelude.{ℕ, ◌≡◌, ◌<◌, ◌+◌, Bool, true, false, cond, List, [], ◌∷◌, ◌++◌, refl, sym, ap, ◌∙◌, arith, append-nil, sum_by}
use Rattle.strm_laws.proofs.Prelude.{if◌then◌else◌, ◌==◌, nat_tests, sum_by-cons, lane-put, Ordered-put}
use Rattle.strm_laws.specs.Prelude.{Message, rank_of, band_of, size_of, is_high_priority, lane, IsOrdered, put, count_of}
use Rattle.std.proofs.Common.{append_assoc}
use Rattle.std.specs.List.{AllByRecursion}
use Rattle.strm_types.specs.Queue.{put_all, bytes_of}
use Rattle.strm_types.proofs.Ranked.{behind}

module _ {C : Type 0} where
  -- what is put in turn stands in its lane in that order, behind what stood there
  pub lane-put_all : (r : ℕ) (ms q : List (Message C)) → IsOrdered q → lane r (put_all ms q) ≡ lane r q ++ lane r ms
  lane-put_all r [] q o = sym (append-nil (lane r q))
  lane-put_all r (m ∷ ms) q o =
      lane-put_all r ms (put m q) (Ordered-put rank_of m q o) ∙ ap (λ l. l ++ lane r ms) (lane-put rank_of r m q o) ∙ joined (rank_of m == r) (lane r q) (lane r ms)
    where
      joined : (b : Bool) (front back : List (Message C)) → behind rank_of b m front ++ back ≡ front ++ cond b (m ∷ back) back
      joined true front back = append_assoc front (m ∷ []) back
      joined false front back = refl

  -- what a message adds to the count of a band, and to the lanes of a rank
  abbrev share : ℕ → Message C → ℕ
  share band m = if band_of m == band then size_of m else 0

  abbrev lane-share : ℕ → Message C → ℕ
  lane-share r m = if rank_of m == r then size_of m else 0

  share-zero : (m : Message C) → m.band < 256 → share 0 m ≡ lane-share 256 m + lane-share 0 m
  unfolding rank_of band_of
  share-zero m low = share-at (is_high_priority m.kind)
    where
      share-at : (b : Bool) → (if (if b then 0 else m.band) == 0 then size_of m else 0) ≡ (if (if b then 256 else m.band) == 256 then size_of m else 0) + (if (if b then 256 else m.band) == 0 then size_of m else 0)
      share-at true = omega arith
      share-at false = let not_high : (m.band == 256) ≡ false = grind (arith, nat_tests) in rw not_high (omega arith)

  share-band : (band : ℕ) (m : Message C) → m.band < 256 → 0 < band → band < 256 → share band m ≡ lane-share band m
  unfolding rank_of band_of
  share-band band m low above below = share-at (is_high_priority m.kind)
    where
      share-at : (b : Bool) → (if (if b then 0 else m.band) == band then size_of m else 0) ≡ (if (if b then 256 else m.band) == band then size_of m else 0)
      share-at true =
          let first : (0 == band) ≡ false = grind (arith, nat_tests) in
          let second : (256 == band) ≡ false = grind (arith, nat_tests) in rw (first, second) refl
      share-at false = refl

  -- the bytes of a lane, message by message
  lane-bytes : (r : ℕ) (q : List (Message C)) → bytes_of (lane r q) ≡ sum_by (lane-share r) q
  lane-bytes r [] = refl
  lane-bytes r (m ∷ q) = lane-bytes-at r m q (rank_of m == r) refl (lane-bytes r q)
    where
      lane-bytes-at : (r : ℕ) (m : Message C) (q : List (Message C)) (b : Bool) → (rank_of m == r) ≡ b → bytes_of (lane r q) ≡ sum_by (lane-share r) q → bytes_of (cond b (m ∷ lane r q) (lane r q)) ≡ sum_by (lane-share r) (m ∷ q)
      lane-bytes-at r m q true is ih =
          let here : lane-share r m ≡ size_of m = rw is refl in omega (arith, here, ih, sum_by-cons size_of m (lane r q), sum_by-cons (lane-share r) m q)
      lane-bytes-at r m q false is ih =
          let here : lane-share r m ≡ 0 = rw is refl in omega (arith, here, ih, sum_by-cons (lane-share r) m q)

  count-zero : (q : List (Message C)) → AllByRecursion (λ m. m.band < 256) q → count_of 0 q ≡ sum_by (lane-share 256) q + sum_by (lane-share 0) q
  count-zero [] all = refl
  count-zero (m ∷ q) all =
      omega (arith, share-zero m all.0, count-zero q all.1, sum_by-cons (share 0) m q, sum_by-cons (lane-share 256) m q, sum_by-cons (lane-share 0) m q)

  -- band 0 counts the lanes of high priority and of band 0
  pub count-lanes-zero : (q : List (Message C)) → AllByRecursion (λ m. m.band < 256) q → count_of 0 q ≡ bytes_of (lane 256 q) + bytes_of (lane 0 q)
  count-lanes-zero q all = omega (arith, count-zero q all, lane-bytes 256 q, lane-bytes 0 q)

  count-band : (band : ℕ) (q : List (Message C)) → AllByRecursion (λ m. m.band < 256) q → 0 < band → band < 256 → count_of band q ≡ sum_by (lane-share band) q
  count-band band [] all above below = refl
  count-band band (m ∷ q) all above below =
      omega (arith, share-band band m all.0 above below, count-band band q all.1 above below, sum_by-cons (share band) m q, sum_by-cons (lane-share band) m q)

  -- another band counts its own lane
  pub count-lane : (band : ℕ) (q : List (Message C)) → AllByRecursion (λ m. m.band < 256) q → 0 < band → band < 256 → count_of band q ≡ bytes_of (lane band q)
  count-lane band q all above below = omega (arith, count-band band q all above below, lane-bytes band q)
