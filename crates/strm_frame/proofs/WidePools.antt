-- The data blocks that may be counted on: they are free, and no fewer where no fewer blocks of either kind are.
use Rattle.strm_frame.proofs.Prelude.{ℕ, ◌≡◌, ◌≤◌, ◌+◌, Bool, true, false, cond, refl, ap, arith, nat_tests}
use Rattle.std.specs.Prelude.{nat_le}
use Rattle.strm_blocks.specs.Blocks.{StoreValue, free_d, free_m}
use Rattle.strm_msg.proofs.WidePools.{free_m-le-free_d}
use Rattle.strm_frame.specs.Prelude.{FreesBlocks}
use Rattle.strm_frame.specs.Hands.{room_d, HasRoom, IsWide, SamePool, Spends}

module _ (s : StoreValue) where
  -- there no more is asked than that message blocks are free
  pub room-wide : s.mblks ≤ s.dblks → room_d s ≡ free_m s
  unfolding room_d
  room-wide wide = let yes : nat_le s.mblks s.dblks ≡ true = grind (arith, nat_tests) in ap (λ b. cond b (free_m s) (free_d s)) yes

  -- what may be counted on is free
  pub room-le-free_d : room_d s ≤ free_d s
  unfolding room_d
  room-le-free_d = by (nat_le s.mblks s.dblks) refl
    where
      by : (b : Bool) → nat_le s.mblks s.dblks ≡ b → cond b (free_m s) (free_d s) ≤ free_d s
      by true wide = free_m-le-free_d s (grind (arith, nat_tests))
      by false narrow = omega arith

  -- and there is room where so many message blocks are free
  pub wide-room : s.mblks ≤ s.dblks → (n : ℕ) → n ≤ free_m s → HasRoom s n
  wide-room wide n m = record { mblks = m; dblks = omega (arith, m, free_m-le-free_d s wide) }

  -- what is free of both kinds may be counted on
  pub free-le-room : (n : ℕ) → HasRoom s n → n ≤ room_d s
  unfolding room_d
  free-le-room n room = by (nat_le s.mblks s.dblks)
    where
      by : (b : Bool) → n ≤ cond b (free_m s) (free_d s)
      by true = room.mblks
      by false = room.dblks

  -- so many blocks of each kind are free, where that many data blocks may be counted on
  pub room-there : (n : ℕ) → n ≤ free_m s → n ≤ room_d s → HasRoom s n
  room-there n m d = record { mblks = m; dblks = omega (arith, d, room-le-free_d) }

-- What was taken of both kinds at most was taken of those that may be counted on at most.
module _ (s t : StoreValue) where
  pub spends-free : SamePool s t → (most later : ℕ) → free_m s + later ≤ free_m t + most → free_d s + later ≤ free_d t + most → Spends s t most later
  unfolding room_d
  spends-free pool most later m d = record { mblks = m; dblks = rw same (by (nat_le s.mblks s.dblks)) }
    where
      same : nat_le t.mblks t.dblks ≡ nat_le s.mblks s.dblks
      same = rw (pool.mblks, pool.dblks) refl

      by : (b : Bool) → cond b (free_m s) (free_d s) + later ≤ cond b (free_m t) (free_d t) + most
      by true = m
      by false = d

  -- in a store with as many data blocks as message blocks what was taken of message blocks says it
  pub spends-wide : s.mblks ≤ s.dblks → SamePool s t → (most later : ℕ) → free_m s + later ≤ free_m t + most → Spends s t most later
  spends-wide wide pool most later m =
      let still : t.mblks ≤ t.dblks = omega (arith, wide, pool.mblks, pool.dblks) in
      record { mblks = m; dblks = omega (arith, m, room-wide s wide, room-wide t still) }

  pub frees-spends : SamePool s t → FreesBlocks s t → (most : ℕ) → Spends s t most 0
  frees-spends pool frees most = spends-free pool most 0 (omega (arith, frees.mblks)) (omega (arith, frees.dblks))

  -- what is left of what was free, and where later ones are counted on too
  pub room-left : (n most left : ℕ) → left + most ≤ n → HasRoom s n → Spends s t most 0 → HasRoom t left
  room-left n most left le room spends =
      room-there t left (omega (arith, le, room.mblks, spends.mblks)) (omega (arith, le, free-le-room s n room, spends.dblks))

  pub room-on : (most later : ℕ) → HasRoom s most → Spends s t most later → HasRoom t later
  room-on most later room spends =
      room-there t later (omega (arith, room.mblks, spends.mblks)) (omega (arith, free-le-room s most room, spends.dblks))

-- a store stays as wide as it is wanted, where it has as many blocks as before
pub wide-on : (wanted : Bool) (s t : StoreValue) → t.mblks ≡ s.mblks → t.dblks ≡ s.dblks → IsWide wanted s → IsWide wanted t
wide-on true s t mblks dblks wide = omega (arith, mblks, dblks, wide)
wide-on false s t mblks dblks wide = tt
