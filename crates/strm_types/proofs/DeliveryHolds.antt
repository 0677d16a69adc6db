-- What every put keeps, a delivery keeps.
use Rattle.std.proofs.Common.{ℕ, zero, suc, List, [], ◌∷◌}
use Rattle.strm_types.specs.Message.{Message}
use Rattle.strm_types.specs.declared.spots.Spot.{Spot}
use Rattle.strm_types.specs.Deliver.{Parcel, Took, Carried, in_turn, carried}

module _ {C S : Type 0} (Holds : S → Type 0) where
  -- so it is with each put, and with each carrying
  abbrev pub PutHolds : (Spot → Message C → S → Took C S) → Type 0
  PutHolds put = (to : Spot) (m : Message C) (s : S) → Holds s → Holds (put to m s).state

  abbrev pub CarryHolds : (Parcel C → S → Carried C S) → Type 0
  CarryHolds carry = (q : Parcel C) (s : S) → Holds s → Holds (carry q s).state

  pub in_turn-holds : (carry : Parcel C → S → Carried C S) → CarryHolds carry → (ps : List (Parcel C)) (s : S) → Holds s → Holds (in_turn carry ps s).state
  in_turn-holds carry keeps [] s holds = holds
  in_turn-holds carry keeps (q ∷ qs) s holds = in_turn-holds carry keeps qs (carry q s).state (keeps q s holds)

  pub carried-holds : (put : Spot → Message C → S → Took C S) → PutHolds put → (hops : ℕ) → CarryHolds (carried put hops)
  unfolding carried
  carried-holds put keeps zero q s holds = holds
  carried-holds put keeps (suc hops) q s holds =
      let t = put q.to q.message s in
      in_turn-holds (carried put hops) (carried-holds put keeps hops) t.sent t.state (keeps q.to q.message s holds)
