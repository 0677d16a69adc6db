-- One message that stays is the only one on its way, and behind it nothing is.
use Rattle.strm_frame.proofs.Prelude.{ℕ, ◌≡◌, List, [], ◌∷◌, subst}
use Rattle.strm_frame.specs.Prelude.{Spot, Message, StoreValue}
use Rattle.strm_frame.specs.declared.parcels.Sent.{Sent}
use Rattle.strm_frame.specs.Does.{StaysAlone}
use Rattle.strm_frame.specs.Outboxes.{parcel_in, parcels_in}

module _ {P : Type 0} (stays : P → Spot → Message ℕ → Type 0) (s t : StoreValue) (p : P) (x : Sent) where
  first-stays : (more : List Sent) → StaysAlone stays p (parcels_in s (x ∷ more)) → stays p x.to (parcel_in s x).message × ((q : P) → StaysAlone stays q (parcels_in t more))
  unfolding parcels_in
  first-stays [] alone = (alone, λ q. tt)
  first-stays (y ∷ more) alone = absurd alone

  pub only-stays : (more all : List Sent) → all ≡ x ∷ more → StaysAlone stays p (parcels_in s all) → stays p x.to (parcel_in s x).message × ((q : P) → StaysAlone stays q (parcels_in t more))
  only-stays more all is alone = first-stays more (subst (λ xs. StaysAlone stays p (parcels_in s xs)) is alone)
