-- Messages on their way, beside the store in which they are in hand.
use Rattle.std.specs.Prelude.{ℕ, ◌+◌, List, [], ◌∷◌, ◌++◌}
use Rattle.std.specs.Option.{option_to_list}
use Rattle.strm_frame.specs.Prelude.{Spot, Message, Parcel, At, StoreValue, in_hand, token, message_of, IsChain}
use Rattle.strm_types.specs.Shapes.{shape_of}
use Rattle.strm_frame.specs.declared.parcels.Sent.{Sent}
use Rattle.strm_frame.specs.declared.parcels.Outbox.{Outbox}
use Rattle.strm_frame.specs.Hands.{once}

-- what a name in hand stands for
abbrev pub message_in : StoreValue → ℕ → Message ℕ
message_in s name = message_of (in_hand s name)

-- its shape, on its way to a spot
abbrev pub spot_in : StoreValue → Spot → ℕ → At
spot_in s to name = record { to = to; shape = shape_of (message_in s name) }

-- the messages of an outbox, the first one first
abbrev pub sent_of : Outbox → List Sent
sent_of o = option_to_list o.first ++ (option_to_list o.second ++ (option_to_list o.third ++ option_to_list o.fourth))

-- how often a name is among them
unfoldable pub times_sent : ℕ → List Sent → ℕ
times_sent i [] = 0
times_sent i (sent ∷ more) = once (token sent.message) i + times_sent i more

-- what a message on its way stands for
abbrev pub parcel_in : StoreValue → Sent → Parcel ℕ
parcel_in s sent = record { to = sent.to; message = message_in s (token sent.message) }

unfoldable pub parcels_in : StoreValue → List Sent → List (Parcel ℕ)
parcels_in s [] = []
parcels_in s (sent ∷ more) = parcel_in s sent ∷ parcels_in s more

-- each is a chain that is a message
unfoldable pub AreChains : StoreValue → List Sent → Type 0
AreChains s [] = Unit {0}
AreChains s (sent ∷ more) = IsChain (in_hand s (token sent.message)) × AreChains s more
