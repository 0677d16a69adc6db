-- What the tests put: messages of one block that are chains, and that take at most two blocks.
use Rattle.std.proofs.Common.{ℕ, ◌≡◌, ◌≤◌, ◌⊎◌, inl, inr, false, List, ◌∷◌, refl, ap, subst, arith}
use Rattle.strm_types.specs.declared.kinds.MsgKind.{MsgKind}
use Rattle.strm_types.specs.declared.kinds.MsgKind.TheVariants as kinds
use Rattle.strm_types.specs.declared.names.Way.{Way}
use Rattle.strm_types.specs.declared.names.Way.TheVariants.{Up, Down}
use Rattle.strm_types.specs.Deliver.{Parcel}
use Rattle.strm_types.specs.Flush.{is_data_kind}
use Rattle.strm_types.specs.Kinds.{is_control_kind}
use Rattle.strm_blocks.specs.Blocks.{StoreValue, IsInHand, IsStore, in_hand, free_m, free_d, token}
use Rattle.strm_msg.specs.Made.{MadeOf}
use Rattle.strm_msg.specs.Messages.{IsChain}
use Rattle.strm_msg.proofs.MadeData.{made-data}
use Rattle.strm_msg.proofs.MadePlain.{made-plain}
use Rattle.strm_frame.specs.declared.parcels.Sent.{Sent}
use Rattle.strm_frame.specs.Hands.{HasRoom}
use Rattle.strm_frame.specs.Outboxes.{times_sent}
use Rattle.strm_frame.proofs.Handing.{once-self}
use Rattle.strm_pty.specs.Does.{Swaps, driver_cost}
use Rattle.strm_pty.proofs.Doing.{can-of}

plain-kind : (k : MsgKind) → is_control_kind k ≡ false → (k ≡ kinds.Data) ⊎ (is_data_kind k ≡ false)
unfolding is_control_kind is_data_kind
plain-kind kinds.Data is = inl refl
plain-kind kinds.Proto is = absurd (cc)
plain-kind kinds.Pcproto is = absurd (cc)
plain-kind _ is = inr refl

pub made-chain : (k : MsgKind) (s t : StoreValue) (i : ℕ) (bytes : List ℕ) → is_control_kind k ≡ false → MadeOf s t i k 0 bytes → IsChain (in_hand t i)
made-chain k s t i bytes is m = elim (plain-kind k is) [
  | inl e ↦ (made-data s t i bytes (subst (λ x. MadeOf s t i x 0 bytes) e m)).one
  | inr none ↦ (made-plain k s t i bytes none m).one
]

cost-few : (way : Way) (k : MsgKind) → driver_cost way k ≤ 2
cost-few Up kinds.Flush = omega arith
cost-few Up _ = omega arith
cost-few Down kinds.Flush = omega arith
cost-few Down kinds.Ioctl = omega arith
cost-few Down _ = omega arith

pub enough : (s : StoreValue) (m d : ℕ) (way : Way) (k : MsgKind) → m ≡ free_m s → d ≡ free_d s → 2 ≤ m → 2 ≤ d → HasRoom s (driver_cost way k)
enough s m d way k ms ds le_m le_d = let few = cost-few way k in record { mblks = omega arith; dblks = omega arith }

-- what is sent first is in hand
pub first-there : (s t : StoreValue) (i k : ℕ) (x : Sent) (sent more : List Sent) (ps : List (Parcel ℕ)) → IsInHand s i → IsStore t → Swaps s t i k sent ps → sent ≡ x ∷ more → IsInHand t (token x.message)
unfolding times_sent
first-there s t i k x sent more ps is st swaps first =
    let n = token x.message in
    let c = swaps.hands.counts n in
    let there = (can-of s i is).apart n in
    let all = ap (times_sent n) first in
    let o = once-self n in
    let few = st.apart n in
    omega arith
