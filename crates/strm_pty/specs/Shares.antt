-- A payload that two messages show over one data block (dupb(9F)).
use Rattle.std.specs.Prelude.{ℕ, ◌≡◌, ◌≢◌, ◌<◌, ◌+◌, List, [], ◌∷◌, length, drop}
use Rattle.strm_pty.specs.Prelude.{Parcel, Block, StoreValue, IsInHand, block_at, free_m, in_hand, references, token, Sent, once, Shifts, times_sent}
use Rattle.strm_pty.specs.Prelude.{parcels_in, AreChains}

-- A message may be parted: its payload is one block behind a header of 16 bytes, another message block may name the payload's data block (datab(9S):
-- db_ref is a byte), and one is free for it.
pub record CanPart (s : StoreValue) (message : ℕ) : Type 0 where
  pub two : length (in_hand s message) ≡ 2
  pub sixteen : length (block_at 0 (in_hand s message)).bytes ≡ 16
  pub few : references s (block_at 1 (in_hand s message)).number < 255
  pub some : 0 < free_m s

-- One that may not be is as it was, and so is all else.
pub record Unparted (old new : StoreValue) (message same : ℕ) : Type 0 where
  pub never : CanPart old message → ⊥
  pub kept : new ≡ old
  pub name : same ≡ message

-- Where two messages are sent, or more, the first two have these blocks behind their first one: the same message blocks by what they show and by the
-- data blocks that they name, and no copies.
abbrev pub BothCarry : StoreValue → List Block → List Sent → Type 0
BothCarry s blocks [] = Unit {0}
BothCarry s blocks (only ∷ []) = Unit {0}
BothCarry s blocks (first ∷ second ∷ more) =
    (drop 1 (in_hand s (token first.message)) ≡ blocks) × (drop 1 (in_hand s (token second.message)) ≡ blocks)

-- two messages in hand of one block each, the same one
pub record AreShared (s : StoreValue) (first second : ℕ) : Type 0 where
  pub first_in : IsInHand s first
  pub second_in : IsInHand s second
  pub apart : first ≢ second
  pub payload : Block
  pub first_is : in_hand s first ≡ payload ∷ []
  pub second_is : in_hand s second ≡ payload ∷ []

-- A message of a header of 16 bytes and of a payload in one block has gone, and its payload is in hand twice. As many blocks of each kind are free at least.
pub record Parts (old new : StoreValue) (message first second : ℕ) : Type 0 where
  pub lists : new.lists ≡ old.lists
  pub hands : Shifts old new (once message) (λ i. once first i + once second i) 0
  pub shared : AreShared new first second
  pub header : Block
  pub were : in_hand old message ≡ header ∷ shared.payload ∷ []
  pub sixteen : length header.bytes ≡ 16

-- Two messages in hand have gone, and others were made.
pub record SendsBoth (old new : StoreValue) (first second : ℕ) (made : List Sent) (parcels : List (Parcel ℕ)) : Type 0 where
  pub lists : new.lists ≡ old.lists
  pub hands : Shifts old new (λ i. once first i + once second i) (λ i. times_sent i made) 2
  pub sent : parcels_in new made ≡ parcels
  pub chains : AreChains new made
