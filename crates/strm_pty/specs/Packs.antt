-- The module pckt beside a store: what it stands for, and what a put at it did (pckt(7M)).
use Rattle.std.specs.Prelude.{ℕ, ◌≡◌, true}
use Rattle.strm_pty.specs.Prelude.{Fates, Spot, Acted, tallied, Message, is_held, StoreValue, in_hand, message_of, IsChain, FreesNone, Acts, once}
use Rattle.strm_pty.specs.Prelude.{Shifts, sent_of}
use Rattle.strm_types.specs.Cells as cells
use Rattle.strm_types.specs.Pckts as plain
use Rattle.strm_pty.specs.Does.{Swaps}

-- it stands for one that is set to nothing, whatever the store holds
abbrev pub pckt_in : plain.Pckt
pckt_in = record {}

-- the packet of a message of plain bytes, whatever was made before
abbrev pub packet_of : Spot → Message ℕ → Message ℕ
packet_of here m = plain.packet cells.plain 0 here m

-- what a put does over plain bytes
abbrev pub puts : Spot → Message ℕ → plain.Pckt → Acted ℕ plain.Pckt
puts here m p = plain.pckt_puts cells.plain 0 here m

-- A message in hand became another one, which takes one block of each kind more at most. No block of an M_DATA or M_PROTO has become free.
pub record Becomes (old new : StoreValue) (message packet : ℕ) (is : Message ℕ) : Type 0 where
  pub lists : new.lists ≡ old.lists
  pub hands : Shifts old new (once message) (once packet) 1
  pub blocks : is_held (message_of (in_hand old message)).kind ≡ true → FreesNone old new
  pub chain : IsChain (in_hand new packet)
  pub shows : message_of (in_hand new packet) ≡ is

-- A put did what a definition says: `message` has gone, and what is sent on has come in hand. No list of the store changed, and no more than so many
-- blocks of each kind were taken. An M_DATA or M_PROTO frees none.
pub record Packs (old new : StoreValue) (message takes : ℕ) (acts : Acts) (t t' : Fates) (is : Acted ℕ plain.Pckt) : Type 0 where
  pub notes : acts.notes.items ≡ is.notes
  pub told : t' ≡ tallied is.gone t
  pub swaps : Swaps old new message takes (sent_of acts.sent) is.sent
  pub blocks : is_held (message_of (in_hand old message)).kind ≡ true → FreesNone old new
