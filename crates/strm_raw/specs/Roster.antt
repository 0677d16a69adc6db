-- The roster of a raw store, which proofs alone know: which message blocks and data blocks are free, and which chains stand where.
use Rattle.std.specs.Prelude.{ℕ, List}
use denote.RawPtr.{Ptr}

-- a message: the number of its first block, and those of the others in the order of b_cont
pub record Msg : Type 0 where
  pub head : ℕ
  pub tail : List ℕ

-- where the message blocks and the data blocks begin, of both kinds the free ones that are made, in the order of their links, the lists, and
-- the messages in hand, newest first
pub record Roster : Type 0 where
  pub mat : Ptr
  pub dat : Ptr
  pub free_m : List ℕ
  pub free_d : List ℕ
  pub lists : List (List Msg)
  pub hand : List Msg
