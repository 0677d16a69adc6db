-- A module of a user's own, as it stands on a stream: its number, and the bytes that it is set to, which it may change as messages are put at it
-- (STREAMS Programming Guide, "Modules"; "Private Data"). What queues it has are its stream's.
use Rattle.std.specs.Prelude.{ℕ, List}

pub record Own : Type 0 where
  pub number : ℕ
  pub settings : List ℕ
