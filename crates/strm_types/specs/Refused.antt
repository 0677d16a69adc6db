-- What refusals are told by: the first of two that holds, a condition, a band, whether data stands on a queue, and the blocks of a turn.
use Rattle.std.specs.List.{list_any}
use Rattle.std.specs.Prelude.{ℕ, Bool, true, false, not, List, Option, None, Some}
use Rattle.strm_types.specs.declared.refusals.Refusal.{Refusal}
use Rattle.strm_types.specs.declared.limits.TheConstants.{STOP_BLOCKS, TURN_BLOCKS}
use Rattle.strm_types.specs.declared.names.Place.{Place}
use Rattle.strm_types.specs.declared.names.Place.TheVariants as places
use Rattle.strm_types.specs.Message.{Message, is_held}

-- the first refusal, else the second
abbrev pub or_else : Option Refusal → Option Refusal → Option Refusal
or_else None second = second
or_else (Some first) second = Some first

-- a refusal unless a condition holds
abbrev pub unless : Bool → Refusal → Option Refusal
unless true refusal = None
unless false refusal = Some refusal

-- how many blocks of each kind have to be free for a turn of a queue at a place: the service procedure of a module may make messages of
-- what it treats
abbrev pub turn_blocks : Place → ℕ
turn_blocks places.Driver = TURN_BLOCKS
turn_blocks places.Head = TURN_BLOCKS
turn_blocks (places.Module name) = STOP_BLOCKS

module _ {C : Type 0} where
  -- no message of data stands on a queue
  abbrev pub has_no_data : List (Message C) → Bool
  has_no_data ms = not (list_any (λ m. is_held m.kind) ms)
