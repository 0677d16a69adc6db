-- What a side of a pair is ready for (poll(2)): what its calls would be told as the state is.
use Rattle.std.specs.Prelude.{Bool, true, false, not, ◌==◌, [], length, Option, Some}
use Rattle.strm_pair.specs.Prelude.{Write, Side, Refusal, Slot, Answered, is_open, unfit, State, stream, Behaviour}
use Rattle.strm_types.specs.declared.events.Event.TheVariants.{Get, Read}
use Rattle.strm_types.specs.declared.modes.Wanted.TheVariants.{Any}
use Rattle.strm_types.specs.declared.refusals.Refusal.TheVariants.{Eagain}
use Rattle.strm_types.specs.JobControl.{caller_of}
use Rattle.strm_pair.specs.declared.readiness.Ready.{Ready}

-- a call would have to wait
abbrev pub is_eagain : Option Refusal → Bool
is_eagain (Some Eagain) = true
is_eagain _ = false

-- an ioctl was answered, and its answer wasn't given
abbrev pub is_answered : {A : Type 0} → Slot A → Bool
is_answered (Answered number command acked error body) = true
is_answered _ = false

module _ {C : Type 0} where
  -- The state doesn't make a call of a side wait: a read of a byte, which waits where one of more does, a get of any message, a write.
  abbrev pub readiness : (K : Behaviour) → Side → State C → Ready
  readiness K side s =
      let t = stream side s in
      record {
        opened = is_open t.opened;
        reads = not (is_eagain (unfit K s (caller_of side) (Read 1)));
        gets = not (is_eagain (unfit K s (caller_of side) (Get Any 0 0)));
        writes = not (is_eagain (unfit K s (caller_of side) (Write [])));
        signals = not (length t.head.signals == 0);
        answered = is_answered t.head.ioctl;
        hung_up = t.head.hung_up;
      }
