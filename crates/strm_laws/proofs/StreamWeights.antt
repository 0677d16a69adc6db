-- What a pair weighs where another stream stands on a side.
use Rattle.strm_laws.proofs.Prelude.{◌≡◌, ◌+◌, Bool, arith}
use Rattle.strm_laws.specs.Prelude.{Dir, Side, Master, Slave}
use Rattle.strm_laws.specs.Kept.{state_weight, stream_weight}
use Rattle.strm_laws.specs.State.{State, Stream, stream, with_stream}

module _ {C : Type 0} (p : Dir → C → Bool) where
  pub stream-weighs : (side : Side) (t : Stream C) (s : State C) → state_weight p (with_stream side t s) + stream_weight p side (stream side s) ≡ state_weight p s + stream_weight p side t
  stream-weighs Master t s = omega arith
  stream-weighs Slave t s = omega arith

  pub same-weighs : (side : Side) (t : Stream C) (s : State C) → stream_weight p side t ≡ stream_weight p side (stream side s) → state_weight p (with_stream side t s) ≡ state_weight p s
  same-weighs side t s same = omega (arith, stream-weighs side t s, same)
