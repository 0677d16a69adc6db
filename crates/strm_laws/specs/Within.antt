-- That what a stream head keeps has a bounded size: the signals that wait, and the answer of the ioctl under way.
use Rattle.std.specs.Prelude.{◌≤◌, length}
use Rattle.strm_laws.specs.Prelude.{IOCTL_MAX, AllSides, answer_bytes, Head}
use Rattle.strm_types.specs.Signals.{AreSignals}
use Rattle.strm_laws.specs.State.{State}

-- each signal waits once, and the answer has at most 256 bytes
pub record IsWithin {C : Type 0} (h : Head C) : Type 0 where
  pub signals : AreSignals h.signals
  pub answer : length (answer_bytes h.ioctl) ≤ IOCTL_MAX

-- at both sides
abbrev pub AreWithin : {C : Type 0} → State C → Type 0
AreWithin s = AllSides (λ side t. IsWithin t.head) s.ends
