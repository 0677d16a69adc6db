-- What is read in order.
use Rattle.std.proofs.Common.{refl}
use Rattle.strm_image.specs.Streams.{laid}
use Rattle.strm_image.proofs.streams.stream_at.Goals as goal

pub returns-in_err-read_mode : goal.returns-in_err-read_mode
unfolding laid
returns-in_err-read_mode c = rw (c.from_residual.ensures, c.in_err-read_mode.ensures) refl

pub returns-in_err-control_mode : goal.returns-in_err-control_mode
unfolding laid
returns-in_err-control_mode c = rw (c.from_residual-in_err-control_mode.ensures, c.in_ok-read_mode.ensures, c.in_err-control_mode.ensures) refl

pub returns-in_err-bits : goal.returns-in_err-bits
unfolding laid
returns-in_err-bits c = rw (c.from_residual-in_err-bits.ensures, c.in_ok-read_mode.ensures, c.in_ok-control_mode.ensures, c.in_err-bits.ensures) refl

pub returns-in_err-signals : goal.returns-in_err-signals
unfolding laid
returns-in_err-signals c = rw (c.from_residual-in_err-signals.ensures, c.in_ok-read_mode.ensures, c.in_ok-control_mode.ensures, c.in_ok-bits.ensures, c.in_err-signals.ensures) refl

pub returns-in_err-slot : goal.returns-in_err-slot
unfolding laid
returns-in_err-slot c = rw (c.from_residual-in_err-slot.ensures, c.in_ok-read_mode.ensures, c.in_ok-control_mode.ensures, c.in_ok-bits.ensures, c.in_ok-signals.ensures, c.in_err-slot.ensures) refl

pub returns-in_err-modules : goal.returns-in_err-modules
unfolding laid
returns-in_err-modules c = rw (c.from_residual-in_err-modules.ensures, c.in_ok-read_mode.ensures, c.in_ok-control_mode.ensures, c.in_ok-bits.ensures, c.in_ok-signals.ensures, c.in_ok-slot.ensures, c.in_err-modules.ensures) refl

pub returns-in_err-head : goal.returns-in_err-head
unfolding laid
returns-in_err-head c = rw (c.from_residual-in_err-head.ensures, c.in_ok-read_mode.ensures, c.in_ok-control_mode.ensures, c.in_ok-bits.ensures, c.in_ok-signals.ensures, c.in_ok-slot.ensures, c.in_ok-modules.ensures, c.in_err-head.ensures) refl

pub returns : goal.returns
unfolding laid
returns c = rw (c.in_ok-read_mode.ensures, c.in_ok-control_mode.ensures, c.in_ok-bits.ensures, c.in_ok-signals.ensures, c.in_ok-slot.ensures, c.in_ok-modules.ensures, c.in_ok-head.ensures) refl
