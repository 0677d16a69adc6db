use Rattle.std.proofs.Common.{append_assoc, refl}
use Rattle.strm_image.specs.Modules.{termios}
use Rattle.strm_image.proofs.SinkRows.{put_both}
use Rattle.strm_image.proofs.writing.modules.put_termios.Goals as goal

pub returns : goal.returns
unfolding termios
returns c = rw (c.put.ensures, c.put_u32-4.ensures, c.put_u32-3.ensures, c.put_u32-2.ensures, c.put_u32.ensures) (simp (put_both, append_assoc) refl)
