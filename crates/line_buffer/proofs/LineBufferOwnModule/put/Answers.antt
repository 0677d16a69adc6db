-- The message goes on, and all else stays.
use Rattle.line_buffer.proofs.LineBufferOwnModule.put.Goals as goal

pub returns : goal.returns
returns g c = c.pass_on.ensures _ _ _ _ c.requires.may
