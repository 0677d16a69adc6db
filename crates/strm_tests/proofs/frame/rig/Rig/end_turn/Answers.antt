-- The end of a turn keeps what stands there, and notes change the enabled list alone.
use Rattle.std.proofs.Common.{◌∙◌}
use Rattle.strm_tests.proofs.frame.rig.Rig.end_turn.Goals as goal

pub returns : goal.returns
returns g c =
    rw (c.note_if-2.ensures, c.note_if.ensures) (record {
      are = record { held = c.end_turn-end.ensures.does.held; two = c.end_turn-end.ensures.length ∙ c.requires.rest.are.two };
      hand = c.requires.rest.hand;
    })
