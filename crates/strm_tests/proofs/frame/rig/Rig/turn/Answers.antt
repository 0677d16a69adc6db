-- What is asked changes nothing, and a writer that waits leaves each queue on its list.
use Rattle.std.proofs.Common.{◌∙◌, arith}
use Rattle.strm_tests.proofs.frame.rig.Rig.turn.Goals as goal

pub asks-requires : goal.asks-requires
asks-requires g c =
    let two = c.requires.rest.are.two in
    let within = c.requires.within in
    rw c.disable.ensures (omega arith, (c.requires.inside, (omega arith, c.requires.rest.are.held)))

pub can_pass-requires : goal.can_pass-requires
can_pass-requires g c = rw c.disable.ensures (omega arith, c.requires.rest.are.held)

pub end_turn-requires-then-eq-clause-rest : goal.end_turn-requires-then-eq-clause-rest
end_turn-requires-then-eq-clause-rest g c = record {
  are = record {
    held = c.let_wait_past.ensures.does.held (g.B.Blocks.value c.args.store.now) (rw c.disable.ensures c.requires.rest.are.held);
    two = c.let_wait_past.ensures.length ∙ (rw c.disable.ensures c.requires.rest.are.two);
  };
  hand = c.requires.rest.hand;
}
