use Rattle.strm_ldterm.proofs.Turned.{down-between, down-quiet, down-rests}
use Rattle.strm_ldterm.specs.Stands.{paired}
use Rattle.strm_ldterm.proofs.service_calls.serve.Goals as goal

pub serve_output-requires-clause-rests : goal.serve_output-requires-clause-rests
serve_output-requires-clause-rests g c = down-rests (g.B.Blocks.value c.args.store.now) (paired c.args.ldterm.now c.args.queues.now) c.args.here.way c.args.again c.requires.turn c.in-Down.is c.requires.held

pub serve_output-requires-clause-stage : goal.serve_output-requires-clause-stage
serve_output-requires-clause-stage g c = down-between (g.B.Blocks.value c.args.store.now) (paired c.args.ldterm.now c.args.queues.now) c.args.here.way c.args.again c.requires.turn c.in-Down.is

pub returns-in-Down : goal.returns-in-Down
returns-in-Down g c = c.serve_output.ensures c.args.again

pub serve_output-requires-clause-quiet : goal.serve_output-requires-clause-quiet
serve_output-requires-clause-quiet g c = down-quiet (g.B.Blocks.value c.args.store.now) (paired c.args.ldterm.now c.args.queues.now) c.args.here.way c.args.again c.requires.turn c.in-Down.is
