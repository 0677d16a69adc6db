use Rattle.strm_tests.proofs.head.steps.arrives.Goals as goal

pub returns : goal.returns
returns g c = record { ready = c.put.ensures.changes.ready; readable = c.put.ensures.readable }
