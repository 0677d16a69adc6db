use Rattle.strm_script.proofs.script.run_script.Goals as goal

pub returns : goal.returns
returns g c = rw c.end_of.ensures c.serve-status.ensures
