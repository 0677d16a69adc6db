use Rattle.strm_pair.specs.Prelude.{request, call_refused}
use Rattle.strm_pair.proofs.Refusing.{allowed-over, refused-over}
use Rattle.strm_pair.proofs.pair.Pair.apply.Goals as goal

pub returns-in-Err-clause-refused : goal.returns-in-Err-clause-refused
returns-in-Err-clause-refused g c = refused-over _ _ _ _ (call_refused g.M.Behaves.does c.args.self.now c.args.caller (request c.args.event.now)) c.in-Err.refusal c.in-Err.ensures.refused

pub returns-in-Ok-clause-refused : goal.returns-in-Ok-clause-refused
returns-in-Ok-clause-refused g c = allowed-over _ _ _ _ (call_refused g.M.Behaves.does c.args.self.now c.args.caller (request c.args.event.now)) c.in-Ok.answer c.own.result c.in-Ok.ensures.refused
