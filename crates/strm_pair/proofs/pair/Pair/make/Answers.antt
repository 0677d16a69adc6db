-- The verdict decides.
use Rattle.strm_pair.proofs.Prelude.{sym, ◌∙◌, refl}
use Rattle.strm_pair.specs.Prelude.{request, call_refused, stop_of}
use Rattle.strm_pair.proofs.Refusing.{judged-allowed, judged-refused, judged-stopped}
use Rattle.strm_pair.proofs.pair.Pair.make.Goals as goal

pub returns-in-Refused : goal.returns-in-Refused
returns-in-Refused g c =
    let K = g.M.Behaves.does in
    let p = c.args.self.now in
    let asked = request c.args.event.now in
    let is = judged-refused c.in-Refused.refusal (call_refused K p c.args.caller asked) (stop_of p.state c.args.caller asked) (sym c.verdict.ensures ∙ c.in-Refused.is) in
    record { refused = rw is (refl, (refl, refl)); adds = tt; filled = tt; parts = tt }

pub returns-in-Stopped : goal.returns-in-Stopped
returns-in-Stopped g c =
    let K = g.M.Behaves.does in
    let p = c.args.self.now in
    let asked = request c.args.event.now in
    let is = judged-stopped c.in-Stopped.signal (call_refused K p c.args.caller asked) (stop_of p.state c.args.caller asked) (sym c.verdict.ensures ∙ c.in-Stopped.is) in
    record { refused = rw is.0 refl; adds = c.stop.ensures.adds; filled = c.stop.ensures.filled; parts = c.stop.ensures.parts }

pub returns-in-Allowed : goal.returns-in-Allowed
returns-in-Allowed g c =
    let K = g.M.Behaves.does in
    let p = c.args.self.now in
    let asked = request c.args.event.now in
    let is = judged-allowed (call_refused K p c.args.caller asked) (stop_of p.state c.args.caller asked) (sym c.verdict.ensures ∙ c.in-Allowed.is) in
    record { refused = rw is.0 refl; adds = c.perform.ensures.adds; filled = c.perform.ensures.filled; parts = c.perform.ensures.parts }
