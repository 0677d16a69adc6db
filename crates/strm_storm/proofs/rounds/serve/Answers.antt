use Rattle.std.proofs.Common.{◌≡◌, ◌∙◌}
use Rattle.strm_storm.specs.Rounds.{IsRoundAt, Settles}
use Rattle.strm_storm.proofs.Calls.{if-ok, round-at}
use Rattle.strm_storm.proofs.rounds.serve.Goals as goal

pub returns : goal.returns
returns g c =
    let o = c.in_ok-master.ensures in
    let wrote = c.in_ok-write.ensures.asks in
    let system = c.args.system.now in
    let master = c.write.new.end in
    let slave = c.read.new.end in
    if-ok (λ r. (r.1 ≡ master.pair) × Settles system master slave r.0.settled r.0.visit) (λ r. (r.1 ≡ c.args.minor) × IsRoundAt system c.args.minor r.0.settled r.0.visit)
    (λ r s. (s.0 ∙ wrote.pair ∙ o.pair, round-at system c.args.minor c.in_ok-master.field-0.master c.in_ok-master.field-0.slave master slave r.0.settled r.0.visit o wrote c.in_ok-read.ensures.asks c.write.ensures.one s.1))
    c.settled.result c.settled.ensures
