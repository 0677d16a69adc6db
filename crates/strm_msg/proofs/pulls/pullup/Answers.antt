use Rattle.std.proofs.Common.{◌≡◌, ◌∙◌, Some, arith, ap, sym, rules, w64}
use mir.Val.{SFits}
use Rattle.std.proofs.lemmas.Int.{to_z-of_z}
use Rattle.strm_blocks.specs.Blocks.{in_hand, token}
use Rattle.strm_msg.specs.Pulled.{asked_of}
use Rattle.strm_msg.proofs.Joining.{run-within, asked-enough, joined-in_hand, pulled-up}
use Rattle.strm_msg.proofs.pulls.pullup.Goals as goal

pub join-requires-clause-enough : goal.join-requires-clause-enough
join-requires-clause-enough g c =
    let chain = in_hand (g.B.Blocks.value c.args.store.now) (token c.args.message) in
    let fits : SFits w64 c.args.n = search rules in
    let asked : asked_of c.args.n c.run_at-run.result.len ≡ Some c.in-Ok.count = ap (λ z. asked_of z c.run_at-run.result.len) (sym (to_z-of_z w64 c.args.n fits)) ∙ c.in-Ok.ensures.0 in
    let enough = asked-enough c.args.n chain c.in-Ok.count c.run_at-run.ensures.len asked in
    let within = run-within chain in
    omega arith

pub drop_joined-requires : goal.drop_joined-requires
drop_joined-requires g c = joined-in_hand (token c.args.message) c.in-Ok.count c.requires c.in-Ok-join.ensures c.link-whole.ensures.kept_name c.link-whole.ensures.linked

pub returns : goal.returns
returns g c =
    let fits : SFits w64 c.args.n = search rules in
    let asked : asked_of c.args.n c.run_at-run.result.len ≡ Some c.in-Ok.count = ap (λ z. asked_of z c.run_at-run.result.len) (sym (to_z-of_z w64 c.args.n fits)) ∙ c.in-Ok.ensures.0 in
    pulled-up (token c.args.message) c.in-Ok.count c.requires c.in-Ok-join.ensures c.link-whole.ensures.kept_name c.link-whole.ensures.linked c.args.n c.run_at-run.ensures.len asked c.in-Ok.ensures.1 c.drop_joined.ensures.kept_name c.drop_joined.ensures.dropped

pub returns-in-Err : goal.returns-in-Err
returns-in-Err g c = search rules steps 100000

pub returns-in-Err-join : goal.returns-in-Err-join
returns-in-Err-join g c = search rules steps 300000
