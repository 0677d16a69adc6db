-- It takes nothing.
use Rattle.strm_ldterm.proofs.Prelude.{◌∙◌}
use Rattle.strm_ldterm.specs.Prelude.{own_at, ldterm_does, goes_on, message_in, token}
use Rattle.strm_ldterm.specs.Stands.{ldterm_in}
use Rattle.strm_ldterm.proofs.TakingUp.{does-puts}
use Rattle.strm_ldterm.proofs.answers.go_on.Goals as goal

pub returns : goal.returns
returns c = λ s x f held chain.
    let i = token c.args.message in
    let m = message_in s i in
    let did = c.pass_on.ensures s x f held chain in
    does-puts s s x x i (own_at ldterm_does c.args.here m) c.pass_on.result f f (goes_on c.args.here m (ldterm_in s x))
    (record { state = did.state; notes = did.notes ∙ c.new.ensures; sent = did.sent; told = did.told; held = did.held; own = did.own; chains = did.chains; hands = did.hands; frees = did.frees; pool = did.pool })
