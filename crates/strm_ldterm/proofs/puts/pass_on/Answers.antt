-- The message is sent on, and nothing else happens.
use Rattle.std.proofs.Common.{refl}
use Rattle.strm_ldterm.proofs.Steps.{passes-does}
use Rattle.strm_ldterm.proofs.puts.pass_on.Goals as goal

pub returns : goal.returns
returns c = λ s x f held chain.
    passes-does s x (record { to = c.toward.result; message = c.args.message }) _ f c.args.here _ held chain c.toward.ensures c.one.ensures refl
