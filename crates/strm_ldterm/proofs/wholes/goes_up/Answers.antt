-- The message in work is in hand.
use Rattle.strm_ldterm.proofs.Prelude.{subst, IfSome}
use Rattle.strm_ldterm.specs.Prelude.{token}
use Rattle.strm_ldterm.specs.Stands.{IsData}
use Rattle.strm_ldterm.proofs.Beside.{chain-in-hand}
use Rattle.strm_ldterm.proofs.wholes.goes_up.Goals as goal

pub is_free_for-requires-clause-in_hand : goal.is_free_for-requires-clause-in_hand
is_free_for-requires-clause-in_hand g c =
    let s = g.B.Blocks.value c.args.store.now in
    let is : IsData s (token c.in-Some.message) = subst (λ o. IfSome o (λ m. IsData s (token m))) c.in-Some.is c.requires.is in
    chain-in-hand s (token c.in-Some.message) c.audit.ensures is.chain.some
