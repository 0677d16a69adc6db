use Rattle.std.proofs.Common.{List, ℕ, ◌≤◌, length, subst, sym}
use Rattle.strm_ldterm.specs.Echoes.{MayLeave}
use Rattle.strm_types.proofs.EchoSizes.{echo-few}
use Rattle.strm_ldterm.proofs.echoes.echo_of.Goals as goal

pub returns-clause-few : goal.returns-clause-few
returns-clause-few c = λ after left.
    let may = subst (λ (l : List ℕ). MayLeave c.args.stroke.key l after) (sym c.bytes.ensures.value) left in
    subst (λ (bytes : List ℕ). length bytes ≤ 6120) (sym (c.echo_by.ensures after may))
    (echo-few c.args.termios.now c.args.stroke.key c.bytes.result.now after c.args.stroke c.bytes.ensures.few)
