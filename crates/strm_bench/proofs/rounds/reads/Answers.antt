use Rattle.std.proofs.Common.{◌≤◌, length, sym, subst}
use Rattle.std.specs.Bool.{OnTrue}
use Rattle.strm_bench.proofs.ReadMost.{read-most}
use Rattle.strm_bench.proofs.rounds.reads.Goals as goal

pub returns : goal.returns
returns g c =
    subst (λ b. OnTrue b (length c.read.new.out.items ≤ c.args.n)) (sym c.is_ok.ensures.value)
    (read-most _ _ _ c.args.n _ c.read.result c.read.ensures.adds c.read.ensures.filled)
