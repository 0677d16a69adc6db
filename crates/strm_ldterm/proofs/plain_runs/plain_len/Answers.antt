use Rattle.std.proofs.Common.{◌≡◌, true, false, get_or, sym, ap, ◌∙◌, arith}
use Rattle.std.proofs.lemmas.List.{get_or_default}
use Rattle.strm_ldterm.proofs.Marks.{all-more}
use Rattle.strm_ldterm.proofs.plain_runs.plain_len.Goals as goal

pub loop-at-preserved : goal.loop-at-preserved
loop-at-preserved c = all-more (λ b. get_or c.args.odd.now b true ≡ false) c.args.bytes.now c.loop-at.at c.loop-at-test.true c.loop-at.invariant
    (ap (λ b. get_or c.args.odd.now b true) (sym c.from.ensures) ∙ get_or_default c.args.odd.now c.from.result true false (omega arith) ∙ c.if-odd-from.false)
