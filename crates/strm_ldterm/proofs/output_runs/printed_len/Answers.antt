use Rattle.std.proofs.Common.{◌≡◌, true, sym, ◌∙◌}
use Rattle.strm_ldterm.specs.Posting.{is_printed}
use Rattle.strm_ldterm.proofs.Marks.{all-more}
use Rattle.strm_ldterm.proofs.Pouring.{all-printed}
use Rattle.strm_ldterm.proofs.output_runs.printed_len.Goals as goal

pub loop-at-preserved : goal.loop-at-preserved
loop-at-preserved c = all-more (λ b. is_printed c.args.termios.now b ≡ true) c.args.bytes.now c.loop-at.at c.loop-at-test.true c.loop-at.invariant
    (sym c.is_printed.ensures ∙ c.if-not-is_printed.false)

pub returns-then-not-raises-clause-printed : goal.returns-then-not-raises-clause-printed
returns-then-not-raises-clause-printed c = all-printed c.args.termios.now _ (sym c.raises.ensures ∙ c.if-not-raises.true) c.graphic_len.ensures.graphic
