use Rattle.std.proofs.Common.{◌≡◌, false, sym, ◌∙◌}
use Rattle.strm_types.specs.Echo.{is_control}
use Rattle.strm_ldterm.proofs.Marks.{all-more}
use Rattle.strm_ldterm.proofs.Pouring.{not-false}
use Rattle.strm_ldterm.proofs.graphic.graphic_end.Goals as goal

pub loop-at-preserved : goal.loop-at-preserved
loop-at-preserved c = all-more (λ b. is_control b ≡ false) c.args.bytes.now c.loop-at.at c.loop-at-test.true c.loop-at.invariant
    (not-false _ (sym c.is_graphic.ensures ∙ c.if-not-is_graphic.false))
