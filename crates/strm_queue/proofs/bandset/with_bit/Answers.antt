-- One bit is set or cleared.
use Rattle.std.proofs.Common.{sym, ap, ◌∙◌, w64}
use Rattle.std.specs.Prelude.{◌==◌}
use Rattle.std.proofs.lemmas.Nat.Bits.{bit_at_set_same, bit_at_set_other, bit_at_clear_same, bit_at_clear_other}
use Rattle.strm_queue.proofs.bandset.with_bit.Goals as goal

pub returns-then-set-clause-here : goal.returns-then-set-clause-here
returns-then-set-clause-here c = ap (λ b. b == 1) (bit_at_set_same w64 c.args.word c.args.at c.requires) ∙ sym c.if-set.true

pub returns-then-set-clause-others : goal.returns-then-set-clause-others
returns-then-set-clause-others c = λ i within apart. ap (λ b. b == 1) (bit_at_set_other w64 c.args.word c.args.at c.requires i apart)

pub returns-else-set-clause-here : goal.returns-else-set-clause-here
returns-else-set-clause-here c = ap (λ b. b == 1) (bit_at_clear_same w64 c.args.word c.args.at c.requires) ∙ sym c.if-set.false

pub returns-else-set-clause-others : goal.returns-else-set-clause-others
returns-else-set-clause-others c = λ i within apart. ap (λ b. b == 1) (bit_at_clear_other w64 c.args.word c.args.at c.requires i within apart)
