-- Each block was looked at.
use Rattle.std.proofs.Common.{◌≡◌, ◌<◌, length, inl, inr, subst, arith}
use Rattle.std.proofs.lemmas.Bool.{cases_lt}
use Rattle.strm_blocks.specs.Blocks.{in_hand, block_at, token}
use Rattle.strm_msg.proofs.Filled.{all-filled, some-emptied}
use Rattle.strm_msg.proofs.emptied.all_show.Goals as goal

pub loop-at-preserved : goal.loop-at-preserved
loop-at-preserved g c = λ k less.
    let chain = in_hand (g.B.Blocks.value c.args.store.now) (token c.args.message.now) in
    elim (cases_lt k c.loop-at.at) [
      | inl before ↦ c.loop-at.invariant k before
      | inr from ↦
          (let here : c.loop-at.at ≡ k = omega (arith, less, from) in
          subst (λ n. 0 < length (block_at n chain).bytes) here (omega (arith, c.block_len.ensures.count, c.if-block_len-eq0.false)))
    ]

pub returns-clause-all : goal.returns-clause-all
returns-clause-all g c =
    all-filled (in_hand (g.B.Blocks.value c.args.store.now) (token c.args.message.now))
    (λ k less. c.loop-at.invariant k (omega (arith, less, c.blocks-at-end.ensures.count, c.loop-at-test.false)))

pub returns-then-block_len-eq0-clause-some : goal.returns-then-block_len-eq0-clause-some
returns-then-block_len-eq0-clause-some g c =
    some-emptied c.loop-at.at (in_hand (g.B.Blocks.value c.args.store.now) (token c.args.message.now))
    (omega (arith, c.loop-at-test.true, c.blocks-at-end.ensures.count)) (omega (arith, c.block_len.ensures.count, c.if-block_len-eq0.true))
