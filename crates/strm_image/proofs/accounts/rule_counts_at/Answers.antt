use Rattle.strm_image.proofs.Prelude.{◌≡◌, ◌<◌, ◌∙◌, arith, length, sym, take, length-set, take_all, take_more_set}
use Rattle.strm_image.specs.Prelude.{RULES}
use Rattle.strm_image.specs.Format.{always, at_end, keep, u64}
use Rattle.strm_image.specs.Image.{rule_counts}
use Rattle.strm_image.proofs.Formats.{gather_all, gather_done, gather_more, gather_refused}
use Rattle.strm_image.proofs.accounts.rule_counts_at.Goals as goal

pub loop-i-preserved : goal.loop-i-preserved
loop-i-preserved c =
    let within : c.loop-i.i < length c.loop-i.counts = rw c.loop-i.invariant.long c.loop-i-test.true in
    record {
      told = rw (take_more_set c.loop-i.counts c.loop-i.i c.in_ok-count.count within) (gather_more keep (always u64) at_end (take c.loop-i.i c.loop-i.counts) tt RULES c.loop-i.i c.loop-i.rest.now (c.in_ok-count.count, c.in_ok-count.after.now) _ c.loop-i-test.true c.in_ok-count.ensures c.loop-i.invariant.told);
      long = length-set c.loop-i.counts c.loop-i.i c.in_ok-count.count ∙ c.loop-i.invariant.long;
    }

pub returns-in_err-count : goal.returns-in_err-count
unfolding rule_counts
returns-in_err-count c = rw c.from_residual.ensures (sym (gather_all keep (always u64) tt RULES c.args.text.now) ∙ gather_refused keep (always u64) at_end (take c.loop-i.i c.loop-i.counts) tt RULES c.loop-i.i c.loop-i.rest.now _ c.loop-i-test.true c.in_err-count.ensures c.loop-i.invariant.told)

pub returns : goal.returns
unfolding rule_counts
returns c =
    let all : take c.loop-i.i c.loop-i.counts ≡ c.loop-i.counts = take_all c.loop-i.i c.loop-i.counts (omega (arith, c.loop-i.invariant.long, c.loop-i-test.false)) in
    sym (gather_all keep (always u64) tt RULES c.args.text.now) ∙ gather_done keep (always u64) at_end c.loop-i.counts tt RULES c.loop-i.i c.loop-i.rest.now _ c.loop-i-test.false (rw all at c.loop-i.invariant.told)
