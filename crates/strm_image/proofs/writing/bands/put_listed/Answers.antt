use Rattle.std.proofs.Common.{◌∙◌, ◌+◌, ◌<◌, ap, sym, arith, length}
use Rattle.strm_image.specs.FlowTexts.{flow_now}
use Rattle.strm_image.specs.Queues.{flow}
use Rattle.strm_image.specs.Sinks.{put}
use Rattle.strm_image.proofs.WrittenRows.{listed_all, listed_end, listed_put, listed_skip, rest_text}
use Rattle.strm_image.proofs.writing.bands.put_listed.Goals.{then-not-is, else-not-is}
use Rattle.strm_image.proofs.writing.bands.put_listed.Goals as goal

pub loop-i-preserved : goal.loop-i-preserved
loop-i-preserved g c =
    let first = flow_now c.args.first.now in
    let fs = g.B.Bands.flows c.args.bands.now in
    let all = c.flow-own.ensures.all in
    let within : c.loop-i.i < length fs = omega (arith, all, c.loop-i-test.true) in
    record {
      told = elim c.if-not-is.branch [
        | then-not-is w ↦
            ap (λ out. put (rest_text first (c.loop-i.i + 1) fs) out) (w.out-is ∙ (w.put_flow.ensures ∙ ap (λ out. put (flow.text (flow_now c.flow-own.result)) out) w.put_u8.ensures))
            ∙ (listed_put first (flow_now c.flow-own.result) c.loop-i.i fs c.loop-i.out within c.flow-own.ensures.flow (sym c.is.ensures ∙ w.if-not-is.true) ∙ c.loop-i.invariant.told)
        | else-not-is w ↦
            ap (λ out. put (rest_text first (c.loop-i.i + 1) fs) out) w.out-is
            ∙ (listed_skip first (flow_now c.flow-own.result) c.loop-i.i fs c.loop-i.out within c.flow-own.ensures.flow (sym c.is.ensures ∙ w.if-not-is.false) ∙ c.loop-i.invariant.told)
      ];
      up = omega (arith, c.loop-i-test.true);
      all = λ above. c.flow-own.ensures.all;
    }

pub returns : goal.returns
returns g c =
    let first = flow_now c.args.first.now in
    let fs = g.B.Bands.flows c.args.bands.now in
    let none = listed_end first c.loop-i.i c.args.end fs c.requires.none (omega (arith, c.loop-i.invariant.up, c.loop-i-test.false)) in
    listed_all first c.loop-i.i fs c.loop-i.out none ∙ c.loop-i.invariant.told
