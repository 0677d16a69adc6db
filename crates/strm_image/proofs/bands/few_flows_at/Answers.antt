use Rattle.strm_image.proofs.Prelude.{◌≡◌, ◌<◌, ◌∙◌, arith, length, map, refl, sym, take, length-set, map_push, take_all, take_more_set}
use Rattle.std.proofs.lemmas.List.Elements.{All-replicate, All-set}
use Rattle.strm_image.specs.declared.versions.TheConstants.{FIRST_BANDS}
use Rattle.strm_image.specs.FlowTexts.{IsMarked, flow_now}
use Rattle.strm_image.specs.Format.{always, at_end, keep}
use Rattle.strm_image.specs.Queues.{flow, few_flows}
use Rattle.strm_image.proofs.Formats.{gather_all, gather_done, gather_more, gather_refused}
use Rattle.strm_image.proofs.bands.few_flows_at.Goals as goal

pub loop-i-preserved : goal.loop-i-preserved
loop-i-preserved c =
    let within : c.loop-i.i < length c.loop-i.flows = rw c.loop-i.invariant.long c.loop-i-test.true in
    record {
      told = rw (take_more_set c.loop-i.flows c.loop-i.i c.in_ok-flow.flow within, map_push flow_now (take c.loop-i.i c.loop-i.flows) c.in_ok-flow.flow) (gather_more keep (always flow) at_end (map flow_now (take c.loop-i.i c.loop-i.flows)) tt FIRST_BANDS c.loop-i.i c.loop-i.rest.now (flow_now c.in_ok-flow.flow, c.in_ok-flow.after.now) _ c.loop-i-test.true c.in_ok-flow.ensures.read c.loop-i.invariant.told);
      marked = All-set IsMarked c.loop-i.flows c.loop-i.i c.in_ok-flow.flow c.in_ok-flow.ensures.marked c.loop-i.invariant.marked;
      long = length-set c.loop-i.flows c.loop-i.i c.in_ok-flow.flow ∙ c.loop-i.invariant.long;
    }

pub returns-in_err-flow-clause-read : goal.returns-in_err-flow-clause-read
unfolding few_flows
returns-in_err-flow-clause-read c = rw c.from_residual.ensures (sym (gather_all keep (always flow) tt FIRST_BANDS c.args.text.now) ∙ gather_refused keep (always flow) at_end (map flow_now (take c.loop-i.i c.loop-i.flows)) tt FIRST_BANDS c.loop-i.i c.loop-i.rest.now _ c.loop-i-test.true c.in_err-flow.ensures.read c.loop-i.invariant.told)

pub returns-clause-read : goal.returns-clause-read
unfolding few_flows
returns-clause-read c =
    let all : take c.loop-i.i c.loop-i.flows ≡ c.loop-i.flows = take_all c.loop-i.i c.loop-i.flows (omega (arith, c.loop-i.invariant.long, c.loop-i-test.false)) in
    sym (gather_all keep (always flow) tt FIRST_BANDS c.args.text.now) ∙ gather_done keep (always flow) at_end (map flow_now c.loop-i.flows) tt FIRST_BANDS c.loop-i.i c.loop-i.rest.now _ c.loop-i-test.false (rw all at c.loop-i.invariant.told)

pub loop-i-init : goal.loop-i-init
loop-i-init c = record { told = refl; marked = All-replicate IsMarked FIRST_BANDS _ (record { some = omega arith; order = omega arith }); long = refl }

pub returns-in_err-flow-clause-marked : goal.returns-in_err-flow-clause-marked
returns-in_err-flow-clause-marked c = rw c.from_residual.ensures tt

pub returns-clause-marked : goal.returns-clause-marked
returns-clause-marked c = c.loop-i.invariant.marked
