-- All have the marks of the last one, and then one more its own.
use Rattle.strm_pair.proofs.Prelude.{◌≡◌, ◌-◌, ◌+◌, suc, map, ap, arith, refl, ◌∙◌}
use Rattle.strm_pair.specs.Prelude.{BANDS, plain_flows, flow_now, behind_last}
use Rattle.strm_pair.proofs.FlowsSet.{all-marked, few-long, few-set, next-free, next-set, so_far}
use Rattle.strm_pair.proofs.images.made_queues.set_few.Goals as goal

pub loop-band-init : goal.loop-band-init
loop-band-init c =
    let few = c.in-Some.found.0 in
    record {
      flows = all-marked c.args.flows.now.queue (plain_flows c.args.queue.now.flows) (plain_flows c.mark_bands.new.self.flows) few _ c.requires.new c.mark_bands.ensures.flows (few-long few c.args.flows.now.text.now c.in-Some.found.1.now c.in-Some.ensures.read);
      counted = c.mark_bands.ensures.counted;
      others = c.mark_bands.ensures.others;
    }

pub set_flow-requires-clause-free : goal.set_flow-requires-clause-free
set_flow-requires-clause-free c =
    let few = c.in-Some.found.0 in
    let behind = behind_last (map flow_now few) in
    let left : BANDS - c.loop-band.band ≡ suc (BANDS - (c.loop-band.band + 1)) = omega (arith, c.loop-band-test.true) in
    let long = few-long few c.args.flows.now.text.now c.in-Some.found.1.now c.in-Some.ensures.read in
    next-free few behind refl (plain_flows c.loop-band.queue.flows) c.loop-band.band (BANDS - (c.loop-band.band + 1)) (c.loop-band.invariant.flows ∙ ap (so_far (map flow_now few) behind c.loop-band.band) left) (omega (arith, c.loop-band-test.true, long))

pub loop-band-preserved : goal.loop-band-preserved
loop-band-preserved c =
    let few = c.in-Some.found.0 in
    let behind = behind_last (map flow_now few) in
    let left : BANDS - c.loop-band.band ≡ suc (BANDS - (c.loop-band.band + 1)) = omega (arith, c.loop-band-test.true) in
    let long = few-long few c.args.flows.now.text.now c.in-Some.found.1.now c.in-Some.ensures.read in
    record {
      flows = next-set few behind refl (plain_flows c.loop-band.queue.flows) c.loop-band.band (BANDS - (c.loop-band.band + 1))
          (c.loop-band.invariant.flows ∙ ap (so_far (map flow_now few) behind c.loop-band.band) left)
          (omega (arith, c.loop-band-test.true, long)) (plain_flows c.set_flow.new.queue.flows) _ c.set_flow.ensures.flows;
      counted = λ q is. c.set_flow.ensures.counted q (c.loop-band.invariant.counted q is);
      others = record {
        list = c.set_flow.ensures.others.list ∙ c.loop-band.invariant.others.list;
        want_read = c.set_flow.ensures.others.want_read ∙ c.loop-band.invariant.others.want_read;
        no_enable = c.set_flow.ensures.others.no_enable ∙ c.loop-band.invariant.others.no_enable;
      };
    }

pub returns-clause-flows : goal.returns-clause-flows
returns-clause-flows c =
    let few = c.in-Some.found.0 in
    let all : c.loop-band.band ≡ 8 = omega (arith, c.loop-band-test.false, c.loop-band.auto.band-end) in
    few-set c.args.flows.now c.requires.version few c.in-Some.found.1.now (plain_flows c.loop-band.queue.flows) c.loop-band.band (BANDS - c.loop-band.band) c.in-Some.ensures.read
    (few-long few c.args.flows.now.text.now c.in-Some.found.1.now c.in-Some.ensures.read) c.loop-band.invariant.flows all (omega (arith, all))
