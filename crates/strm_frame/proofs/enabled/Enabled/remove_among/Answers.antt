-- The names that are kept are those of the list without the one.
use Rattle.strm_frame.proofs.Prelude.{◌∙◌, arith, refl, ap, take_all}
use Rattle.strm_frame.specs.Prelude.{without}
use Rattle.strm_types.proofs.EnabledNames.{once-without, queues-without, without-kept, without-gone}
use Rattle.strm_frame.proofs.enabled.Enabled.remove_among.Goals as goal
use Rattle.strm_frame.proofs.enabled.Enabled.remove_among.Goals.{then-not-is_same, else-not-is_same}

pub loop-other-preserved : goal.loop-other-preserved
loop-other-preserved c =
    let i = c.loop-other.other-index in
    let names = c.as_slice-other-items.result.now in
    elim c.if-not-is_same.branch [
      | then-not-is_same w ↦ record {
        rest = rw (w.rest-is, w.push.ensures.items, c.loop-other.invariant.rest, without-kept c.args.name _ names i _ c.loop-other-test.true c.is_same.ensures w.if-not-is_same.true) refl;
        few = rw w.rest-is (omega (arith, w.push.ensures.len));
      }
      | else-not-is_same w ↦ record {
        rest = rw (w.rest-is, c.loop-other.invariant.rest, without-gone c.args.name _ names i _ c.loop-other-test.true c.is_same.ensures w.if-not-is_same.false) refl;
        few = rw w.rest-is (omega arith);
      }
    ]

pub invariant_of-self : goal.invariant_of-self
invariant_of-self c =
    let whole = c.loop-other.invariant.rest ∙ ap (without c.args.name) (take_all _ _ c.loop-other-test.false ∙ c.as_slice-other-items.ensures.value) in
    let names = c.self.inside.names.items in
    rw whole (once-without names c.args.name c.self.invariant.0, queues-without names c.args.name c.self.invariant.1)
