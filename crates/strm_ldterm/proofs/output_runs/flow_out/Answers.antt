use Rattle.strm_ldterm.proofs.Prelude.{inl, inr, ◌≡◌, ◌<◌, ◌+◌, ◌-◌, length, drop, take, sym, ap, subst, ◌∙◌, arith, length-drop, cases_eq, nat_tests}
use Rattle.std.proofs.Math.Seq.{take-length}
use Rattle.strm_ldterm.specs.Posting.{FlowsAs}
use Rattle.strm_ldterm.proofs.Flows.{flows-joined, flows-none, flows-some}
use Rattle.strm_ldterm.proofs.output_runs.flow_out.Goals as goal

pub loop-at-init : goal.loop-at-init
loop-at-init c = flows-none c.args.here c.args.termios.now c.args.bytes.now c.args.flow.now c.args.told.now

pub loop-at-preserved : goal.loop-at-preserved
loop-at-preserved c =
    let at = c.loop-at.at in
    let bytes = c.args.bytes.now in
    let rest : take (length bytes - at) (drop at bytes) ≡ drop at bytes = ap (λ k. take k (drop at bytes)) (sym (length-drop at bytes)) ∙ take-length (drop at bytes) in
    flows-joined c.args.here c.args.termios.now bytes at c.flow_some-at.result c.args.flow.now c.loop-at.flow c.flow_some-at.new.flow c.args.told.now c.loop-at.told c.flow_some-at.new.told
    c.loop-at.invariant (subst (λ l. FlowsAs c.args.here c.args.termios.now l c.flow_some-at.result c.loop-at.flow c.flow_some-at.new.flow c.loop-at.told c.flow_some-at.new.told) rest c.flow_some-at.ensures.out)

pub returns-else-has_room-clause-some : goal.returns-else-has_room-clause-some
returns-else-has_room-clause-some c = λ some room. elim (cases_eq c.loop-at.at 0) [
  | inl none ↦ absurd (
      let same = flows-some c.args.here c.args.termios.now c.args.bytes.now c.loop-at.at c.args.flow.now c.loop-at.flow c.args.told.now c.loop-at.told c.loop-at.invariant none in
      let full = sym c.has_room.ensures ∙ c.if-has_room.false in
      let most : 256 < length c.loop-at.flow.given.items + 8 = grind (arith, nat_tests) in
      omega (arith, same, room, most)
      )
  | inr other ↦ omega (arith, other)
]

pub returns-after-loop-at-clause-some : goal.returns-after-loop-at-clause-some
returns-after-loop-at-clause-some c = λ some room. let last = c.loop-at-test.false in omega (arith, some, last)
