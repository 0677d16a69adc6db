use Rattle.strm_script.proofs.Prelude.{◌≡◌, ◌+◌, ◌++◌, ◌≤◌, take, drop, length, length-drop, arith, sym, ap, ◌∙◌, subst, take_rest}
use Rattle.strm_script.specs.Modes.{mode_of}
use Rattle.strm_script.specs.ScriptReading.{own_len}
use Rattle.strm_script.proofs.Readings.{TextTo, TextTo-breaks, TextTo-goes, TextTo-gives, TextTo-own, TextTo-closed, TextTo-open, own-within}
use Rattle.strm_script.proofs.texts.spelled.Goals as goal
use Rattle.strm_script.proofs.texts.spelled.Goals.{in-Goes, in-Gives+in_ok-push-in-Gives}

pub returns-in-Breaks : goal.returns-in-Breaks
returns-in-Breaks c = TextTo-breaks _ _ _ 0 _ c.loop-done-test.true c.loop-done.invariant.2 (sym c.in-Breaks.ensures.same)

pub loop-done-preserved-then-own-gt0 : goal.loop-done-preserved-then-own-gt0
loop-done-preserved-then-own-gt0 c =
    let l = c.loop-done in
    let bytes = c.args.bytes.now in
    let rest = take_rest bytes l.done in
    let own : c.own_len-own.result ≡ own_len (mode_of l.mode) (drop l.done bytes) =
    c.own_len-own.ensures ∙ ap (own_len (mode_of l.mode)) rest in
    let within : own_len (mode_of l.mode) (drop l.done bytes) ≤ length (drop l.done bytes) = own-within (mode_of l.mode) (drop l.done bytes) in
    let text = c.in_ok-extend_from_slice.ensures.items ∙ ap (λ k. l.text.items ++ take c.own_len-own.result k) rest in (
      omega (arith, length-drop l.done bytes),
      l.invariant.1,
      subst (λ k. TextTo (mode_of l.mode) k (l.done + c.own_len-own.result) bytes) (sym text)
          (TextTo-own _ _ _ _ _ l.invariant.2 own c.if-own-gt0.true),
    )

pub loop-done-preserved : goal.loop-done-preserved
loop-done-preserved c = elim c.match-moved.branch [
  | in-Goes w ↦ rw (w.text-is, w.mode-is)
      (omega arith, w.in-Goes.ensures.small, TextTo-goes _ _ _ _ _ c.loop-done-test.true c.loop-done.invariant.2 (sym w.in-Goes.ensures.same))
  | in-Gives+in_ok-push-in-Gives w ↦ rw (w.text-is, w.mode-is, w.in_ok-push-in-Gives.ensures.items)
      (omega arith, tt, TextTo-gives _ _ _ _ _ c.loop-done-test.true c.loop-done.invariant.2 (sym w.in-Gives.ensures.same))
]

pub returns-then-is_closed : goal.returns-then-is_closed
returns-then-is_closed c = TextTo-closed _ _ _ _ c.loop-done-test.false c.loop-done.invariant.2 (sym c.is_closed.ensures ∙ c.if-is_closed.true)

pub returns-else-is_closed : goal.returns-else-is_closed
returns-else-is_closed c = TextTo-open _ _ _ _ c.loop-done-test.false c.loop-done.invariant.2 (sym c.is_closed.ensures ∙ c.if-is_closed.false)
