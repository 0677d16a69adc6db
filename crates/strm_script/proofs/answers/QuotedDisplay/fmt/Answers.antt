use Rattle.strm_script.proofs.Prelude.{◌≡◌, ◌≤◌, ◌+◌, ◌∷◌, ◌++◌, sym, take, drop, length, length-drop, refl, arith, ap, ◌∙◌, take_rest}
use Rattle.std.proofs.lemmas.Grind.{put_two}
use Rattle.std.specs.List.{flat_map, position_or_len}
use Rattle.strm_script.specs.ScriptAnswers.{is_escaped, printed}
use Rattle.strm_script.proofs.Readings.{position-within, length-position}
use Rattle.strm_script.proofs.Printings.{printed_run}
use Rattle.strm_script.proofs.answers.QuotedDisplay.fmt.Goals as goal

pub loop-done-preserved-then-len-gt0 : goal.loop-done-preserved-then-len-gt0
loop-done-preserved-then-len-gt0 g c =
    let l = c.loop-done in
    let text = c.args.self.now.0.now in
    let n = position_or_len is_escaped (drop l.done text) in
    let front = c.plain_front-plain.ensures ∙ ap (λ k. take (position_or_len is_escaped k) k) (take_rest text l.done) in
    let len : length c.plain_front-plain.result.now ≡ n = ap length front ∙ length-position is_escaped (drop l.done text) in
    let within : n ≤ length (drop l.done text) = position-within is_escaped (drop l.done text) in (
      omega (arith, length-drop l.done text),
      λ plain.
          let so_far = l.invariant.1 plain in
          put_two g.W.Write.write_str_gives _ _ _ _ _ _ so_far (c.in_ok-write_str.ensures.writes so_far.plain refl)
          (ap (λ k. (34 ∷ flat_map printed (take l.done text)) ++ k) front
          ∙ printed_run text l.done n refl
          ∙ ap (λ k. 34 ∷ flat_map printed (take (l.done + k) text)) (sym len)),
    )
