use Rattle.std.proofs.Common.{◌≡◌, ◌+◌, [], ◌∷◌, ◌∙◌, length, ap, sym, arith, subst, length-append}
use Rattle.std.specs.Prelude.{All}
use Rattle.std.proofs.lemmas.List.Elements.{All-push}
use Rattle.strm_storm.specs.Rounds.{IsRoundOf}
use Rattle.strm_storm.proofs.hosting.serial_rounds.Goals.{in-Ok+in_ok-push-in-Ok, in-Err}
use Rattle.strm_storm.proofs.hosting.serial_rounds.Goals as goal

pub loop-asked-preserved : goal.loop-asked-preserved
loop-asked-preserved g c =
    let i = c.loop-asked.invariant in
    let host = c.args.host.now in
    let old = c.loop-asked.made.items in
    let new = c.match-next_round.made.items in
    let all = i.all in
    let t : All (λ r. IsRoundOf host r) new × (length new + c.match-next_round.refused ≡ c.loop-asked.asked + 1) = elim c.match-next_round.branch [
      | in-Ok+in_ok-push-in-Ok w ↦
          let is = ap (λ v. v.items) w.made-is ∙ w.in_ok-push-in-Ok.ensures.items in
          let long = ap (λ xs. length xs) is ∙ length-append old (_ ∷ []) in
          let same = w.refused-is in (
            subst (λ xs. All (λ r. IsRoundOf host r) xs) (sym is) (All-push (λ r. IsRoundOf host r) old _ i.made w.in-Ok.ensures.round),
            omega (arith, long, same, all),
          )
      | in-Err w ↦
          let is = ap (λ v. v.items) w.made-is in
          let long = ap (λ xs. length xs) is in
          let more = w.refused-is in (
            subst (λ xs. All (λ r. IsRoundOf host r) xs) (sym is) i.made,
            omega (arith, long, more, all),
          )
    ] in record { opener = c.next_round.ensures.own; made = t.0; all = t.1 }
