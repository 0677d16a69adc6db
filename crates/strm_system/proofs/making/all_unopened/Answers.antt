-- One pair more, of these sizes.
use Rattle.std.proofs.Common.{◌≡◌, ◌+◌, [], ◌∷◌, ◌++◌, length, ap, sym, subst, ◌∙◌}
use Rattle.std.proofs.lemmas.List.{length-append, map-append, replicate-append-replicate}
use Rattle.std.proofs.lemmas.List.Elements.{All-append, All-cons, All-nil}
use Rattle.std.specs.Bool.{if◌then◌else◌}
use Rattle.std.specs.Prelude.{All, map, replicate}
use Rattle.std.specs.Result.{is_ok}
use Rattle.strm_laws.specs.Pair.{new_pair}
use Rattle.strm_system.proofs.making.all_unopened.Goals as goal

pub loop-made-preserved : goal.loop-made-preserved
loop-made-preserved g c =
    let all = c.loop-made.all.items in
    let one = c.in_ok-pair.pair in
    let sizes = c.args.sizes in
    let items : c.push.new.self.items ≡ all ++ one ∷ [] = subst (λ r. c.push.new.self.items ≡ (if is_ok r then (all ++ one ∷ []) else all)) c.in-Ok.is c.push.ensures.items in
    let made = All-append (λ p. g.P.Object.pair_of p ≡ new_pair sizes) all (one ∷ []) c.loop-made.invariant.1 (All-cons (λ p. g.P.Object.pair_of p ≡ new_pair sizes) one [] c.in_ok-pair.ensures.1 (All-nil (λ p. g.P.Object.pair_of p ≡ new_pair sizes))) in
    let grown = ap (λ xs. map (λ p. (g.P.Object.pair_of p).limits) xs) items ∙ map-append (λ p. (g.P.Object.pair_of p).limits) all (one ∷ []) ∙ ap (λ zs. zs ++ (g.P.Object.pair_of one).limits ∷ []) c.loop-made.invariant.2
    ∙ ap (λ p. replicate c.loop-made.made sizes ++ p.limits ∷ []) c.in_ok-pair.ensures.1 ∙ replicate-append-replicate c.loop-made.made 1 sizes in
    (ap length items ∙ length-append all (one ∷ []) ∙ ap (λ n. n + 1) c.loop-made.invariant.0, subst (λ xs. All (λ p. g.P.Object.pair_of p ≡ new_pair sizes) xs) (sym items) made, grown)
