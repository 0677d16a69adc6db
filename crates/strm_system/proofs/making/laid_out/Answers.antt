use Rattle.std.proofs.Common.{◌≡◌, suc, ◌+◌, [], ◌∷◌, ◌++◌, length, ap, sym, ◌∙◌, arith}
use Rattle.std.proofs.lemmas.List.{length-append, map-append}
use Rattle.std.proofs.lemmas.Simd.{map-map}
use Rattle.std.specs.Prelude.{map, replicate}
use Rattle.strm_minors.specs.Openers.{Holding, opening}
use Rattle.strm_locks.specs.Books.{LockId}
use Rattle.strm_locks.specs.Systems.{Plan}
use Rattle.strm_system.specs.Sizes.{laid}
use Rattle.strm_system.proofs.making.laid_out.Goals as goal

pub loop-number-preserved : goal.loop-number-preserved
loop-number-preserved g c =
    let n = c.loop-number.number in
    let next : suc n ≡ n + 1 = omega arith in
    let row : Plan → _ = λ s. map (λ (k : LockId). k.sizes) s.locks in
    let first : Plan → Holding = λ s. opening s.minors in
    let systems = c.loop-number.systems.items in
    let made = c.in-Ok.made in
    let all = c.in_ok-push.ensures.items in (
      ap (λ xs. map row xs) all ∙ map-append row systems (made ∷ []) ∙ ap (λ zs. zs ++ row made ∷ []) c.loop-number.invariant.0 ∙ ap (λ z. laid c.args.pairs c.args.sizes n ++ z ∷ []) c.in-Ok.ensures.2
          ∙ ap (λ k. laid c.args.pairs c.args.sizes n ++ replicate k c.args.sizes ∷ []) c.min-count.ensures
          ∙ ap (λ k. laid c.args.pairs c.args.sizes k) next,
      c.in_ok-push-2.ensures.items ∙ ap (λ zs. zs ++ c.in-Ok.opener ∷ []) c.loop-number.invariant.1 ∙ ap (λ o. map first systems ++ o ∷ []) c.in-Ok.ensures.3 ∙ sym (ap (λ xs. map first xs) all ∙ map-append first systems (made ∷ [])),
      ap length all ∙ length-append systems (made ∷ []) ∙ ap (λ k. k + 1) c.loop-number.invariant.2,
    )

pub returns-clause-own : goal.returns-clause-own
returns-clause-own g c =
    let table : Holding → _ = λ o. o.table in
    let first : Plan → Holding = λ s. opening s.minors in
    let systems = c.loop-number.systems.items in
    ap (λ xs. map table xs) (c.of.ensures.openers ∙ c.loop-number.invariant.1) ∙ map-map table first systems
    ∙ ap (λ xs. map (λ (s : Plan). s.minors.table) xs) (sym c.of.ensures.systems)
