-- A message in hand beside all that a store has.
use Rattle.std.proofs.Common.{ℕ, ◌≡◌, ◌≢◌, ◌<◌, ◌+◌, true, false, cond, eqb, List, [], ◌∷◌, ap, inl, inr, sym, ◌∙◌, arith}
use Rattle.std.proofs.lemmas.Bool.{cases_eq}
use Rattle.std.proofs.lemmas.Bool.Decides.{nat_tests}
use Rattle.std.proofs.lemmas.List.Sums.{sum_by-cons}
use Rattle.strm_blocks.specs.Blocks.{Block, Held, StoreValue, IsFreshName, IsInHand, dropped, held, in_hand, times_in, without}
use Rattle.strm_blocks.proofs.Laws.{in_hand-dropped}
use Rattle.strm_msg.specs.Emptied.{Beside}
use Rattle.strm_msg.proofs.Hands.{gone, held-chain, held-is, other-name}

-- a message that goes from the hand was one of its name
pub times-out : (i j : ℕ) (hand : List Held) → 0 < times_in i hand → times_in j (without i hand) + cond (eqb i j) 1 0 ≡ times_in j hand
times-out i j [] some = absurd (omega arith)
times-out i j (h ∷ hand) some =
    let named = sum_by-cons (λ (x : Held). cond (eqb x.name i) 1 0) h hand in
    let all = sum_by-cons (λ (x : Held). cond (eqb x.name j) 1 0) h hand in
    elim (cases_eq h.name i) [
      | inl e ↦
          (let hit : eqb h.name i ≡ true = grind (arith, nat_tests) in
          let same : cond {A = ℕ} (eqb h.name j) 1 0 ≡ cond (eqb i j) 1 0 = ap (λ k. cond {A = ℕ} (eqb k j) 1 0) e in
          ap (λ v. times_in j (cond v hand (h ∷ without i hand)) + cond (eqb i j) 1 0) hit ∙ omega (arith, all, same))
      | inr ne ↦
          (let miss : eqb h.name i ≡ false = other-name h.name i ne in
          let none = ap (λ v. cond {A = ℕ} v 1 0) miss in
          let kept = sum_by-cons (λ (x : Held). cond (eqb x.name j) 1 0) h (without i hand) in
          let ih = times-out i j hand (omega (arith, some, named, none)) in
          ap (λ v. times_in j (cond v hand (h ∷ without i hand)) + cond (eqb i j) 1 0) miss ∙ omega (arith, all, kept, ih))
    ]

-- a message that comes
pub held-beside : {base new : StoreValue} {i : ℕ} {chain : List Block} → IsFreshName base i → new ≡ held base i chain → Beside base new i chain
held-beside {base} {new} {i} {chain} fresh after = record {
  here = ap (λ (v : StoreValue). times_in i v.hand) after ∙ held-is base i chain fresh;
  chain_is = ap (λ v. in_hand v i) after ∙ held-chain base i chain;
  others = ap (λ v. dropped v i) after ∙ gone base i chain;
}

-- the others are in hand still
module _ {base new : StoreValue} {i : ℕ} {chain : List Block} (b : Beside base new i chain) where
  pub beside-times : (j : ℕ) → times_in j base.hand + cond (eqb i j) 1 0 ≡ times_in j new.hand
  beside-times j =
      ap (λ (v : StoreValue). times_in j v.hand + cond (eqb i j) 1 0) (sym b.others) ∙ times-out i j new.hand (omega (arith, b.here))

  pub beside-apart : (j : ℕ) → IsInHand base j → i ≢ j
  beside-apart j is same =
      let hit : eqb i j ≡ true = grind (arith, nat_tests) in
      let one = ap (λ v. cond {A = ℕ} v 1 0) hit in
      let here = ap (λ k. times_in k new.hand) same in
      absurd (omega (arith, beside-times j, one, here, b.here, is))

  pub beside-in_hand : (j : ℕ) → IsInHand base j → IsInHand new j
  beside-in_hand j is =
      let none = ap (λ v. cond {A = ℕ} v 1 0) (other-name i j (beside-apart j is)) in
      omega (arith, beside-times j, none, is)

  pub beside-chain : (j : ℕ) → i ≢ j → in_hand new j ≡ in_hand base j
  beside-chain j apart = sym (in_hand-dropped new i j apart) ∙ ap (λ v. in_hand v j) b.others
