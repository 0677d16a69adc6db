use Rattle.std.proofs.Common.{rules, ◌≡◌, ◌<◌, ◌+◌, ℕ, ap, subst, ◌∙◌, arith}
use Rattle.std.specs.Int.{bit_at}
use Rattle.std.specs.Int.RustNames.{bit_or}
use Rattle.std.proofs.lemmas.Nat.Bits.{bit_at-zero}
use Rattle.strm_minors.specs.Openers.{Holding, Unites}
use Rattle.strm_minors.specs.Rule.{Mine}
use Rattle.strm_minors.proofs.Keeps.{joins, looks}
use Rattle.strm_minors.proofs.Sets.{unites}
use Rattle.strm_minors.proofs.minors.Minors.join_openers.Goals as goal

nothing : (joining k : ℕ) → joining ≡ 0 → bit_at joining k ≡ 0
nothing joining k none = ap (λ (j : ℕ). bit_at j k) none ∙ bit_at-zero k

few : (a b x y k : ℕ) → x ≡ a → y ≡ b → bit_at x k + bit_at y k < 2 → bit_at a k + bit_at b k < 2
few a b x y k first second low = let p = ap (λ (h : ℕ). bit_at h k) first in let q = ap (λ (h : ℕ). bit_at h k) second in omega arith

pub join_seat-requires : goal.join_seat-requires
join_seat-requires c = (
  search rules,
  search rules,
  search rules,
  search rules,
  joins _ _ _ _ _ _ (λ k. nothing _ k c.first.invariant.alone) (λ k. nothing _ k c.second.invariant.alone),
)

pub load-requires : goal.load-requires
load-requires c = (search rules, search rules, looks _ _ _ _)

pub returns : goal.returns
returns c =
    let joined = c.join_seat.ensures.2 in let told = c.load.ensures.2 in let seat = c.load.new.seat in
    let one : Holding = record { table = seat.table_id; held = bit_or c.first.inside.held c.second.inside.held; passed = seat.me.0.passed } in
    subst (λ (x : Holding × Holding). Unites x.0 x.1 one) (λ j. (c.first.view_is j, c.second.view_is j))
    (unites _ _ _ _ (c.load.ensures.0 ∙ c.join_seat.ensures.0) (ap (λ (m : Mine). m.0.passed) told.1 ∙ ap (λ (m : Mine). m.0.passed) joined)
    (λ k. few _ _ _ _ k (ap (λ (m : Mine). m.0.held) joined ∙ c.first.invariant.holds) (ap (λ (m : Mine). m.0.joining) joined ∙ c.second.invariant.holds) (told.0 k)))
