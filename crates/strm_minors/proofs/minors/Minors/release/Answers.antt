use Rattle.std.proofs.Common.{rules, ◌≡◌, ℕ, sym, ap, subst, ◌∙◌}
use lib.Bits.{bit_and}
use Rattle.std.specs.Int.{bit_at}
use Rattle.strm_minors.specs.Openers.{Holding, Holds, Loses}
use Rattle.strm_minors.specs.Rule.{Mine}
use Rattle.strm_minors.proofs.Keeps.{releases}
use Rattle.strm_minors.proofs.Sets.{others_of, clears_own, loses}
use Rattle.strm_minors.proofs.minors.Minors.release.Goals as goal

pub fetch_and-requires : goal.fetch_and-requires
fetch_and-requires c =
    let k : ℕ = c.minor.inside.number in
    let own : bit_at c.opener.inside.held k ≡ 1 =
    subst (λ (x : Holding × ℕ). Holds x.0 x.1) (λ j. (sym c.opener.view_is j, sym c.minor.view_is j)) c.requires.held in (
      search rules,
      search rules,
      releases _ _ _ c.opener.inside.seat.me _
          (λ i near clear. ap (λ (h : ℕ). bit_at h i) c.opener.invariant.holds ∙ clears_own _ k c.minor.invariant own i near clear),
    )

pub returns : goal.returns
returns c =
    let seat = c.fetch_and.new.seat in let k : ℕ = c.minor.inside.number in
    let now : Holding = record { table = seat.table_id; held = bit_and c.opener.inside.held (others_of k); passed = seat.me.0.passed } in
    subst (λ (x : Holding × ℕ). Loses x.0 now x.1) (λ j. (c.opener.view_is j, c.minor.view_is j))
    (loses _ _ _ k c.minor.invariant c.fetch_and.ensures.0 (ap (λ (m : Mine). m.0.passed) c.fetch_and.ensures.2) (search rules))
