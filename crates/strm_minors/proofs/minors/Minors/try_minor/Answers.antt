use Rattle.std.proofs.Common.{rules, ◌≡◌, ◌≢◌, ◌<◌, ◌≤◌, ◌/◌, ◌^◌, ◌++◌, [], ◌∷◌, ℕ, sym, ap, subst, ◌∙◌, arith}
use lib.Bits.{bit_and}
use Rattle.std.specs.Int.{bit_at}
use Rattle.std.specs.Int.RustNames.{bit_or}
use Rattle.std.proofs.lemmas.Nat.Bits.{shr_and_one, bit_at-lt}
use Rattle.strm_minors.specs.Openers.{MinorSpace, Holding, Gains, passing}
use Rattle.strm_minors.specs.Rule.{Mine, IsBit, Tries, knows}
use Rattle.strm_minors.proofs.Keeps.{tries}
use Rattle.strm_minors.proofs.Sets.{shifted, one_shifted, passes, gains}
use Rattle.strm_minors.proofs.minors.Minors.try_minor.Goals as goal

few : {n : ℕ} {own now : MinorSpace} → own ≡ now → own.pairs ≤ 64 → n < now.pairs → n < 64
few is most within = let same = ap (λ (r : MinorSpace). r.pairs) is in omega arith

-- what the step tells where it found the minor's bit set, and where clear
taken : (found n : ℕ) (m m' : Mine) → n < 64 → ((k : ℕ) → IsBit (shifted n) k → Tries (shifted n) found m m' k) → bit_and (found / 2 ^ n) 1 ≡ 1
    → m' ≡ (knows m.0.held m.0.joining (m.0.passed ++ n ∷ []), m.1)
taken found n m m' small told set = (told n (one_shifted n small)).taken (λ clear. let is = shr_and_one found n in absurd (omega arith))

free : (found n : ℕ) (m m' : Mine) → n < 64 → ((k : ℕ) → IsBit (shifted n) k → Tries (shifted n) found m m' k) → bit_and (found / 2 ^ n) 1 ≢ 1
    → (bit_at m.0.held n ≡ 0) × (m' ≡ (knows (bit_or m.0.held (shifted n)) m.0.joining m.0.passed, m.1))
free found n m m' small told not = (told n (one_shifted n small)).free (let is = shr_and_one found n in let low = bit_at-lt found n in omega arith)

pub overflow_shl-bit : goal.overflow_shl-bit
overflow_shl-bit c = few c.self.view_is c.self.invariant.at_most c.requires.within

pub fetch_or-found-requires : goal.fetch_or-found-requires
fetch_or-found-requires c =
    let n = c.args.number in
    let pairs = sym (c.self.invariant.of_pairs ∙ ap (λ (r : MinorSpace). r.pairs) c.self.view_is) in
    (search rules, search rules, tries _ _ _ _ _ n (one_shifted n (few c.self.view_is c.self.invariant.at_most c.requires.within)) (subst (λ (p : ℕ). n < p) pairs c.requires.within))

pub invariant_of-opener : goal.invariant_of-opener
invariant_of-opener c =
    let told = taken _ _ _ _ (few c.self.view_is c.self.invariant.at_most c.requires.within) c.fetch_or-found.ensures.2 c.if-found-number-eq1.true in record {
      holds = ap (λ (m : Mine). m.0.held) told ∙ c.opener.invariant.holds;
      alone = ap (λ (m : Mine). m.0.joining) told ∙ c.opener.invariant.alone;
      no_slot = ap (λ (m : Mine). m.1) told ∙ c.opener.invariant.no_slot;
    }

pub returns-then-found-number-eq1 : goal.returns-then-found-number-eq1
returns-then-found-number-eq1 c =
    let told = taken _ _ _ _ (few c.self.view_is c.self.invariant.at_most c.requires.within) c.fetch_or-found.ensures.2 c.if-found-number-eq1.true in
    passes _ _ _ _ _ _ c.fetch_or-found.ensures.0 (ap (λ (m : Mine). m.0.passed) told) ∙ ap (passing c.args.number) c.opener.view_is

pub invariant_of-opener-2 : goal.invariant_of-opener-2
invariant_of-opener-2 c =
    let told = free _ _ _ _ (few c.self.view_is c.self.invariant.at_most c.requires.within) c.fetch_or-found.ensures.2 c.if-found-number-eq1.false in record {
      holds = ap (λ (m : Mine). m.0.held) told.1 ∙ ap (λ (h : ℕ). bit_or h (shifted c.args.number)) c.opener.invariant.holds;
      alone = ap (λ (m : Mine). m.0.joining) told.1 ∙ c.opener.invariant.alone;
      no_slot = ap (λ (m : Mine). m.1) told.1 ∙ c.opener.invariant.no_slot;
    }

pub returns : goal.returns
returns c =
    let small = few c.self.view_is c.self.invariant.at_most c.requires.within in
    let told = free _ _ _ _ small c.fetch_or-found.ensures.2 c.if-found-number-eq1.false in
    let seat = c.fetch_or-found.new.seat in
    let now : Holding = record { table = seat.table_id; held = bit_or c.opener.inside.held (shifted c.args.number); passed = seat.me.0.passed } in
    subst (λ (o : Holding). Gains o now c.args.number) c.opener.view_is
    (gains _ _ _ _ small c.fetch_or-found.ensures.0 (ap (λ (m : Mine). m.0.passed) told.1) (ap (λ (h : ℕ). bit_at h c.args.number) (sym c.opener.invariant.holds) ∙ told.0))
