use Rattle.strm_script.proofs.Prelude.{◌≡◌, ℕ, ◌≤◌, subst, arith, ne_eqb, le-leb}
use Rattle.std.proofs.lemmas.Str.{encode_ascii}
use Rattle.std.proofs.Math.Utf8.{encode}
use Rattle.std.specs.Fmt.{HasWritten}
use Rattle.strm_script.specs.ScriptAnswers.{printed}
use Rattle.strm_script.proofs.answers.PrintedDisplay.fmt.Goals as goal

-- what is printed as it is
as_it_is : (b : ℕ) → 32 ≤ b → b ≤ 126 → (b ≡ 34 → ⊥) → (b ≡ 92 → ⊥) → encode b ≡ printed b
as_it_is b low high quote slash =
    rw (ne_eqb b 10 (λ e. omega (arith, e)), ne_eqb b 13 (λ e. omega (arith, e)), ne_eqb b 9 (λ e. omega (arith, e)), ne_eqb b 34 quote, ne_eqb b 92 slash, le-leb 32 b low, le-leb b 126 high)
    (encode_ascii b (omega arith))

pub returns-in-32-to-126-clause-writes : goal.returns-in-32-to-126-clause-writes
returns-in-32-to-126-clause-writes g c = λ plain ok.
    let b = c.args.self.now.0 in
    let low : 32 ≤ b = omega arith in
    let high : b ≤ 126 = omega arith in
    let quote : b ≡ 34 → ⊥ = λ e. omega (arith, e) in
    let slash : b ≡ 92 → ⊥ = λ e. omega (arith, e) in
    subst (λ k. HasWritten g.W.Write.write_str_gives c.args.f.now k c.write-in-32-to-126.new.self) (as_it_is b low high quote slash)
    (c.write-in-32-to-126.ensures.writes plain ok)
