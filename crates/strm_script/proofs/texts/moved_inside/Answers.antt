use Rattle.strm_script.proofs.Prelude.{◌≡◌, ℕ, arith, refl, eq-eqb, ne_eqb}
use Rattle.strm_script.specs.ScriptReading.{Inside, Escaped, Closed, Breaks, Goes, Gives, moved_by}
use Rattle.strm_script.proofs.texts.moved_inside.Goals as goal

at_quote : (b : ℕ) → b ≡ 34 → Goes Closed ≡ moved_by Inside b
at_quote b e = rw (eq-eqb b 34 e) refl

at_backslash : (b : ℕ) → b ≡ 92 → Goes Escaped ≡ moved_by Inside b
at_backslash b e = rw (ne_eqb b 34 (λ q. omega (arith, q)), eq-eqb b 92 e) refl

at_line_end : (b : ℕ) → b ≡ 10 → Breaks ≡ moved_by Inside b
at_line_end b e = rw (ne_eqb b 34 (λ q. omega (arith, q)), ne_eqb b 92 (λ q. omega (arith, q)), eq-eqb b 10 e) refl

at_other : (b : ℕ) → (b ≡ 34 → ⊥) → (b ≡ 92 → ⊥) → (b ≡ 10 → ⊥) → Gives b ≡ moved_by Inside b
at_other b quote backslash line_end = rw (ne_eqb b 34 quote, ne_eqb b 92 backslash, ne_eqb b 10 line_end) refl

pub returns-in-34-clause-same : goal.returns-in-34-clause-same
returns-in-34-clause-same c = at_quote c.args.byte (omega arith)

pub returns-in-92-clause-same : goal.returns-in-92-clause-same
returns-in-92-clause-same c = at_backslash c.args.byte (omega arith)

pub returns-in-10-clause-same : goal.returns-in-10-clause-same
returns-in-10-clause-same c = at_line_end c.args.byte (omega arith)

pub returns-in_default-clause-same : goal.returns-in_default-clause-same
returns-in_default-clause-same c =
    at_other c.args.byte (λ e. omega (arith, e)) (λ e. omega (arith, e)) (λ e. omega (arith, e))
