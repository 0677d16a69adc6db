-- Reports of workers: one visit more, and two reports added up.
use Rattle.std.proofs.Common.{◌≡◌, ℕ, zero, suc, ◌+◌, ◌*◌, ◌≤◌, ap, sym, subst, arith}
use Rattle.std.specs.Prelude.{Option, None, Some, Result, Ok, Err}
use Rattle.strm_types.specs.declared.answers.Turn.{Turn}
use Rattle.strm_types.specs.declared.answers.Turn.TheVariants.{Moved, Blocked, Idle}
use Rattle.strm_types.specs.declared.refusals.Refusal.{Refusal}
use Rattle.strm_locks.specs.declared.held.Made.{Made}
use Rattle.strm_locks.specs.declared.workers.Report.{Report}
use Rattle.strm_locks.specs.Reports.{IsReportOf, answered, both, counted}

-- a report of one worker, which counted so many visits
abbrev pub Counts : ℕ → Report → Type 0
Counts n r = (r.started ≡ 1) × (r.blocked ≤ r.turns) × (r.turns + r.refused + r.idle ≡ n)

answer-counts : (n : ℕ) (x : Result Turn Refusal) (q : Report) → Counts n q → Counts (n + 1) (answered x q)
answer-counts n (Ok Blocked) q is = let a = is.1 in let b = is.2 in (is.0, omega arith, omega arith)
answer-counts n (Ok (Moved k)) q is = let a = is.1 in let b = is.2 in (is.0, omega arith, omega arith)
answer-counts n (Ok Idle) q is = let a = is.1 in let b = is.2 in (is.0, omega arith, omega arith)
answer-counts n (Err z) q is = let b = is.2 in (is.0, is.1, omega arith)

pub visit-counts : (n : ℕ) (made : Option Made) (q r : Report) → r ≡ counted made q → Counts n q → Counts (n + 1) r
visit-counts n made q r same is = subst (Counts (n + 1)) (sym same) (at made)
  where
    at : (made : Option Made) → Counts (n + 1) (counted made q)
    at None = let b = is.2 in (is.0, is.1, omega arith)
    at (Some m) = answer-counts n m.answer q is

pub times-sum : (a b v : ℕ) → (a + b) * v ≡ a * v + b * v
times-sum zero b v = omega arith
times-sum (suc a) b v = let r = times-sum a b v in omega arith

pub reports-join : (a b n v : ℕ) (r s t : Report) → a + b ≡ n → IsReportOf a v r → IsReportOf b v s → t ≡ both r s → IsReportOf n v t
reports-join a b n v r s t sum one two is = subst (λ x. IsReportOf n v x) (sym is) record {
  started = let x = one.started in let y = two.started in omega arith;
  blocked = let x = one.blocked in let y = two.blocked in omega arith;
  all = let x = one.all in let y = two.all in let z = times-sum a b v in let w : (a + b) * v ≡ n * v = ap (λ k. k * v) sum in omega arith;
}

-- a report of one worker
pub counts_one : (n : ℕ) (r : Report) → Counts n r → IsReportOf 1 n r
counts_one n r is = let all = is.2 in record { started = is.0; blocked = is.1; all = omega arith }
