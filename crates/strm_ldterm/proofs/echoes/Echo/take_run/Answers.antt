use Rattle.strm_ldterm.proofs.Prelude.{◌≡◌, ℕ, List, ◌++◌, length, take, drop, sym, ap, subst, ◌∙◌, arith, nat_tests}
use Rattle.strm_ldterm.specs.Echoes.{echo_bytes}
use Rattle.strm_ldterm.proofs.Runs.{full_run, last_run}
use Rattle.strm_ldterm.proofs.echoes.Echo.take_run.Goals as goal

pub returns-after-loop-bytes-clause-run : goal.returns-after-loop-bytes-clause-run
returns-after-loop-bytes-clause-run c =
    let line = c.bytes-bytes.result.now in
    let run = c.loop-bytes.run.items in
    let full : length run ≡ 256 = grind (arith, nat_tests) in
    subst (λ (l : List ℕ). run ≡ take 256 (echo_bytes c.args.self.now l)) c.bytes-bytes.ensures.value
    (full_run run (echo_bytes c.loop-bytes.self line) (echo_bytes c.args.self.now line) 256 c.loop-bytes.invariant full).0

pub returns-after-loop-bytes-clause-rest : goal.returns-after-loop-bytes-clause-rest
returns-after-loop-bytes-clause-rest c =
    let line = c.bytes-bytes.result.now in
    let run = c.loop-bytes.run.items in
    let full : length run ≡ 256 = grind (arith, nat_tests) in
    subst (λ (l : List ℕ). echo_bytes c.loop-bytes.self l ≡ drop 256 (echo_bytes c.args.self.now l)) c.bytes-bytes.ensures.value
    (full_run run (echo_bytes c.loop-bytes.self line) (echo_bytes c.args.self.now line) 256 c.loop-bytes.invariant full).1

pub returns-in-None-clause-run : goal.returns-in-None-clause-run
returns-in-None-clause-run c =
    let line = c.bytes-bytes.result.now in
    let run = c.loop-bytes.run.items in
    let split = ap (λ (l : List ℕ). run ++ l) (sym c.in-None.ensures.bytes) ∙ c.loop-bytes.invariant in
    subst (λ (l : List ℕ). run ≡ take 256 (echo_bytes c.args.self.now l)) c.bytes-bytes.ensures.value
    (last_run run (echo_bytes c.next.new.self line) (echo_bytes c.args.self.now line) 256 split c.in-None.ensures.end (omega arith)).0

pub returns-in-None-clause-rest : goal.returns-in-None-clause-rest
returns-in-None-clause-rest c =
    let line = c.bytes-bytes.result.now in
    let run = c.loop-bytes.run.items in
    let split = ap (λ (l : List ℕ). run ++ l) (sym c.in-None.ensures.bytes) ∙ c.loop-bytes.invariant in
    subst (λ (l : List ℕ). echo_bytes c.next.new.self l ≡ drop 256 (echo_bytes c.args.self.now l)) c.bytes-bytes.ensures.value
    (last_run run (echo_bytes c.next.new.self line) (echo_bytes c.args.self.now line) 256 split c.in-None.ensures.end (omega arith)).1
