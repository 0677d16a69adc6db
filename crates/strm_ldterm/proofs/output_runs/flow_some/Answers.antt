use Rattle.strm_ldterm.proofs.Prelude.{◌≡◌, ◌≤◌, true, length, take, refl, sym, subst, arith, length-take, take_more}
use Rattle.std.specs.List.{AllByRecursion}
use Rattle.strm_ldterm.specs.Posting.{is_printed}
use Rattle.strm_ldterm.proofs.Flows.{flows-front}
use Rattle.strm_ldterm.proofs.Runs.{take-twice}
use Rattle.strm_ldterm.proofs.output_runs.flow_some.Goals as goal

pub returns-then-run-gt0-clause-out : goal.returns-then-run-gt0-clause-out
returns-then-run-gt0-clause-out c =
    let bytes = c.args.bytes.now in
    let run = c.printed_len-run.result in
    let most = c.min-most.result in
    let within : run ≤ most = omega (arith, c.printed_len-run.ensures.within, length-take most bytes) in
    let all = subst (AllByRecursion (λ b. is_printed c.args.termios.now b ≡ true)) (take-twice run most bytes within) c.printed_len-run.ensures.printed in
    let few : run ≤ length bytes = omega (arith, c.printed_len-run.ensures.within, length-take most bytes) in
    flows-front c.args.here c.args.termios.now bytes (take run bytes) run c.args.flow.now c.flow_run.new.flow c.args.told.now c.args.told.now refl few
    (c.flow_run.ensures c.args.here c.args.termios.now c.args.told.now all)

pub returns-clause-out : goal.returns-clause-out
returns-clause-out c = flows-front c.args.here c.args.termios.now c.args.bytes.now _ 1 c.args.flow.now c.flow_byte.new.flow c.args.told.now c.flow_byte.new.told (sym (take_more c.args.bytes.now 0 0 c.requires.some)) c.requires.some c.flow_byte.ensures
