use Rattle.std.proofs.Common.{take, ap, sym, ◌∙◌, subst}
use Rattle.std.proofs.lemmas.Str.{IsUtf8-from_ascii}
use Rattle.std.specs.Str.{IsAscii}
use Rattle.strm_script.proofs.Printings.{run_ascii}
use Rattle.strm_script.proofs.answers.plain_front.Goals as goal

pub returns-in-Ok : goal.returns-in-Ok
returns-in-Ok c = c.in-Ok.ensures.cases.0 ∙ ap (λ n. take n c.args.text.now) c.plain_len-len.ensures

pub returns-in-Err : goal.returns-in-Err
returns-in-Err c =
    let ascii = subst (λ n. IsAscii (take n c.args.text.now)) (sym c.plain_len-len.ensures) (run_ascii c.args.text.now) in
    absurd (c.in-Err.ensures.cases.0 (IsUtf8-from_ascii _ ascii))
