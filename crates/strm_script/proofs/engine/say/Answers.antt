use Rattle.std.proofs.Common.{◌++◌, ap, ◌∙◌}
use Rattle.strm_script.proofs.engine.say.Goals as goal

pub returns-clause-ok : goal.returns-clause-ok
returns-clause-ok c =
    let items = c.in_ok-extend_from_slice.ensures.items in
    let value = c.as_bytes.ensures.value in
    let text = c.in_ok-text.ensures.ok in
    items ∙ ap (λ k. c.args.answers.now.items ++ k) (value ∙ text)
