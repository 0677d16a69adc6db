-- Spaces are made, and the TAB goes.
use Rattle.strm_ldterm.proofs.Prelude.{◌≡◌, length, replicate, sym, ap, ◌∙◌}
use Rattle.strm_ldterm.specs.Prelude.{cells_made, plain, tallied, space, told_for, output_dir, made_more, told_more}
use Rattle.std.proofs.lemmas.List.{length-replicate}
use Rattle.strm_types.specs.declared.rules.Rule.TheVariants.{Replaced}
use Rattle.strm_types.proofs.MadeCells.{made-long}
use Rattle.strm_ldterm.proofs.output_runs.tell_given.Goals as goal

pub returns-in-Spaces : goal.returns-in-Spaces
returns-in-Spaces c = λ byte.
    let dir = output_dir plain c.args.here in
    let n = c.in-Spaces.columns in
    let told = c.args.told.now in
    let long : length (cells_made plain dir 0 (replicate n space)) ≡ n = made-long plain dir 0 (replicate n space) ∙ length-replicate n space in
    c.tell.ensures
    ∙ ap (λ d. told_more d Replaced 1 c.tell_made-in-Spaces.new.self) c.direction_at-direction.ensures
    ∙ ap (λ f. told_more dir Replaced 1 f) (c.tell_made-in-Spaces.ensures ∙ ap (λ d. made_more d c.from.result told) c.direction_at-direction.ensures ∙ ap (λ k. made_more dir k told) (c.from.ensures ∙ sym long))
    ∙ sym (ap (λ g. tallied (told_for plain dir g 0 byte) told) c.in-Spaces.is)
