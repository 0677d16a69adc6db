-- One after the other.
use Rattle.strm_ldterm.proofs.Prelude.{[], ◌∷◌, refl, sym, ap, ◌∙◌}
use Rattle.strm_ldterm.specs.Prelude.{plain, tallied, lost}
use Rattle.strm_types.specs.declared.rules.Rule.TheVariants.{EraseKey}
use Rattle.strm_ldterm.proofs.Strikes.{told-append}
use Rattle.strm_ldterm.proofs.line_keys.tell_edit.Goals as goal

pub returns : goal.returns
returns c = λ gone key long.
    let last = lost plain c.args.here EraseKey (key ∷ []) in
    c.tell_lost-2.ensures (key ∷ []) refl ∙ ap (tallied last) (c.tell_lost.ensures gone long) ∙ sym (told-append (lost plain c.args.here c.args.rule gone) last c.args.told.now)
