-- Only the line alters, and what it loses is told.
use Rattle.strm_ldterm.proofs.Prelude.{length, drop, refl, sym, ap, ◌∙◌, ◌-◌}
use Rattle.strm_ldterm.specs.Prelude.{plain, edited, is_blank, edits}
use Rattle.std.proofs.lemmas.List.{length-drop}
use Rattle.strm_types.specs.declared.rules.Rule.TheVariants.{Killed}
use Rattle.strm_types.specs.Lines.{ErasesAll}
use Rattle.strm_ldterm.specs.Stands.{ldterm_in, paired}
use Rattle.strm_ldterm.proofs.Strikes.{line-proceeds}
use Rattle.strm_ldterm.proofs.line_keys.strike_kill.Goals as goal

pub returns : goal.returns
returns c = λ s q held.
    let x = (paired c.args.ldterm.now q) in
    let left = edited is_blank ErasesAll x.line in
    let e = c.clear-gone.ensures in
    let gone = length-drop (length left) x.line ∙ sym (e.gone ∙ ap (λ l. length x.line - length l) e.line) in
    line-proceeds s x c.clear-gone.new.self left c.args.told.now c.tell_edit.new.told (edits plain c.args.here ErasesAll Killed c.args.byte (ldterm_in s x))
    held e.line refl refl refl (c.tell_edit.ensures (drop (length left) x.line) c.args.byte gone)
