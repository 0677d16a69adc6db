-- Only the line alters, and what it loses is told.
use Rattle.strm_ldterm.proofs.Prelude.{length, drop, refl, sym, ap, ◌∙◌, ◌-◌}
use Rattle.strm_ldterm.specs.Prelude.{Erased, plain, edited, is_blank, ErasesByte, edits}
use Rattle.std.proofs.lemmas.List.{length-drop}
use Rattle.strm_ldterm.specs.Stands.{ldterm_in, paired}
use Rattle.strm_ldterm.proofs.Strikes.{line-proceeds}
use Rattle.strm_ldterm.proofs.line_keys.strike_erase.Goals as goal

pub returns : goal.returns
returns c = λ s q held.
    let x = (paired c.args.ldterm.now q) in
    let left = edited is_blank ErasesByte x.line in
    let e = c.erase_byte-gone.ensures in
    let gone = length-drop (length left) x.line ∙ sym (e.gone ∙ ap (λ l. length x.line - length l) e.line) in
    line-proceeds s x c.erase_byte-gone.new.self left c.args.told.now c.tell_edit.new.told (edits plain c.args.here ErasesByte Erased c.args.byte (ldterm_in s x))
    held e.line refl refl refl (c.tell_edit.ensures (drop (length left) x.line) c.args.byte gone)
