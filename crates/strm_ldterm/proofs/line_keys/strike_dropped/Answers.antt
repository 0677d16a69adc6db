-- Nothing but what is told alters.
use Rattle.std.proofs.Common.{[], ◌∷◌, refl, sym, subst}
use Rattle.strm_types.specs.Cells.{plain}
use Rattle.strm_types.specs.Typing.{dropped}
use Rattle.strm_ldterm.specs.Stands.{ldterm_in, paired}
use Rattle.strm_ldterm.specs.Does.{Proceeds}
use Rattle.strm_ldterm.proofs.Strikes.{line-proceeds}
use Rattle.strm_ldterm.proofs.line_keys.strike_dropped.Goals as goal

pub returns : goal.returns
returns c = λ s q held.
    let x = (paired c.args.ldterm.now q) in
    let p = ldterm_in s x in
    let rule = c.rule_of_dropped.result in
    subst (λ a. Proceeds s s x x 1 [] [] c.args.told.now c.tell_lost.new.told a) (sym (c.rule_of_dropped.ensures c.args.byte p c.args.here))
    (line-proceeds s x x.line x.line c.args.told.now c.tell_lost.new.told (dropped plain c.args.here rule c.args.byte p) held refl refl refl refl (c.tell_lost.ensures (c.args.byte ∷ []) refl))
