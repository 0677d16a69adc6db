-- By the mode.
use Rattle.std.proofs.Common.{[], sym, subst, ◌∙◌}
use Rattle.strm_ldterm.specs.Stands.{ldterm_in, paired}
use Rattle.strm_ldterm.specs.Does.{Proceeds}
use Rattle.strm_ldterm.proofs.Strikes.{added-raw}
use Rattle.strm_ldterm.proofs.line_keys.strike_ordinary.Goals as goal

pub returns-else-contains : goal.returns-else-contains
returns-else-contains g c = λ q held kept.
    let s = g.B.Blocks.value c.args.store.now in
    let x = (paired c.args.ldterm.now q) in
    let f = c.args.told.now in
    let raw = sym (c.contains.ensures tt) ∙ c.if-contains.false in
    subst (λ a. Proceeds s (g.B.Blocks.value c.gather.new.store) x (paired c.gather.new.ldterm q) 1 [] [] f f a) (sym (added-raw c.args.here c.args.byte (ldterm_in s x) raw)) (c.gather.ensures q f held kept)

pub returns-then-contains : goal.returns-then-contains
returns-then-contains g c = λ q held kept. c.add_to_line.ensures (g.B.Blocks.value c.args.store.now) q held
