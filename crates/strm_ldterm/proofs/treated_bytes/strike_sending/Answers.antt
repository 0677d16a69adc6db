use Rattle.strm_ldterm.proofs.Prelude.{[], sym, subst, arith}
use Rattle.strm_ldterm.specs.Prelude.{plain, strikes, sent_of}
use Rattle.strm_ldterm.specs.Stands.{ldterm_in, paired}
use Rattle.strm_ldterm.specs.Does.{Proceeds}
use Rattle.strm_ldterm.proofs.treated_bytes.strike_sending.Goals as goal
use Rattle.strm_ldterm.proofs.Joining.{takes-more}

pub returns-in-Delimiter : goal.returns-in-Delimiter
returns-in-Delimiter g c = λ q held kept.
    let s = g.B.Blocks.value c.args.store.now in
    takes-more s (g.B.Blocks.value c.end_line.new.store) (paired c.args.ldterm.now q) (paired c.end_line.new.ldterm q) 1 2 [] (sent_of c.end_line.result) c.args.told.now c.args.told.now
    (strikes plain c.args.here c.args.key c.args.byte (ldterm_in s (paired c.args.ldterm.now q))) (omega arith)
    (subst (λ k. Proceeds s (g.B.Blocks.value c.end_line.new.store) (paired c.args.ldterm.now q) (paired c.end_line.new.ldterm q) 1 [] (sent_of c.end_line.result) c.args.told.now c.args.told.now (strikes plain c.args.here k c.args.byte (ldterm_in s (paired c.args.ldterm.now q))))
    (sym c.in-Delimiter.is) (c.end_line.ensures q c.args.told.now held kept))
