-- The line goes up as it is.
use Rattle.strm_ldterm.proofs.Prelude.{[], ◌∷◌, subst, append-nil}
use Rattle.strm_ldterm.specs.Prelude.{plain, line_sent, lost, sent_of}
use Rattle.strm_types.specs.declared.rules.Rule.TheVariants.{EofKey}
use Rattle.strm_ldterm.specs.Does.{Proceeds}
use Rattle.strm_ldterm.specs.Stands.{ldterm_in, paired}
use Rattle.strm_ldterm.proofs.Sends.{tells, key-told}
use Rattle.strm_ldterm.proofs.sending_keys.end_file.Goals as goal

pub returns : goal.returns
returns g c = λ q held kept.
    let s = g.B.Blocks.value c.args.store.now in
    let t = g.B.Blocks.value c.send_line.new.store in
    let x = (paired c.args.ldterm.now q) in
    let y = (paired c.send_line.new.ldterm q) in
    let p = ldterm_in s x in
    let f = c.args.told.now in
    let sent = sent_of c.send_line.result in
    tells s t x y 1 sent f c.tell.new.self (line_sent plain c.args.here p.line p) (lost plain c.args.here EofKey (c.args.byte ∷ []))
    (subst (λ l. Proceeds s t x y 1 [] sent f f (line_sent plain c.args.here l p)) (append-nil x.line) (c.send_line.ensures q f held kept))
    (key-told c.args.here EofKey c.args.byte _ f _ c.tell.ensures c.direction_at.ensures)
