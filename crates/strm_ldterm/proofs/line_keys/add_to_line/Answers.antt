-- By the room in the line, and by IMAXBEL.
use Rattle.strm_ldterm.proofs.Prelude.{[], ◌∷◌, ◌++◌, refl, sym, subst, ◌∙◌, arith}
use Rattle.strm_ldterm.specs.Prelude.{LineFull, LineOver, plain, sends, edited, is_blank, Types, lost}
use Rattle.std.proofs.lemmas.List.{length_push}
use Rattle.strm_types.specs.Typing.{dropped}
use Rattle.strm_ldterm.specs.Stands.{ldterm_in, paired}
use Rattle.strm_ldterm.specs.Does.{Proceeds}
use Rattle.strm_ldterm.proofs.Strikes.{added-room, added-full, added-over, line-proceeds}
use Rattle.strm_ldterm.proofs.line_keys.add_to_line.Goals as goal

pub returns-then-has_room : goal.returns-then-has_room
returns-then-has_room c = λ s q held.
    let x = (paired c.args.ldterm.now q) in
    let p = ldterm_in s x in
    let b = c.args.byte in
    let f = c.args.told.now in
    let room = sym c.has_room.ensures ∙ c.if-has_room.true in
    subst (λ a. Proceeds s s x (record x { line = c.push.new.self }) 1 [] [] f f a) (sym (added-room c.args.here b p c.requires room))
    (line-proceeds s x c.push.new.self (edited is_blank (Types b) x.line) f f (sends [] (record p { line = edited is_blank (Types b) x.line })) held c.push.ensures refl refl refl refl)

pub returns-then-contains : goal.returns-then-contains
returns-then-contains c = λ s q held.
    let x = (paired c.args.ldterm.now q) in
    let p = ldterm_in s x in
    let b = c.args.byte in
    let f = c.args.told.now in
    let full = sym c.has_room.ensures ∙ c.if-has_room.false in
    let bell = sym (c.contains.ensures tt) ∙ c.if-contains.true in
    subst (λ a. Proceeds s s x x 1 [] [] f c.tell_lost.new.told a) (sym (added-full c.args.here b p c.requires full bell))
    (line-proceeds s x x.line x.line f c.tell_lost.new.told (dropped plain c.args.here LineFull b p) held refl refl refl refl (c.tell_lost.ensures (b ∷ []) refl))

pub returns : goal.returns
returns c = λ s q held.
    let x = (paired c.args.ldterm.now q) in
    let p = ldterm_in s x in
    let b = c.args.byte in
    let f = c.args.told.now in
    let full = sym c.has_room.ensures ∙ c.if-has_room.false in
    let still = sym (c.contains.ensures tt) ∙ c.if-contains.false in
    let long = length_push x.line b ∙ omega (arith, c.len.ensures.value) in
    subst (λ a. Proceeds s s x (record x { line = c.clear.new.self }) 1 [] [] f c.tell_lost-2.new.told a) (sym (added-over c.args.here b p c.requires full still))
    (line-proceeds s x c.clear.new.self [] f c.tell_lost-2.new.told (record (sends [] (record p { line = [] })) { gone = lost plain c.args.here LineOver (x.line ++ b ∷ []) }) held c.clear.ensures.line refl refl refl (c.tell_lost-2.ensures (x.line ++ b ∷ []) long))
