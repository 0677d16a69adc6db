-- What was gathered leaves the module under its new band.
use Rattle.strm_ldterm.proofs.Prelude.{ℕ, List, map, sym, ap, subst, [], ◌∷◌, ◌∙◌, ◌≡◌, arith, IfSome, None, Some}
use Rattle.strm_ldterm.specs.Prelude.{Down, onward, sends, Message, cells_of, with_given, message_in, sent_of, token}
use Rattle.strm_ldterm.specs.Does.{Proceeds}
use Rattle.strm_ldterm.specs.Outgone.{data_of}
use Rattle.strm_ldterm.specs.Stands.{ldterm_in, IsGathered, paired}
use Rattle.strm_ldterm.proofs.Beside.{chain-in-hand}
use Rattle.strm_ldterm.proofs.Finished.{gathered-is, gathered-shown}
use Rattle.strm_ldterm.proofs.Freeing.{none-freed}
use Rattle.strm_ldterm.proofs.Rebanded.{given-some, goes-down, nothing-down}
use Rattle.strm_ldterm.proofs.write_turns.send_output.Goals as goal

pub reband-requires-clause-in_hand : goal.reband-requires-clause-in_hand
reband-requires-clause-in_hand g c =
    let s = g.B.Blocks.value c.args.store.now in
    let there : c.args.ldterm.now.gathered ≡ Some c.in-Some.message = sym c.take.ensures.value ∙ c.in-Some.is in
    let is : IsGathered s (token c.in-Some.message) = subst (λ o. IfSome o (λ m. IsGathered s (token m))) there c.requires.gathers in
    chain-in-hand s (token c.in-Some.message) c.audit.ensures is.are.are.chain.some

pub reband-requires-clause-is : goal.reband-requires-clause-is
reband-requires-clause-is g c =
    let s = g.B.Blocks.value c.args.store.now in
    let there : c.args.ldterm.now.gathered ≡ Some c.in-Some.message = sym c.take.ensures.value ∙ c.in-Some.is in
    let is : IsGathered s (token c.in-Some.message) = subst (λ o. IfSome o (λ m. IsGathered s (token m))) there c.requires.gathers in
    is.are.are

pub returns-in_default-clause-did : goal.returns-in_default-clause-did
returns-in_default-clause-did g c = λ q f held kept.
    let s = g.B.Blocks.value c.args.store.now in
    let x = (paired c.args.ldterm.now q) in
    let p = ldterm_in s x in
    subst (λ o. Proceeds s s x (record x { gathered = o }) 0 [] (sent_of c.none.result) f f (sends (map (onward Down c.args.here) (with_given p.gathered (data_of c.args.band.0 []))) (record p { gathered = [] }))) (sym c.take.ensures.after)
    (nothing-down s x c.args.here c.args.band.0 f (sent_of c.none.result) c.none.ensures (sym c.take.ensures.value ∙ c.in_default.is) held)

pub returns-in_default-clause-blocks : goal.returns-in_default-clause-blocks
returns-in_default-clause-blocks g c = none-freed (g.B.Blocks.value c.args.store.now)

pub returns-clause-did : goal.returns-clause-did
returns-clause-did g c = λ q f held kept.
    let s = g.B.Blocks.value c.args.store.now in
    let t = g.B.Blocks.value c.reband.new.store in
    let x = (paired c.args.ldterm.now q) in
    let m = c.in-Some.message in
    let p = ldterm_in s x in
    let there : x.gathered ≡ Some m = sym c.take.ensures.value ∙ c.in-Some.is in
    let cells = cells_of (message_in s (token m)) in
    let some = (gathered-is s x m there held).some in
    let given : with_given p.gathered (data_of c.args.band.0 []) ≡ data_of c.args.band.0 cells ∷ [] =
    ap (λ (l : List ℕ). with_given l (data_of c.args.band.0 [])) (gathered-shown s x m there) ∙ given-some cells c.args.band.0 (λ none. omega arith) in
    subst (λ o. Proceeds s t x (record x { gathered = o }) 0 [] (sent_of c.one.result) f f (sends (map (onward Down c.args.here) (with_given p.gathered (data_of c.args.band.0 []))) (record p { gathered = [] }))) (sym c.take.ensures.after)
    (subst (λ (ms : List (Message ℕ)). Proceeds s t x (record x { gathered = None }) 0 [] (sent_of c.one.result) f f (sends (map (onward Down c.args.here) ms) (record p { gathered = [] }))) (sym given)
    (goes-down s t x m there held kept (data_of c.args.band.0 cells) c.reband.ensures.became c.args.here c.toward.result f (sent_of c.one.result) c.one.ensures c.toward.ensures))

pub returns-clause-blocks : goal.returns-clause-blocks
returns-clause-blocks g c = c.reband.ensures.blocks
