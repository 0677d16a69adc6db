-- The M_STOP goes down, where output isn't stopped.
use Rattle.strm_ldterm.proofs.Prelude.{Bool, true, cond, List, [], ◌∷◌, refl, sym, ap}
use Rattle.strm_ldterm.specs.Prelude.{Down, Parcel, toward, onward, bare}
use Rattle.strm_types.specs.declared.kinds.MsgKind.TheVariants.{Stop}
use Rattle.strm_types.specs.declared.rules.Rule.TheVariants.{FlowKey}
use Rattle.strm_ldterm.specs.Stands.{ldterm_in, paired}
use Rattle.strm_ldterm.proofs.Sends.{sends-made, sends-none, held-stopped, stop-plain, key-told}
use Rattle.strm_ldterm.proofs.sending_keys.stop.Goals as goal

pub make-message-requires-clause-kind : goal.make-message-requires-clause-kind
make-message-requires-clause-kind g c = stop-plain

pub returns-then-ldterm : goal.returns-then-ldterm
returns-then-ldterm g c = λ q held kept.
    let s = g.B.Blocks.value c.args.store.now in
    let x = (paired c.args.ldterm.now q) in
    let p = ldterm_in s x in
    let down = onward Down c.args.here (bare Stop []) in
    let f = c.args.told.now in
    sends-none s x x _ f _ 1 _ held (λ k. refl) (λ i. refl) c.none.ensures
    (ap (λ (v : Bool). record p { stopped = v }) c.if-ldterm.true) refl (sym (ap (λ v. cond {A = List (Parcel _)} v [] (down ∷ [])) c.if-ldterm.true))
    (key-told c.args.here FlowKey c.args.byte _ f _ c.tell.ensures c.direction_at.ensures)

pub returns : goal.returns
returns g c = λ q held kept.
    let s = g.B.Blocks.value c.args.store.now in
    let x = (paired c.args.ldterm.now q) in
    let down = onward Down c.args.here (bare Stop []) in
    let f = c.args.told.now in
    sends-made s (g.B.Blocks.value c.make-message.new.store) x (record x { stopped = true }) (record { to = c.toward.result; message = c.make-message.result }) _ f _ (bare Stop []) (toward Down c.args.here) _
    (held-stopped s x held) kept (λ k. refl) (λ i. refl) c.make-message.ensures c.one.ensures c.toward.ensures
    refl refl (sym (ap (λ v. cond {A = List (Parcel _)} v [] (down ∷ [])) c.if-ldterm.false))
    (key-told c.args.here FlowKey c.args.byte _ f _ c.tell.ensures c.direction_at.ensures)
