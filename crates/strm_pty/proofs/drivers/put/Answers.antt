-- The kind is that of the message.
use Rattle.strm_pty.proofs.Prelude.{◌∙◌, sym, ap, subst, kind-is}
use Rattle.strm_pty.specs.Prelude.{is_data_kind, in_hand, token, HasRoom, Spends}
use Rattle.strm_pty.specs.Does.{driver_cost}
use Rattle.strm_frame.proofs.Shifting.{shifts-spends}
use Rattle.strm_pty.proofs.Putting.{held-data}
use Rattle.strm_pty.proofs.drivers.put.Goals as goal

pub put_any-requires-clause-room : goal.put_any-requires-clause-room
put_any-requires-clause-room g c =
    let s = g.B.Blocks.value c.args.store.now in
    subst (λ k. HasRoom s (driver_cost c.args.here.way k)) (kind-is (in_hand s (token c.args.message)) ∙ sym c.kind-kind.ensures) c.requires.room

pub returns-clause-spends : goal.returns-clause-spends
returns-clause-spends g c =
    let s = g.B.Blocks.value c.args.store.now in
    let t = g.B.Blocks.value c.put_any.new.store in
    subst (λ k. Spends s t (driver_cost c.args.here.way k) 0) (c.kind-kind.ensures ∙ sym (kind-is (in_hand s (token c.args.message))))
    (shifts-spends s t _ _ (driver_cost c.args.here.way c.kind-kind.result) c.put_any.ensures.does.hands)

pub returns-clause-blocks : goal.returns-clause-blocks
returns-clause-blocks g c = λ held.
    let s = g.B.Blocks.value c.args.store.now in
    c.put_any.ensures.blocks (ap is_data_kind (c.kind-kind.ensures ∙ sym (kind-is (in_hand s (token c.args.message)))) ∙ held-data _ held)
