-- The message is made, and nothing else changes.
use Rattle.strm_ldterm.proofs.Prelude.{[], ◌∷◌, refl, ap, arith}
use Rattle.strm_ldterm.specs.Prelude.{Up, toward, onward, sends, bare, Sent, StoreValue}
use Rattle.strm_ldterm.specs.Stands.{ldterm_in}
use Rattle.strm_frame.proofs.WidePools.{spends-free}
use Rattle.strm_ldterm.proofs.Sends.{sends-made}
use Rattle.strm_ldterm.proofs.signal_keys.send_up.Goals as goal

pub returns-clause-does : goal.returns-clause-does
returns-clause-does g c = λ x f held kept.
    let s = g.B.Blocks.value c.args.store.now in
    let m = bare c.args.kind c.args.bytes.now in
    let z : Sent = record { to = c.toward.result; message = c.make-message.result } in
    sends-made s (g.B.Blocks.value c.make-message.new.store) x x z (z ∷ []) f f m (toward Up c.args.here) (sends (onward Up c.args.here m ∷ []) (ldterm_in s x)) held kept
    (λ k. refl) (λ i. refl) c.make-message.ensures refl c.toward.ensures refl refl refl refl

pub returns-clause-spends : goal.returns-clause-spends
returns-clause-spends g c =
    let made = c.make-message.ensures in
    spends-free (g.B.Blocks.value c.args.store.now) (g.B.Blocks.value c.make-message.new.store)
    (record { mblks = ap (λ (v : StoreValue). v.mblks) made.after; dblks = ap (λ (v : StoreValue). v.dblks) made.after }) 1 0
    (omega (arith, made.room_m)) (omega (arith, made.room_d))
