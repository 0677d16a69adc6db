-- The key goes by its rule.
use Rattle.strm_ldterm.proofs.Prelude.{[], ◌∷◌}
use Rattle.strm_ldterm.specs.Prelude.{Pcsig, Up, SignalKey, plain, onward, sends, bare, lost}
use Rattle.strm_ldterm.specs.Stands.{ldterm_in}
use Rattle.strm_ldterm.proofs.Sends.{tells, key-told}
use Rattle.strm_ldterm.proofs.Signals.{signal-plain}
use Rattle.strm_ldterm.proofs.signal_keys.send_key.Goals as goal

pub send_up-requires-clause-kind : goal.send_up-requires-clause-kind
send_up-requires-clause-kind g c = signal-plain

pub returns : goal.returns
returns g c = λ x held kept.
    let s = g.B.Blocks.value c.args.store.now in
    let f = c.args.told.now in
    tells s (g.B.Blocks.value c.send_up.new.store) x x 1 (c.send_up.result ∷ []) f c.tell.new.self
    (sends (onward Up c.args.here (bare Pcsig (c.args.signal ∷ [])) ∷ []) (ldterm_in s x)) (lost plain c.args.here SignalKey (c.args.byte ∷ [])) (c.send_up.ensures.does x f held kept)
    (key-told c.args.here SignalKey c.args.byte _ f _ c.tell.ensures c.direction_at.ensures)
