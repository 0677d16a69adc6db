-- Input is flushed, the termios is set, the mode is told, and the message goes on.
use Rattle.strm_ldterm.proofs.Prelude.{ℕ, List, [], ◌∷◌, ◌∙◌, ap, cond, refl, subst, arith, acked-own}
use Rattle.strm_ldterm.specs.Prelude.{Setopts, Up, Note, Room, own_at, ldterm_does, onward, sends, read_mode_of, bare, Sent, message_in, token}
use Rattle.std.specs.Option.{option_to_list}
use Rattle.strm_types.specs.Options.{mode_number}
use Rattle.strm_ldterm.specs.Does.{Proceeds}
use Rattle.strm_ldterm.specs.Stands.{ldterm_in, paired}
use Rattle.strm_ldterm.specs.TakingUp.{flush_takes, line_takes}
use Rattle.strm_ldterm.proofs.TakingUp.{can-kept, mode-plain, noted-kept, noted-room, room-left, takes-up}
use Rattle.strm_ldterm.proofs.answers.take_up.Goals as goal

pub send_up-mode-requires-clause-room : goal.send_up-mode-requires-clause-room
send_up-mode-requires-clause-room g c =
    let s = g.B.Blocks.value c.args.store.now in
    let t = g.B.Blocks.value c.flush_input-room.new.store in
    let u = g.B.Blocks.value c.set_termios-line.new.store in
    let x = (paired c.args.ldterm.now c.args.queues.now) in
    let y = (paired c.flush_input-room.new.ldterm c.flush_input-room.new.queues) in
    let z = (paired c.set_termios-line.new.ldterm c.flush_input-room.new.queues) in
    let f = c.args.told.now in
    let kept = noted-kept s t x y (flush_takes c.args.set.0) (cond {A = List Note} c.flush_input-room.result.0 (Room Up ∷ []) []) (option_to_list c.flush_input-room.result.1) f c.flush_input-room.new.told _ (can-kept s x (token c.args.message) c.requires.can_put) c.flush_input-room.ensures in
    noted-room t u y z (line_takes y.line) 1 [] (option_to_list c.set_termios-line.result) f f _ (c.set_termios-line.ensures c.flush_input-room.new.queues f c.flush_input-room.ensures.held kept)
    (room-left s t x y c.args.here c.args.set.0 (cond {A = List Note} c.flush_input-room.result.0 (Room Up ∷ []) []) (option_to_list c.flush_input-room.result.1) f c.flush_input-room.new.told c.flush_input-room.ensures c.requires.room)

pub send_up-mode-requires-clause-kind : goal.send_up-mode-requires-clause-kind
send_up-mode-requires-clause-kind g c = mode-plain

pub returns : goal.returns
returns g c =
    let s = g.B.Blocks.value c.args.store.now in
    let t = g.B.Blocks.value c.flush_input-room.new.store in
    let u = g.B.Blocks.value c.set_termios-line.new.store in
    let v = g.B.Blocks.value c.send_up-mode.new.store in
    let x = (paired c.args.ldterm.now c.args.queues.now) in
    let y = (paired c.flush_input-room.new.ldterm c.flush_input-room.new.queues) in
    let z = (paired c.set_termios-line.new.ldterm c.flush_input-room.new.queues) in
    let here = c.args.here in
    let termios = c.args.set.1 in
    let f = c.args.told.now in
    let f1 = c.flush_input-room.new.told in
    let kept = noted-kept s t x y (flush_takes c.args.set.0) (cond {A = List Note} c.flush_input-room.result.0 (Room Up ∷ []) []) (option_to_list c.flush_input-room.result.1) f c.flush_input-room.new.told _ (can-kept s x (token c.args.message) c.requires.can_put) c.flush_input-room.ensures in
    let set = c.set_termios-line.ensures c.flush_input-room.new.queues f1 c.flush_input-room.ensures.held kept in
    let kept' = noted-kept t u y z (line_takes y.line) [] (option_to_list c.set_termios-line.result) f1 f1 _ kept set in
    let m = message_in s (token c.args.message) in
    let last : Sent = record { to = c.toward.result; message = c.args.message } in
    let mode = c.send_up-mode.result in
    let told = subst (λ (bytes : List ℕ). Proceeds u v z z 1 [] (mode ∷ []) f1 f1 (sends (onward Up here (bare Setopts bytes) ∷ []) (ldterm_in u z))) (ap (λ n. n ∷ c.tostop_of.result ∷ []) c.mode_of.ensures ∙ ap (λ n. mode_number (read_mode_of termios) ∷ n ∷ []) c.tostop_of.ensures) (c.send_up-mode.ensures.does z f1 set.held kept') in
    takes-up s t u v x y z here c.args.set.0 (own_at ldterm_does here m) termios (cond {A = List Note} c.flush_input-room.result.0 (Room Up ∷ []) []) (option_to_list c.flush_input-room.result.1) (option_to_list c.set_termios-line.result) mode last _ c.args.told.now f1
    c.audit.ensures c.audit-2.ensures c.audit-3.ensures c.requires.can_put c.requires.chain c.toward.ensures c.flush_input-room.ensures set told c.note_if.ensures refl
    (omega (arith, acked-own here m c.requires.up c.requires.acked))
