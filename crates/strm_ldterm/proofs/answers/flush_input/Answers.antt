-- By the command.
use Rattle.strm_ldterm.proofs.Prelude.{List, [], ◌∷◌, cond, refl, sym, ◌∙◌}
use Rattle.strm_ldterm.specs.Prelude.{Up, Note, Room, sends}
use Rattle.strm_ldterm.specs.Stands.{ldterm_in, paired}
use Rattle.strm_ldterm.proofs.Flushed.{kept-still}
use Rattle.strm_ldterm.proofs.Sends.{sends-none}
use Rattle.strm_ldterm.proofs.Signals.{flush-plain}
use Rattle.strm_ldterm.proofs.TakingUp.{input-flushes, input-stays}
use Rattle.strm_ldterm.proofs.answers.flush_input.Goals as goal

pub returns-then-not-flushes_input : goal.returns-then-not-flushes_input
returns-then-not-flushes_input g c =
    let s = g.B.Blocks.value c.args.store.now in
    let x = (paired c.args.ldterm.now c.args.queues.now) in
    let f = c.args.told.now in
    input-stays s x c.args.here c.args.command [] f (sym c.flushes_input.ensures ∙ c.if-not-flushes_input.true)
    (sends-none s x x [] f f 0 (sends [] (ldterm_in s x)) c.requires.held (λ k. refl) (λ i. refl) refl refl refl refl refl)

pub send_up-flush-requires-clause-kind : goal.send_up-flush-requires-clause-kind
send_up-flush-requires-clause-kind g c = flush-plain

pub returns : goal.returns
returns g c =
    let s = g.B.Blocks.value c.args.store.now in
    let t = g.B.Blocks.value c.flush_read-room.new.store in
    let u = g.B.Blocks.value c.send_up-flush.new.store in
    let x = paired c.args.ldterm.now c.args.queues.now in
    let y = paired c.flush_read-room.new.ldterm c.flush_read-room.new.queues in
    let f' = c.flush_read-room.new.told in
    let alters = c.flush_read-room.ensures.alters in
    input-flushes s t u x y c.args.here c.args.command c.send_up-flush.result (cond {A = List Note} c.flush_read-room.result (Room Up ∷ []) []) c.args.told.now f' c.audit-2.ensures c.requires.kept
    (sym c.flushes_input.ensures ∙ c.if-not-flushes_input.false) c.flush_read-room.ensures (c.send_up-flush.ensures.does y f' alters.held (kept-still s t x y alters c.requires.kept))
