-- By NOFLSH.
use Rattle.std.proofs.Common.{[], ◌∷◌, sym, ◌∙◌, arith}
use Rattle.std.specs.Option.{option_to_list}
use Rattle.strm_ldterm.specs.Stands.{paired}
use Rattle.strm_frame.proofs.WidePools.{room-left}
use Rattle.strm_ldterm.proofs.Proceeding.{proceeds-kept}
use Rattle.strm_ldterm.proofs.Signals.{signal-keeps, signal-flushes, room-one}
use Rattle.strm_ldterm.proofs.signal_keys.signal_with.Goals as goal

pub send_key-requires-clause-room : goal.send_key-requires-clause-room
send_key-requires-clause-room g c = room-one _ c.requires.room

pub flush_typed-requires-clause-room : goal.flush_typed-requires-clause-room
flush_typed-requires-clause-room g c = room-one _ c.requires.room

pub send_key-requires-2-clause-room : goal.send_key-requires-2-clause-room
send_key-requires-2-clause-room g c =
    let typed = c.flush_typed in
    room-left (g.B.Blocks.value c.args.store.now) (g.B.Blocks.value typed.new.store) 2 1 1 (omega arith) c.requires.room typed.ensures.spends

pub returns-then-keeps : goal.returns-then-keeps
returns-then-keeps g c = λ q held kept.
    let s = g.B.Blocks.value c.args.store.now in
    let f = c.args.told.now in
    let x = paired c.args.ldterm.now q in
    let y = paired c.send_gathered-first.new.ldterm q in
    let first = option_to_list c.send_gathered-first.result in
    let did = c.send_gathered-first.ensures s q f held in
    let left = proceeds-kept s s x y 0 first f f _ kept did in
    signal-keeps s s x y c.args.here c.args.asked c.args.signal c.args.byte first f c.audit.ensures kept did (g.B.Blocks.value c.send_key.new.store) c.send_key.result c.send_key.new.told
    (sym c.keeps_line-keeps.ensures ∙ c.if-keeps.true) (c.send_key.ensures y did.held left)

pub returns : goal.returns
returns g c = λ q held kept.
    let s = g.B.Blocks.value c.args.store.now in
    let u = g.B.Blocks.value c.flush_typed.new.store in
    let f = c.args.told.now in
    let f1 = c.flush_typed.new.told in
    let x = paired c.args.ldterm.now q in
    let y = paired c.send_gathered-first.new.ldterm q in
    let z = paired c.flush_typed.new.ldterm q in
    let first = option_to_list c.send_gathered-first.result in
    let did = c.send_gathered-first.ensures s q f held in
    let left = proceeds-kept s s x y 0 first f f _ kept did in
    let flush = c.flush_typed.ensures.does q did.held left in
    let left' = proceeds-kept s u y z 1 (c.flush_typed.result ∷ []) f f1 _ left flush in
    signal-flushes s s x y c.args.here c.args.asked c.args.signal c.args.byte first f c.audit.ensures kept did u (g.B.Blocks.value c.send_key-2.new.store) z
    c.flush_typed.result c.send_key-2.result f1 c.send_key-2.new.told (sym c.keeps_line-keeps.ensures ∙ c.if-keeps.false) c.audit-2.ensures flush (c.send_key-2.ensures z flush.held left')
