-- First what waits to go up is flushed, then what waits to go down, and then the message goes on.
use Rattle.strm_ldterm.proofs.Prelude.{[], ◌∷◌, sym, ap, subst, ◌∙◌, kind-is, can-in_hand}
use Rattle.strm_ldterm.specs.Prelude.{FlushAsked, onward, sends, both, read_flushed, write_flushed, in_hand, token, IsChain, is_flush, message_in}
use Rattle.strm_ldterm.specs.Stands.{ldterm_in, paired}
use Rattle.strm_ldterm.specs.Does.{Does}
use Rattle.strm_ldterm.proofs.Flushed.{alters-both, flushes-both}
use Rattle.strm_ldterm.proofs.Passing.{flushes-send, flush-plain, passes-after}
use Rattle.strm_ldterm.proofs.Steps.{still-chain}
use Rattle.strm_ldterm.proofs.puts.pass_flush.Goals as goal

pub asked_of-asked-requires-clause-in_hand : goal.asked_of-asked-requires-clause-in_hand
asked_of-asked-requires-clause-in_hand g c = can-in_hand _ _ _ c.audit.ensures c.requires.can_put

pub asked_of-asked-requires-clause-kind : goal.asked_of-asked-requires-clause-kind
asked_of-asked-requires-clause-kind g c =
    let s = g.B.Blocks.value c.args.store.now in
    flush-plain _ (ap is_flush (sym (kind-is (in_hand s (token c.args.message)))) ∙ c.requires.kind)

pub returns : goal.returns
returns g c =
    let s = g.B.Blocks.value c.args.store.now in
    let t = g.B.Blocks.value c.flush_read-up.new.store in
    let u = g.B.Blocks.value c.flush_write-down.new.store in
    let x = (paired c.args.ldterm.now c.args.queues.now) in
    let y = (paired c.flush_read-up.new.ldterm c.flush_read-up.new.queues) in
    let z = (paired c.flush_write-down.new.ldterm c.flush_write-down.new.queues) in
    let i = token c.args.message in
    let m = message_in s i in
    let here = c.args.here in
    let asked = c.asked_of-asked.result in
    let p = ldterm_in s x in
    let f = c.args.told.now in
    let f2 = c.flush_write-down.new.told in
    let alters = alters-both s t u x y z c.flush_read-up.ensures.alters c.flush_write-down.ensures.alters in
    let chain = subst IsChain (sym (still-chain s u x z i c.audit.ensures c.requires.can_put alters)) c.requires.chain in
    let did = flushes-both s t u x y z _ _ c.rooms.result.items f c.flush_read-up.new.told f2 (read_flushed here asked p) (write_flushed here asked) c.flush_read-up.ensures c.flush_write-down.ensures c.rooms.ensures in
    subst (λ (a : FlushAsked). Does s u x z i c.pass_on.result f f2 (both (both (read_flushed here a p) (write_flushed here a)) (sends (onward here.way here m ∷ [])))) c.asked_of-asked.ensures.asked
    (passes-after s u x z i c.audit.ensures c.requires.can_put here c.rooms.result.items c.pass_on.result f f2 (both (read_flushed here asked p) (write_flushed here asked)) did (flushes-send here asked p) (c.pass_on.ensures u z f2 alters.held chain))
