-- What a put did, in the frame's words.
use Rattle.strm_pty.proofs.Prelude.{ℕ, refl, rules, subst, sym, can-in_hand}
use Rattle.strm_pty.specs.Prelude.{HasRoom, Spends, message_in, token}
use Rattle.strm_types.proofs.PcktWithin.{pckt-own}
use Rattle.strm_pty.proofs.PacketCosts.{packs-hands, packs-spends}
use Rattle.strm_pty.specs.Packs.{pckt_in}
use Rattle.strm_pty.proofs.Alone.{alone-ready, alone-stands}
use Rattle.strm_pty.proofs.module.PcktProceduresUnit.put.Goals as goal

pub put-requires-clause-in_hand : goal.put-requires-clause-in_hand
put-requires-clause-in_hand g c = can-in_hand (g.B.Blocks.value c.args.store.now) (token c.args.message) (λ _. 0) c.audit.ensures c.requires.can_put

pub put-requires-clause-room : goal.put-requires-clause-room
put-requires-clause-room g c =
    let s = g.B.Blocks.value c.args.store.now in
    subst (λ (n : ℕ). HasRoom s n) (pckt-own c.args.here (message_in s (token c.args.message))) c.requires.room

pub returns : goal.returns
returns g c =
    let s = g.B.Blocks.value c.args.store.now in
    let t = g.B.Blocks.value c.put.new.store in
    let n = token c.args.message in
    let here = c.args.here in
    let queues = c.args._queues.now in
    let none = c.requires.held.itself in
    let e = c.put.ensures in
    record {
      state = alone-stands s t queues none pckt_in pckt_in refl;
      notes = e.notes;
      sent = e.swaps.sent;
      told = e.told;
      held = record { queues = alone-ready s t queues none; itself = none };
      own = search rules;
      chains = e.swaps.chains;
      hands = packs-hands s t n here c.put.result _ _ e;
      spends = subst (λ (n : ℕ). Spends s t n 0) (sym (pckt-own here (message_in s n))) (packs-spends s t n here c.put.result _ _ e);
      blocks = λ holds. e.blocks;
      pool = e.swaps.hands.pool;
    }
