-- What a put did, in the frame's words.
use Rattle.strm_pty.proofs.Prelude.{ap, rules, sym, can-in_hand}
use Rattle.strm_pty.specs.Prelude.{tallied, message_in, token}
use Rattle.strm_pty.specs.Beside.{ptem_in}
use Rattle.strm_types.proofs.PtemPuts.{puts-gone}
use Rattle.strm_pty.proofs.Alone.{alone-ready, alone-stands}
use Rattle.strm_pty.proofs.module.PtemProceduresUnit.put.Goals as goal

pub put-requires-clause-in_hand : goal.put-requires-clause-in_hand
put-requires-clause-in_hand g c = can-in_hand (g.B.Blocks.value c.args.store.now) (token c.args.message) (λ _. 0) c.audit.ensures c.requires.can_put

pub returns : goal.returns
returns g c =
    let s = g.B.Blocks.value c.args.store.now in
    let t = g.B.Blocks.value c.put.new.store in
    let queues = c.args._queues.now in
    let none = c.requires.held.itself in
    let e = c.put.ensures.does in
    record {
      state = alone-stands s t queues none _ _ e.state;
      notes = e.notes;
      sent = e.sent;
      told = ap (λ gone. tallied gone c.args._told.now) (sym (puts-gone c.args.here (message_in s (token c.args.message)) (ptem_in c.args.self.now)));
      held = record { queues = alone-ready s t queues none; itself = none };
      own = search rules;
      chains = e.chains;
      hands = e.hands;
      spends = e.spends;
      blocks = λ holds. c.put.ensures.blocks;
      pool = e.pool;
    }
