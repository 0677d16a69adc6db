-- Nothing is done.
use Rattle.strm_pty.proofs.Prelude.{rules, still-hands, none-hands, none-chains, no-parts, no-room}
use Rattle.strm_pty.proofs.module.PcktProceduresUnit.serve.Goals as goal

pub returns : goal.returns
returns g c =
    let s = g.B.Blocks.value c.args._store.now in
    let none = c.none.ensures in
    record {
      state = search rules;
      notes = search rules;
      sent = no-parts s _ none;
      told = search rules;
      bytes = search rules;
      again = search rules;
      stopped = search rules;
      stops = search rules;
      some = search rules;
      made = search rules;
      held = c.requires.held;
      own = search rules;
      chains = none-chains s _ none;
      hands = none-hands s s (λ _. 0) (λ _. 0) (λ _. 0) _ none (still-hands s (λ _. 0));
      room = no-room s 0 _ none;
      pool = search rules;
    }
