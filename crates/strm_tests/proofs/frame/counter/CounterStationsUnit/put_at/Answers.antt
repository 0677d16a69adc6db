-- At the top the message is freed, and else it goes on.
use Rattle.std.proofs.Common.{◌-◌, sym, ◌∙◌, rules}
use Rattle.strm_types.specs.declared.names.Way.TheVariants.{Up}
use Rattle.strm_frame.specs.declared.parcels.Sent.{Sent}
use Rattle.strm_frame.specs.Hands.{once}
use Rattle.strm_frame.specs.Outboxes.{message_in}
use Rattle.strm_frame.proofs.Handing.{can-in_hand, freed-hands, freed-spends, none-hands, none-chains, no-parts, one-parts, one-chains, one-hands}
use Rattle.strm_tests.proofs.ToySteps.{counts-top, counts-on, free-takes, still-spends}
use Rattle.strm_tests.proofs.frame.counter.CounterStationsUnit.put_at.Goals as goal
use Rattle.strm_blocks.specs.Blocks.{token}

pub free-requires : goal.free-requires
free-requires g c = can-in_hand _ _ _ c.audit.ensures c.requires.can_put

pub returns-then-to-eq0-clause-puts : goal.returns-then-to-eq0-clause-puts
returns-then-to-eq0-clause-puts g c =
    let s = g.B.Blocks.value c.args.store.now in
    let n = token c.args.message in
    record {
      state = search rules;
      sent = no-parts _ _ c.none.ensures ∙ sym (counts-top c.args.to (message_in s n) c.args.self.now.seen c.if-to-eq0.true);
      told = search rules;
      held = tt;
      chains = none-chains _ _ c.none.ensures;
      hands = none-hands _ _ (once n) (λ _. 0) _ _ c.none.ensures (rw c.free.ensures (freed-hands s n (λ _. 0) c.audit.ensures c.requires.can_put));
      takes = free-takes _ _ (rw c.free.ensures (freed-spends s n (λ _. 0) 0 c.audit.ensures c.requires.can_put));
      pool = search rules;
    }

pub returns-clause-puts : goal.returns-clause-puts
returns-clause-puts g c =
    let s = g.B.Blocks.value c.args.store.now in
    let next : Sent = record { to = record c.args.to { at = c.args.to.at - 1; way = Up }; message = c.args.message } in
    record {
      state = search rules;
      sent = one-parts s next _ c.one.ensures ∙ sym (counts-on c.args.to (message_in s (token c.args.message)) c.args.self.now.seen c.if-to-eq0.false);
      told = search rules;
      held = tt;
      chains = one-chains s next _ c.one.ensures c.requires.chain;
      hands = one-hands s next (λ _. 0) _ c.one.ensures;
      takes = free-takes _ _ (still-spends s);
      pool = search rules;
    }
