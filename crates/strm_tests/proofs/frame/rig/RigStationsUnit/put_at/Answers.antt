-- Past both modules the message is freed, and else it is put at one.
use Rattle.std.proofs.Common.{◌<◌, ◌≤◌, ◌-◌, length, map, sym, ap, ◌∙◌, arith, rules}
use Rattle.strm_blocks.specs.Blocks.{dropped, token}
use Rattle.strm_frame.specs.Hands.{once}
use Rattle.strm_frame.specs.Outboxes.{message_in}
use Rattle.strm_frame.specs.Stacks.{all_of}
use Rattle.strm_tests.specs.Rigs.{rig-frame}
use Rattle.strm_frame.proofs.Handing.{can-in_hand, freed-hands, freed-spends, none-hands, none-chains, no-parts}
use Rattle.strm_tests.proofs.RigSteps.{none-taken, rig-ends}
use Rattle.strm_tests.proofs.ToySteps.{free-takes, freed-same}
use Rattle.strm_frame.specs.Standings.{standing_in}
use Rattle.strm_tests.proofs.frame.rig.RigStationsUnit.put_at.Goals as goal

pub free-requires : goal.free-requires
free-requires g c = can-in_hand _ _ _ c.audit.ensures c.requires.can_put

pub returns-then-is_end-clause-puts : goal.returns-then-is_end-clause-puts
returns-then-is_end-clause-puts g c =
    let s = g.B.Blocks.value c.args.store.now in
    let n = token c.args.message in
    let xs = c.args.self.now.modules.modules.items in
    let ys = c.leave.new.self.modules.modules.items in
    let kept = all_of (λ y i. 0) xs in
    record {
      state = search rules;
      sent = no-parts _ _ c.none.ensures ∙ ap (λ v. v.sent) (sym (rig-ends c.args.to (message_in s n) _ c.is_end.result c.is_end.ensures.is c.if-is_end.true));
      told = search rules;
      held = rw (c.free.ensures, c.leave.ensures) (rig-frame (λ y. y.name) s (dropped s n) xs (freed-same s n kept c.audit.ensures c.requires.can_put) c.requires.held).1;
      chains = none-chains _ _ c.none.ensures;
      hands = none-hands _ _ (once n) kept (all_of (λ y i. 0) ys) _ c.none.ensures (rw (c.free.ensures, c.leave.ensures) (freed-hands s n kept c.audit.ensures c.requires.can_put));
      takes = free-takes _ _ (rw c.free.ensures (freed-spends s n kept 0 c.audit.ensures c.requires.can_put));
      pool = search rules;
    }

pub put-acts-requires : goal.put-acts-requires
put-acts-requires g c =
    let inside = c.is_end.ensures.inside c.if-is_end.false in
    let two = c.requires.held.two in
    let xs = c.args.self.now.modules.modules.items in
    let s = g.B.Blocks.value c.args.store.now in
    let none = none-taken (map (standing_in (λ t y. y.name) s) xs) (c.args.to.at - 1) in
    let low : 0 < c.args.to.at = omega (arith, inside) in
    let few : c.args.to.at ≤ length xs = omega (arith, inside, two) in
    (omega arith, (low, (few, (c.requires.held.held, (c.requires.can_put, (c.requires.chain, (record { mblks = omega (arith, none); dblks = omega (arith, none) }, tt)))))))

pub returns-clause-puts : goal.returns-clause-puts
returns-clause-puts g c =
    let xs = c.args.self.now.modules.modules.items in
    let s = g.B.Blocks.value c.args.store.now in
    let t = g.B.Blocks.value c.put-acts.new.store in
    let e = c.put-acts.ensures.does in
    let none = none-taken (map (standing_in (λ t y. y.name) s) xs) (c.args.to.at - 1) in
    let spends = e.spends in
    record {
      state = search rules;
      sent = search rules;
      told = search rules;
      held = rw c.note_all.ensures (record { held = e.held; two = c.put-acts.ensures.length ∙ c.requires.held.two });
      chains = search rules;
      hands = search rules;
      takes = free-takes s t (record { mblks = omega (arith, spends.mblks, none); dblks = omega (arith, spends.dblks, none) });
      pool = search rules;
    }
