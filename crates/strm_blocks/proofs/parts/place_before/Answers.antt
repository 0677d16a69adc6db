use Rattle.std.proofs.Common.{◌≡◌, true, ap, length, arith}
use Rattle.std.specs.Prelude.{nat_lt}
use Rattle.std.proofs.lemmas.Bool.Decides.{nat_tests}
use Rattle.strm_blocks.specs.Message.{rank_in}
use Rattle.strm_blocks.specs.declared.message.Message.{Message}
use Rattle.strm_blocks.proofs.ListParts.{prefix-passed}
use Rattle.strm_blocks.proofs.parts.place_before.Goals as goal

pub loop-message-preserved : goal.loop-message-preserved
loop-message-preserved c =
    let rank = c.args.rank in
    let steps = c.in-Some.ensures.steps in
    let ranked = c.rank_of.ensures in
    let passes : nat_lt rank (rank_in c.in-Some.message.now.blocks) ≡ true = grind (arith, nat_tests) in
    record {
      can = tt;
      finite = tt;
      count = let long = ap length steps in omega (arith, c.loop-message.invariant.count);
      found = prefix-passed (λ (m : Message). nat_lt rank (rank_in m.blocks)) c.in-Some.message.now c.next.new.self c.loop-message.rest c.args.list.now c.loop-message.place steps passes c.loop-message.invariant.found;
    }
