use Rattle.std.proofs.Common.{◌<◌, sym, subst}
use Rattle.std.specs.Prelude.{Option}
use Rattle.strm_blocks.specs.declared.in_hand.InHand.{InHand}
use Rattle.strm_blocks.specs.Blocks.{token}
use Rattle.strm_raw.proofs.Freeing.{Left, left_len, first-alone, rest-left}
use Rattle.strm_raw.proofs.store.RawStoreBlocks.free.Goals as goal

pub free_one-requires-clause-in_hand : goal.free_one-requires-clause-in_hand
free_one-requires-clause-in_hand c =
    let kept = subst (λ (o : Option InHand). Left c.args.self.now (token c.args.message) o c.loop-left.self) c.in-Some.is c.loop-left.invariant in
    (first-alone c.loop-left.self c.unlink-rest.new.self c.in-Some.whole c.unlink-rest.result.0 kept.0 c.unlink-rest.result.1 c.unlink-rest.ensures).0

pub free_one-requires-clause-single : goal.free_one-requires-clause-single
free_one-requires-clause-single c =
    let kept = subst (λ (o : Option InHand). Left c.args.self.now (token c.args.message) o c.loop-left.self) c.in-Some.is c.loop-left.invariant in
    (first-alone c.loop-left.self c.unlink-rest.new.self c.in-Some.whole c.unlink-rest.result.0 kept.0 c.unlink-rest.result.1 c.unlink-rest.ensures).1

pub loop-left-smaller : goal.loop-left-smaller
loop-left-smaller c =
    let kept = subst (λ (o : Option InHand). Left c.args.self.now (token c.args.message) o c.loop-left.self) c.in-Some.is c.loop-left.invariant in
    subst (λ (o : Option InHand). left_len c.unlink-rest.result.1 c.free_one.new.self < left_len o c.loop-left.self) (sym c.in-Some.is)
    (rest-left c.loop-left.self c.unlink-rest.new.self c.in-Some.whole c.unlink-rest.result.0 kept.0 c.unlink-rest.result.1 c.args.self.now c.free_one.new.self (token c.args.message) c.unlink-rest.ensures kept.1 c.free_one.ensures).1

pub loop-left-preserved : goal.loop-left-preserved
loop-left-preserved c =
    let kept = subst (λ (o : Option InHand). Left c.args.self.now (token c.args.message) o c.loop-left.self) c.in-Some.is c.loop-left.invariant in
    (rest-left c.loop-left.self c.unlink-rest.new.self c.in-Some.whole c.unlink-rest.result.0 kept.0 c.unlink-rest.result.1 c.args.self.now c.free_one.new.self (token c.args.message) c.unlink-rest.ensures kept.1 c.free_one.ensures).0
