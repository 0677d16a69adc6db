-- Each block in turn gets the kind.
use Rattle.std.proofs.Common.{length, ap, sym, ◌∙◌, subst, arith}
use Rattle.strm_blocks.specs.Blocks.{IsInHand, in_hand, token}
use Rattle.strm_msg.specs.Retyped.{retyped}
use Rattle.strm_msg.proofs.Hands.{changed-chain, changed-in_hand}
use Rattle.strm_msg.proofs.Retyping.{retyped-length, retyped-none, retyped-next}
use Rattle.strm_msg.proofs.kinds.set_kinds.Goals as goal

pub loop-at-init : goal.loop-at-init
loop-at-init g c = record { kinds = retyped-none (g.B.Blocks.value c.args.store.now) (token c.args.message.now) c.args.kind c.requires.in_hand }

pub set_kind-requires-clause-in_hand : goal.set_kind-requires-clause-in_hand
set_kind-requires-clause-in_hand g c =
    let s = g.B.Blocks.value c.args.store.now in
    let i = token c.args.message.now in
    subst (λ v. IsInHand v i) (sym c.loop-at.invariant.kinds) (changed-in_hand s i (retyped c.loop-at.at c.args.kind (in_hand s i)) i c.requires.in_hand)

pub set_kind-requires-clause-within : goal.set_kind-requires-clause-within
set_kind-requires-clause-within g c =
    let s = g.B.Blocks.value c.args.store.now in
    let i = token c.args.message.now in
    let chain = retyped c.loop-at.at c.args.kind (in_hand s i) in
    let same = ap (λ v. length (in_hand v i)) c.loop-at.invariant.kinds ∙ ap length (changed-chain s i chain c.requires.in_hand) ∙ retyped-length c.loop-at.at c.args.kind (in_hand s i) in
    omega (arith, same, c.loop-at-test.true, c.requires.within)

pub loop-at-preserved : goal.loop-at-preserved
loop-at-preserved g c =
    let s = g.B.Blocks.value c.args.store.now in
    let i = token c.args.message.now in
    record {
      kinds = retyped-next s i c.args.kind c.requires.in_hand c.loop-at.at _ (g.B.Blocks.value c.loop-at.store) (g.B.Blocks.value c.set_kind.new.self) (omega arith) (omega (arith, c.loop-at-test.true, c.requires.within)) c.loop-at.invariant.kinds c.set_kind.ensures;
    }
