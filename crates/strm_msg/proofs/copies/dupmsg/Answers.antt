use Rattle.std.proofs.Common.{ap, arith, length, ◌∙◌}
use Rattle.strm_msg.proofs.Sharing.{shared-first, shared-fails, shared-next, shared-keeps, shared-keeps-chain, shared-in_hand}
use Rattle.strm_blocks.specs.Blocks.{times_in, token}
use Rattle.strm_msg.proofs.InHand.{came-first, came-second, came-apart}
use Rattle.strm_msg.proofs.copies.dupmsg.Goals as goal

pub loop-at-init : goal.loop-at-init
loop-at-init g c =
    shared-first (token c.args.message.now) c.audit.ensures (omega arith) c.in_ok-twin.ensures

pub dup-requires-in-loop-at-clause-in_hand : goal.dup-requires-in-loop-at-clause-in_hand
dup-requires-in-loop-at-clause-in_hand g c = shared-keeps c.loop-at.invariant (token c.args.message.now) c.requires

pub dup-requires-in-loop-at-clause-within : goal.dup-requires-in-loop-at-clause-within
dup-requires-in-loop-at-clause-within g c =
    let same = ap (λ xs. length xs) (shared-keeps-chain c.loop-at.invariant (token c.args.message.now) c.requires) in
    omega arith

pub loop-at-preserved : goal.loop-at-preserved
loop-at-preserved g c =
    shared-next (token c.args.message.now) c.loop-at.at c.loop-at.invariant c.requires (omega arith) c.in-Ok.ensures c.link-twin.ensures.kept_name c.link-twin.ensures.linked

pub returns-in-Err : goal.returns-in-Err
returns-in-Err g c =
    shared-fails (token c.args.message.now) c.loop-at.at c.loop-at.invariant c.requires (omega arith) c.in-Err.ensures c.free.ensures

pub link-twin-requires-clause-first_in_hand : goal.link-twin-requires-clause-first_in_hand
link-twin-requires-clause-first_in_hand g c = came-first (token c.loop-at.twin) (shared-in_hand c.loop-at.invariant) c.in-Ok.ensures.fresh_name c.in-Ok.ensures.after

pub link-twin-requires-clause-second_in_hand : goal.link-twin-requires-clause-second_in_hand
link-twin-requires-clause-second_in_hand g c = came-second (token c.loop-at.twin) (shared-in_hand c.loop-at.invariant) c.in-Ok.ensures.fresh_name c.in-Ok.ensures.after

pub link-twin-requires-clause-apart : goal.link-twin-requires-clause-apart
link-twin-requires-clause-apart g c = came-apart (token c.loop-at.twin) (shared-in_hand c.loop-at.invariant) c.in-Ok.ensures.fresh_name c.in-Ok.ensures.after

pub free-requires : goal.free-requires
free-requires g c = ap (λ t. times_in (token c.loop-at.twin) t.hand) c.in-Err.ensures.same ∙ shared-in_hand c.loop-at.invariant
