use Rattle.std.proofs.Common.{arith}
use Rattle.strm_msg.proofs.Dropping.{dropping-none, dropping-in_hand, dropping-more, dropping-other, dropping-part, dropping-one, dropping-all}
use Rattle.strm_msg.proofs.pulls.drop_joined.Goals as goal
use Rattle.strm_blocks.specs.Blocks.{token}

pub loop-init : goal.loop-init
loop-init g c = dropping-none (g.B.Blocks.value c.args.store.now) (token c.args.message) c.args.count (omega arith)

pub kind-requires-clause-in_hand : goal.kind-requires-clause-in_hand
kind-requires-clause-in_hand g c = dropping-in_hand c.requires c.loop.invariant

pub kind-requires-clause-within : goal.kind-requires-clause-within
kind-requires-clause-within g c = dropping-more c.requires c.loop.invariant (omega arith)

pub returns-then-not-same_kind-clause-kept_name : goal.returns-then-not-same_kind-clause-kept_name
returns-then-not-same_kind-clause-kept_name g c = c.loop.invariant.name

pub returns-then-not-same_kind-clause-dropped : goal.returns-then-not-same_kind-clause-dropped
returns-then-not-same_kind-clause-dropped g c = dropping-other c.requires c.loop.invariant (omega arith) c.kind-kind.ensures c.kind.ensures c.same_kind.ensures.same c.if-not-same_kind.true

pub block_len-len-requires-clause-in_hand : goal.block_len-len-requires-clause-in_hand
block_len-len-requires-clause-in_hand g c = dropping-in_hand c.requires c.loop.invariant

pub block_len-len-requires-clause-within : goal.block_len-len-requires-clause-within
block_len-len-requires-clause-within g c = dropping-more c.requires c.loop.invariant (omega arith)

pub trim_head-requires-clause-in_hand : goal.trim_head-requires-clause-in_hand
trim_head-requires-clause-in_hand g c = dropping-in_hand c.requires c.loop.invariant

pub returns-then-len-left-clause-kept_name : goal.returns-then-len-left-clause-kept_name
returns-then-len-left-clause-kept_name g c = c.loop.invariant.name

pub returns-then-len-left-clause-dropped : goal.returns-then-len-left-clause-dropped
returns-then-len-left-clause-dropped g c = dropping-part c.requires c.loop.invariant (omega arith) c.kind-kind.ensures c.kind.ensures c.same_kind.ensures.same c.if-not-same_kind.false c.block_len-len.ensures.count (omega arith) c.trim_head.ensures

pub free_second-message-requires : goal.free_second-message-requires
free_second-message-requires g c = dropping-in_hand c.requires c.loop.invariant

pub loop-preserved : goal.loop-preserved
loop-preserved g c = dropping-one c.requires c.loop.invariant (omega arith) c.kind-kind.ensures c.kind.ensures c.same_kind.ensures.same c.if-not-same_kind.false c.block_len-len.ensures.count (omega arith) c.free_second-message.ensures.kept_name c.free_second-message.ensures.freed

pub returns-clause-kept_name : goal.returns-clause-kept_name
returns-clause-kept_name g c = c.loop.invariant.name

pub returns-clause-dropped : goal.returns-clause-dropped
returns-clause-dropped g c = dropping-all c.requires c.loop.invariant (omega arith)
