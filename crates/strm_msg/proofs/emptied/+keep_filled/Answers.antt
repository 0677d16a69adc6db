-- The first block stands in front of what is kept of the others, or goes.
use Rattle.std.proofs.Common.{arith}
use Rattle.strm_blocks.proofs.Laws.{chain-some}
use Rattle.strm_msg.proofs.Filled.{behind-shorter, opened-more, opened-first, opened-freed, opened-apart, opened-linked, opened-alone}
use Rattle.strm_msg.proofs.Pulling.{behind-in_hand}
use Rattle.strm_msg.proofs.emptied.+keep_filled.Goals as goal
use Rattle.strm_blocks.specs.Blocks.{token}

pub block_len-empty-requires-clause-within : goal.block_len-empty-requires-clause-within
block_len-empty-requires-clause-within g t c = chain-some (g.B.Blocks.value c.args.store.now) (token c.args.message) c.audit.ensures c.requires

pub keep_filled-kept-requires : goal.keep_filled-kept-requires
keep_filled-kept-requires g t c κs within =
    let parted = rw c.in-Some.is at c.unlink-rest.ensures in
    let less = behind-shorter parted in
    (omega (arith, less), (within, behind-in_hand c.requires parted))

pub free-requires-then-empty : goal.free-requires-then-empty
free-requires-then-empty g t c =
    let opened = opened-more (rw c.in-Some.is at c.unlink-rest.ensures) c.keep_filled-kept.result c.keep_filled-kept.ensures in
    opened-first c.requires c.keep_filled-kept.result opened

pub returns-then-empty : goal.returns-then-empty
returns-then-empty g t c =
    let opened = opened-more (rw c.in-Some.is at c.unlink-rest.ensures) c.keep_filled-kept.result c.keep_filled-kept.ensures in
    opened-freed c.requires c.keep_filled-kept.result opened (omega (arith, c.block_len-empty.ensures.count, c.if-empty.true)) c.free-then-empty.ensures

pub link-requires-clause-first_in_hand : goal.link-requires-clause-first_in_hand
link-requires-clause-first_in_hand g t c =
    let opened = opened-more (rw c.in-Some.is at c.unlink-rest.ensures) c.keep_filled-kept.result c.keep_filled-kept.ensures in
    opened-first c.requires c.keep_filled-kept.result opened

pub link-requires-clause-apart : goal.link-requires-clause-apart
link-requires-clause-apart g t c =
    let opened = opened-more (rw c.in-Some.is at c.unlink-rest.ensures) c.keep_filled-kept.result c.keep_filled-kept.ensures in
    opened-apart c.requires (rw c.in-Some-kept.is at opened)

pub returns-in-Some-kept : goal.returns-in-Some-kept
returns-in-Some-kept g t c =
    let opened = opened-more (rw c.in-Some.is at c.unlink-rest.ensures) c.keep_filled-kept.result c.keep_filled-kept.ensures in
    opened-linked c.requires (rw c.in-Some-kept.is at opened) (omega (arith, c.block_len-empty.ensures.count, c.if-empty.false)) c.link.ensures.kept_name c.link.ensures.linked

pub returns-in-None : goal.returns-in-None
returns-in-None g t c =
    let opened = opened-more (rw c.in-Some.is at c.unlink-rest.ensures) c.keep_filled-kept.result c.keep_filled-kept.ensures in
    opened-alone c.requires (rw c.in-None.is at opened) (omega (arith, c.block_len-empty.ensures.count, c.if-empty.false))
