use Rattle.std.proofs.Common.{arith, ◌∙◌, List, filter, not, ap}
use Rattle.std.proofs.Math.ListN.{set, length-set}
use Rattle.strm_blocks.specs.Message.{flushes_message}
use Rattle.strm_blocks.specs.declared.message.Message.{Message}
use Rattle.strm_blocks.proofs.Lists.{list-read, flushed-value, flushed-weigh, flushed-ordered}
use Rattle.strm_blocks.proofs.Moves as moves
use Rattle.strm_blocks.proofs.table.TableStoreBlocks.drop_where.Goals as goal

pub give_back-requires-clause-named : goal.give_back-requires-clause-named
give_back-requires-clause-named c =
    let t = c.self.inside in
    let k = c.args.list in
    let what = c.args.what in
    let read = list-read t c.self.view_is c.self.invariant k c.requires c.index-self-list.result in
    let kept = c.sift-taken.ensures.kept ∙ ap (λ (q : List Message). filter (λ m. not (flushes_message what m)) q) read in
    let taken = c.sift-taken.ensures.taken ∙ ap (λ (q : List Message). filter (λ m. flushes_message what m) q) read in
    moves.freed-named c.self.invariant (set t.lists k c.sift-taken.new.list) t.hand c.sift-taken.result (flushed-weigh t c.self.view_is c.self.invariant k c.requires what c.sift-taken.new.list c.sift-taken.result kept taken)

pub give_back-requires-clause-few_messages : goal.give_back-requires-clause-few_messages
give_back-requires-clause-few_messages c =
    let t = c.self.inside in
    let k = c.args.list in
    let what = c.args.what in
    let read = list-read t c.self.view_is c.self.invariant k c.requires c.index-self-list.result in
    let kept = c.sift-taken.ensures.kept ∙ ap (λ (q : List Message). filter (λ m. not (flushes_message what m)) q) read in
    let taken = c.sift-taken.ensures.taken ∙ ap (λ (q : List Message). filter (λ m. flushes_message what m) q) read in
    let few = moves.freed-messages c.self.invariant (set t.lists k c.sift-taken.new.list) t.hand c.sift-taken.result (flushed-weigh t c.self.view_is c.self.invariant k c.requires what c.sift-taken.new.list c.sift-taken.result kept taken) in
    omega arith

pub give_back-requires-clause-few_blocks : goal.give_back-requires-clause-few_blocks
give_back-requires-clause-few_blocks c =
    let t = c.self.inside in
    let k = c.args.list in
    let what = c.args.what in
    let read = list-read t c.self.view_is c.self.invariant k c.requires c.index-self-list.result in
    let kept = c.sift-taken.ensures.kept ∙ ap (λ (q : List Message). filter (λ m. not (flushes_message what m)) q) read in
    let taken = c.sift-taken.ensures.taken ∙ ap (λ (q : List Message). filter (λ m. flushes_message what m) q) read in
    let few = moves.freed-blocks c.self.invariant (set t.lists k c.sift-taken.new.list) t.hand c.sift-taken.result (flushed-weigh t c.self.view_is c.self.invariant k c.requires what c.sift-taken.new.list c.sift-taken.result kept taken) in
    omega arith

pub invariant_of-self : goal.invariant_of-self
invariant_of-self c =
    let t = c.self.inside in
    let k = c.args.list in
    let what = c.args.what in
    let read = list-read t c.self.view_is c.self.invariant k c.requires c.index-self-list.result in
    let kept = c.sift-taken.ensures.kept ∙ ap (λ (q : List Message). filter (λ m. not (flushes_message what m)) q) read in
    let taken = c.sift-taken.ensures.taken ∙ ap (λ (q : List Message). filter (λ m. flushes_message what m) q) read in
    let after = c.give_back.ensures in
    moves.IsTable-freed c.self.invariant (set t.lists k c.sift-taken.new.list) t.hand c.sift-taken.result c.give_back.new.idle c.give_back.new.spare c.give_back.new.pool.references (length-set t.lists k _ ∙ c.self.invariant.eight) (flushed-ordered t c.self.view_is c.self.invariant k c.requires what c.sift-taken.new.list kept) (flushed-weigh t c.self.view_is c.self.invariant k c.requires what c.sift-taken.new.list c.sift-taken.result kept taken) after.blocks after.messages after.names after.released

pub returns : goal.returns
returns c =
    let t = c.self.inside in
    let k = c.args.list in
    let what = c.args.what in
    let read = list-read t c.self.view_is c.self.invariant k c.requires c.index-self-list.result in
    let kept = c.sift-taken.ensures.kept ∙ ap (λ (q : List Message). filter (λ m. not (flushes_message what m)) q) read in
    let after = c.give_back.ensures in
    flushed-value t c.self.view_is c.self.invariant k c.requires what c.give_back.new.pool.bytes c.sift-taken.new.list _ after.bytes after.count kept
