-- Each message that goes is one that is passed over.
use Rattle.strm_head.proofs.Prelude.{◌≡◌, ◌∙◌, true, drop, refl, sym, ap, subst, head-kept, keeps-both, keeps-none, flags-both}
use Rattle.strm_head.specs.Prelude.{list_at, messages_on}
use Rattle.strm_head.proofs.Returned.{flags-none}
use Rattle.strm_head.specs.Leaving.{Taken}
use Rattle.strm_head.proofs.Left.{taken-both, taken-none}
use Rattle.strm_head.specs.Drawing.{behind_passed, first_passed}
use Rattle.strm_head.proofs.Passed.{passed-gone, none-passed, passes-none}
use Rattle.strm_head.proofs.reading.drop_passed.Goals as goal

pub drop_first-requires : goal.drop_first-requires
drop_first-requires g c =
    let l = c.loop-passed in
    record { ready = head-kept (g.B.Blocks.value c.args.store.now) (g.B.Blocks.value l.store) c.args.queue.now l.queue c.requires.ready l.invariant.keeps }

pub first_passed-passed-requires-in-loop-passed : goal.first_passed-passed-requires-in-loop-passed
first_passed-passed-requires-in-loop-passed g c =
    let l = c.loop-passed in
    let s = g.B.Blocks.value c.args.store.now in
    let t = g.B.Blocks.value l.store in
    let u = g.B.Blocks.value c.drop_first.new.store in
    let q = c.args.queue.now in
    head-kept s u q c.drop_first.new.queue c.requires.ready (keeps-both s t u q l.queue c.drop_first.new.queue l.invariant.keeps c.drop_first.ensures.keeps)

pub loop-passed-preserved : goal.loop-passed-preserved
loop-passed-preserved g c =
    let l = c.loop-passed in
    let s = g.B.Blocks.value c.args.store.now in
    let t = g.B.Blocks.value l.store in
    let u = g.B.Blocks.value c.drop_first.new.store in
    let q = c.args.queue.now in
    let keeps = keeps-both s t u q l.queue c.drop_first.new.queue l.invariant.keeps c.drop_first.ensures.keeps in
    let gone : messages_on u q.list ≡ drop 1 (messages_on t q.list) = subst (λ k. messages_on u k ≡ drop 1 (messages_on t k)) l.invariant.keeps.list c.drop_first.ensures.left in
    let is : first_passed c.args.control (messages_on t q.list) ≡ true = sym l.invariant.passed ∙ c.loop-passed-test.true in
    record {
      passed = c.first_passed-passed-in-loop-passed.ensures ∙ ap (λ k. first_passed c.args.control (messages_on u k)) keeps.list;
      left = ap (behind_passed c.args.control) gone ∙ passed-gone c.args.control (messages_on t q.list) is ∙ l.invariant.left;
      taken = taken-both (list_at s q.list) (list_at t q.list) (list_at u q.list) l.invariant.taken (subst (λ k. Taken (list_at t k) (list_at u k)) l.invariant.keeps.list c.drop_first.ensures.taken);
      flags = flags-both q l.queue c.drop_first.new.queue l.invariant.flags c.drop_first.ensures.flags;
      keeps = keeps;
    }

pub returns-clause-left : goal.returns-clause-left
returns-clause-left g c =
    let l = c.loop-passed in
    none-passed c.args.control (messages_on (g.B.Blocks.value l.store) c.args.queue.now.list) (sym l.invariant.passed ∙ c.loop-passed-test.false) ∙ l.invariant.left

pub returns-then-not-drops_control-clause-left : goal.returns-then-not-drops_control-clause-left
returns-then-not-drops_control-clause-left g c =
    passes-none c.args.control (messages_on (g.B.Blocks.value c.args.store.now) c.args.queue.now.list) (sym c.drops_control.ensures ∙ c.if-not-drops_control.true)

pub returns-then-not-drops_control-clause-flags : goal.returns-then-not-drops_control-clause-flags
returns-then-not-drops_control-clause-flags g c = flags-none c.args.queue.now

pub returns-then-not-drops_control-clause-keeps : goal.returns-then-not-drops_control-clause-keeps
returns-then-not-drops_control-clause-keeps g c = keeps-none (g.B.Blocks.value c.args.store.now) c.args.queue.now c.requires.ready.ready

pub returns-then-not-drops_control-clause-taken : goal.returns-then-not-drops_control-clause-taken
returns-then-not-drops_control-clause-taken g c =
    let q = list_at (g.B.Blocks.value c.args.store.now) c.args.queue.now.list in
    taken-none q q refl
