-- What is passed over goes where a message is taken behind, and else all stay.
use Rattle.strm_head.proofs.Prelude.{◌≡◌, ◌∙◌, true, refl, sym, ap, subst, head-kept, keeps-both, keeps-none, flags-both}
use Rattle.strm_head.specs.Prelude.{list_at, messages_on}
use Rattle.strm_head.specs.Drawing.{drawn_on, Stepped, behind_passed, first_goes}
use Rattle.strm_head.specs.Leaving.{StepLeaves}
use Rattle.strm_head.proofs.Left.{step-behind, step-taken, taken-none}
use Rattle.strm_head.proofs.Draws.{stays, stepped-from}
use Rattle.strm_head.proofs.Passed.{drawn-behind, all-stay}
use Rattle.strm_head.proofs.Returned.{flags-none}
use Rattle.strm_head.proofs.reading.draw_first.Goals as goal

pub returns-then-not-takes_one-clause-took : goal.returns-then-not-takes_one-clause-took
returns-then-not-takes_one-clause-took g c =
    let q = messages_on (g.B.Blocks.value c.args.store.now) c.args.queue.now.list in
    stays c.args.read c.args.control c.args.begun c.args.wanted q c.args.out.now.items c.requires.some
    (all-stay c.args.read c.args.control c.args.begun c.args.wanted c.requires.some q (sym c.takes_one.ensures ∙ c.if-not-takes_one.true))

pub returns-then-not-takes_one-clause-flags : goal.returns-then-not-takes_one-clause-flags
returns-then-not-takes_one-clause-flags g c = flags-none c.args.queue.now

pub returns-then-not-takes_one-clause-keeps : goal.returns-then-not-takes_one-clause-keeps
returns-then-not-takes_one-clause-keeps g c = keeps-none (g.B.Blocks.value c.args.store.now) c.args.queue.now c.requires.ready.ready

pub take_first-requires-clause-ready : goal.take_first-requires-clause-ready
take_first-requires-clause-ready g c =
    head-kept (g.B.Blocks.value c.args.store.now) (g.B.Blocks.value c.drop_passed.new.store) c.args.queue.now c.drop_passed.new.queue c.requires.ready c.drop_passed.ensures.keeps

pub returns-clause-took : goal.returns-clause-took
returns-clause-took g c =
    let s = g.B.Blocks.value c.args.store.now in
    let t = g.B.Blocks.value c.drop_passed.new.store in
    let u = g.B.Blocks.value c.take_first.new.store in
    let k = c.args.queue.now.list in
    let read = c.args.read in
    let control = c.args.control in
    let begun = c.args.begun in
    let old = messages_on s k in
    let out = c.args.out.now.items in
    let out' = c.take_first.new.out.items in
    let more = c.take_first.result.more in
    let discarded = c.take_first.result.discarded in
    let takes : first_goes control begun (behind_passed control old) ≡ true = sym c.takes_one.ensures ∙ c.if-not-takes_one.false in
    let took : first_goes control begun (messages_on t k) ≡ true → Stepped read control begun c.args.wanted more discarded (messages_on t k) (messages_on u k) out out' =
    subst (λ l. first_goes control begun (messages_on t l) ≡ true → Stepped read control begun c.args.wanted more discarded (messages_on t l) (messages_on u l) out out') c.drop_passed.ensures.keeps.list (c.take_first.ensures.took begun) in
    let left = c.drop_passed.ensures.left in
    stepped-from read control begun c.args.wanted more discarded old (messages_on t k) (messages_on u k) out out'
    (drawn-behind read control begun c.args.wanted c.requires.some old takes ∙ ap (drawn_on read control begun c.args.wanted) (sym left))
    (took (ap (first_goes control begun) left ∙ takes))

pub returns-clause-keeps : goal.returns-clause-keeps
returns-clause-keeps g c =
    keeps-both (g.B.Blocks.value c.args.store.now) (g.B.Blocks.value c.drop_passed.new.store) (g.B.Blocks.value c.take_first.new.store) c.args.queue.now c.drop_passed.new.queue c.take_first.new.queue
    c.drop_passed.ensures.keeps c.take_first.ensures.keeps

pub returns-clause-flags : goal.returns-clause-flags
returns-clause-flags g c = flags-both c.args.queue.now c.drop_passed.new.queue c.take_first.new.queue c.drop_passed.ensures.flags c.take_first.ensures.flags

pub returns-then-not-takes_one-clause-leaves : goal.returns-then-not-takes_one-clause-leaves
returns-then-not-takes_one-clause-leaves g c =
    let q = list_at (g.B.Blocks.value c.args.store.now) c.args.queue.now.list in
    step-taken 0 q q (taken-none q q refl)

pub returns-clause-leaves : goal.returns-clause-leaves
returns-clause-leaves g c =
    let s = g.B.Blocks.value c.args.store.now in
    let t = g.B.Blocks.value c.drop_passed.new.store in
    let u = g.B.Blocks.value c.take_first.new.store in
    let k = c.args.queue.now.list in
    let more = c.take_first.result.more in
    step-behind more (list_at s k) (list_at t k) (list_at u k) c.drop_passed.ensures.taken
    (subst (λ l. StepLeaves more (list_at t l) (list_at u l)) c.drop_passed.ensures.keeps.list c.take_first.ensures.leaves)
