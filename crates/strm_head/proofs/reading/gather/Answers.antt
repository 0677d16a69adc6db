-- Where nothing more is wanted, what was drawn is all.
use Rattle.strm_head.proofs.Prelude.{◌<◌, ◌++◌, false, length, refl, ap, subst, arith, length-append, head-kept, keeps-both, keeps-none, flags-both}
use Rattle.strm_head.specs.Prelude.{list_at, messages_on}
use Rattle.strm_head.specs.Leaving.{StepLeaves}
use Rattle.strm_head.proofs.Left.{step-behind, step-taken, taken-none}
use Rattle.strm_head.specs.Drawing.{drawn_on, Stepped}
use Rattle.strm_head.proofs.Returned.{flags-none}
use Rattle.strm_head.proofs.Gathers.{next-given, next-discarded, next-left, next-none, all-given, all-discarded, all-left}
use Rattle.strm_head.proofs.reading.gather.Goals as goal

pub loop-wanted-init : goal.loop-wanted-init
loop-wanted-init g c =
    let s = g.B.Blocks.value c.args.store.now in
    let q = list_at s c.args.queue.now.list in
    record {
      given = refl;
      discarded = omega arith;
      left = refl;
      goes = λ fresh. c.requires.goes;
      none = λ some. refl;
      fits = omega arith;
      steps = step-taken c.args.wanted q q (taken-none q q refl);
      flags = flags-none c.args.queue.now;
      keeps = keeps-none s c.args.queue.now c.requires.ready.ready;
    }

pub draw_first-step-requires-clause-ready : goal.draw_first-step-requires-clause-ready
draw_first-step-requires-clause-ready g c =
    let l = c.loop-wanted in
    head-kept (g.B.Blocks.value c.args.store.now) (g.B.Blocks.value l.store) c.args.queue.now l.queue c.requires.ready l.invariant.keeps

pub loop-wanted-preserved : goal.loop-wanted-preserved
loop-wanted-preserved g c =
    let l = c.loop-wanted in
    let step = c.draw_first-step in
    let s = g.B.Blocks.value c.args.store.now in
    let t = g.B.Blocks.value l.store in
    let u = g.B.Blocks.value step.new.store in
    let q = c.args.queue.now in
    let old = messages_on t q.list in
    let new = messages_on u q.list in
    let all = drawn_on c.args.read c.args.control false c.args.wanted (messages_on s q.list) in
    let took : Stepped c.args.read c.args.control l.begun l.wanted step.result.more step.result.discarded old new l.out.items step.new.out.items =
    subst (λ k. Stepped c.args.read c.args.control l.begun l.wanted step.result.more step.result.discarded (messages_on t k) (messages_on u k) l.out.items step.new.out.items) l.invariant.keeps.list step.ensures.took in
    let some : 0 < l.wanted = omega (arith, c.loop-wanted-test.true) in
    record {
      given = next-given c.args.read c.args.control l.begun l.wanted step.result.more step.result.discarded old new l.out.items step.new.out.items took (c.args.out.now.items ++ all.given) l.invariant.given;
      discarded = next-discarded c.args.read c.args.control l.begun l.wanted step.result.more step.result.discarded old new l.out.items step.new.out.items took l.discarded (length all.discarded) (l.invariant.none some) l.invariant.discarded;
      left = next-left c.args.read c.args.control l.begun l.wanted step.result.more step.result.discarded old new l.out.items step.new.out.items took all.left l.invariant.left;
      goes = λ fresh. absurd (cc);
      none = next-none c.args.read c.args.control l.begun l.wanted step.result.more step.result.discarded old new l.out.items step.new.out.items took;
      fits = omega (arith, l.invariant.fits, took.most, ap length took.given, length-append l.out.items took.piece);
      steps = step-behind step.result.more (list_at s q.list) (list_at t q.list) (list_at u q.list) (l.invariant.steps.whole some)
          (subst (λ k. StepLeaves step.result.more (list_at t k) (list_at u k)) l.invariant.keeps.list step.ensures.leaves);
      flags = flags-both q l.queue step.new.queue l.invariant.flags step.ensures.flags;
      keeps = keeps-both s t u q l.queue step.new.queue l.invariant.keeps step.ensures.keeps;
    }

pub returns-clause-given : goal.returns-clause-given
returns-clause-given g c =
    let l = c.loop-wanted in
    let d = drawn_on c.args.read c.args.control false c.args.wanted (messages_on (g.B.Blocks.value c.args.store.now) c.args.queue.now.list) in
    all-given c.args.read c.args.control l.begun l.wanted (messages_on (g.B.Blocks.value l.store) c.args.queue.now.list) (omega arith) l.out.items (c.args.out.now.items ++ d.given) l.invariant.given

pub returns-clause-discarded : goal.returns-clause-discarded
returns-clause-discarded g c =
    let l = c.loop-wanted in
    let d = drawn_on c.args.read c.args.control false c.args.wanted (messages_on (g.B.Blocks.value c.args.store.now) c.args.queue.now.list) in
    all-discarded c.args.read c.args.control l.begun l.wanted (messages_on (g.B.Blocks.value l.store) c.args.queue.now.list) (omega arith) l.discarded (length d.discarded) l.invariant.discarded

pub returns-clause-left : goal.returns-clause-left
returns-clause-left g c =
    let l = c.loop-wanted in
    let d = drawn_on c.args.read c.args.control false c.args.wanted (messages_on (g.B.Blocks.value c.args.store.now) c.args.queue.now.list) in
    all-left c.args.read c.args.control l.begun l.wanted (messages_on (g.B.Blocks.value l.store) c.args.queue.now.list) (omega arith) d.left l.invariant.left

pub returns-clause-leaves : goal.returns-clause-leaves
returns-clause-leaves g c = c.loop-wanted.invariant.steps.leaves
