-- Where the get finds its message the parts are those of that message.
use Rattle.strm_head.proofs.Prelude.{◌∙◌, ◌≡◌, ◌<◌, false, sym, ap, refl, arith, nat_lt, nat_tests, keeps-counted, head-kept}
use Rattle.strm_head.specs.Prelude.{list_at, relieved, relieves, queue_in}
use Rattle.strm_head.proofs.Left.{frees, frees-none}
use Rattle.strm_head.proofs.Found.{found, told-found, gives-found, count-found, queue-goes, queue-waits, went-goes, went-waits}
use Rattle.strm_head.proofs.getting.getmsg.Goals as goal

pub returns-then-count-gt0 : goal.returns-then-count-gt0
returns-then-count-gt0 g c =
    let s = g.B.Blocks.value c.args.store.now in
    let t = g.B.Blocks.value c.take_first-got.new.store in
    let old = c.args.queue.now in
    let p = c.take_first-got.new.queue in
    let first = c.take_first-got.ensures in
    let q = queue_in s old in
    let f = found c.args.wanted c.args.cmax c.args.dmax q.messages (sym c.finds.ensures ∙ c.if-not-finds.false) in
    let took = first.took f.message f.rest f.stood in
    let count = count-found c.take_first-got.result c.take_first-got.new.out.items _ _ c.len-count.ensures.value refl took.gives in
    let some : 0 < c.len-count.result = omega (arith, c.if-count-gt0.true) in
    let keeps = keeps-counted s t old p c.relieve.new.queue first.keeps c.relieve.ensures.others.list (c.relieve.ensures.counted (list_at t p.list) first.keeps.ready.counted) in
    record {
      gives = gives-found c.take_first-got.result _ c.take_first-got.new.out.items _ _ refl refl refl refl refl f.got took.gives;
      queue = c.relieve.ensures.queue t first.keeps.ready ∙ ap relieved took.queue ∙ queue-goes c.args.wanted c.args.cmax c.args.dmax q _ f.got f.some _ count some;
      went = c.relieve.ensures.went t first.keeps.ready ∙ ap relieves took.queue ∙ went-goes c.args.wanted c.args.cmax c.args.dmax q _ f.got f.some _ count some;
      told =
          c.tell.ensures
          ∙ told-found c.args.wanted c.args.cmax c.args.dmax c.args.direction q.messages c.args.fates.now c.len-count.result f.some
          (count-found c.take_first-got.result c.take_first-got.new.out.items _ _ c.len-count.ensures.value f.got took.gives);
      frees = frees s t old p c.audit.ensures c.audit-2.ensures first.keeps first.leaves;
      keeps = keeps;
      ready = head-kept s t old c.relieve.new.queue c.requires.ready keeps;
    }

pub returns-else-count-gt0 : goal.returns-else-count-gt0
returns-else-count-gt0 g c =
    let s = g.B.Blocks.value c.args.store.now in
    let t = g.B.Blocks.value c.take_first-got.new.store in
    let old = c.args.queue.now in
    let p = c.take_first-got.new.queue in
    let first = c.take_first-got.ensures in
    let q = queue_in s old in
    let f = found c.args.wanted c.args.cmax c.args.dmax q.messages (sym c.finds.ensures ∙ c.if-not-finds.false) in
    let took = first.took f.message f.rest f.stood in
    let count = count-found c.take_first-got.result c.take_first-got.new.out.items _ _ c.len-count.ensures.value refl took.gives in
    let n = c.len-count.result in
    let zero : n ≡ 0 = omega (arith, c.if-count-gt0.false) in
    let none : nat_lt 0 n ≡ false = grind (arith, nat_tests) in
    record {
      gives = gives-found c.take_first-got.result _ c.take_first-got.new.out.items _ _ refl refl refl refl refl f.got took.gives;
      queue = took.queue ∙ queue-waits c.args.wanted c.args.cmax c.args.dmax q _ f.got f.some _ count zero;
      went = none ∙ went-waits c.args.wanted c.args.cmax c.args.dmax q _ f.got f.some n count zero;
      told =
          c.tell.ensures
          ∙ told-found c.args.wanted c.args.cmax c.args.dmax c.args.direction q.messages c.args.fates.now c.len-count.result f.some
          (count-found c.take_first-got.result c.take_first-got.new.out.items _ _ c.len-count.ensures.value f.got took.gives);
      frees = frees s t old p c.audit.ensures c.audit-2.ensures first.keeps first.leaves;
      keeps = first.keeps;
      ready = head-kept s t old p c.requires.ready first.keeps;
    }

pub returns-then-not-finds-clause-frees : goal.returns-then-not-finds-clause-frees
returns-then-not-finds-clause-frees g c = frees-none (g.B.Blocks.value c.args.store.now) c.args.queue.now.list
