-- Where there is nothing to take nothing is given, and what went but was neither given nor discarded was dropped.
use Rattle.strm_head.proofs.Prelude.{ℕ, ◌≡◌, ◌∙◌, ◌++◌, true, false, length, refl, sym, ap, arith, keeps-none, keeps-counted}
use Rattle.strm_head.specs.Prelude.{relieved, relieves, Drawn, head_draw, none_went, list_at, messages_on, queue_in}
use Rattle.std.proofs.Common.{not}
use Rattle.strm_types.proofs.ReadRefuses.{takes-none}
use Rattle.strm_queue.proofs.Kept.{keeps-from}
use Rattle.strm_head.proofs.Left.{frees, frees-none}
use Rattle.strm_head.proofs.Seen.{takes-first}
use Rattle.strm_head.proofs.Told.{told-none, told-some, queue-none, queue-some, goes-none, goes-some, queue-left, dropped-is}
use Rattle.strm_head.proofs.reading.read.Goals as goal

pub returns-then-takes_none-clause-given : goal.returns-then-takes_none-clause-given
returns-then-takes_none-clause-given g c =
    let q = messages_on (g.B.Blocks.value c.args.store.now) c.args.queue.now.list in
    c.requires.fresh ∙ sym (ap (λ (d : Drawn ℕ). d.given) (takes-none c.args.read c.args.control c.args.n q (sym c.takes_none.ensures ∙ c.if-takes_none.true)))

pub returns-then-takes_none-clause-most_given : goal.returns-then-takes_none-clause-most_given
returns-then-takes_none-clause-most_given g c = omega (arith, ap length c.requires.fresh)

pub returns-then-takes_none-clause-queue : goal.returns-then-takes_none-clause-queue
returns-then-takes_none-clause-queue g c =
    sym (queue-none c.args.read c.args.control c.args.n (queue_in (g.B.Blocks.value c.args.store.now) c.args.queue.now) (sym c.takes_none.ensures ∙ c.if-takes_none.true))

pub returns-then-takes_none-clause-went : goal.returns-then-takes_none-clause-went
returns-then-takes_none-clause-went g c =
    sym (goes-none c.args.read c.args.control c.args.n (queue_in (g.B.Blocks.value c.args.store.now) c.args.queue.now) (sym c.takes_none.ensures ∙ c.if-takes_none.true))

pub returns-then-takes_none-clause-told : goal.returns-then-takes_none-clause-told
returns-then-takes_none-clause-told g c =
    sym (told-none c.args.direction c.args.read c.args.control c.args.n (messages_on (g.B.Blocks.value c.args.store.now) c.args.queue.now.list) c.args.fates.now (sym c.takes_none.ensures ∙ c.if-takes_none.true))

pub returns-then-takes_none-clause-keeps : goal.returns-then-takes_none-clause-keeps
returns-then-takes_none-clause-keeps g c = keeps-none (g.B.Blocks.value c.args.store.now) c.args.queue.now c.requires.ready.ready

pub gather-discarded-requires-clause-goes : goal.gather-discarded-requires-clause-goes
gather-discarded-requires-clause-goes g c = takes-first c.args.control c.args.n (messages_on (g.B.Blocks.value c.args.store.now) c.args.queue.now.list) (sym c.takes_none.ensures ∙ c.if-takes_none.false)

pub returns-then-went : goal.returns-then-went
returns-then-went g c =
    let s = g.B.Blocks.value c.args.store.now in
    let t = g.B.Blocks.value c.gather-discarded.new.store in
    let old = c.args.queue.now in
    let p = c.gather-discarded.new.queue in
    let q = messages_on s old.list in
    let d = head_draw c.args.read c.args.control c.args.n q in
    let gathered = c.gather-discarded.ensures in
    let given = gathered.given ∙ ap (λ xs. xs ++ d.given) c.requires.fresh in
    let long = sym (ap length given) in
    let dropped : length d.dropped ≡ c.missing-dropped.result =
    dropped-is c.args.read c.args.control c.args.n s t old _ p c.droppable-before.result c.droppable-after.result c.len.result c.gather-discarded.result c.requires.ready gathered.keeps refl gathered.left c.droppable-before.ensures
    c.droppable-after.ensures (long ∙ sym c.len.ensures.value) gathered.discarded ∙ sym c.missing-dropped.ensures in
    let gone : none_went d ≡ not c.went.result = c.went.ensures d (long ∙ sym c.len-3.ensures.value) (sym gathered.discarded) dropped in
    let some = sym c.takes_none.ensures ∙ c.if-takes_none.false in
    let left = queue-left s t old p d.left (ap (messages_on t) gathered.keeps.list ∙ gathered.left) gathered.flags.flows (gathered.flags.want_read refl) gathered.flags.no_enable in
    let keeps = keeps-from s t old _ p refl gathered.keeps in
    record {
      given = given;
      most_given = omega (arith, gathered.most, ap length c.requires.fresh);
      queue =
          c.relieve.ensures.queue t gathered.keeps.ready ∙ ap relieved left
          ∙ sym (queue-some c.args.read c.args.control c.args.n (queue_in s old) false some (gone ∙ ap not c.if-went.true));
      went =
          c.relieve.ensures.went t gathered.keeps.ready ∙ ap relieves left
          ∙ sym (goes-some c.args.read c.args.control c.args.n (queue_in s old) false some (gone ∙ ap not c.if-went.true));
      told =
          c.tell.ensures d (long ∙ sym c.len-2.ensures.value) (sym gathered.discarded) dropped
          ∙ told-some c.args.direction c.args.read c.args.control c.args.n q c.args.fates.now some;
      frees = frees s t old p c.audit.ensures c.audit-2.ensures keeps gathered.leaves;
      keeps = keeps-counted s t old p c.relieve.new.queue keeps c.relieve.ensures.others.list (c.relieve.ensures.counted (list_at t p.list) gathered.keeps.ready.counted);
    }

pub returns-else-went : goal.returns-else-went
returns-else-went g c =
    let s = g.B.Blocks.value c.args.store.now in
    let t = g.B.Blocks.value c.gather-discarded.new.store in
    let old = c.args.queue.now in
    let p = c.gather-discarded.new.queue in
    let q = messages_on s old.list in
    let d = head_draw c.args.read c.args.control c.args.n q in
    let gathered = c.gather-discarded.ensures in
    let given = gathered.given ∙ ap (λ xs. xs ++ d.given) c.requires.fresh in
    let long = sym (ap length given) in
    let dropped : length d.dropped ≡ c.missing-dropped.result =
    dropped-is c.args.read c.args.control c.args.n s t old _ p c.droppable-before.result c.droppable-after.result c.len.result c.gather-discarded.result c.requires.ready gathered.keeps refl gathered.left c.droppable-before.ensures
    c.droppable-after.ensures (long ∙ sym c.len.ensures.value) gathered.discarded ∙ sym c.missing-dropped.ensures in
    let gone : none_went d ≡ not c.went.result = c.went.ensures d (long ∙ sym c.len-3.ensures.value) (sym gathered.discarded) dropped in
    let some = sym c.takes_none.ensures ∙ c.if-takes_none.false in
    let left = queue-left s t old p d.left (ap (messages_on t) gathered.keeps.list ∙ gathered.left) gathered.flags.flows (gathered.flags.want_read refl) gathered.flags.no_enable in
    let keeps = keeps-from s t old _ p refl gathered.keeps in
    record {
      given = given;
      most_given = omega (arith, gathered.most, ap length c.requires.fresh);
      queue = left ∙ sym (queue-some c.args.read c.args.control c.args.n (queue_in s old) true some (gone ∙ ap not c.if-went.false));
      went = c.if-went.false ∙ sym (goes-some c.args.read c.args.control c.args.n (queue_in s old) true some (gone ∙ ap not c.if-went.false));
      told =
          c.tell.ensures d (long ∙ sym c.len-2.ensures.value) (sym gathered.discarded) dropped
          ∙ told-some c.args.direction c.args.read c.args.control c.args.n q c.args.fates.now some;
      frees = frees s t old p c.audit.ensures c.audit-2.ensures keeps gathered.leaves;
      keeps = keeps;
    }

pub returns-then-takes_none-clause-frees : goal.returns-then-takes_none-clause-frees
returns-then-takes_none-clause-frees g c = frees-none (g.B.Blocks.value c.args.store.now) c.args.queue.now.list
