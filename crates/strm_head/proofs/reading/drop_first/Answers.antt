-- One message goes, or there is none.
use Rattle.std.proofs.Common.{◌∙◌, ap}
use Rattle.strm_blocks.specs.Blocks.{list_at, token}
use Rattle.strm_queue.proofs.Gotten.{has-list, freed, off}
use Rattle.strm_head.proofs.Left.{taken-first, taken-none}
use Rattle.strm_head.proofs.reading.drop_first.Goals as goal

pub returns-in_default-clause-taken : goal.returns-in_default-clause-taken
returns-in_default-clause-taken g c =
    let s = g.B.Blocks.value c.args.store.now in
    let t = g.B.Blocks.value c.getq.new.store in
    let k = c.args.queue.now.list in
    taken-none (list_at s k) (list_at t k) (ap (λ v. list_at v k) c.in_default.ensures.taken.same)

pub returns-clause-taken : goal.returns-clause-taken
returns-clause-taken g c =
    let s = g.B.Blocks.value c.args.store.now in
    let got = g.B.Blocks.value c.getq.new.store in
    let new = g.B.Blocks.value c.free.new.self in
    let i = token c.in-Some.message in
    let q = c.args.queue.now in
    let p = c.in-Some.ensures.taken in
    let within = has-list s q c.audit.ensures in
    taken-first (list_at s q.list) (list_at new q.list) p.message p.rest p.joined
    (ap (λ v. list_at v q.list) (freed s got q.list i within p new c.free.ensures) ∙ (off s got q.list i within p).here)
