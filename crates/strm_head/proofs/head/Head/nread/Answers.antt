-- What is measured of the first message is its data part, and numbers of 32 bits hold it.
use Rattle.strm_head.proofs.Prelude.{◌∙◌, ap, arith, unwrap_or}
use Rattle.strm_head.specs.Prelude.{list_at}
use Rattle.strm_head.proofs.FewWaiting.{data-few, messages-few}
use Rattle.strm_head.proofs.Seen.{first-part}
use Rattle.strm_head.proofs.head.Head.nread.Goals as goal

pub returns-clause-first : goal.returns-clause-first
returns-clause-first g c =
    c.unwrap_or.ensures ∙ ap (λ o. unwrap_or o 0) c.first_data.ensures
    ∙ first-part (list_at (g.B.Blocks.value c.args.store.now) c.args.self.now.queue.list) c.requires.readable.each

pub overflow_cast-result : goal.overflow_cast-result
overflow_cast-result g c =
    let s = g.B.Blocks.value c.args.store.now in
    let q = c.args.self.now.queue in
    let part = first-part (list_at s q.list) c.requires.readable.each in
    let seen = c.unwrap_or.ensures ∙ ap (λ o. unwrap_or o 0) c.first_data.ensures ∙ part in
    omega (arith, seen, data-few s q c.audit.ensures c.requires.ready)

pub overflow_cast-result-2 : goal.overflow_cast-result-2
overflow_cast-result-2 g c =
    let s = g.B.Blocks.value c.args.store.now in
    omega (arith, c.messages.ensures, messages-few s c.args.self.now.queue.list c.audit.ensures)
