-- Where something is left it is what is in hand now, and goes back on the list.
use Rattle.strm_head.proofs.Prelude.{◌∙◌, ap, sym, subst}
use Rattle.strm_head.specs.Prelude.{in_hand, list_at, dropped, token, without_emptied, AreCounted}
use Rattle.strm_head.specs.Getting.{put_rest}
use Rattle.strm_head.proofs.Returned.{put-beside}
use Rattle.strm_head.proofs.getting.put_rest.Goals as goal

pub putbq-requires-clause-counted : goal.putbq-requires-clause-counted
putbq-requires-clause-counted g c =
    let k = c.args.queue.now.list in
    subst (λ q. AreCounted c.args.queue.now.flows q) (sym (ap (λ v. list_at v k) c.free_emptied-rest.ensures.others)) c.requires.counted

pub returns-clause-left : goal.returns-clause-left
returns-clause-left g c =
    let s = g.B.Blocks.value c.args.store.now in
    let u = g.B.Blocks.value c.free_emptied-rest.new.store in
    let i = token c.args.message in
    let k = c.args.queue.now.list in
    let rest = without_emptied (in_hand s i) in
    put-beside (dropped s i) u (g.B.Blocks.value c.putbq.new.store) (token c.free_emptied-rest.result) k rest c.free_emptied-rest.ensures c.putbq.ensures.placed
    ∙ sym (ap (λ v. put_rest v s i k rest) c.if-not-left.false)
