-- What is taken of the first message, and what is left of it.
use Rattle.strm_head.proofs.Prelude.{◌∙◌, false, refl, sym, ap, has-list}
use Rattle.strm_head.specs.Prelude.{in_hand, token, without_emptied}
use Rattle.strm_head.specs.Getting.{put_rest}
use Rattle.strm_head.proofs.Took.{rest-some, taken}
use Rattle.strm_head.proofs.getting.take_first.Goals as goal

pub put_rest-requires-clause-some : goal.put_rest-requires-clause-some
put_rest-requires-clause-some g c = λ is.
    let s = g.B.Blocks.value c.args.store.now in
    let got = g.B.Blocks.value c.getq.new.store in
    let cut = g.B.Blocks.value c.take_parts.new.store in
    let i = token c.in-Some.message in
    let q = c.args.queue.now in
    rest-some s got cut q i c.args.cmax c.args.dmax c.unwrap_or.result c.unwrap_or-2.result (has-list s q c.audit.ensures) c.in-Some.ensures.taken c.requires.ready
    c.control_len.result c.data_len.result c.piece_of-first.result c.piece_of-second.result c.control_len.ensures c.data_len.ensures
    c.piece_of-first.ensures.given c.piece_of-first.ensures.more c.piece_of-second.ensures.given c.piece_of-second.ensures.more c.unwrap_or.ensures c.unwrap_or-2.ensures c.take_parts.ensures.cut (sym c.has_more.ensures ∙ is)

pub returns : goal.returns
returns g c =
    let s = g.B.Blocks.value c.args.store.now in
    let got = g.B.Blocks.value c.getq.new.store in
    let cut = g.B.Blocks.value c.take_parts.new.store in
    let new = g.B.Blocks.value c.put_rest.new.store in
    let i = token c.in-Some.message in
    let q = c.args.queue.now in
    let q' = c.put_rest.new.queue in
    let all = taken s got cut q i c.args.cmax c.args.dmax c.unwrap_or.result c.unwrap_or-2.result (has-list s q c.audit.ensures) c.in-Some.ensures.taken c.requires.ready
    c.control_len.result c.data_len.result c.piece_of-first.result c.piece_of-second.result c.control_len.ensures c.data_len.ensures
    c.piece_of-first.ensures.given c.piece_of-first.ensures.more c.piece_of-second.ensures.given c.piece_of-second.ensures.more c.unwrap_or.ensures c.unwrap_or-2.ensures c.take_parts.ensures.cut
    (record { control = c.piece_of-first.result.given; body = c.piece_of-second.result.given; prio = c.prio_of-prio.result; more_control = c.piece_of-first.result.more; more_data = c.piece_of-second.result.more; lets_go = false })
    c.take_parts.new.out.items c.take_parts.ensures.given refl refl c.prio_of-prio.ensures refl refl
    new c.getq.new.self.list q' c.getq.ensures.list (c.put_rest.ensures.left ∙ ap (λ v. put_rest v cut i c.getq.new.self.list (without_emptied (in_hand cut i))) c.has_more.ensures) (c.put_rest.ensures.others.list ∙ c.getq.ensures.list)
    (c.put_rest.ensures.flows ∙ c.getq.ensures.flows) (c.put_rest.ensures.others.want_read ∙ c.in-Some.ensures.want_read) (c.put_rest.ensures.others.no_enable ∙ c.getq.ensures.no_enable) c.put_rest.ensures.counted in
    record { took = all.took; leaves = all.leaves; keeps = all.keeps }
