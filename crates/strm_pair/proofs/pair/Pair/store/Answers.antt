-- The queues of the state are those that the store's lists show.
use Rattle.strm_pair.proofs.Prelude.{subst, each-side}
use Rattle.strm_pair.specs.Prelude.{Master, Slave, PairState}
use Rattle.strm_pair.specs.BaseTexts.{start_in}
use Rattle.strm_pair.specs.Lists.{first_list}
use Rattle.strm_pair.specs.Pairs.{state_in}
use Rattle.strm_pair.specs.Shows.{Shows, ShowsStream}
use Rattle.strm_pair.proofs.Steps.{led-idle}
use Rattle.strm_pair.proofs.Shown.{stream-shown}
use Rattle.strm_pair.proofs.pair.Pair.store.Goals as goal

pub returns : goal.returns
returns g c =
    let p = c.self.inside in
    let s = g.B.Blocks.value p.store in
    let kept = c.self.invariant.kept.held in
    let idle = led-idle g.M.Behaves.does s p.streams p.journal (start_in p.base) p.limits p.fates c.self.invariant.kept in
    subst (λ (v : PairState). Shows s v.state) c.self.view_is (record {
      hand = kept.hand;
      streams = each-side (λ side t. ShowsStream s (first_list side) t) (state_in s p.streams).ends
          (stream-shown s 0 p.streams.ends.master (kept.beside Master) (idle Master)) (stream-shown s 8 p.streams.ends.slave (kept.beside Slave) (idle Slave));
    })
