-- Streams over a store with nothing in it.
use Rattle.strm_pair.proofs.Prelude.{arith, refl, each-side}
use Rattle.strm_pair.specs.Prelude.{empty_store, Master, Slave, Both}
use Rattle.strm_pair.specs.declared.ends.StreamEnd.{StreamEnd}
use Rattle.strm_pair.specs.Lists.{first_list}
use Rattle.strm_pair.specs.Streams.{IsSide}
use Rattle.strm_pair.proofs.Sides.{blank}
use Rattle.strm_pair.proofs.streams.Streams.renew.Goals as goal

pub returns-clause-state : goal.returns-clause-state
returns-clause-state c = λ s mblks dblks beside.
    let t = empty_store mblks dblks in
    let b = blank mblks dblks in
    rw (c.renew.ensures.stream s t 0 (beside Master) b.0, c.renew-2.ensures.stream s t 8 (beside Slave) b.1, c.new-self.ensures, c.new-self-2.ensures, c.new-self-3.ensures) refl

pub returns-clause-held : goal.returns-clause-held
returns-clause-held c = λ s mblks dblks beside.
    let t = empty_store mblks dblks in
    let b = blank mblks dblks in
    let ends : Both StreamEnd = record { master = c.renew.new.self; slave = c.renew-2.new.self } in
    record {
      hand = refl;
      beside = each-side (λ side e. IsSide t (first_list side) e) ends (c.renew.ensures.side s t 0 (beside Master) b.0) (c.renew-2.ensures.side s t 8 (beside Slave) b.1);
    }

pub renew-requires : goal.renew-requires
renew-requires c = omega (arith, c.requires)

pub renew-requires-2 : goal.renew-requires-2
renew-requires-2 c = omega (arith, c.requires, c.renew.ensures.shelf.tables, c.renew.ensures.shelf.room)

pub returns-clause-shelf : goal.returns-clause-shelf
returns-clause-shelf c = record {
  tables = omega (arith, c.renew.ensures.shelf.tables, c.renew-2.ensures.shelf.tables);
  room = omega (arith, c.renew.ensures.shelf.room, c.renew-2.ensures.shelf.room);
}
