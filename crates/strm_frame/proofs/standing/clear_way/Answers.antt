-- The queue of the way is cleared, where there are queues.
use Rattle.strm_frame.proofs.Prelude.{List, [], ◌∷◌, cond, refl, ap, arith, Some}
use Rattle.strm_frame.specs.Prelude.{Note, Room}
use Rattle.strm_frame.proofs.Letting.{none-met}
use Rattle.strm_frame.proofs.standing.clear_way.Goals as goal

pub returns-in-Some : goal.returns-in-Some
returns-in-Some g c =
    let e = c.clear.ensures in
    rw c.in-Some.is (record {
      state = ap Some e.state;
      notes = ap (λ b. cond {A = List Note} b (Room c.args.way ∷ []) []) e.room;
      met = e.met;
      told = e.told;
      ready = e.ready;
      lists = e.lists;
      own = e.own;
      hand = e.hand;
      frees = e.frees;
    })

pub returns-in-None : goal.returns-in-None
returns-in-None g c = rw c.in-None.is (record {
  state = refl;
  notes = refl;
  met = none-met c.args.seeking;
  told = refl;
  ready = tt;
  lists = refl;
  own = record { lists = λ k none. refl; owns_same = λ k. refl };
  hand = record { hand = refl; mblks = refl; dblks = refl };
  frees = record { mblks = omega arith; dblks = omega arith };
})
