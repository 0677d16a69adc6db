-- Streams over a store with nothing in it.
use Rattle.strm_pair.proofs.Prelude.{refl, sym, subst, each-side}
use Rattle.strm_pair.specs.Prelude.{empty_store, Both}
use Rattle.strm_pair.specs.declared.ends.StreamEnd.{StreamEnd}
use Rattle.strm_pair.specs.Lists.{first_list}
use Rattle.strm_pair.specs.Streams.{IsBlank, IsSide}
use Rattle.strm_pair.proofs.Sides.{blank}
use Rattle.strm_pair.proofs.streams.Streams.new.Goals as goal

pub returns-clause-state : goal.returns-clause-state
returns-clause-state c = λ mblks dblks.
    let s = empty_store mblks dblks in
    let b = blank mblks dblks in
    rw (c.new_end.ensures.stream s (rw c.first_list.ensures.list b.0), c.new_end-2.ensures.stream s (rw c.first_list-2.ensures.list b.1), c.new.ensures, c.new-2.ensures, c.new-3.ensures) refl

pub returns-clause-held : goal.returns-clause-held
returns-clause-held c = λ mblks dblks.
    let s = empty_store mblks dblks in
    let b = blank mblks dblks in
    let ends : Both StreamEnd = record { master = c.new_end.result; slave = c.new_end-2.result } in
    record {
      hand = refl;
      beside = each-side (λ side e. IsSide s (first_list side) e) ends
          (subst (λ n. IsSide s n c.new_end.result) c.first_list.ensures.list (c.new_end.ensures.side s (subst (λ n. IsBlank s n) (sym c.first_list.ensures.list) b.0)))
          (subst (λ n. IsSide s n c.new_end-2.result) c.first_list-2.ensures.list (c.new_end-2.ensures.side s (subst (λ n. IsBlank s n) (sym c.first_list-2.ensures.list) b.1)));
    }
