-- The one on top goes.
use Rattle.std.proofs.Common.{◌≡◌, ◌<◌, List, [], ◌∷◌, sym, ap, arith, refl, ◌∙◌}
use Rattle.std.proofs.Math.Seq.{take-append_seam}
use Rattle.std.proofs.lemmas.List.Sums.{sum_by-cons}
use Rattle.std.specs.Prelude.{Option, None, get_or}
use Rattle.strm_pair.specs.Prelude.{QueuePair}
use Rattle.strm_pair.specs.Shelves.{Restocks, pairs_among, room_on, tables_on}
use Rattle.strm_pair.specs.Shows.{one_pair}
use Rattle.strm_pair.specs.AnyModules.{AnyStanding}
use Rattle.strm_pair.proofs.stacks.pop_top.Goals.{in-Some, in_default}
use Rattle.strm_pair.proofs.stacks.pop_top.Goals as goal

abbrev rest_of : List AnyStanding → List AnyStanding
rest_of [] = []
rest_of (x ∷ xs) = xs

pub returns-in-Some-queues_of-clause-rest : goal.returns-in-Some-queues_of-clause-rest
returns-in-Some-queues_of-clause-rest c = λ x xs is.
    let left : c.pop.new.self.modules.items ≡ rest_of c.match-first_mut.stack.modules.items = ap rest_of (sym c.in-Some-pop.ensures) in
    left ∙ elim c.match-first_mut.branch [
      | in-Some w ↦ rw w.stack-is (rw c.as_mut_slice.ensures.value (rw is (take-append_seam xs _)))
      | in_default w ↦ rw w.stack-is (rw c.as_mut_slice.ensures.value (rw is (take-append_seam xs _)))
    ]

abbrev queues_first : List AnyStanding → Option QueuePair
queues_first [] = None
queues_first (x ∷ xs) = x.queues

pub put-requires : goal.put-requires
put-requires c = by c.args.stack.now.modules.items refl
  where
    by : (l : List AnyStanding) → c.args.stack.now.modules.items ≡ l → tables_on c.args.shelf.now < room_on c.args.shelf.now
    by [] none =
        let bare : c.match-first_mut.stack.modules.items ≡ [] = elim c.match-first_mut.branch [
          | in-Some w ↦ rw w.stack-is (rw c.as_mut_slice.ensures.value (rw none refl))
          | in_default w ↦ rw w.stack-is (rw c.as_mut_slice.ensures.value (rw none refl))
        ] in
        absurd (let never : [] ≡ c.in-Some-pop.standing ∷ c.pop.new.self.modules.items = sym bare ∙ c.in-Some-pop.ensures in cc)
    by (x ∷ xs) is =
        let kept : queues_first c.match-first_mut.stack.modules.items ≡ x.queues = elim c.match-first_mut.branch [
          | in-Some w ↦ rw w.stack-is (rw c.as_mut_slice.ensures.value (rw is (ap (λ (y : AnyStanding). y.queues)
              (w.in-Some.ensures.item.1 ∙ ap (λ (l : List AnyStanding). get_or l 0 w.in-Some.top.now) (c.as_mut_slice.ensures.value ∙ is)))))
          | in_default w ↦ rw w.stack-is (rw c.as_mut_slice.ensures.value (rw is refl))
        ] in
        let first : c.in-Some-pop.standing.queues ≡ x.queues = ap queues_first (sym c.in-Some-pop.ensures) ∙ kept in
        let one : one_pair x.queues ≡ 1 = ap one_pair (sym first ∙ sym c.queues_of.ensures ∙ c.in-Some-queues_of.is) in
        omega (arith, c.requires, ap pairs_among is, sum_by-cons (λ (y : AnyStanding). one_pair y.queues) x xs, one)

pub returns-in-Some-queues_of-clause-shelf : goal.returns-in-Some-queues_of-clause-shelf
returns-in-Some-queues_of-clause-shelf c = by c.args.stack.now.modules.items refl
  where
    by : (l : List AnyStanding) → c.args.stack.now.modules.items ≡ l
        → Restocks c.args.shelf.now c.put.new.self (pairs_among c.args.stack.now.modules.items) (pairs_among c.pop.new.self.modules.items)
    by [] none =
        let bare : c.match-first_mut.stack.modules.items ≡ [] = elim c.match-first_mut.branch [
          | in-Some w ↦ rw w.stack-is (rw c.as_mut_slice.ensures.value (rw none refl))
          | in_default w ↦ rw w.stack-is (rw c.as_mut_slice.ensures.value (rw none refl))
        ] in
        absurd (let never : [] ≡ c.in-Some-pop.standing ∷ c.pop.new.self.modules.items = sym bare ∙ c.in-Some-pop.ensures in cc)
    by (x ∷ xs) is =
        let kept : queues_first c.match-first_mut.stack.modules.items ≡ x.queues = elim c.match-first_mut.branch [
          | in-Some w ↦ rw w.stack-is (rw c.as_mut_slice.ensures.value (rw is (ap (λ (y : AnyStanding). y.queues)
              (w.in-Some.ensures.item.1 ∙ ap (λ (l : List AnyStanding). get_or l 0 w.in-Some.top.now) (c.as_mut_slice.ensures.value ∙ is)))))
          | in_default w ↦ rw w.stack-is (rw c.as_mut_slice.ensures.value (rw is refl))
        ] in
        let first : c.in-Some-pop.standing.queues ≡ x.queues = ap queues_first (sym c.in-Some-pop.ensures) ∙ kept in
        let one : one_pair x.queues ≡ 1 = ap one_pair (sym first ∙ sym c.queues_of.ensures ∙ c.in-Some-queues_of.is) in
        let rest = ap pairs_among (returns-in-Some-queues_of-clause-rest c x xs is) in
        record {
          tables = omega (arith, c.put.ensures.tables, ap pairs_among is, rest, sum_by-cons (λ (y : AnyStanding). one_pair y.queues) x xs, one);
          room = c.put.ensures.room;
        }
