-- Each step takes one module off, and where none stands none has queues.
use Rattle.strm_pair.proofs.Prelude.{◌≡◌, ◌<◌, true, false, List, [], ◌∷◌, length, ap, refl, arith, sum_by, sym, ◌∙◌, ◌==◌, nat_tests}
use Rattle.strm_pair.specs.AnyModules.{AnyStanding}
use Rattle.strm_pair.specs.Shows.{one_pair}
use Rattle.strm_pair.proofs.stacks.take_modules.Goals as goal

none-of : (xs : List AnyStanding) → length xs ≡ 0 → xs ≡ []
none-of [] none = refl
none-of (x ∷ xs) none = absurd (omega (arith, none))

one-less : (xs ys : List AnyStanding) → (length xs ≡ 0 → ⊥) → ((x : AnyStanding) (rest : List AnyStanding) → xs ≡ x ∷ rest → ys ≡ rest) → length ys < length xs
one-less [] ys some rest = absurd (some refl)
one-less (x ∷ xs) ys some rest = let same = ap length (rest x xs refl) in omega (arith, same)

pub loop-stack-init : goal.loop-stack-init
loop-stack-init c = record { shelf = record { tables = refl; room = omega arith } }

pub pop_top-requires : goal.pop_top-requires
pop_top-requires c = omega (arith, c.requires, c.loop-stack.invariant.shelf.tables, c.loop-stack.invariant.shelf.room)

pub loop-stack-smaller : goal.loop-stack-smaller
loop-stack-smaller c =
    let xs = c.loop-stack.stack.modules.items in
    let some : (length xs == 0) ≡ false = sym c.is_empty.ensures ∙ c.loop-stack-test.true in
    one-less xs c.pop_top.new.stack.modules.items (λ none. grind (arith, nat_tests)) c.pop_top.ensures.rest

pub loop-stack-preserved : goal.loop-stack-preserved
loop-stack-preserved c = record {
  shelf = record {
    tables = omega (arith, c.pop_top.ensures.shelf.tables, c.loop-stack.invariant.shelf.tables);
    room = omega (arith, c.pop_top.ensures.shelf.room, c.loop-stack.invariant.shelf.room);
  };
}

pub returns-clause-shelf : goal.returns-clause-shelf
returns-clause-shelf c =
    let xs = c.loop-stack.stack.modules.items in
    let none : (length xs == 0) ≡ true = sym c.is_empty.ensures ∙ c.loop-stack-test.false in
    let bare = ap (λ ys. sum_by (λ (x : AnyStanding). one_pair x.queues) ys) (none-of xs (grind (arith, nat_tests))) in
    record {
      tables = omega (arith, c.loop-stack.invariant.shelf.tables, bare);
      room = c.loop-stack.invariant.shelf.room;
    }
