-- A module of a user's own leaves no message that may go on at a queue that nothing enables: what makes the first message of a queue ask for room
-- that it didn't ask for before enables the queue (qenable(9F)). Until its turn it is enabled, and one whose turn finds no room waits as a writer.
use Rattle.strm_laws.proofs.Prelude.{◌≡◌, Bool, true, false, cond, List, [], ◌∷◌, ◌++◌, refl, sym, subst, ap, ◌∙◌, arith, ◌||◌, ◌==◌, not, Some}
use Rattle.strm_laws.proofs.Prelude.{false≢true, nat_tests}
use Rattle.strm_laws.specs.Prelude.{Way, Up, Down, Note, Enable, Room, Asks, Spot, Message, QueuePair, left_with, pair_changed, stood, same_way}
use Rattle.strm_types.specs.declared.spots.Asks.TheVariants as asked
use Rattle.strm_types.specs.Owns.{Own}
use Rattle.strm_types.specs.OwnStands.{OwnActs, Wakes, goes_anew, is_noted, own_acts, own_asks, own_puts, own_served, own_serves, woken_on}
use Rattle.strm_types.specs.Service.{acts_alone}
use Rattle.strm_types.specs.Standings.{Standing, way_queue}

noted-second : (way : Way) (xs ys : List Note) → is_noted way ys ≡ true → is_noted way (xs ++ ys) ≡ true
noted-second way [] ys is = is
noted-second way (Enable w ∷ xs) ys is = at (same_way w way) (noted-second way xs ys is)
  where
    at : (same : Bool) → is_noted way (xs ++ ys) ≡ true → (same || is_noted way (xs ++ ys)) ≡ true
    at true more = refl
    at false more = more
noted-second way (Room w ∷ xs) ys is = noted-second way xs ys is

noted-first : (way : Way) (xs ys : List Note) → is_noted way xs ≡ true → is_noted way (xs ++ ys) ≡ true
noted-first way [] ys is = absurd (cc)
noted-first way (Enable w ∷ xs) ys is = at (same_way w way) is (noted-first way xs ys)
  where
    at : (same : Bool) → (same || is_noted way xs) ≡ true → (is_noted way xs ≡ true → is_noted way (xs ++ ys) ≡ true)
        → (same || is_noted way (xs ++ ys)) ≡ true
    at true is more = refl
    at false is more = more is
noted-first way (Room w ∷ xs) ys is = noted-first way xs ys is

-- nothing asks otherwise than it did
never : (a : Asks) → goes_anew a a ≡ false
never asked.Empty = refl
never asked.Held = refl
never asked.Free = refl
never (asked.Room band) = let same : (band.0 == band.0) ≡ true = grind (arith, nat_tests) in ap not same

module _ {C : Type 0} (own : OwnActs C) (way : Way) where
  same : (way : Way) → same_way way way ≡ true
  same Up = refl
  same Down = refl

  woken-on : (x y : Standing Own C) → goes_anew (own_asks own way x) (own_asks own way y) ≡ true → is_noted way (woken_on own way x y) ≡ true
  woken-on x y is = ap (λ b. is_noted way (cond b (Enable way ∷ []) [])) is ∙ ap (λ b. b || false) (same way)

  woken-both : (x y : Standing Own C) (before : List Note) → goes_anew (own_asks own way x) (own_asks own way y) ≡ true
      → is_noted way (before ++ (woken_on own Up x y ++ woken_on own Down x y)) ≡ true
  woken-both x y before is = noted-second way before _ (at way refl (woken-on x y is))
    where
      at : (w : Way) → way ≡ w → is_noted way (woken_on own way x y) ≡ true → is_noted way (woken_on own Up x y ++ woken_on own Down x y) ≡ true
      at Up same noted =
          noted-first way (woken_on own Up x y) (woken_on own Down x y) (subst (λ w. is_noted way (woken_on own w x y) ≡ true) same noted)
      at Down same noted =
          noted-second way (woken_on own Up x y) (woken_on own Down x y) (subst (λ w. is_noted way (woken_on own w x y) ≡ true) same noted)

  pub puts-wake : (here : Spot) (m : Message C) (o : Own) (pair : QueuePair C)
      → let x = stood o (Some pair) in Wakes own way x (own_puts own here m x)
  puts-wake here m o pair is =
      let t = own_acts own here m o pair in
      woken-both (stood o (Some pair)) t.state t.notes is

  pub serves-wake : (here : Spot) (o : Own) (pair : QueuePair C)
      → let x = stood o (Some pair) in Wakes own way x (own_serves own here x).acted
  serves-wake here o pair is = at (way_queue here.way pair).messages is
    where
      at : (ms : List (Message C)) → let x = stood o (Some pair) in Wakes own way x (own_served own here x pair ms).acted
      at [] is = absurd (false≢true (sym (never (own_asks own way (stood o (Some pair)))) ∙ is))
      at (m ∷ rest) is =
          let t = acts_alone (own.puts here m) (stood o (Some (pair_changed here.way (left_with rest) pair))) in
          woken-both (stood o (Some pair)) t.state t.notes is
