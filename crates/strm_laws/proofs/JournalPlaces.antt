-- In every legal journal each byte that was booked, or stood at its base, has one place, and no other byte has any; and of each direction the
-- books say how many bytes stand there and have gone.
use Rattle.strm_laws.proofs.Prelude.{ℕ, suc, ◌≡◌, ◌+◌, Bool, true, false, cond, List, [], ◌∷◌, length, refl, ap, ◌∙◌, arith, ◌==◌, ◌&&◌, nat_le}
use Rattle.strm_laws.proofs.Prelude.{nat_lt, count_by, nat_tests, made-long, count-join}
use Rattle.strm_laws.specs.Prelude.{Called, Turned, Dir, MasterToSlave, SlaveToMaster, Place, Driver, Cells, Origin, Written, Made, Base}
use Rattle.strm_laws.specs.Prelude.{Tagged, cells_made, cells_written, tagged, PlainEntry}
use Rattle.strm_types.specs.declared.names.Place.TheVariants.{Head}
use Rattle.strm_types.specs.declared.names.Place.TheVariants as places
use Rattle.strm_laws.specs.Based.{based, number}
use Rattle.strm_laws.specs.Behaviours.{Behaviour}
use Rattle.strm_laws.specs.Kept.{AreIdle, MayTest, NothingUnread, gone, state_weight, tests_at}
use Rattle.strm_laws.specs.LdtermWeights.{IgnoresMapping}
use Rattle.strm_laws.specs.Ledgers.{all_gone, base_count, direction_in, is_booked, own_places_of, places_of, same_dir, same_origin}
use Rattle.strm_laws.specs.Places.{weight_gone}
use Rattle.strm_laws.specs.State.{State, book}
use Rattle.strm_laws.specs.Step.{IsLegal, after, replay}
use Rattle.strm_laws.proofs.Balances.{step-counts, total, written-long}
use Rattle.strm_laws.proofs.Based.{NumberedBase, all-counted, based-counted, based-idle, based-unread, none-counted}
use Rattle.strm_laws.proofs.DeliveryKeeps.{gone-append}
use Rattle.strm_laws.proofs.InOrder.{Numbered}
use Rattle.strm_laws.proofs.Kept.{step-keeps}
use Rattle.strm_laws.proofs.Unread.{step-unread}
use Rattle.strm_laws.proofs.StepsIdle.{step-idle}

module _ {C : Type 0} (cells : Cells C) (p : Dir → C → Bool) (numbered : Numbered cells p) (ignores : IgnoresMapping cells p) where
  may-test : (K : Behaviour) (entry : PlainEntry) → MayTest K cells p entry
  may-test K (Called caller asked answer) = λ delivered changes. ignores
  may-test K (Turned name turn) = at name.place
    where
      at : (place : Place) → tests_at K cells p place
      at Head = tt
      at Driver = λ changes. ignores
      at (places.Module owner) = ignores

  -- a journal from any state: what it adds to the books is what stands and has gone more
  pub follows : (K : Behaviour) (s : State C) → NothingUnread s → AreIdle s → (entries : List PlainEntry) → IsLegal K cells s entries
      → state_weight p (replay K cells s entries) + weight_gone p (all_gone K cells s entries) + total cells p numbered s ≡ state_weight p s + total cells p numbered (replay K cells s entries)
  follows K s unread idle [] legal = omega arith
  follows K s unread idle (entry ∷ entries) legal =
      let next = after K cells s entry in
      omega (
        arith,
        follows K next (step-unread K cells s next entry unread legal.0) (step-idle K cells s next entry idle legal.0) entries legal.1,
        step-keeps p K cells s next entry (may-test K entry) unread idle legal.0,
        step-counts cells p numbered K s entry,
        gone-append p (gone K cells s entry) (all_gone K cells next entries),
      )

-- all bytes of a direction
abbrev pub of_dir : {C : Type 0} → Dir → Dir → C → Bool
of_dir dir direction c = same_dir direction dir

abbrev count_if : Bool → ℕ → ℕ
count_if b n = cond b n 0

module _ {C : Type 0} (cells : Cells C) where
  if-counted : (b : Bool) (xs : List C) → count_by (λ c. b) xs ≡ count_if b (length xs)
  if-counted true xs = all-counted xs
  if-counted false xs = none-counted xs

  more-counted : (b : Bool) (n k : ℕ) → count_if b k + count_if b n ≡ count_if b (n + k)
  more-counted true n k = omega arith
  more-counted false n k = refl

  pub direction-numbered : (dir : Dir) → Numbered cells (of_dir dir)
  direction-numbered dir = record {
    upto_written = λ direction n. count_if (same_dir direction dir) n;
    upto_made = λ direction n. count_if (same_dir direction dir) n;
    written = λ direction n bytes. ap (λ k. k + count_if (same_dir direction dir) n) (if-counted (same_dir direction dir) (cells_written cells direction n bytes) ∙ ap (λ k. count_if (same_dir direction dir) k) (written-long cells direction n bytes)) ∙ more-counted (same_dir direction dir) n (length bytes);
    made = λ direction n bytes. ap (λ k. k + count_if (same_dir direction dir) n) (if-counted (same_dir direction dir) (cells_made cells direction n bytes) ∙ ap (λ k. count_if (same_dir direction dir) k) (made-long cells direction n bytes)) ∙ more-counted (same_dir direction dir) n (length bytes);
  }

  of-total : (dir : Dir) (s : State C) → total cells (of_dir dir) (direction-numbered dir) s ≡ (book dir s).written + (book dir s).made
  unfolding direction-numbered
  of-total MasterToSlave s = let e : s.books.master.written + s.books.master.made + (0 + 0) ≡ s.books.master.written + s.books.master.made = omega arith in e
  of-total SlaveToMaster s = let e : 0 + 0 + (s.books.slave.written + s.books.slave.made) ≡ s.books.slave.written + s.books.slave.made = omega arith in e

  -- of each direction: what stands and what has gone more than at first is what was written and made since
  pub balanced : (K : Behaviour) (dir : Dir) (s : State C) → NothingUnread s → AreIdle s → (entries : List PlainEntry) → IsLegal K cells s entries → let t = replay K cells s entries in
      state_weight (of_dir dir) t + weight_gone (of_dir dir) (all_gone K cells s entries) + ((book dir s).written + (book dir s).made) ≡ state_weight (of_dir dir) s + ((book dir t).written + (book dir t).made)
  balanced K dir s unread idle entries legal =
      omega (
        arith,
        follows cells (of_dir dir) (direction-numbered dir) (λ direction b c. refl) K s unread idle entries legal,
        of-total dir s,
        of-total dir (replay K cells s entries),
      )

-- bytes that are numbered one after the other in each direction, by one kind of origin
record AreNumbered (kind : Dir → ℕ → Origin) (from : Dir → ℕ → List ℕ → List Tagged) : Type 0 where
  none : (direction : Dir) (n : ℕ) → from direction n [] ≡ []
  more : (direction : Dir) (n b : ℕ) (bytes : List ℕ) → from direction n (b ∷ bytes) ≡ record { byte = b; origin = kind direction n } ∷ from direction (suc n) bytes

are-written : AreNumbered Written (cells_written tagged)
are-written = record { none = λ direction n. refl; more = λ direction n b bytes. refl }

are-made : AreNumbered Made (cells_made tagged)
are-made = record { none = λ direction n. refl; more = λ direction n b bytes. refl }

are-based : AreNumbered Base number
are-based = record { none = λ direction n. refl; more = λ direction n b bytes. refl }

abbrev one_if : Bool → ℕ
one_if b = cond b 1 0

-- what was counted before and is counted so far was so between
between : (x a b k : ℕ) → x + one_if (nat_lt k a) ≡ one_if (nat_lt k b) → x ≡ one_if (nat_le a k && nat_lt k b)
between x a b k so = grind (arith, nat_tests)

-- the byte of an origin, in the directions for which a guard holds
module _ (guard : Dir → Bool) where
  abbrev the_byte : Origin → Dir → Tagged → Bool
  the_byte origin direction c = guard direction && same_origin c.origin origin

  -- whether the kth of a direction is among the first ones
  abbrev upto : Dir → ℕ → Dir → ℕ → ℕ
  upto dir k direction n = one_if (guard direction && (same_dir direction dir && nat_lt k n))

  one-more : (g a : Bool) (n k : ℕ) → one_if (g && (a && n == k)) + one_if (g && (a && nat_lt k n)) ≡ one_if (g && (a && nat_lt k (suc n)))
  one-more false a n k = refl
  one-more true false n k = refl
  one-more true true n k = grind (arith, nat_tests)

  out : (g : Bool) → one_if (g && false) ≡ 0
  out true = refl
  out false = refl

  upto-none : (dir : Dir) (k : ℕ) (direction : Dir) → upto dir k direction 0 ≡ 0
  upto-none dir k direction = at (guard direction) (same_dir direction dir) (nat_lt k 0) (grind (arith, nat_tests))
    where
      at : (g a b : Bool) → b ≡ false → one_if (g && (a && b)) ≡ 0
      at false a b none = refl
      at true false b none = refl
      at true true b none = ap (λ c. one_if c) none

  -- the number in the one direction counts, and not that in the other
  upto-both : (dir : Dir) → guard dir ≡ true → (k : ℕ) (n : Dir → ℕ) → upto dir k MasterToSlave (n MasterToSlave) + upto dir k SlaveToMaster (n SlaveToMaster) ≡ one_if (nat_lt k (n dir))
  upto-both MasterToSlave holds k n = omega (arith, ap (λ g. one_if (g && nat_lt k (n MasterToSlave))) holds, out (guard SlaveToMaster))
  upto-both SlaveToMaster holds k n = omega (arith, ap (λ g. one_if (g && nat_lt k (n SlaveToMaster))) holds, out (guard MasterToSlave))

  module _ (kind : Dir → ℕ → Origin) (from : Dir → ℕ → List ℕ → List Tagged) (are : AreNumbered kind from) (o : Origin) where
    first-counted : (direction : Dir) (n b : ℕ) (bytes : List ℕ) → count_by (the_byte o direction) (from direction n (b ∷ bytes)) ≡ one_if (guard direction && same_origin (kind direction n) o) + count_by (the_byte o direction) (from direction (suc n) bytes)
    first-counted direction n b bytes =
        omega (arith, ap (count_by (the_byte o direction)) (are.more direction n b bytes), count-join (the_byte o direction) (record { byte = b; origin = kind direction n } ∷ []) (from direction (suc n) bytes))

    -- where the byte is the kth of this kind, it is counted once
    one-counted : (dir : Dir) (k : ℕ) → ((direction : Dir) (n : ℕ) → same_origin (kind direction n) o ≡ (same_dir direction dir && n == k)) → (direction : Dir) (n : ℕ) (bytes : List ℕ)
        → count_by (the_byte o direction) (from direction n bytes) + upto dir k direction n ≡ upto dir k direction (n + length bytes)
    one-counted dir k is direction n [] = omega (arith, ap (count_by (the_byte o direction)) (are.none direction n), ap (upto dir k direction) (let e : n ≡ n + 0 = omega arith in e))
    one-counted dir k is direction n (b ∷ bytes) =
        omega (
          arith,
          first-counted direction n b bytes,
          ap (λ c. one_if (guard direction && c)) (is direction n),
          one-more (guard direction) (same_dir direction dir) n k,
          one-counted dir k is direction (suc n) bytes,
          ap (upto dir k direction) (let e : suc n + length bytes ≡ n + length (b ∷ bytes) = omega arith in e),
        )

    -- and where it is of another kind, never
    never-counted : ((direction : Dir) (n : ℕ) → same_origin (kind direction n) o ≡ false) → (direction : Dir) (n : ℕ) (bytes : List ℕ) → count_by (the_byte o direction) (from direction n bytes) + 0 ≡ 0
    never-counted other direction n [] = omega (arith, ap (count_by (the_byte o direction)) (are.none direction n))
    never-counted other direction n (b ∷ bytes) =
        omega (arith, first-counted direction n b bytes, ap (λ c. one_if (guard direction && c)) (other direction n), out (guard direction), never-counted other direction (suc n) bytes)

  byte-numbered : (o : Origin) → Numbered tagged (the_byte o)
  byte-numbered (Written dir k) = record {
    upto_written = upto dir k;
    upto_made = λ direction n. 0;
    written = one-counted Written (cells_written tagged) are-written (Written dir k) dir k (λ direction n. refl);
    made = never-counted Made (cells_made tagged) are-made (Written dir k) (λ direction n. refl);
  }
  byte-numbered (Made dir k) = record {
    upto_written = λ direction n. 0;
    upto_made = upto dir k;
    written = never-counted Written (cells_written tagged) are-written (Made dir k) (λ direction n. refl);
    made = one-counted Made (cells_made tagged) are-made (Made dir k) dir k (λ direction n. refl);
  }
  byte-numbered (Base dir k) = record {
    upto_written = λ direction n. 0;
    upto_made = λ direction n. 0;
    written = never-counted Written (cells_written tagged) are-written (Base dir k) (λ direction n. refl);
    made = never-counted Made (cells_made tagged) are-made (Base dir k) (λ direction n. refl);
  }

  base-numbered : (o : Origin) → NumberedBase (the_byte o)
  base-numbered (Written dir k) = record { upto = λ direction n. 0; counted = never-counted Base number are-based (Written dir k) (λ direction n. refl); none = λ direction. refl }
  base-numbered (Made dir k) = record { upto = λ direction n. 0; counted = never-counted Base number are-based (Made dir k) (λ direction n. refl); none = λ direction. refl }
  base-numbered (Base dir k) = record { upto = upto dir k; counted = one-counted Base number are-based (Base dir k) dir k (λ direction n. refl); none = upto-none dir k }

  -- how often it stands at a base
  abbrev at_base : Origin → State ℕ → ℕ
  at_base o base = let numbered = base-numbered o in numbered.upto MasterToSlave (base_count MasterToSlave base) + numbered.upto SlaveToMaster (base_count SlaveToMaster base)

  -- once, where it was booked
  once : (o : Origin) → guard (direction_in o) ≡ true → (base : State ℕ) (s : State Tagged) (n : ℕ)
      → n + total tagged (the_byte o) (byte-numbered o) (based base) ≡ at_base o base + total tagged (the_byte o) (byte-numbered o) s → n ≡ one_if (is_booked o base s)
  unfolding byte-numbered base-numbered
  once (Written dir k) holds base s n so =
      between n (book dir base).written (book dir s).written k
      (omega (arith, so, upto-both dir holds k (λ d. (book d base).written), upto-both dir holds k (λ d. (book d s).written)))
  once (Made dir k) holds base s n so =
      between n (book dir base).made (book dir s).made k
      (omega (arith, so, upto-both dir holds k (λ d. (book d base).made), upto-both dir holds k (λ d. (book d s).made)))
  once (Base dir k) holds base s n so = omega (arith, so, upto-both dir holds k (λ d. base_count d base))

  pub placed : (K : Behaviour) (o : Origin) → guard (direction_in o) ≡ true → (base : State ℕ) → NothingUnread base → AreIdle base → (entries : List PlainEntry) → IsLegal K tagged (based base) entries → let s = replay K tagged (based base) entries in
      state_weight (the_byte o) s + weight_gone (the_byte o) (all_gone K tagged (based base) entries) ≡ one_if (is_booked o base s)
  placed K o holds base unread idle entries legal =
      let s = replay K tagged (based base) entries in
      once o holds base s _
      (
      follows tagged (the_byte o) (byte-numbered o) (λ direction b c. refl) K (based base) (based-unread base unread) (based-idle base idle) entries legal
      ∙ ap (λ n. n + total tagged (the_byte o) (byte-numbered o) s) (based-counted (the_byte o) (base-numbered o) base)
      )

-- in one place, and in its own direction
pub one-place : (K : Behaviour) (o : Origin) (base : State ℕ) (entries : List PlainEntry) → NothingUnread base → AreIdle base → IsLegal K tagged (based base) entries → places_of K o base entries ≡ cond (is_booked o base (replay K tagged (based base) entries)) 1 0
one-place K o base entries unread idle legal = placed (λ direction. true) K o refl base unread idle entries legal

own-direction : (dir : Dir) → same_dir dir dir ≡ true
own-direction MasterToSlave = refl
own-direction SlaveToMaster = refl

pub own-place : (K : Behaviour) (o : Origin) (base : State ℕ) (entries : List PlainEntry) → NothingUnread base → AreIdle base → IsLegal K tagged (based base) entries → own_places_of K o base entries ≡ cond (is_booked o base (replay K tagged (based base) entries)) 1 0
own-place K o base entries unread idle legal = placed (λ direction. same_dir direction (direction_in o)) K o (own-direction (direction_in o)) base unread idle entries legal
