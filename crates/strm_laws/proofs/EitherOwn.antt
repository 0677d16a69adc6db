-- The modules of two behaviours together, told apart by their numbers: of a number that both know the first one's.
use Rattle.strm_laws.proofs.Prelude.{ℕ, ◌≡◌, Bool, true, false, cond, List, refl, ◌||◌, if◌then◌else◌}
use Rattle.strm_laws.specs.Prelude.{AreCells, Cells, plain, Acted, map_message, Message, Spot, map_acted}
use Rattle.strm_types.specs.Owns.{Own}
use Rattle.strm_laws.specs.Behaviours.{Behaviour, GoodOwn, OwnPut}

-- what is owed where no bytes are changed is owed where some are
pub wider : {C : Type 0} (a b : Bool) → (a ≡ true → b ≡ true) → (cells : Cells C) (here : Spot) (m : Message C) (x : Own) (t : Acted C Own)
    → OwnPut a cells here m x t → OwnPut b cells here m x t
wider a b less cells here m x t own = record {
  number = own.number;
  notes = own.notes;
  once = λ p tests. own.once p (λ is. tests (less is));
  none_made = own.none_made;
  unread = own.unread;
  within = own.within;
  kinds = own.kinds;
  fits = own.fits;
  sends = own.sends;
  stays = own.stays;
}

first-changes : (a b : Bool) → a ≡ true → (a || b) ≡ true
first-changes true b is = is
first-changes false b is = absurd (cc)

second-changes : (a b : Bool) → b ≡ true → (a || b) ≡ true
second-changes true b is = refl
second-changes false b is = is

module _ (A B : Behaviour) where
  abbrev pub fresh_either : ℕ → List ℕ
  fresh_either n = if A.knows n then A.fresh n else B.fresh n

  abbrev pub either_puts : {C : Type 0} → Cells C → Spot → Message C → Own → Acted C Own
  either_puts cells here m x = if A.knows x.number then A.puts cells here m x else B.puts cells here m x

  pub either-good : (n : ℕ) → (A.knows n || B.knows n) ≡ true → GoodOwn (record { number = n; settings = fresh_either n })
  either-good n known = at (A.knows n) refl known
    where
      at : (b : Bool) → A.knows n ≡ b → (b || B.knows n) ≡ true → GoodOwn (record { number = n; settings = cond b (A.fresh n) (B.fresh n) })
      at true is known = A.good n is
      at false is known = B.good n known

  pub either-put : {C : Type 0} (cells : Cells C) (here : Spot) (m : Message C) (x : Own)
      → OwnPut (A.changes || B.changes) cells here m x (either_puts cells here m x)
  either-put cells here m x = at (A.knows x.number)
    where
      at : (b : Bool) → OwnPut (A.changes || B.changes) cells here m x (cond b (A.puts cells here m x) (B.puts cells here m x))
      at true = wider A.changes _ (first-changes A.changes B.changes) cells here m x _ (A.put cells here m x)
      at false = wider B.changes _ (second-changes A.changes B.changes) cells here m x _ (B.put cells here m x)

  pub either-forgets : {C : Type 0} (cells : Cells C) → AreCells cells → (here : Spot) (m : Message C) (x : Own)
      → either_puts plain here (map_message cells.byte m) x ≡ map_acted cells.byte (λ (o : Own). o) (either_puts cells here m x)
  either-forgets cells are here m x = at (A.knows x.number)
    where
      n : Message ℕ
      n = map_message cells.byte m

      at : (b : Bool) → cond b (A.puts plain here n x) (B.puts plain here n x)
          ≡ map_acted cells.byte (λ (o : Own). o) (cond b (A.puts cells here m x) (B.puts cells here m x))
      at true = A.forgets cells are here m x
      at false = B.forgets cells are here m x

  abbrev pub either : Behaviour
  either = record {
    knows = λ n. A.knows n || B.knows n;
    fresh = λ n. fresh_either n;
    puts = λ cells here m x. either_puts cells here m x;
    changes = A.changes || B.changes;
    holds = λ here m x. if A.knows x.number then A.holds here m x else B.holds here m x;
    goes = λ way ms x. if A.knows x.number then A.goes way ms x else B.goes way ms x;
    good = either-good;
    put = λ cells here m x. either-put cells here m x;
    forgets = λ cells are here m x. either-forgets cells are here m x;
  }
