-- What every put of a good message keeps, where it sends good ones on, a delivery of a good message keeps.
use Rattle.strm_laws.proofs.Prelude.{ℕ, zero, suc, Bool, true, false, cond, List, [], ◌∷◌, ◌++◌, ◌==◌, ◌&&◌, nat_le}
use Rattle.strm_laws.specs.Prelude.{HOPS, MODULES, Side, Way, Up, Down, Spot, Cells, Carried, Parcel, Took, carried, in_turn, is_bare_flush, Message}
use Rattle.std.specs.List.{AllByRecursion}
use Rattle.strm_laws.specs.Behaviours.{Behaviour}
use Rattle.strm_laws.specs.Earlier.{modules_on}
use Rattle.strm_laws.specs.GoodMessages.{AreGood}
use Rattle.strm_laws.specs.Puts.{delivered, passed_up, put_at_driver, put_at_head, put_at_module, put_behind, put_below, put_in}
use Rattle.strm_laws.specs.State.{State}

-- what holds of each of two lists holds of both joined, and of each member holds what follows from it
pub all-join : {A : Type 0} (P : A → Type 0) (xs ys : List A) → AllByRecursion P xs → AllByRecursion P ys → AllByRecursion P (xs ++ ys)
all-join P [] ys one two = two
all-join P (x ∷ xs) ys one two = (one.0, all-join P xs ys one.1 two)

module _ {C : Type 0} (Good : Message C → Type 0) where
  module _ {S : Type 0} (Holds : S → Type 0) where
    -- what a put leads to: it holds there, and good messages are sent
    pub record GoodTook (t : Took C S) : Type 0 where
      pub state : Holds t.state
      pub sent : AreGood Good t.sent

    abbrev pub GoodPuts : (Spot → Message C → S → Took C S) → Type 0
    GoodPuts put = (to : Spot) (m : Message C) (s : S) → Good m → Holds s → GoodTook (put to m s)

    abbrev pub GoodCarry : (Parcel C → S → Carried C S) → Type 0
    GoodCarry carry = (q : Parcel C) (s : S) → Good q.message → Holds s → Holds (carry q s).state

    pub good-in_turn : (carry : Parcel C → S → Carried C S) → GoodCarry carry → (ps : List (Parcel C)) (s : S) → AreGood Good ps → Holds s → Holds (in_turn carry ps s).state
    good-in_turn carry keeps [] s good holds = holds
    good-in_turn carry keeps (q ∷ qs) s good holds = good-in_turn carry keeps qs (carry q s).state good.1 (keeps q s good.0 holds)

    pub good-carried : (put : Spot → Message C → S → Took C S) → GoodPuts put → (hops : ℕ) → GoodCarry (carried put hops)
    unfolding carried
    good-carried put keeps zero q s good holds = holds
    good-carried put keeps (suc hops) q s good holds =
        let t = put q.to q.message s in
        let took = keeps q.to q.message s good holds in
        good-in_turn (carried put hops) (good-carried put keeps hops) t.sent t.state took.sent took.state

  module _ (Holds : State C → Type 0) where
    either-took : (b : Bool) (one another : Took C (State C)) → GoodTook Holds one → GoodTook Holds another → GoodTook Holds (cond b one another)
    either-took true one another first second = first
    either-took false one another first second = second

    -- the puts at a head, at a module and at a driver
    pub record GoodParts (K : Behaviour) (cells : Cells C) : Type 0 where
      pub head : (side : Side) (here : Spot) (m : Message C) (s : State C) → Good m → Holds s → GoodTook Holds (put_at_head side here m s)
      pub stack : (here : Spot) (m : Message C) (s : State C) → Good m → Holds s → GoodTook Holds (put_at_module K cells here m s)
      pub driver : (side : Side) (here : Spot) (m : Message C) (s : State C) → Good m → Holds s → GoodTook Holds (put_at_driver side here m s)

    module _ (K : Behaviour) (cells : Cells C) (parts : GoodParts K cells) where
      behind-good : (way : Way) (here : Spot) (m : Message C) (s : State C) → Good m → Holds s → GoodTook Holds (put_behind way here m s)
      behind-good Down here m s good holds = parts.driver here.side here m s good holds
      behind-good Up here m s good holds =
          either-took (is_bare_flush m && here.at == suc MODULES) (put_at_driver here.side here m s) (passed_up here m s)
          (parts.driver here.side here m s good holds) (record { state = holds; sent = (good, tt) })

      below-good : (way : Way) (here : Spot) (m : Message C) (s : State C) → Good m → Holds s → GoodTook Holds (put_below K cells way here m s)
      below-good way here m s good holds =
          either-took (nat_le here.at (modules_on here.side s)) (put_at_module K cells here m s) (put_behind way here m s) (parts.stack here m s good holds) (behind-good way here m s good holds)

      pub puts-good : GoodPuts Holds (put_in K cells)
      puts-good here m s good holds =
          either-took (here.at == 0) (put_at_head here.side here m s) (put_below K cells here.way here m s) (parts.head here.side here m s good holds) (below-good here.way here m s good holds)

      pub delivered-good : (to : Spot) (m : Message C) (s : State C) → Good m → Holds s → Holds (delivered K cells to m s).state
      delivered-good to m s good holds = good-carried Holds (put_in K cells) puts-good HOPS (record { to = to; message = m }) s good holds

      pub sent-good : (ps : List (Parcel C)) (s : State C) → AreGood Good ps → Holds s → Holds (in_turn (carried (put_in K cells) HOPS) ps s).state
      sent-good ps s good holds =
          good-in_turn Holds (carried (put_in K cells) HOPS) (good-carried Holds (put_in K cells) puts-good HOPS) ps s good holds
