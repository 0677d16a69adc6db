-- What a message that is put at a spot comes to, in moves of messages, and that a delivery adds no more than it.
use Rattle.strm_laws.proofs.Prelude.{ℕ, zero, suc, ◌≡◌, ◌≤◌, ◌+◌, ◌-◌, ◌*◌, Bool, true, false, cond, List, [], ◌∷◌, length, refl, arith, ◌&&◌, nat_le}
use Rattle.strm_laws.proofs.Prelude.{nat_tests, PutHolds, carried-holds}
use Rattle.strm_laws.specs.Prelude.{MsgKind, Data, Proto, Ioctl, Side, Way, Up, Down, Spot, Carried, Parcel, Took, carried, in_turn, toward}
use Rattle.strm_laws.specs.Prelude.{is_bare_flush, Message, cells_of, other}
use Rattle.strm_laws.specs.Rest.{echoes, moves_above, moves_across}
use Rattle.strm_laws.specs.StackCosts.{Stands}
use Rattle.strm_types.proofs.DeliveryHolds.{CarryHolds}

-- what several messages cost
abbrev pub costs : {C : Type 0} → (Spot → Message C → ℕ) → List (Parcel C) → ℕ
costs cost [] = 0
costs cost (p ∷ ps) = cost p.to p.message + costs cost ps

-- Where each put adds no more to a state than its message costs, with what it sends, no delivery does.
module _ {C S : Type 0} (Holds : S → Type 0) (weigh : S → ℕ) (cost : Spot → Message C → ℕ) where
  abbrev pub PutPays : (Spot → Message C → S → Took C S) → Type 0
  PutPays put = (to : Spot) (m : Message C) (s : S) → Holds s → weigh (put to m s).state + costs cost (put to m s).sent ≤ weigh s + cost to m

  abbrev pub CarryPays : (Parcel C → S → Carried C S) → Type 0
  CarryPays carry = (q : Parcel C) (s : S) → Holds s → weigh (carry q s).state ≤ weigh s + cost q.to q.message

  pub in_turn-pays : (carry : Parcel C → S → Carried C S) → CarryHolds Holds carry → CarryPays carry → (ps : List (Parcel C)) (s : S) → Holds s → weigh (in_turn carry ps s).state ≤ weigh s + costs cost ps
  in_turn-pays carry keeps pays [] s holds = omega arith
  in_turn-pays carry keeps pays (q ∷ qs) s holds = omega (arith, pays q s holds, in_turn-pays carry keeps pays qs (carry q s).state (keeps q s holds))

  pub carried-pays : (put : Spot → Message C → S → Took C S) → PutHolds Holds put → PutPays put → (hops : ℕ) → CarryPays (carried put hops)
  unfolding carried
  carried-pays put keeps pays zero q s holds = omega arith
  carried-pays put keeps pays (suc hops) q s holds =
      let t = put q.to q.message s in
      omega (arith, pays q.to q.message s holds, in_turn-pays (carried put hops) (carried-holds Holds put keeps hops) (carried-pays put keeps pays hops) t.sent t.state (keeps q.to q.message s holds))

-- what waits on a write queue on the way down, before the driver's
abbrev pub sinks_by : MsgKind → Bool → ℕ → ℕ
sinks_by Data true n = 1 + 2 * n
sinks_by Proto true n = 1 + 2 * n
sinks_by Ioctl true n = 1 + 2 * n
sinks_by kind ahead n = 0

-- more is ahead from below
pub above-more : (kind : MsgKind) (n : ℕ) (a b : Bool) → (a ≡ true → b ≡ true) → moves_above kind a n ≤ moves_above kind b n
above-more Data n false b less = omega arith
above-more Data n true true less = omega arith
above-more Data n true false less = absurd (cc (less refl))
above-more Proto n false b less = omega arith
above-more Proto n true true less = omega arith
above-more Proto n true false less = absurd (cc (less refl))
above-more Ioctl n a b less = omega arith
above-more kind n a b less = omega arith

pub sinks-more : (kind : MsgKind) (n : ℕ) (a b : Bool) → (a ≡ true → b ≡ true) → sinks_by kind a n ≤ sinks_by kind b n
sinks-more Data n false b less = omega arith
sinks-more Data n true true less = omega arith
sinks-more Data n true false less = absurd (cc (less refl))
sinks-more Proto n false b less = omega arith
sinks-more Proto n true true less = omega arith
sinks-more Proto n true false less = absurd (cc (less refl))
sinks-more Ioctl n false b less = omega arith
sinks-more Ioctl n true true less = omega arith
sinks-more Ioctl n true false less = absurd (cc (less refl))
sinks-more kind n a b less = omega arith

-- the place of the ldterm that is ahead on a stream where one is
abbrev pub at_or_above : Bool → ℕ → ℕ → Bool
at_or_above echoed post at = echoed && nat_le post at

abbrev pub at_or_below : Bool → ℕ → ℕ → Bool
at_or_below echoed post at = echoed && nat_le at post

pub above-wider : (echoed : Bool) (post a b : ℕ) → a ≤ b → at_or_above echoed post a ≡ true → at_or_above echoed post b ≡ true
above-wider true post a b less is = let le : nat_le post b ≡ true = grind (arith, nat_tests) in le
above-wider false post a b less is = is

pub below-wider : (echoed : Bool) (post a b : ℕ) → b ≤ a → at_or_below echoed post a ≡ true → at_or_below echoed post b ≡ true
below-wider true post a b less is = let le : nat_le b post ≡ true = grind (arith, nat_tests) in le
below-wider false post a b less is = is

pub wholly : (echoed : Bool) (post a : ℕ) → at_or_above echoed post a ≡ true → echoed ≡ true
wholly true post a is = refl
wholly false post a is = is

either-more : (b : Bool) (n k : ℕ) → n ≤ k → cond b 0 n ≤ cond b 0 k
either-more true n k less = omega arith
either-more false n k less = less

module _ {C : Type 0} (all : Stands) (posts : Side → ℕ) where
  -- on the way up, and on the way down, where a bare M_FLUSH waits nowhere
  abbrev pub toll_at : Way → Side → ℕ → Message C → ℕ
  toll_at Up side at m = moves_above m.kind (at_or_above (echoes all side) (posts side) at) (length (cells_of m))
  toll_at Down side at m = cond (is_bare_flush m) 0 (sinks_by m.kind (at_or_below (echoes all side) (posts side) at) (length (cells_of m)) + moves_across (echoes all (other side)) m)

  abbrev pub toll : Spot → Message C → ℕ
  toll to m = toll_at to.way to.side to.at m

  -- on its way a message has less and less ahead
  pub up-falls : (side : Side) (a b : ℕ) (m : Message C) → a ≤ b → toll_at Up side a m ≤ toll_at Up side b m
  up-falls side a b m less = above-more m.kind (length (cells_of m)) _ _ (above-wider (echoes all side) (posts side) a b less)

  pub down-falls : (side : Side) (a b : ℕ) (m : Message C) → b ≤ a → toll_at Down side a m ≤ toll_at Down side b m
  down-falls side a b m less =
      let sinks = sinks-more m.kind (length (cells_of m)) _ _ (below-wider (echoes all side) (posts side) a b less) in
      either-more (is_bare_flush m) _ _ (omega (arith, sinks))

  pub onward-falls : (way : Way) (here : Spot) (m : Message C) → toll (toward way here) m ≤ toll_at way here.side here.at m
  onward-falls Up here m = up-falls here.side (here.at - 1) here.at m (omega arith)
  onward-falls Down here m = down-falls here.side (here.at + 1) here.at m (omega arith)

  -- going all the way up costs no more than what a driver's queue counts
  pub up-most : (side : Side) (at : ℕ) (m : Message C) → suc (toll_at Up side at m) ≤ moves_across (echoes all side) m
  up-most side at m = let less = above-more m.kind (length (cells_of m)) _ _ (wholly (echoes all side) (posts side) at) in omega (arith, less)
