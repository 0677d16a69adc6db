-- What a put at a spot of a pair takes of the books is no more than what its tables say of blocks, and a delivery takes few of either.
use Rattle.strm_pair.proofs.Prelude.{ℕ, ◌≡◌, ◌≤◌, ◌+◌, Bool, true, false, cond, List, length, refl, ap, arith, ◌==◌, nat_le, each-side, keeps-most}
use Rattle.strm_pair.proofs.Prelude.{own, place-makes, bytes-sum, plain-is, few-bytes}
use Rattle.strm_pair.specs.Prelude.{HOPS, Master, Slave, Spot, budget, cost_of, most, most_of, plain, Parcel, modules_on, is_data_kind, Message}
use Rattle.strm_pair.specs.Prelude.{shape_of, put_at_head, put_at_module, put_behind, put_below, put_in, costs, spare, EachOnce, stands_of, State}
use Rattle.strm_pair.specs.Prelude.{IsStore, StoreValue, block_at, in_hand, message_of, HasRoom, message_in, Behaviour}
use Rattle.strm_types.proofs.CostsOf.{cost-under}
use Rattle.strm_laws.specs.StackCosts.{StandOnce, Stands}
use Rattle.strm_laws.proofs.StackSpares.{behind-spare, head-spare, stack-falls}
use Rattle.strm_msg.proofs.MadePlain.{plain-none}
use Rattle.strm_frame.specs.Hands.{MayTake}
use Rattle.strm_pair.specs.declared.streams.Streams.{Streams}
use Rattle.strm_pair.specs.Pairs.{state_in, AreBeside}

-- a message in hand has few bytes
pub plain-few : (s : StoreValue) (i : ℕ) → IsStore s → length (message_in s i).plain ≤ 16777216
plain-few s i store = at (is_data_kind (block_at 0 (in_hand s i)).kind) refl
  where
    at : (parts : Bool) → is_data_kind (block_at 0 (in_hand s i)).kind ≡ parts → length (message_of (in_hand s i)).plain ≤ 16777216
    at true is = omega (arith, plain-none (in_hand s i) is)
    at false is = omega (arith, ap (λ (m : Message ℕ). length m.plain) (plain-is (in_hand s i) is), bytes-sum (in_hand s i), few-bytes s store 0 i)

-- what a put takes of the books
module _ (K : Behaviour) (to : Spot) (m : Message ℕ) (s : State ℕ) (small : length m.plain ≤ 16777216) where
  pub puts-spend : spare s ≤ spare (put_in K plain to m s).state + own to (shape_of m) s
  puts-spend = at (to.at == 0) refl
    where
      below : (stands : Bool) → nat_le to.at (modules_on to.side s) ≡ stands → (to.at == 0) ≡ false
          → spare s ≤ spare (cond stands (put_at_module K plain to m s) (put_behind to.way to m s)).state + own to (shape_of m) s
      below true is inside = omega (arith, stack-falls K plain to m s small, place-makes to m s inside is)
      below false is inside = omega (arith, behind-spare to.way to m s)

      at : (top : Bool) → (to.at == 0) ≡ top → spare s ≤ spare (cond top (put_at_head to.side to m s) (put_below K plain to.way to m s)).state + own to (shape_of m) s
      at true is = omega (arith, head-spare to.side to m s)
      at false is = below (nat_le to.at (modules_on to.side s)) refl is

-- where each module stands once, messages take few at most
pub sent-most : (all : Stands) → StandOnce all → (ps : List (Parcel ℕ)) → cost_of (budget (costs all) HOPS) ps ≤ cost_of most ps
sent-most all once ps = cost-under (budget (costs all) HOPS) most (keeps-most all once) ps

pub once-stands : (s : StoreValue) (p : Streams) → AreBeside s p → StandOnce (stands_of (state_in s p))
once-stands s p beside = each-side (λ sd on. EachOnce on) (stands_of (state_in s p)) (beside Master).once (beside Slave).once

-- a message that stands for one of which is known what it takes at most
pub may-by : (s : StoreValue) (left : ℕ) (to : Spot) (m x : Message ℕ) (n : ℕ) → m ≡ x → most_of to x ≤ n → HasRoom s n → n ≤ left → MayTake s left (most_of to m)
may-by s left to m x n shows few room spare = record {
  room = record { mblks = omega (arith, few, room.mblks, ap (most_of to) shows); dblks = omega (arith, few, room.dblks, ap (most_of to) shows) };
  spare = omega (arith, few, spare, ap (most_of to) shows);
}
