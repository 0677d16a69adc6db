-- What a stack of modules wants of a put at pckt: the blocks that it takes are those of the packet, and of what is passed of an M_FLUSH.
use Rattle.strm_pty.proofs.Prelude.{ℕ, arith}
use Rattle.strm_pty.specs.Prelude.{Fates, Spot, Message, StoreValue, Acts, Hands, Spends, message_in, sent_of, times_sent}
use Rattle.strm_types.specs.Costs.{pckt_takes}
use Rattle.strm_frame.proofs.Shifting.{shifts-spends}
use Rattle.strm_pty.specs.Packs.{Packs, pckt_in, puts}

module _ (s t : StoreValue) (i : ℕ) (here : Spot) (acts : Acts) (f f' : Fates)
    (packs : Packs s t i (pckt_takes here (message_in s i)) acts f f' (puts here (message_in s i) pckt_in)) where
  abbrev m : Message ℕ
  m = message_in s i

  pub packs-spends : Spends s t (pckt_takes here m) 0
  packs-spends = shifts-spends s t _ _ (pckt_takes here m) packs.swaps.hands

  pub packs-hands : Hands s t i (λ _. 0) (λ _. 0) (λ j. times_sent j (sent_of acts.sent))
  packs-hands = record {
    counts = λ j. let c = packs.swaps.hands.counts j in omega arith;
    others = λ j gone kept there. packs.swaps.hands.others j gone there;
  }
