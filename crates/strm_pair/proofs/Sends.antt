-- A chunk of a write that a head's call made, as the queues' lemmas speak of it.
use Rattle.strm_pair.proofs.Prelude.{ℕ, ◌≡◌, ◌+◌, List, refl, sym, ap, ◌∙◌, kind-is}
use Rattle.strm_pair.specs.Prelude.{Data, Message, data_message, StoreValue, in_hand, free_m, free_d}
use Rattle.strm_queue.proofs.OneMade.{OneMade}
use Rattle.strm_head.specs.Sending.{Sends}

data-kind : (bytes : List ℕ) → (data_message bytes).kind ≡ Data
unfolding data_message
data-kind bytes = refl

module _ (old new : StoreValue) (i : ℕ) where
  pub sends-chunk : (bytes : List ℕ) → Sends old new i (data_message bytes) 1 → OneMade old new i bytes
  sends-chunk bytes sent = record {
    is = sent.after;
    shows = record {
      one = sent.chain;
      kind = sym (kind-is (in_hand new i)) ∙ ap (λ (m : Message ℕ). m.kind) sent.shows ∙ data-kind bytes;
      is = sent.shows;
    };
    room_m = ap (λ v. free_m v + 1) (sym sent.after) ∙ sent.room_m;
    room_d = ap (λ v. free_d v + 1) (sym sent.after) ∙ sent.room_d;
  }
