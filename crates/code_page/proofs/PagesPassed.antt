-- A message with other bytes goes on in place of the one that came.
use Rattle.std.proofs.Common.{ℕ, ◌≤◌, List, [], ◌∷◌, ap, ◌∙◌, arith}
use Rattle.strm_types.specs.declared.rules.Fates.{Fates}
use Rattle.strm_types.specs.declared.spots.Spot.{Spot}
use Rattle.strm_types.specs.Deliver.{onward}
use Rattle.strm_types.specs.Message.{Message}
use Rattle.strm_types.specs.Owns.{Own}
use Rattle.strm_blocks.specs.Blocks.{StoreValue}
use Rattle.strm_msg.specs.Translated.{Translated, translated_message}
use Rattle.strm_frame.specs.declared.parcels.Outbox.{Outbox}
use Rattle.strm_frame.specs.Hands.{once}
use Rattle.strm_frame.specs.Outboxes.{message_in}
use Rattle.strm_frame.proofs.WidePools.{room-wide}
use Rattle.strm_pty.specs.Beside.{MayPass}
use Rattle.strm_laws.specs.Behaviours.{passes_all}
use Rattle.strm_own.specs.OwnPuts.{OwnPuts}

module _ (s t : StoreValue) (here : Spot) (i j : ℕ) (page : List ℕ) (done : Translated s t i j page) where
  pub may-on : MayPass s i here → MayPass t j here
  may-on may = record { held = done.here; chain = done.one; inside = may.inside; small = may.small }

  pub passes-on : (out : Outbox) (own : Own) (told : Fates) (most : ℕ) → s.mblks ≤ s.dblks
      → OwnPuts t t own j most out told told (passes_all here (message_in t j) own)
      → OwnPuts s t own i most out told told (passes_all here (translated_message page (message_in s i)) own)
  unfolding once
  passes-on out own told most wide puts =
      let was = room-wide s wide in
      let is = room-wide t (omega (arith, wide, done.mblks, done.dblks)) in
      record {
        state = puts.state;
        sent = puts.sent ∙ ap (λ (m : Message ℕ). onward here.way here m ∷ []) done.shown;
        told = puts.told;
        lists = done.lists;
        chains = puts.chains;
        hands = record {
          counts = λ k. let from = done.counts k in let to = puts.hands.counts k in omega arith;
          others = λ k gone kept some. done.others k gone some;
        };
        spends = record { mblks = omega (arith, done.free_m_same); dblks = omega (arith, was, is, done.free_m_same) };
        pool = record { mblks = done.mblks; dblks = done.dblks };
      }
