-- A message in hand is answered in its place: it was freed, and another one of one block was made, which goes up.
use Rattle.strm_own.proofs.Prelude.{ℕ, ◌≡◌, ◌≤◌, ◌+◌, List, [], ◌∷◌, length, refl, sym, ap, subst, arith, free_m-is}
use Rattle.strm_types.specs.declared.kinds.MsgKind.{MsgKind}
use Rattle.strm_types.specs.declared.names.Way.TheVariants.{Up}
use Rattle.strm_types.specs.declared.rules.Fates.{Fates}
use Rattle.strm_types.specs.declared.spots.Spot.{Spot}
use Rattle.strm_types.specs.Deliver.{Parcel, onward, toward}
use Rattle.strm_types.specs.Owns.{Own}
use Rattle.strm_types.specs.Typing.{bare}
use Rattle.strm_blocks.specs.Blocks.{IsInHand, IsStore, StoreValue, dropped, free_m, token}
use Rattle.strm_blocks.proofs.Laws.{chain-some, total-dropped, used-is}
use Rattle.strm_frame.specs.declared.parcels.Outbox.{Outbox}
use Rattle.strm_frame.specs.declared.parcels.Sent.{Sent}
use Rattle.strm_frame.specs.Hands.{HasRoom}
use Rattle.strm_frame.specs.Outboxes.{sent_of}
use Rattle.strm_frame.proofs.WidePools.{room-wide, wide-room}
use Rattle.strm_pty.specs.Does.{MadeOne, Swaps}
use Rattle.strm_pty.proofs.Doing.{freed-then, makes-one}
use Rattle.strm_own.specs.OwnPuts.{OwnPuts}

module _ (s t u : StoreValue) (i : ℕ) (st : IsStore s) (is : IsInHand s i) (after : t ≡ dropped s i) (wide : s.mblks ≤ s.dblks) where
  more-free : free_m s + 1 ≤ free_m t
  more-free =
      let gone = total-dropped length s i is in
      let same = ap free_m after in
      omega (arith, same, free_m-is (dropped s i), free_m-is s, used-is (dropped s i), used-is s, st.enough, chain-some s i st is, gone)

  pub reply-room : HasRoom t 1
  reply-room = wide-room t (subst (λ v. v.mblks ≤ v.dblks) (sym after) wide) 1 (omega (arith, more-free))

  pub replied : (x : Sent) (out : Outbox) (kind : MsgKind) (bytes : List ℕ) (here : Spot) → MadeOne t u (token x.message) kind bytes
      → sent_of out ≡ x ∷ [] → x.to ≡ toward Up here → (own : Own) (told : Fates) (most : ℕ)
      → OwnPuts s u own i most out told told (record { state = own; notes = []; sent = onward Up here (bare kind bytes) ∷ []; gone = [] })
  replied x out kind bytes here made one goes own told most =
      let at : Spot → Parcel ℕ = λ to. record { to = to; message = bare kind bytes } in
      let place : ◌≡◌ {A = Parcel ℕ} (at x.to) (onward Up here (bare kind bytes)) = ap at goes in
      let swaps : Swaps s u i 1 (sent_of out) (onward Up here (bare kind bytes) ∷ []) =
      freed-then s t u i 1 (sent_of out) (onward Up here (bare kind bytes) ∷ []) st is after (makes-one t u x kind bytes (sent_of out) (onward Up here (bare kind bytes)) made one place) in
      let pool = swaps.hands.pool in
      let was = room-wide s wide in
      let stays = room-wide u (omega (arith, wide, pool.mblks, pool.dblks)) in
      record {
        state = refl;
        sent = swaps.sent;
        told = refl;
        lists = swaps.lists;
        chains = swaps.chains;
        hands = record {
          counts = λ j. let n = swaps.hands.counts j in omega arith;
          others = λ j gone kept some. swaps.hands.others j gone some;
        };
        spends = record {
          mblks = omega (arith, more-free, made.room_m);
          dblks = omega (arith, more-free, made.room_m, was, stays);
        };
        pool = pool;
      }
