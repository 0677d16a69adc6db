-- Forgetting the origins of cells commutes with what is done to them.
use Rattle.strm_laws.proofs.Prelude.{ℕ, suc, ◌≡◌, List, [], ◌∷◌, length, map, refl, sym, ap, arith, if◌then◌else◌, ◌==◌, nat_le, Option, None, Some}
use Rattle.strm_laws.proofs.Prelude.{option_map, length-map, map-append, sum_by-cons}
use Rattle.strm_laws.specs.Prelude.{Message, part, rank_of, band_of, cells_of, size_of, data_message, map_message, Queue, Flow, put, put_back, put_on}
use Rattle.strm_laws.specs.Prelude.{put_enables, count_of, is_full, relieved, relieved_from, map_messages, map_queue, is_none_left}
use Rattle.strm_types.specs.Queue.{flow_of, relieves_from}
use Rattle.strm_types.proofs.Ranked.{put-map, put_back-map}

module _ {C D : Type 0} (f : C → D) where
  rank-forgets : (m : Message C) → rank_of (map_message f m) ≡ rank_of m
  unfolding rank_of map_message
  rank-forgets m = refl

  pub band-forgets : (m : Message C) → band_of (map_message f m) ≡ band_of m
  unfolding band_of map_message
  band-forgets m = refl

  pub kind-forgets : (m : Message C) → (map_message f m).kind ≡ m.kind
  unfolding map_message
  kind-forgets m = refl

  pub named_band-forgets : (m : Message C) → (map_message f m).band ≡ m.band
  unfolding map_message
  named_band-forgets m = refl

  part-forgets : (o : Option (List C)) → part (option_map (map f) o) ≡ map f (part o)
  part-forgets None = refl
  part-forgets (Some cells) = refl

  pub cells-forget : (m : Message C) → cells_of (map_message f m) ≡ map f (cells_of m)
  unfolding cells_of map_message
  cells-forget m = rw (part-forgets m.control, part-forgets m.body) (sym (map-append f (part m.control) (part m.body)))

  plain-forgets : (m : Message C) → length (map_message f m).plain ≡ length m.plain
  unfolding map_message
  plain-forgets m = refl

  pub size-forgets : (m : Message C) → size_of (map_message f m) ≡ size_of m
  unfolding size_of
  size-forgets m = omega (arith, ap length (cells-forget m), length-map (cells_of m) f, plain-forgets m)

  pub data-forgets : (cells : List C) → map_message f (data_message cells) ≡ data_message (map f cells)
  unfolding map_message data_message
  data-forgets cells = refl

  pub put-forgets : (m : Message C) (q : List (Message C)) → map_messages f (put m q) ≡ put (map_message f m) (map_messages f q)
  put-forgets m q = put-map (map_message f) rank_of rank_of rank-forgets m q

  pub put_back-forgets : (m : Message C) (q : List (Message C)) → map_messages f (put_back m q) ≡ put_back (map_message f m) (map_messages f q)
  put_back-forgets m q = put_back-map (map_message f) rank_of rank_of rank-forgets m q

  pub count-forgets : (band : ℕ) (q : List (Message C)) → count_of band (map_messages f q) ≡ count_of band q
  count-forgets band [] = refl
  count-forgets band (m ∷ q) =
      let here : (if band_of (map_message f m) == band then size_of (map_message f m) else 0) ≡ (if band_of m == band then size_of m else 0) = rw (band-forgets m, size-forgets m) refl in
      omega (arith, here, count-forgets band q, sum_by-cons (λ x. if band_of x == band then size_of x else 0) (map_message f m) (map_messages f q), sum_by-cons (λ x. if band_of x == band then size_of x else 0) m q)

  pub full-forgets : (band : ℕ) (q : Queue C) → is_full band (map_queue f q) ≡ is_full band q
  full-forgets band q = ap (λ n. nat_le (flow_of band q).high n) (count-forgets band q.messages)

  pub none-forgets : {A B : Type 0} (g : A → B) (xs : List A) → is_none_left (map g xs) ≡ is_none_left xs
  none-forgets g [] = refl
  none-forgets g (x ∷ xs) = refl

  relieved_from-forgets : (band : ℕ) (messages : List (Message C)) (flows : List Flow) → relieved_from band (map_messages f messages) flows ≡ relieved_from band messages flows
  relieved_from-forgets band messages [] = refl
  relieved_from-forgets band messages (flow ∷ flows) =
      rw (count-forgets band messages, relieved_from-forgets (suc band) messages flows) refl

  pub relieves_from-forgets : (band : ℕ) (messages : List (Message C)) (flows : List Flow) → relieves_from band (map_messages f messages) flows ≡ relieves_from band messages flows
  relieves_from-forgets band messages [] = refl
  relieves_from-forgets band messages (flow ∷ flows) =
      rw (count-forgets band messages, relieves_from-forgets (suc band) messages flows) refl

  pub relieved-forgets : (q : Queue C) → map_queue f (relieved q) ≡ relieved (map_queue f q)
  relieved-forgets q =
      ap (λ (flows : List Flow). record { messages = map_messages f q.messages; flows = flows; want_read = q.want_read; no_enable = q.no_enable }) (sym (relieved_from-forgets 0 q.messages q.flows))

  -- what a write sends, of other cells
  pub put_on-forgets : (m : Message C) (q : Queue C) → put_on (map_message f m) (map_queue f q) ≡ map_queue f (put_on m q)
  put_on-forgets m q = ap (λ ms. record { messages = ms; flows = q.flows; want_read = q.want_read; no_enable = q.no_enable }) (sym (put-forgets m q.messages))

  pub put_enables-forgets : (m : Message C) (q : Queue C) → put_enables (map_message f m) (map_queue f q) ≡ put_enables m q
  unfolding map_message band_of
  put_enables-forgets m q = refl
