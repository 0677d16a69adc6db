-- Forgetting the origins of cells commutes with what a module of a user's own with queues does: what it lets wait and lets go it decides by the
-- bytes.
use Rattle.strm_laws.proofs.Prelude.{ℕ, ◌≡◌, Bool, true, false, cond, List, [], ◌∷◌, ◌++◌, map, refl, ap, ◌∙◌, ◌&&◌, map-append, Option, None, Some}
use Rattle.strm_laws.proofs.Prelude.{option_map}
use Rattle.std.proofs.lemmas.List.{map-id}
use Rattle.strm_laws.specs.Prelude.{Band, MsgKind, Way, Up, Down, Note, Enable, Spot, AreCells, Cells, plain, Acted, Fate, onward, of_data, is_flush}
use Rattle.strm_laws.specs.Prelude.{asked_by, Message, is_high_priority, map_message, map_messages, map_acted, map_fate, map_parcel, left_with}
use Rattle.strm_laws.specs.Prelude.{Serving}
use Rattle.strm_laws.specs.Prelude.{QueuePair, map_pair, messages_at, pair_changed, put_on, put_enables, size_of, stood, Asks, done_by}
use Rattle.strm_types.specs.declared.spots.Asks.TheVariants as asked
use Rattle.strm_types.specs.Owns.{Own}
use Rattle.strm_types.specs.OwnStands.{goes_anew, may_wait, own_acts, own_asked, own_asks, own_holds, own_puts, own_queued, own_served, own_serves}
use Rattle.strm_types.specs.OwnStands.{pair_flushed, way_flushed, woken, woken_on}
use Rattle.strm_types.specs.Service.{acts_alone}
use Rattle.strm_types.specs.Standings.{Standing, map_standing, way_queue}
use Rattle.strm_laws.specs.Behaviours.{Behaviour, own_by}
use Rattle.strm_laws.specs.LdtermOrigins.{map_serving}
use Rattle.strm_laws.proofs.EmptiedForgets.{gone-forgets, queue_behind-forgets, writer_goes-forgets}
use Rattle.strm_laws.proofs.Forgetting.{kind-forgets, put_enables-forgets, put_on-forgets, size-forgets}

-- plain bytes have no origin to forget
part-plain : (o : Option (List ℕ)) → option_map (map plain.byte) o ≡ o
part-plain None = refl
part-plain (Some xs) = ap Some (map-id xs)

pub message-plain : (m : Message ℕ) → map_message plain.byte m ≡ m
unfolding map_message
message-plain m =
    ap (λ (o : Option (List ℕ)). record { kind = m.kind; band = m.band; control = o; body = option_map (map plain.byte) m.body; plain = m.plain })
    (part-plain m.control)
    ∙ ap (λ (o : Option (List ℕ)). record { kind = m.kind; band = m.band; control = m.control; body = o; plain = m.plain }) (part-plain m.body)

pub messages-plain : (ms : List (Message ℕ)) → map_messages plain.byte ms ≡ ms
messages-plain [] = refl
messages-plain (m ∷ ms) = ap (λ n. n ∷ map_messages plain.byte ms) (message-plain m) ∙ ap (λ ns. m ∷ ns) (messages-plain ms)

-- the queues of a pair with the origins of their cells forgotten
module _ {C D : Type 0} (f : C → D) where
  -- the same module of other cells
  abbrev pub image : Standing Own C → Standing Own D
  image x = map_standing (λ (o : Own). o) f x

  abbrev pub acted : Acted C (Standing Own C) → Acted D (Standing Own D)
  acted t = map_acted f image t

  way-messages : (way : Way) (pair : QueuePair C) → (way_queue way (map_pair f pair)).messages ≡ map_messages f (way_queue way pair).messages
  way-messages Up pair = refl
  way-messages Down pair = refl

  flushed-same : (here : Spot) (band : Option Band) (takes : Bool) (way : Way) (pair : QueuePair C)
      → way_flushed here band takes way (map_pair f pair) ≡ map_acted f (map_pair f) (way_flushed here band takes way pair)
  flushed-same here band false way pair = refl
  flushed-same here band true Up pair =
      let q = pair.read in
      rw (writer_goes-forgets f (of_data band) q, gone-forgets f (of_data band) q.messages, queue_behind-forgets f (of_data band) q) refl
  flushed-same here band true Down pair =
      let q = pair.write in
      rw (writer_goes-forgets f (of_data band) q, gone-forgets f (of_data band) q.messages, queue_behind-forgets f (of_data band) q) refl

  -- both queues flushed, with what goes on
  abbrev joined : {E : Type 0} → Spot → Message E → Own → Acted E (QueuePair E) → Acted E (QueuePair E) → Acted E (Standing Own E)
  joined here m o above below = record {
    state = stood o (Some below.state);
    notes = above.notes ++ below.notes;
    sent = onward here.way here m ∷ [];
    gone = above.gone ++ below.gone;
  }

  bytes-same : (m : Message C) → (map_message f m).plain ≡ m.plain
  unfolding map_message
  bytes-same m = refl

  pair-same : (here : Spot) (m : Message C) (o : Own) (pair : QueuePair C)
      → pair_flushed here (map_message f m) o (map_pair f pair) ≡ acted (pair_flushed here m o pair)
  pair-same here m o pair =
      let flush = asked_by m.plain in
      let above = way_flushed here flush.band flush.for_read Up pair in
      let below = way_flushed here flush.band flush.for_write Down above.state in
      ap (λ (bytes : List ℕ). let other = asked_by bytes in
      let first = way_flushed here other.band other.for_read Up (map_pair f pair) in
      joined here (map_message f m) o first (way_flushed here other.band other.for_write Down first.state)) (bytes-same m)
      ∙ (ap (λ (first : Acted D (QueuePair D)). joined here (map_message f m) o first (way_flushed here flush.band flush.for_write Down first.state))
      (flushed-same here flush.band flush.for_read Up pair)
      ∙ (ap (λ (second : Acted D (QueuePair D)). joined here (map_message f m) o (map_acted f (map_pair f) above) second)
      (flushed-same here flush.band flush.for_write Down above.state)
      ∙ gone-joined above below))
    where
      gone-joined : (above below : Acted C (QueuePair C))
          → joined here (map_message f m) o (map_acted f (map_pair f) above) (map_acted f (map_pair f) below) ≡ acted (joined here m o above below)
      gone-joined above below =
          rw (← map-append (map_fate f) above.gone below.gone) refl

  queued-same : (way : Way) (m : Message C) (o : Own) (pair : QueuePair C)
      → own_queued way (map_message f m) o (map_pair f pair) ≡ acted (own_queued way m o pair)
  queued-same Up m o pair = rw (put_enables-forgets f m pair.read, put_on-forgets f m pair.read) refl
  queued-same Down m o pair = rw (put_enables-forgets f m pair.write, put_on-forgets f m pair.write) refl

  left-same : (way : Way) (rest : List (Message C)) (pair : QueuePair C)
      → pair_changed way (left_with (map_messages f rest)) (map_pair f pair) ≡ map_pair f (pair_changed way (left_with rest) pair)
  left-same Up rest pair = refl
  left-same Down rest pair = refl

module _ {C : Type 0} (K : Behaviour) (cells : Cells C) where
  abbrev f : C → ℕ
  f = cells.byte

  holds-same : (here : Spot) (m : Message C) (o : Own) → own_holds (own_by K plain) here (map_message f m) o ≡ own_holds (own_by K cells) here m o
  holds-same here m o =
      ap (λ n. may_wait here.way (map_message f m).kind && K.holds here n o) (message-plain (map_message f m))
      ∙ ap (λ kind. may_wait here.way kind && K.holds here (map_message f m) o) (kind-forgets f m)

  asked-same : (way : Way) (o : Own) (ms : List (Message C))
      → own_asked (own_by K plain) way o (map_messages f ms) ≡ own_asked (own_by K cells) way o ms
  unfolding map_message
  asked-same way o [] = refl
  asked-same way o (m ∷ rest) =
      ap (λ ns. cond (is_high_priority m.kind) asked.Free (cond (K.goes way ns o) (asked.Room (record { 0 = m.band })) asked.Held))
      (messages-plain (map_messages f (m ∷ rest)))

  pub asks-same : (way : Way) (x : Standing Own C) → own_asks (own_by K plain) way (image f x) ≡ own_asks (own_by K cells) way x
  asks-same way x = at way x.queues
    where
      at : (way : Way) (queues : Option (QueuePair C))
          → own_asks (own_by K plain) way (image f (stood x.part queues)) ≡ own_asks (own_by K cells) way (stood x.part queues)
      at way None = refl
      at Up (Some pair) = asked-same Up x.part pair.read.messages
      at Down (Some pair) = asked-same Down x.part pair.write.messages

  on-same : (way : Way) (x y : Standing Own C) → woken_on (own_by K plain) way (image f x) (image f y) ≡ woken_on (own_by K cells) way x y
  on-same way x y =
      ap (λ a. cond {A = List Note} (goes_anew a (own_asks (own_by K plain) way (image f y))) (Enable way ∷ []) []) (asks-same way x)
      ∙ ap (λ a. cond {A = List Note} (goes_anew (own_asks (own_by K cells) way x) a) (Enable way ∷ []) []) (asks-same way y)

  woken-same : (x : Standing Own C) (t : Acted C (Standing Own C)) (t' : Acted ℕ (Standing Own ℕ)) → t' ≡ acted f t
      → woken (own_by K plain) (image f x) t' ≡ acted f (woken (own_by K cells) x t)
  woken-same x t t' same =
      ap (woken (own_by K plain) (image f x)) same
      ∙ (ap (λ (ns : List Note). noted (t.notes ++ (ns ++ woken_on (own_by K plain) Down (image f x) (image f t.state)))) (on-same Up x t.state)
      ∙ ap (λ (ns : List Note). noted (t.notes ++ (woken_on (own_by K cells) Up x t.state ++ ns))) (on-same Down x t.state))
    where
      noted : List Note → Acted ℕ (Standing Own ℕ)
      noted ns = record { state = image f t.state; notes = ns; sent = map (map_parcel f) t.sent; gone = map (map_fate f) t.gone }

  module _ (are : AreCells cells) where
    alone-same : (here : Spot) (m : Message C) (o : Own) (queues : Option (QueuePair C))
        → acts_alone (K.puts plain here (map_message f m)) (stood o (option_map (map_pair f) queues))
        ≡ acted f (acts_alone (K.puts cells here m) (stood o queues))
    alone-same here m o queues = ap (done_by (λ (p : Own). stood p (option_map (map_pair f) queues))) (K.forgets cells are here m o)

    acts-same : (here : Spot) (m : Message C) (o : Own) (pair : QueuePair C)
        → own_acts (own_by K plain) here (map_message f m) o (map_pair f pair) ≡ acted f (own_acts (own_by K cells) here m o pair)
    acts-same here m o pair =
        ap (λ b. chosen b (own_holds (own_by K plain) here (map_message f m) o)) (ap is_flush (kind-forgets f m))
        ∙ (ap (λ b. chosen (is_flush m.kind) b) (holds-same here m o) ∙ at (is_flush m.kind) (own_holds (own_by K cells) here m o))
      where
        chosen : Bool → Bool → Acted ℕ (Standing Own ℕ)
        chosen flush holds =
            cond flush (pair_flushed here (map_message f m) o (map_pair f pair))
            (cond holds (own_queued here.way (map_message f m) o (map_pair f pair))
            (acts_alone (K.puts plain here (map_message f m)) (stood o (Some (map_pair f pair)))))

        at : (flush holds : Bool) → chosen flush holds
            ≡ acted f (cond flush (pair_flushed here m o pair)
            (cond holds (own_queued here.way m o pair) (acts_alone (K.puts cells here m) (stood o (Some pair)))))
        at true holds = pair-same f here m o pair
        at false true = queued-same f here.way m o pair
        at false false = alone-same here m o (Some pair)

    pub own-puts-forget : (here : Spot) (m : Message C) (x : Standing Own C)
        → own_puts (own_by K plain) here (map_message f m) (image f x) ≡ acted f (own_puts (own_by K cells) here m x)
    own-puts-forget here m x = at x.queues
      where
        at : (queues : Option (QueuePair C)) → own_puts (own_by K plain) here (map_message f m) (image f (stood x.part queues))
            ≡ acted f (own_puts (own_by K cells) here m (stood x.part queues))
        at None = alone-same here m x.part None
        at (Some pair) = woken-same (stood x.part (Some pair)) (own_acts (own_by K cells) here m x.part pair) _ (acts-same here m x.part pair)

    served-same : (here : Spot) (o : Own) (pair : QueuePair C) (ms : List (Message C))
        → own_served (own_by K plain) here (image f (stood o (Some pair))) (map_pair f pair) (map_messages f ms)
        ≡ map_serving f (image f) (own_served (own_by K cells) here (stood o (Some pair)) pair ms)
    served-same here o pair [] = refl
    served-same here o pair (m ∷ rest) =
        let x = stood o (Some pair) in
        let behind = pair_changed here.way (left_with rest) pair in
        let t = acts_alone (K.puts cells here m) (stood o (Some behind)) in
        ap (λ (q : QueuePair ℕ). let u = acts_alone (K.puts plain here (map_message f m)) (stood o (Some q)) in
        serving (woken (own_by K plain) (image f x) u) (size_of (map_message f m))) (left-same f here.way rest pair)
        ∙ (ap (λ (u : Acted ℕ (Standing Own ℕ)). serving u (size_of (map_message f m))) (woken-same x t _ (alone-same here m o (Some behind)))
        ∙ ap (λ n. serving (acted f (woken (own_by K cells) x t)) n) (size-forgets f m))
      where
        serving : Acted ℕ (Standing Own ℕ) → ℕ → Serving ℕ (Standing Own ℕ)
        serving u n = record { acted = u; bytes = n; again = false }

    pub own-serves-forget : (here : Spot) (x : Standing Own C)
        → own_serves (own_by K plain) here (image f x) ≡ map_serving f (image f) (own_serves (own_by K cells) here x)
    own-serves-forget here x = at x.queues
      where
        at : (queues : Option (QueuePair C)) → own_serves (own_by K plain) here (image f (stood x.part queues))
            ≡ map_serving f (image f) (own_serves (own_by K cells) here (stood x.part queues))
        at None = refl
        at (Some pair) =
            ap (own_served (own_by K plain) here (image f (stood x.part (Some pair))) (map_pair f pair)) (way-messages f here.way pair)
            ∙ served-same here x.part pair (way_queue here.way pair).messages
