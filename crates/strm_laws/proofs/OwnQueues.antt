-- What a module of a user's own with queues owes the stream on which it stands: whatever its behaviour lets wait, no cell is lost or doubled and none
-- is made, what it sends is within the table of such modules, and what stands on its queues may be in an image (put(9E), srv(9E), putq(9F),
-- flushq(9F)).
use Rattle.strm_laws.proofs.Prelude.{ℕ, ◌≡◌, ◌+◌, Bool, true, false, cond, List, [], ◌∷◌, refl, sym, subst, ap, ◌∙◌, arith, ◌&&◌, Option, None, Some}
use Rattle.strm_laws.proofs.Prelude.{and_parts, false≢true, is_some, weight-put, weight-take}
use Rattle.strm_laws.specs.Prelude.{Dir, MsgKind, Band, Way, Up, Down, Spot, Within, At, emits_at, Cells, Acted, is_flush, asked_by, waits_there}
use Rattle.strm_laws.specs.Prelude.{Message, weight_of}
use Rattle.strm_laws.specs.Prelude.{shape_of, direction_at, of_data, put_on, left_with, Serving, QueuePair, pair_changed, stood, IsOrdered, Queue}
use Rattle.strm_laws.specs.Prelude.{weight, cost_of}
use Rattle.std.specs.List.{AllByRecursion}
use Rattle.strm_types.specs.Owns.{Own}
use Rattle.strm_types.specs.OwnStands.{may_wait, own_acts, own_holds, own_queued, own_served, pair_flushed, way_flushed, woken}
use Rattle.strm_types.specs.Service.{acts_alone}
use Rattle.strm_types.specs.Standings.{Standing, way_queue}
use Rattle.strm_types.specs.Tables.{own_does}
use Rattle.strm_laws.specs.Behaviours.{Behaviour, GoodOwn, MayTestOwn, goes_to_readers, own_by}
use Rattle.strm_laws.specs.GoodMessages.{AreGood, GoodMessage}
use Rattle.strm_laws.specs.Places.{weight_gone, weight_made, weight_sent}
use Rattle.strm_laws.specs.Restorable.{GoodPair, GoodQueue, StandsOn, goes_out}
use Rattle.strm_laws.specs.Stacked.{queues_weight}
use Rattle.strm_laws.proofs.DeliveryKeeps.{gone-append, made-append}
use Rattle.strm_laws.proofs.EmptiedKeeps.{behind-keeps}
use Rattle.strm_laws.proofs.GoodDeliveries.{all-join}
use Rattle.strm_laws.proofs.GoodQueues.{behind-good, put-good}
use Rattle.strm_laws.proofs.NoOwn.{passes-put}

module _ {C : Type 0} where
  -- a queue of a pair that is flushed, or isn't
  module _ (here : Spot) (band : Option Band) where
    flushed-weighs : (p : Dir → C → Bool) (takes : Bool) (way : Way) (pair : QueuePair C) → let t = way_flushed here band takes way pair in
        queues_weight p here.side (Some t.state) + weight_gone p t.gone ≡ queues_weight p here.side (Some pair)
    flushed-weighs p false way pair = omega arith
    flushed-weighs p true Up pair = omega (arith, behind-keeps (p (direction_at Up here.side)) (of_data band) pair.read)
    flushed-weighs p true Down pair = omega (arith, behind-keeps (p (direction_at Down here.side)) (of_data band) pair.write)

    flushed-makes : (p : Dir → C → Bool) (takes : Bool) (way : Way) (pair : QueuePair C)
        → weight_made p (way_flushed here band takes way pair).gone ≡ 0
    flushed-makes p false way pair = refl
    flushed-makes p true way pair = refl

    flushed-unread : (takes : Bool) (way : Way) (pair : QueuePair C)
        → AllByRecursion (λ f. goes_to_readers f ≡ false) (way_flushed here band takes way pair).gone
    flushed-unread false way pair = tt
    flushed-unread true way pair = (refl, tt)

    flushed-good : (takes : Bool) (way : Way) (pair : QueuePair C) → GoodPair (Some pair)
        → GoodPair (Some (way_flushed here band takes way pair).state)
    flushed-good false way pair good = good
    flushed-good true Up pair good = (behind-good waits_there (of_data band) pair.read good.0, good.1)
    flushed-good true Down pair good = (good.0, behind-good goes_out (of_data band) pair.write good.1)

  -- a queue of a pair on which a message is put, and one from which the first one is taken
  queued-weighs : (p : Dir → C → Bool) (here : Spot) (way : Way) (m : Message C) (pair : QueuePair C)
      → queues_weight p here.side (Some (pair_changed way (put_on m) pair))
      ≡ queues_weight p here.side (Some pair) + weight_of (p (direction_at way here.side)) m
  queued-weighs p here Up m pair = omega (arith, weight-put (p (direction_at Up here.side)) m pair.read.messages)
  queued-weighs p here Down m pair = omega (arith, weight-put (p (direction_at Down here.side)) m pair.write.messages)

  queued-good : (way : Way) (m : Message C) (pair : QueuePair C) → may_wait way m.kind ≡ true → GoodMessage m → GoodPair (Some pair)
      → GoodPair (Some (pair_changed way (put_on m) pair))
  queued-good Up m pair is fits good = (put-good waits_there m pair.read (record { good = fits; kind = is }) good.0, good.1)
  queued-good Down m pair is fits good = (good.0, put-good goes_out m pair.write (record { good = fits; kind = is }) good.1)

  taken-weighs : (p : Dir → C → Bool) (here : Spot) (way : Way) (m : Message C) (rest : List (Message C)) (pair : QueuePair C)
      → (way_queue way pair).messages ≡ m ∷ rest
      → queues_weight p here.side (Some (pair_changed way (left_with rest) pair)) + weight_of (p (direction_at way here.side)) m
      ≡ queues_weight p here.side (Some pair)
  taken-weighs p here Up m rest pair is =
      omega (arith, weight-take (p (direction_at Up here.side)) m rest, ap (λ ms. weight (p (direction_at Up here.side)) ms) is)
  taken-weighs p here Down m rest pair is =
      omega (arith, weight-take (p (direction_at Down here.side)) m rest, ap (λ ms. weight (p (direction_at Down here.side)) ms) is)

  first-good : (stands : MsgKind → Bool) (m : Message C) (rest : List (Message C)) (q : Queue C) → q.messages ≡ m ∷ rest → GoodQueue stands q
      → GoodMessage m × GoodQueue stands (left_with rest q)
  first-good stands m rest q is good =
      let all : AllByRecursion (λ m. StandsOn stands m) (m ∷ rest) = subst (λ ms. AllByRecursion (λ m. StandsOn stands m) ms) is good.messages in
      let order : IsOrdered (m ∷ rest) = subst (λ ms. IsOrdered ms) is good.order in
      (all.0.good, record { messages = all.1; order = order.1; marks = good.marks })

  taken-good : (way : Way) (m : Message C) (rest : List (Message C)) (pair : QueuePair C) → (way_queue way pair).messages ≡ m ∷ rest
      → GoodPair (Some pair) → GoodMessage m × GoodPair (Some (pair_changed way (left_with rest) pair))
  taken-good Up m rest pair is good = let t = first-good waits_there m rest pair.read is good.0 in (t.0, (t.1, good.1))
  taken-good Down m rest pair is good = let t = first-good goes_out m rest pair.write is good.1 in (t.0, (good.0, t.1))

module _ {C : Type 0} (K : Behaviour) (cells : Cells C) (here : Spot) (o : Own) where
  -- what it owes of a message that comes to it, or that was taken off a queue, with these queues
  pub record Owed (m : Message C) (pair : QueuePair C) (t : Acted C (Standing Own C)) : Type 0 where
    pub number : t.state.part.number ≡ o.number
    pub queues : is_some t.state.queues ≡ true
    pub once : (p : Dir → C → Bool) → MayTestOwn K cells p
        → queues_weight p here.side t.state.queues + (weight_sent p t.sent + weight_gone p t.gone)
        ≡ queues_weight p here.side (Some pair) + weight_of (p (direction_at here.way here.side)) m
    pub none_made : (p : Dir → C → Bool) → weight_made p t.gone ≡ 0
    pub unread : AllByRecursion (λ f. goes_to_readers f ≡ false) t.gone
    pub within : Within t.sent (emits_at here (own_does here.way (shape_of m)))
    pub good : GoodMessage m → GoodOwn o → GoodPair (Some pair) → GoodOwn t.state.part × GoodPair t.state.queues × AreGood GoodMessage t.sent

  acts-owed : (m : Message C) (pair : QueuePair C) → Owed m pair (acts_alone (K.puts cells here m) (stood o (Some pair)))
  acts-owed m pair =
      let own = K.put cells here m o in
      record {
        number = own.number;
        queues = refl;
        once = λ p tests. omega (arith, own.once p tests);
        none_made = own.none_made;
        unread = own.unread;
        within = own.within;
        good = λ fits good queues. (own.stays good, queues, own.sends fits);
      }

  queued-owed : (m : Message C) (pair : QueuePair C) → may_wait here.way m.kind ≡ true → Owed m pair (own_queued here.way m o pair)
  unfolding cost_of
  queued-owed m pair is = record {
    number = refl;
    queues = refl;
    once = λ p tests. omega (arith, queued-weighs p here here.way m pair);
    none_made = λ p. refl;
    unread = tt;
    within = λ cost. omega arith;
    good = λ fits good queues. (good, queued-good here.way m pair is fits queues, tt);
  }

  flush-owed : (m : Message C) (pair : QueuePair C) → Owed m pair (pair_flushed here m o pair)
  flush-owed m pair =
      let flush = asked_by m.plain in
      let above = way_flushed here flush.band flush.for_read Up pair in
      let below = way_flushed here flush.band flush.for_write Down above.state in
      let passes = passes-put cells here m o in
      record {
        number = refl;
        queues = refl;
        once = λ p tests. omega (
          arith,
          flushed-weighs here flush.band p flush.for_read Up pair,
          flushed-weighs here flush.band p flush.for_write Down above.state,
          gone-append p above.gone below.gone,
          passes.once p (λ changes. absurd (false≢true changes)),
        );
        none_made = λ p. omega (
          arith,
          flushed-makes here flush.band p flush.for_read Up pair,
          flushed-makes here flush.band p flush.for_write Down above.state,
          made-append p above.gone below.gone,
        );
        unread = all-join (λ f. goes_to_readers f ≡ false) above.gone below.gone
            (flushed-unread here flush.band flush.for_read Up pair) (flushed-unread here flush.band flush.for_write Down above.state);
        within = passes.within;
        good = λ fits good queues. (
          good,
          flushed-good here flush.band flush.for_write Down above.state (flushed-good here flush.band flush.for_read Up pair queues),
          (fits, tt),
        );
      }

  -- whatever it does with it, and also where that enables its queues
  pub own-owed : (m : Message C) (pair : QueuePair C)
      → Owed m pair (woken (own_by K cells) (stood o (Some pair)) (own_acts (own_by K cells) here m o pair))
  own-owed m pair = awake _ (at (is_flush m.kind) (own_holds (own_by K cells) here m o) refl)
    where
      at : (flush holds : Bool) → own_holds (own_by K cells) here m o ≡ holds
          → Owed m pair (cond flush (pair_flushed here m o pair)
          (cond holds (own_queued here.way m o pair) (acts_alone (K.puts cells here m) (stood o (Some pair)))))
      at true holds is = flush-owed m pair
      at false true is = queued-owed m pair (and_parts (may_wait here.way m.kind) _ is).0
      at false false is = acts-owed m pair

      awake : (t : Acted C (Standing Own C)) → Owed m pair t → Owed m pair (woken (own_by K cells) (stood o (Some pair)) t)
      awake t owed = record {
        number = owed.number;
        queues = owed.queues;
        once = owed.once;
        none_made = owed.none_made;
        unread = owed.unread;
        within = owed.within;
        good = owed.good;
      }

  -- what the table has of the first of these messages
  abbrev pub first_emits : List (Message C) → List At
  first_emits [] = []
  first_emits (m ∷ rest) = emits_at here (own_does here.way (shape_of m))

  -- and of a call of its service procedure, where these messages stand on the queue of its way
  pub record OwedCall (pair : QueuePair C) (ms : List (Message C)) (t : Serving C (Standing Own C)) : Type 0 where
    pub number : t.acted.state.part.number ≡ o.number
    pub queues : is_some t.acted.state.queues ≡ true
    pub once : (p : Dir → C → Bool) → MayTestOwn K cells p
        → queues_weight p here.side t.acted.state.queues + (weight_sent p t.acted.sent + weight_gone p t.acted.gone)
        ≡ queues_weight p here.side (Some pair)
    pub none_made : (p : Dir → C → Bool) → weight_made p t.acted.gone ≡ 0
    pub unread : AllByRecursion (λ f. goes_to_readers f ≡ false) t.acted.gone
    pub within : Within t.acted.sent (first_emits ms)
    pub good : GoodOwn o → GoodPair (Some pair) → GoodOwn t.acted.state.part × GoodPair t.acted.state.queues × AreGood GoodMessage t.acted.sent
    pub again : t.again ≡ false

  pub served-owed : (pair : QueuePair C) (ms : List (Message C)) → (way_queue here.way pair).messages ≡ ms
      → OwedCall pair ms (own_served (own_by K cells) here (stood o (Some pair)) pair ms)
  unfolding cost_of
  served-owed pair [] is = record {
    number = refl;
    queues = refl;
    once = λ p tests. omega arith;
    none_made = λ p. refl;
    unread = tt;
    within = λ cost. omega arith;
    good = λ good queues. (good, queues, tt);
    again = refl;
  }
  served-owed pair (m ∷ rest) is =
      let behind = pair_changed here.way (left_with rest) pair in
      let owed = acts-owed m behind in
      record {
        number = owed.number;
        queues = owed.queues;
        once = λ p tests. omega (arith, owed.once p tests, taken-weighs p here here.way m rest pair is);
        none_made = owed.none_made;
        unread = owed.unread;
        within = owed.within;
        good = λ good queues. (let first = taken-good here.way m rest pair is queues in owed.good first.0 good first.1);
        again = refl;
      }
