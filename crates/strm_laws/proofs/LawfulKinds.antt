-- Each kind of module is lawful: the one place that names them all.
use Rattle.strm_laws.proofs.Prelude.{ℕ, ◌≡◌, ◌≤◌, true, List, [], ◌∷◌, refl, sym, ap, ◌∙◌, arith, Bool, is_some, false, cond, None, Option, Some}
use Rattle.strm_laws.proofs.Prelude.{count_by, option_map}
use Rattle.strm_laws.proofs.Prelude.{idle-stays, puts-stay, puts-each, pckt-within, puts-gone, ptem-within, false≢true}
use Rattle.strm_laws.specs.Prelude.{Dir, ModuleName, Side, Way, Up, Down, Spot, ldterm_asks, Cells, plain, made_of, kind_number, ldterm_puts}
use Rattle.strm_laws.specs.Prelude.{ldterm_serves}
use Rattle.strm_laws.specs.Prelude.{disciplined, map_message, Message, direction_at, other, Pckt, plain_packed, Ptem, ptem_puts, done_by, served_by}
use Rattle.strm_laws.specs.Prelude.{map_pair, QueuePair, stood, have_queues, new_pair, Begins, bytes_left, first_size}
use Rattle.strm_types.specs.declared.names.ModuleName.TheVariants as names
use Rattle.strm_types.specs.Owns.{Own}
use Rattle.strm_types.specs.OwnStands.{own_puts, own_served, own_serves}
use Rattle.strm_types.specs.Standings.{way_queue}
use Rattle.strm_laws.specs.Behaviours.{Behaviour, fresh_own, own_by}
use Rattle.strm_laws.specs.LdtermWeights.{weight_begun, weight_in_work}
use Rattle.strm_laws.specs.Places.{weight_gone, weight_made}
use Rattle.strm_laws.specs.Pushes.{is_known, module_named, named_by}
use Rattle.strm_laws.specs.Restorable.{GoodPair}
use Rattle.strm_laws.specs.Stacked.{kind_line, kind_weight, KindRests, ldterm_stands, map_module, Module, module_asks, module_weight, of_kind}
use Rattle.strm_laws.specs.Stacked.{OfLdterm, OfOwn, OfPckt, OfPtem, Standing}
use Rattle.strm_laws.specs.TurnCalls.{discipline_of}
use Rattle.strm_types.proofs.LdtermWithin.{ldterm-within}
use Rattle.strm_laws.proofs.GoodLdtermTurns.{serves-good}
use Rattle.strm_laws.proofs.GoodLdterms.{good-stands, good-with, ldterm-good}
use Rattle.strm_laws.proofs.GoodPtems.{pckt-good, ptem-good}
use Rattle.strm_laws.proofs.GoodQueues.{new-good}
use Rattle.strm_laws.proofs.Lawful.{IsLawful, IsNew, IsPlain, IsPlainCall, IsPlainPut, IsReadyAt, LawfulCall, LawfulImage, LawfulPut}
use Rattle.strm_laws.proofs.LdtermKeeps.{ldterm-none, puts-hold}
use Rattle.strm_laws.proofs.LdtermPutForgets.{puts-forget}
use Rattle.strm_laws.proofs.LdtermServes.{goes-at, keeps-at, puts-ready, rests-at, serves-forget}
use Rattle.strm_laws.proofs.LdtermStops.{serves-alike, serves-ends, serves-goes, serves-made}
use Rattle.strm_laws.proofs.OwnForgets.{asks-same, own-puts-forget, own-serves-forget}
use Rattle.strm_laws.proofs.OwnQueues.{own-owed, served-owed}
use Rattle.strm_laws.proofs.PcktKeeps.{puts-forget as pckt-forgets, puts-keep as pckt-keeps, puts-make, puts-same}
use Rattle.strm_laws.proofs.PtemPuts.{puts-forget as ptem-forgets, puts-sent}
use Rattle.strm_laws.proofs.StandingLdterms.{asks-same as ldterm-asks, at-forgets, numbered-forgets, rests-same, weigh, weigh-stands}
use Rattle.strm_laws.proofs.TurnOrder.{all_made, made-all, order-next, order-none, serves-order, TurnOrder}

module _ {C : Type 0} where
  image : {D : Type 0} (f : C → D) (part : Module C) (queues : Option (QueuePair C)) → LawfulImage (stood part queues) f
  image f (OfLdterm l) queues = record {
    name = refl;
    line = refl;
    lineless = refl;
    rests = rests-same f l;
  }
  image f part queues = record { name = refl; line = refl; lineless = refl; rests = refl }

  asks : (K : Behaviour) (cells : Cells C) (way : Way) (part : Module C) (queues : Option (QueuePair C))
      → module_asks K plain way (map_module cells.byte (stood part queues)) ≡ module_asks K cells way (stood part queues)
  asks K cells way (OfLdterm l) queues = ap (λ d. ldterm_asks way d) (at-forgets cells.byte l queues) ∙ ldterm-asks cells.byte way (disciplined l queues)
  asks K cells way (OfOwn o) queues = asks-same K cells way (stood o queues)
  asks K cells way part queues = refl

  weighs : (p : Dir → C → Bool) (side : Side) (part : Module C) → KindRests part
      → kind_weight p side part ≡ count_by (p (direction_at Up side)) (kind_line part)
  weighs p side (OfLdterm l) idle = omega (
    arith,
    ap (λ x. weight_begun p side x) idle.3,
    ap (λ x. weight_in_work (p (direction_at Up side)) x) idle.0,
    ap (λ xs. count_by (p (direction_at Up side)) xs) idle.1,
  )
  weighs p side part idle = refl

  ready : (way : Way) (left : ℕ) (part : Module C) (queues : Option (QueuePair C)) → KindRests part → IsReadyAt false way left (stood part queues)
  ready way left (OfLdterm l) queues rests = rests
  ready way left part queues rests = tt

  module _ (K : Behaviour) (cells : Cells C) where
    put : (part : Module C) (queues : Option (QueuePair C)) (made : ℕ) (here : Spot) (m : Message C)
        → LawfulPut (stood part queues) K cells made here m
    put (OfLdterm l) queues made here m =
        let d = disciplined l queues in
        let t = ldterm_puts here m d in
        record {
          name = refl;
          rests = λ rests. idle-stays d t.state (puts-stay here m d) rests;
          ready = λ again way left ready. puts-ready again way left here m d ready;
          once = λ p tests. omega (arith, puts-hold p here m d, ldterm-none p here m d, weigh p here.side l queues, weigh-stands p here.side t.state);
          order = order-none cells (other here.side) made _ (ldterm-none (λ dir c. true) here m d);
          within = ldterm-within here m d;
          makes = λ small. omega (arith, made-all t.gone, ldterm-none (λ dir c. true) here m d);
          forgets = λ are. ap (λ x. done_by ldterm_stands (ldterm_puts here (map_message cells.byte m) x)) (at-forgets cells.byte l queues)
              ∙ ap (done_by ldterm_stands) (puts-forget cells.byte here m d);
          good = λ fits good. (
              let put = ldterm-good here m fits d (good-with l queues good.kind good.queues) in
              record { state = good-stands t.state put.state; sent = put.sent }
              );
        }
    put (OfPtem q) queues made here m =
        let none : (ptem_puts here m q).gone ≡ [] = puts-gone here m q in
        record {
          name = refl;
          rests = λ rests. tt;
          ready = λ again way left ready. tt;
          once = λ p tests. omega (arith, puts-sent p here m q, ap (λ gone. weight_gone p gone) none, ap (λ gone. weight_made p gone) none);
          order = order-none cells (other here.side) made _ (ap all_made none);
          within = ptem-within here m q;
          makes = λ small. omega (arith, ap made_of none);
          forgets = λ are. ap (done_by (λ (p : Ptem). stood (OfPtem p) (option_map (map_pair cells.byte) queues))) (ptem-forgets cells.byte here m q);
          good = λ fits good. (
              let t = ptem-good here m q fits good.kind in
              record { state = record { kind = t.state; queues = good.queues; has = good.has }; sent = t.sent }
              );
        }
    put (OfPckt q) queues made here m = record {
      name = refl;
      rests = λ rests. tt;
      ready = λ again way left ready. tt;
      once = λ p tests. omega (arith, pckt-keeps p cells made here m);
      order = puts-each cells made here m (λ t. TurnOrder cells (other here.side) made t.gone) (order-none cells (other here.side) made [] refl)
          (λ up is. order-next cells (other here.side) made (kind_number m.kind ∷ plain_packed m) [] refl);
      within = pckt-within cells made here m;
      makes = λ small. puts-make cells made here m small;
      forgets = λ are. ap (done_by (λ (p : Pckt). stood (OfPckt p) (option_map (map_pair cells.byte) queues))) (pckt-forgets cells are made here m);
      good = λ fits good. record { state = record { kind = tt; queues = good.queues; has = good.has }; sent = pckt-good cells made here m fits };
    }
    put (OfOwn o) None made here m =
        let t = K.puts cells here m o in
        let own = K.put cells here m o in
        let none = own.none_made (λ dir c. true) in
        record {
          name = ap (λ n. names.Own n) own.number;
          rests = λ rests. tt;
          ready = λ again way left ready. tt;
          once = λ p tests. omega (arith, own.once p tests, own.none_made p);
          order = order-none cells (other here.side) made t.gone none;
          within = own.within;
          makes = λ small. omega (arith, made-all t.gone, none);
          forgets = λ are. ap (done_by (of_kind OfOwn)) (own-puts-forget K cells are here m (stood o None));
          good = λ fits good. record {
            state = record { kind = own.stays good.kind; queues = tt; has = good.has ∙ ap (λ n. have_queues (names.Own n)) (sym own.number) };
            sent = own.sends fits;
          };
        }
    put (OfOwn o) (Some pair) made here m =
        let t = own_puts (own_by K cells) here m (stood o (Some pair)) in
        let owed = own-owed K cells here o m pair in
        let none = owed.none_made (λ dir c. true) in
        record {
          name = ap (λ n. names.Own n) owed.number;
          rests = λ rests. tt;
          ready = λ again way left ready. tt;
          once = λ p tests. omega (arith, owed.once p tests, owed.none_made p);
          order = order-none cells (other here.side) made t.gone none;
          within = owed.within;
          makes = λ small. omega (arith, made-all t.gone, none);
          forgets = λ are. ap (done_by (of_kind OfOwn)) (own-puts-forget K cells are here m (stood o (Some pair)));
          good = λ fits good. (
              let all = owed.good fits good.kind good.queues in
              record {
                state = record { kind = all.0; queues = all.1; has = owed.queues ∙ good.has ∙ ap (λ n. have_queues (names.Own n)) (sym owed.number) };
                sent = all.2;
              }
              );
        }

    -- a call of its service procedure: one without queues does nothing
    call : (part : Module C) (queues : Option (QueuePair C)) (here : Spot) (made : ℕ) (again : Bool)
        → LawfulCall (stood part queues) K cells here made again
    call (OfLdterm l) queues here made again = let d = disciplined l queues in record {
      name = λ stop. refl;
      goes = λ left ready works. goes-at cells here.way here again made left d ready works;
      ends = λ left ready over. rests-at cells here.way here again made left d ready over;
      once = λ p ignores left ready. omega (
        arith,
        keeps-at cells p ignores here again made left d ready,
        weigh p here.side l queues,
        weigh-stands p here.side (ldterm_serves cells here made again (Some left) d).acted.state,
      );
      order = λ stop. serves-order cells here made again stop d;
      forgets = λ are left. ap (λ x. served_by ldterm_stands (ldterm_serves plain here made again (Some left) x)) (at-forgets cells.byte l queues)
          ∙ ap (served_by ldterm_stands) (serves-forget cells are here made again (Some left) d);
      good = λ stop good. (
          let t = serves-good cells here made again stop d (good-with l queues good.kind good.queues) in
          record { state = good-stands (ldterm_serves cells here made again stop d).acted.state t.state; sent = t.sent }
          );
    }
    call (OfOwn o) (Some pair) here made again =
        let t = own_serves (own_by K cells) here (stood o (Some pair)) in
        let owed = served-owed K cells here o pair (way_queue here.way pair).messages refl in
        let none = owed.none_made (λ dir c. true) in
        record {
          name = λ stop. ap (λ n. names.Own n) owed.number;
          goes = λ left ready works. tt;
          ends = λ left ready over. tt;
          once = λ p ignores left ready. omega (arith, owed.once p (λ changes. ignores), owed.none_made p);
          order = λ stop. order-none cells here.side made t.acted.gone none;
          forgets = λ are left. ap (served_by (of_kind OfOwn)) (own-serves-forget K cells are here (stood o (Some pair)));
          good = λ stop good. (
              let all = owed.good good.kind good.queues in
              record {
                state = record { kind = all.0; queues = all.1; has = owed.queues ∙ good.has ∙ ap (λ n. have_queues (names.Own n)) (sym owed.number) };
                sent = all.2;
              }
              );
        }
    call part queues here made again = record {
      name = λ stop. refl;
      goes = λ left ready works. tt;
      ends = λ left ready over. tt;
      once = λ p ignores left ready. omega arith;
      order = λ stop. order-none cells here.side made [] refl;
      forgets = λ are left. refl;
      good = λ stop good. record { state = good; sent = tt };
    }

pub lawful : {C : Type 0} (x : Standing C) → IsLawful x
lawful x = record {
  image = λ f. image f x.part x.queues;
  weighs = λ p side idle. weighs p side x.part idle;
  ready = λ way left rests. ready way left x.part x.queues rests;
}

pub puts-lawfully : {C : Type 0} (K : Behaviour) (x : Standing C) (cells : Cells C) (made : ℕ) (here : Spot) (m : Message C)
    → LawfulPut x K cells made here m
puts-lawfully K x cells made here m = put K cells x.part x.queues made here m

pub calls-lawfully : {C : Type 0} (K : Behaviour) (x : Standing C) (cells : Cells C) (here : Spot) (made : ℕ) (again : Bool)
    → LawfulCall x K cells here made again
calls-lawfully K x cells here made again = call K cells x.part x.queues here made again

-- what its first message asks is the same where the origins of its cells are forgotten
pub asks-lawfully : {C : Type 0} (K : Behaviour) (cells : Cells C) (way : Way) (x : Standing C)
    → module_asks K plain way (map_module cells.byte x) ≡ module_asks K cells way x
asks-lawfully K cells way x = asks K cells way x.part x.queues

-- and plain
pub puts-plainly : (K : Behaviour) (x : Standing ℕ) → IsPlainPut K x
puts-plainly K x = by x.part
  where
    by : (part : Module ℕ) → IsPlainPut K (stood part x.queues)
    by (OfLdterm l) = record {
      put_same = λ a b here m. refl;
      put_stays = λ made here m. (let same = puts-stay here m (disciplined l x.queues) in (same.stage, same.work));
    }
    by (OfPckt q) = record {
      put_same = λ a b here m. ap (done_by (λ (p : Pckt). stood (OfPckt p) x.queues)) (puts-same a b here m);
      put_stays = λ made here m. (refl, refl);
    }
    by part = record { put_same = λ a b here m. refl; put_stays = λ made here m. (refl, refl) }

pub calls-plainly : (K : Behaviour) (x : Standing ℕ) → IsPlainCall K x
calls-plainly K x = by x.part
  where
    owns : (o : Own) (queues : Option (QueuePair ℕ)) (here : Spot) → (own_serves (own_by K plain) here (stood o queues)).again ≡ false
    owns o None here = refl
    owns o (Some pair) here = (served-owed K plain here o pair (way_queue here.way pair).messages refl).again

    -- it treats the first message of its queue, and no other one is in work
    few : (o : Own) (queues : Option (QueuePair ℕ)) (here : Spot) (again : Bool) → let d = discipline_of (stood (OfOwn o) queues) in
        Begins here.way again d → (own_serves (own_by K plain) here (stood o queues)).bytes ≤ bytes_left here.way again d
    few o None here again begins = omega arith
    few o (Some pair) here again begins = at here.way again begins (served (way_queue here.way pair).messages)
      where
        n : ℕ
        n = (own_serves (own_by K plain) here (stood o (Some pair))).bytes

        served : (ms : List (Message ℕ)) → (own_served (own_by K plain) here (stood o (Some pair)) pair ms).bytes ≡ first_size ms
        served [] = refl
        served (m ∷ ms) = refl

        at : (way : Way) (again : Bool) → let d = discipline_of (stood (OfOwn o) (Some pair)) in
            Begins way again d → n ≡ first_size (way_queue way pair).messages → n ≤ bytes_left way again d
        at Up true begins is = absurd (false≢true begins)
        at Up false begins is = omega (arith, is)
        at Down again begins is = omega (arith, is)

    by : (part : Module ℕ) → IsPlainCall K (stood part x.queues)
    by (OfLdterm l) = let d = disciplined l x.queues in record {
      call_same = λ here again stop made. ap (served_by ldterm_stands) (serves-made here again stop d made);
      goes = λ here again begins works. serves-goes here again d begins works;
      alike = λ here again works left made fits. ap (served_by ldterm_stands) (serves-alike here again d works left made fits);
      ends = λ here again begins over. (let e = serves-ends here again d begins over in (e.0, λ made. ap (served_by ldterm_stands) (e.1 made)));
    }
    by (OfOwn o) = record {
      call_same = λ here again stop made. refl;
      goes = λ here again begins works. absurd (false≢true (sym (owns o x.queues here) ∙ works));
      alike = λ here again works left made fits. refl;
      ends = λ here again begins over. (record { treat = few o x.queues here again begins; done = omega arith }, λ made. refl);
    }
    by part = record {
      call_same = λ here again stop made. refl;
      goes = λ here again begins works. absurd (false≢true works);
      alike = λ here again works left made fits. refl;
      ends = λ here again begins over. (record { treat = omega arith; done = omega arith }, λ made. refl);
    }

pub plainly : (x : Standing ℕ) → IsPlain x
plainly x = by x.part
  where
    by : (part : Module ℕ) → IsPlain (stood part x.queues)
    by (OfLdterm l) = record {
      counted = λ p side up. omega arith;
      numbered = λ side up idle. (refl, refl, idle.2, refl);
      forgets = λ side up idle. ap OfLdterm (numbered-forgets side up l idle);
    }
    by part = record { counted = λ p side up. refl; numbered = λ side up idle. tt; forgets = λ side up idle. refl }

-- one of a user's own as it is pushed, with queues (true) or without
abbrev own_pushed : (E : Type 0) → Behaviour → ℕ → Bool → Standing E
own_pushed E K n has = record { part = OfOwn (fresh_own K n); queues = cond has (Some new_pair) None }

pushed-forgets : {C D : Type 0} (K : Behaviour) (n : ℕ) (f : C → D) (has : Bool) → own_pushed D K n has ≡ map_module f (own_pushed C K n has)
pushed-forgets K n f true = refl
pushed-forgets K n f false = refl

pushed-weighs : {C : Type 0} (K : Behaviour) (n : ℕ) (p : Dir → C → Bool) (side : Side) (has : Bool) → module_weight p side (own_pushed C K n has) ≡ 0
pushed-weighs K n p side true = refl
pushed-weighs K n p side false = refl

pushed-good : (C : Type 0) (has : Bool) → GoodPair {C = C} (cond has (Some new_pair) None)
pushed-good C true = (new-good _ 512 128 (omega arith) (omega arith) (omega arith), new-good _ 512 128 (omega arith) (omega arith) (omega arith))
pushed-good C false = tt

pushed-has : (C : Type 0) (has : Bool) → is_some (cond {A = Option (QueuePair C)} has (Some new_pair) None) ≡ has
pushed-has C true = refl
pushed-has C false = refl

-- and as it is pushed
pub new : {C : Type 0} (K : Behaviour) (name : ModuleName) → IsNew C K name
new K names.Ldterm = record {
  forgets = λ f. refl;
  weighs = λ p side. refl;
  rests = (refl, refl, refl, refl);
  good = λ known. record {
    kind = record { termios = refl; column = omega arith; line = omega arith; work = tt };
    queues = (new-good _ 512 128 (omega arith) (omega arith) (omega arith), new-good _ 512 128 (omega arith) (omega arith) (omega arith));
    has = refl;
  };
}
new K names.Ptem =
    record { forgets = λ f. refl; weighs = λ p side. refl; rests = tt; good = λ known. record { kind = refl; queues = tt; has = refl } }
new K names.Pckt = record { forgets = λ f. refl; weighs = λ p side. refl; rests = tt; good = λ known. record { kind = tt; queues = tt; has = refl } }
new K (names.Own n) = record {
  forgets = λ f. pushed-forgets K n f (have_queues (names.Own n));
  weighs = λ p side. pushed-weighs K n p side (have_queues (names.Own n));
  rests = tt;
  good = λ known. record {
    kind = K.good n known;
    queues = pushed-good _ (have_queues (names.Own n));
    has = pushed-has _ (have_queues (names.Own n));
  };
}

-- what is pushed by a name: such a module where there are any, and else none
pub named-each : {C : Type 0} (K : Behaviour) (name : ModuleName) (P : Option (Standing C) → Type 0) → P None
    → (is_known K name ≡ true → P (Some (module_named K name)))
    → P (named_by K (Some name))
named-each K name P none some = at (is_known K name) refl
  where
    at : (known : Bool) → is_known K name ≡ known → P (cond known (Some (module_named K name)) None)
    at true is = some is
    at false is = none
