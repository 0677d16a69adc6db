-- Calls of a turn of a module's queue: what the stack of a side does, what is booked of it, and what comes next.
use Rattle.strm_pair.proofs.Prelude.{ℕ, zero, suc, ◌≡◌, ◌≤◌, ◌<◌, ◌+◌, ◌-◌, Bool, true, false, cond, List, [], ◌∷◌, length, map, refl, sym, ap, subst}
use Rattle.strm_pair.proofs.Prelude.{◌∙◌, arith, ◌*◌, ◌^◌, slice_index_or, HoldsAt, Option, None, is_some, false≢true, serve-names, between-counts}
use Rattle.strm_pair.proofs.Prelude.{made-within, made_in, master-told, slave-told, UnderWay, index-map, under_way, module-ends, module-goes}
use Rattle.strm_pair.proofs.Prelude.{tallied-append}
use Rattle.strm_pair.specs.Prelude.{Dir, MasterToSlave, SlaveToMaster, Place, QueueName, Side, Way, Up, Down, HOPS, STOP_BLOCKS, Fates, Spot, plain}
use Rattle.strm_pair.specs.Prelude.{budget, cost_of, most, Carried, Fate, Parcel, tallied, places_of, made_of, Discipline, at_place, act_among}
use Rattle.strm_pair.specs.Prelude.{IsKeptAhead, earlier_at, module_acted, noted, put_in, spare, spare_behind, costs, stands_of, Module, OfLdterm}
use Rattle.strm_pair.specs.Prelude.{OfOwn}
use Rattle.strm_pair.specs.Prelude.{Standing, module_serves, State, book, stream, Begins, Ends, bytes_left, disciplined, HoldsOfPart, stood}
use Rattle.strm_pair.specs.Prelude.{most_made, asks_on, called, discipline_of, module_at, treated, none_there, IsStore, StoreValue, Served, Sent}
use Rattle.strm_pair.specs.Prelude.{AreIn, Handles, HasRoom, SamePool, Spends, Takes, sent_of, times_sent, parcels_in, later_cost, least_free}
use Rattle.strm_pair.specs.Prelude.{stop_at, StaysAlone, FreesNone, Behaviour}
use Rattle.std.specs.Bool.{OnTrue}
use Rattle.strm_types.specs.Deliver.{carried, in_turn}
use Rattle.strm_types.proofs.CostsOf.{none-few}
use Rattle.strm_laws.proofs.StackSpares.{acted-falls, units-fit}
use Rattle.strm_laws.proofs.ModuleTurnCalls.{sent-stays}
use Rattle.strm_frame.specs.Hands.{MayDeliver}
use Rattle.strm_frame.proofs.WidePools.{room-left}
use Rattle.strm_ldterm.specs.Turns.{needs}
use Rattle.strm_pair.specs.AnyModules.{MayServe, turn_cost}
use Rattle.strm_pair.specs.declared.service_calls.Call.{Call}
use Rattle.strm_pair.specs.declared.streams.Streams.{Streams}
use Rattle.strm_pair.specs.Enabling.{AreFewEnabled}
use Rattle.strm_pair.specs.ModuleServed.{ActsAs, CallsAs, IsKeptAll, LeavesFew, MayBook, StackServes, TellsAs, acts_in, between, call_of, call_units, next_cost, stop_in, with_more}
use Rattle.strm_pair.specs.Pairs.{state_in, end_at, with_end, AreBeside, kept_by}
use Rattle.strm_pair.specs.Staying.{ComesToStand}
use Rattle.strm_ldterm.proofs.Freeing.{stays-few}
use Rattle.strm_ldterm.proofs.Spared.{call-few}
use Rattle.strm_pair.specs.Framing.{kept-parts}
use Rattle.strm_pair.proofs.Enabling.{acted-few}
use Rattle.strm_pair.proofs.ModuleSteps.{stack-acts, stack-modules}
use Rattle.strm_pair.proofs.OwnCalls.{own-call-few}
use Rattle.strm_pair.proofs.Sides.{modules-are}
use Rattle.strm_pair.proofs.StopsFew.{stopped-stays}
use Rattle.strm_pair.proofs.PlaceCosts.{once-stands, sent-most}
use Rattle.strm_pair.specs.Stacks.{stack_keeps, Stack}
use Rattle.strm_pair.specs.ModuleStacks.{stack-long}

-- what is so where something is, is so of what follows from it
pub on-true : {P Q : Type 0} (b : Bool) → (P → Q) → OnTrue b P → OnTrue b Q
on-true true follows holds = follows holds
on-true false follows holds = tt

-- it is so at a place
pub holds-there : {P : Type 0} (Q : P → Type 0) (d : P) (i : ℕ) (ps : List P) → HoldsAt Q ps i → Q (slice_index_or ps i d)
holds-there Q d i ps holds = holds d

-- where a turn of a module begins or goes on, it may serve
may-one : (way : Way) (again : Bool) (p : Standing ℕ) → Begins way again (discipline_of p) → MayServe way again p.part
may-one way again p begins = by way again p.part begins
  where
    by : (way : Way) (again : Bool) (part : Module ℕ) → Begins way again (discipline_of (stood part p.queues)) → MayServe way again part
    by Up true (OfLdterm l) begins = begins
    by Up false (OfLdterm l) begins = begins
    by Down true (OfLdterm l) begins = begins
    by Down false (OfLdterm l) begins = begins
    by Up true (OfOwn o) begins = absurd (false≢true begins)
    by Up false (OfOwn o) begins = λ up. refl
    by Down again (OfOwn o) begins = λ up. absurd (cc up)
    by way again other begins = tt

pub may-serve : (way : Way) (again : Bool) (i : ℕ) (ps : List (Standing ℕ)) → i < length ps → Begins way again (discipline_of (slice_index_or ps i none_there)) → HoldsAt (HoldsOfPart (MayServe way again)) ps i
may-serve way again i [] low begins = absurd (omega (arith, low))
may-serve way again zero (p ∷ ps) low begins = λ d. may-one way again p begins
may-serve way again (suc i) (p ∷ ps) low begins = may-serve way again i ps (omega (arith, low)) begins

-- what is booked of a call, and what it told
module _ (K : Behaviour) (here : Spot) (again : Bool) (call : Call) (st : State ℕ) (tells : TellsAs K here again call st) (begins : Begins here.way again (discipline_of (module_at here st))) (low : here.at - 1 < length (stream here.side st).modules) where
  -- it treated no more than it might
  within-by : (stopped : Bool) → OnTrue stopped (Ends here.way again (discipline_of (module_at here st)) call.bytes) → call.bytes ≡ treated here K again (stop_at stopped call.bytes) (stream here.side st).modules
      → call.bytes ≤ bytes_left here.way again (discipline_of (module_at here st))
  within-by true ends bytes = ends.treat
  within-by false ends bytes =
      let l = module_at here st in
      let i = here.at - 1 in
      let ps = (stream here.side st).modules in
      let t = module_serves K plain here 0 again None l in
      let same : call.bytes ≡ t.bytes = bytes ∙ index-map none_there (λ p. (module_serves K plain here 0 again None p).bytes) 0 i ps low in
      at t.again refl (omega (arith, same))
    where
      at : (more : Bool) → (module_serves K plain here 0 again None (module_at here st)).again ≡ more → call.bytes ≤ (module_serves K plain here 0 again None (module_at here st)).bytes → call.bytes ≤ bytes_left here.way again (discipline_of (module_at here st))
      at true is most = let g = module-goes here again K (module_at here st) begins is in omega (arith, g.treat, most)
      at false is most = let e = module-ends here again K (module_at here st) begins is in omega (arith, e.0.treat, most)

  pub call-within : call.bytes ≤ bytes_left here.way again (discipline_of (module_at here st))
  call-within = within-by call.stopped tells.ends tells.bytes

  -- so what it made fits the books
  abbrev told_in : List (Fate ℕ)
  told_in = (called here K again (stop_in call) (stream here.side st).modules).gone

  abbrev left : ℕ
  left = bytes_left here.way again (discipline_of (module_at here st))

  most-made : made_of told_in ≤ most_made left
  most-made = omega (arith, tells.made, call-within)

  fits-by : (made more : ℕ) → call_units left ≤ spare_behind made → more ≤ made_of told_in → made + more < 2 ^ 64
  fits-by made more may few = omega (arith, units-fit made more (call_units left) may (omega (arith, most-made, few)) (omega arith))

  pub made-fits : MayBook here again st → (d : Dir) → (book d st).made + made_in d told_in < 2 ^ 64
  made-fits may MasterToSlave = fits-by (book MasterToSlave st).made (made_in MasterToSlave told_in) (omega (arith, may)) (omega (arith, made-within told_in))
  made-fits may SlaveToMaster = fits-by (book SlaveToMaster st).made (made_in SlaveToMaster told_in) (omega (arith, may)) (omega (arith, made-within told_in))

  -- it takes some of them
  pub acted-left : spare st ≤ spare (module_acted here (called here K again (stop_in call) (stream here.side st).modules) st).state + (3 * call.bytes + 2)
  acted-left = acted-falls here (called here K again (stop_in call) (stream here.side st).modules) st (3 * call.bytes + 2) (omega (arith, tells.made))

  -- and the counts tell it
  pub master-between : MayBook here again st → (f f' : Fates) → f.made_from_master < 2 ^ 64 → f' ≡ tallied told_in f → between f.made_from_master f'.made_from_master ≡ made_in MasterToSlave told_in
  master-between may f f' few is =
      ap (λ (g : Fates). between f.made_from_master g.made_from_master) is
      ∙ ap (between f.made_from_master) (master-told told_in f few)
      ∙ between-counts f.made_from_master (made_in MasterToSlave told_in) few (omega (arith, made-fits may MasterToSlave))

  pub slave-between : MayBook here again st → (f f' : Fates) → f.made_from_slave < 2 ^ 64 → f' ≡ tallied told_in f → between f.made_from_slave f'.made_from_slave ≡ made_in SlaveToMaster told_in
  slave-between may f f' few is =
      ap (λ (g : Fates). between f.made_from_slave g.made_from_slave) is
      ∙ ap (between f.made_from_slave) (slave-told told_in f few)
      ∙ between-counts f.made_from_slave (made_in SlaveToMaster told_in) few (omega (arith, made-fits may SlaveToMaster))

-- what the stack of a side keeps is in hand, where all that is in hand is kept
pub kept-in : (side : Side) (s : StoreValue) (p : Streams) → IsKeptAll s p → AreIn s (λ _. 0) (stack_keeps (end_at side p).stack)
kept-in side s p all = record { apart = λ i. omega (arith, all i, kept-parts side p i) }

pub all-in : (s : StoreValue) (p : Streams) → IsKeptAll s p → AreIn s (λ _. 0) (kept_by p)
all-in s p all = record { apart = λ i. omega (arith, all i) }

-- as many modules stand there, whatever the store
pub within-any : (s t : StoreValue) (p : Streams) (side : Side) (at : ℕ) → at ≤ length (stream side (state_in s p)).modules → at ≤ length (stream side (state_in t p)).modules
within-any s t p side at low = omega (arith, low, stack-long s t (end_at side p).stack, ap (λ (ms : List (Standing ℕ)). length ms) (modules-are s p side), ap (λ (ms : List (Standing ℕ)). length ms) (modules-are t p side))

module _ (K : Behaviour) (s t : StoreValue) (p q : Streams) (x : Stack) (here : Spot) (again : Bool) (served : Served) (f f' : Fates) where
  abbrev st : State ℕ
  st = state_in s p

  abbrev old : Stack
  old = (end_at here.side p).stack

  abbrev ms : List (Standing ℕ)
  ms = (stream here.side st).modules

  -- what it tells of itself
  pub tells-by : StackServes K s t old x here again served f f' → TellsAs K here again (call_of served) st
  tells-by e =
      let same = sym (modules-are s p here.side) in
      record {
        bytes = e.bytes ∙ ap (treated here K again (stop_in (call_of served))) same;
        asks = e.asks ∙ ap (asks_on here K again (stop_in (call_of served))) same;
        ends = on-true served.stopped (holds-there (λ l. Ends here.way again (discipline_of l) served.bytes) none_there (here.at - 1) ms) (subst (λ ls. OnTrue served.stopped (HoldsAt (λ l. Ends here.way again (discipline_of l) served.bytes) ls (here.at - 1))) same e.ends);
        over = e.over;
        made = subst (λ ls. made_of (called here K again (stop_in (call_of served)) ls).gone ≤ most_made served.bytes) same e.made;
      }

  -- what the module does, and what is booked of it
  pub acts-by : (place : Option Place) (earlier : Way → Option QueueName) (m n : ℕ) → IsStore s → IsKeptAll s p → AreFewEnabled st → AreBeside s p
      → place ≡ slice_index_or (places_of ms) (here.at - 1) None → ((way : Way) → earlier way ≡ earlier_at here.side here.at st way)
      → StackServes K s t old x here again served f f'
      → let told = (called here K again (stop_in (call_of served)) ms).gone in m ≡ made_in MasterToSlave told → n ≡ made_in SlaveToMaster told
      → q ≡ record (with_end here.side (record (end_at here.side p) { stack = x }) p) {
        enabled = noted here.side place earlier served.acts.notes.items p.enabled;
        books = with_more m n p.books;
      }
      → ActsAs K s t p q here again (call_of served) (sent_of served.acts.sent) f f'
  acts-by place earlier m n store all few beside place_is earlier_is e m_is n_is q_is =
      let stop = stop_in (call_of served) in
      let same = sym (modules-are s p here.side) in
      let did = called here K again stop ms in
      let r = stack-acts s t p q x here (λ _. 0) (λ i. times_sent i (sent_of served.acts.sent)) did place earlier served.acts.notes.items m n store (all-in s p all) beside place_is earlier_is
      (e.state ∙ ap (λ ls. (called here K again stop ls).state) same) (e.notes ∙ ap (λ ls. (called here K again stop ls).notes) same) (serve-names K plain here 0 again stop (here.at - 1) ms)
      e.held e.own e.hands e.pool m_is n_is q_is in
      record {
        state = r.state;
        sent = e.sent ∙ ap (λ ls. (called here K again stop ls).sent) same;
        tells = e.tells ∙ ap (λ ls. tallied (called here K again stop ls).gone f) same;
        itself = tells-by e;
        few = e.few;
        some = e.some;
        beside = r.beside;
        chains = e.chains;
        hands = r.hands;
        room = subst (λ ls. HasRoom t (later_cost served.again (at_place (turn_cost here true) 0 here.at ls) (parcels_in t (sent_of served.acts.sent)))) (sym (ap (λ y. (stream here.side (state_in t y)).modules) q_is ∙ stack-modules here.side t p x (noted here.side place earlier served.acts.notes.items p.enabled) (with_more m n p.books))) e.room;
        pool = e.pool;
        enabled = subst AreFewEnabled (sym r.state) (acted-few st few here did (serve-names K plain here 0 again stop (here.at - 1) ms));
      }

-- what a call sends takes little, also where it becomes packets
begins-work : (way : Way) (again : Bool) (l : Discipline ℕ) → Begins way again l → way ≡ Up → again ≡ true → is_some l.in_work ≡ true
begins-work Up true l begins up more = begins
begins-work Up false l begins up more = absurd (false≢true more)
begins-work Down again l begins up more = absurd (cc)

module _ (K : Behaviour) (here : Spot) (again : Bool) (stop : Option ℕ) where
  one-sends : (p : Standing ℕ) → Begins here.way again (discipline_of p) → cost_of most (module_serves K plain here 0 again stop p).acted.sent ≤ 31
  one-sends p begins = by p.part begins
    where
      by : (part : Module ℕ) → let q = stood part p.queues in Begins here.way again (discipline_of q) → cost_of most (module_serves K plain here 0 again stop q).acted.sent ≤ 31
      by (OfLdterm l) begins = let d = disciplined l p.queues in call-few here again stop d (begins-work here.way again d begins)
      by (OfOwn o) begins = own-call-few K here o p.queues
      by other begins = none-few ℕ most 31

  among-sends : (i : ℕ) (ps : List (Standing ℕ)) → i < length ps → Begins here.way again (discipline_of (slice_index_or ps i none_there)) → cost_of most (act_among (λ p. (module_serves K plain here 0 again stop p).acted) i ps).sent ≤ 31
  among-sends i [] low begins = absurd (omega (arith, low))
  among-sends zero (p ∷ ps) low begins = one-sends p begins
  among-sends (suc i) (p ∷ ps) low begins = among-sends i ps (omega (arith, low)) begins

-- what one more call may count on goes by how far the turn has come, which puts leave as it is
abbrev stage_cost : Way → UnderWay → ℕ
stage_cost Up u = needs u.stage
stage_cost Down u = 25

one-cost : (way : Way) (here : Spot) (l : Standing ℕ) → turn_cost (record here { way = way }) true l ≡ stage_cost way (under_way l)
one-cost Up here l = refl
one-cost Down here l = refl

all-cost : (here : Spot) (ls : List (Standing ℕ)) → map (turn_cost here true) ls ≡ map (stage_cost here.way) (map under_way ls)
all-cost here [] = refl
all-cost here (l ∷ ls) = ap (λ n. n ∷ map (turn_cost here true) ls) (one-cost here.way here l) ∙ ap (λ ns. stage_cost here.way (under_way l) ∷ ns) (all-cost here ls)

sent-cost : (K : Behaviour) (here : Spot) (sent : List (Parcel ℕ)) (s : State ℕ) → next_cost here (in_turn (carried (put_in K plain) HOPS) sent s).state ≡ next_cost here s
sent-cost K here sent s =
    let u = (in_turn (carried (put_in K plain) HOPS) sent s).state in
    ap (λ ns. slice_index_or ns (here.at - 1) 0) (all-cost here (stream here.side u).modules ∙ ap (map (stage_cost here.way)) (sent-stays K sent s here.side) ∙ sym (all-cost here (stream here.side s).modules))

next-room : (s t : StoreValue) (again : Bool) (sent next next' : ℕ) → next' ≡ next → HasRoom s (sent + cond {A = ℕ} again next 0) → Spends s t sent 0 → OnTrue again (HasRoom t next')
next-room s t true sent next next' same room spends = room-left s t (sent + next) sent next' (omega (arith, same)) room spends
next-room s t false sent next next' same room spends = tt

-- a call whose messages are delivered
module _ (K : Behaviour) (r s : StoreValue) (o p : Streams) (here : Spot) (again : Bool) (call : Call) (sent_on : List Sent) (f f' : Fates)
    (inside : 0 < here.at) (begins : Begins here.way again (discipline_of (module_at here (state_in r o)))) (low : here.at - 1 < length (stream here.side (state_in r o)).modules)
    (a : ActsAs K r s o p here again call sent_on f f') where
  -- what its messages take, by the modules that stand there
  abbrev takes : ℕ
  takes = cost_of (budget (costs (stands_of (state_in s p))) HOPS) (parcels_in s sent_on)

  takes-most : takes ≤ cost_of most (parcels_in s sent_on)
  takes-most = sent-most (stands_of (state_in s p)) (once-stands s p a.beside) (parcels_in s sent_on)

  takes-few : takes ≤ 31
  takes-few =
      let few = among-sends K here again (stop_in call) (here.at - 1) (stream here.side (state_in r o)).modules low begins in
      omega (arith, takes-most, few, ap (cost_of {C = ℕ} most) a.sent)

  acted-spare : spare (state_in r o) ≤ spare (state_in s p) + (3 * call.bytes + 2)
  acted-spare = omega (arith, acted-left K here again call (state_in r o) a.itself begins low, ap spare a.state)

  pub calls-may : MayBook here again (state_in r o) → MayDeliver s (spare (state_in s p)) takes
  calls-may may = record {
    room = record { mblks = omega (arith, a.room.mblks, takes-most); dblks = omega (arith, a.room.dblks, takes-most) };
    spare = omega (arith, may, call-within K here again call (state_in r o) a.itself begins low, acted-spare, takes-few);
    ends = omega (arith, takes-few);
  }

  -- a call that stopped leaves few blocks free, where what it sent frees none
  few-by : (t : StoreValue) → (StaysAlone ComesToStand (state_in s p) (parcels_in s sent_on) → FreesNone s t) → LeavesFew here again call (state_in r o) t
  few-by t blocks = at call.stopped refl a.few
    where
      at : (stopped : Bool) → call.stopped ≡ stopped → OnTrue stopped (least_free s < STOP_BLOCKS)
          → OnTrue stopped (call.bytes < bytes_left here.way again (discipline_of (module_at here (state_in r o))) → IsKeptAhead here.way here.side (state_in r o) → least_free t < STOP_BLOCKS)
      at true is few = λ less ahead.
          let w = acts_in K here again call (state_in r o) in
          let stays = stopped-stays K here again call (state_in r o) a.itself low begins is less ahead in
          stays-few s t STOP_BLOCKS (blocks (subst (λ v. StaysAlone ComesToStand v (parcels_in s sent_on)) (sym a.state) (subst (λ ps. StaysAlone ComesToStand w.state ps) (sym a.sent) stays))) few
      at false is few = tt

  pub calls-by : (t : StoreValue) (q : Streams) (f'' : Fates) → IsKeptAll r o → (StaysAlone ComesToStand (state_in s p) (parcels_in s sent_on) → FreesNone s t)
      → (let u = in_turn (carried (put_in K plain) HOPS) (parcels_in s sent_on) (state_in s p) in f'' ≡ tallied u.gone f')
      → (let u = in_turn (carried (put_in K plain) HOPS) (parcels_in s sent_on) (state_in s p) in state_in t q ≡ u.state)
      → AreBeside t q → Handles s t (λ i. times_sent i sent_on) (kept_by p) (kept_by q) (λ _. 0)
      → Takes s t (spare (state_in s p)) (spare (state_in t q)) takes 0 → SamePool s t → AreFewEnabled (state_in t q)
      → CallsAs K r t o q here again call f f''
  calls-by t q f'' all blocks told state beside hands spends pool enabled =
      let st = state_in r o in
      let w = acts_in K here again call st in
      let on : List (Parcel ℕ) → State ℕ → Carried ℕ (State ℕ) = λ ps v. in_turn (carried (put_in K plain) HOPS) ps v in
      let is = ap (λ ps. on ps (state_in s p)) a.sent ∙ ap (on w.sent) a.state in
      let led_state = state ∙ ap (λ (u : Carried ℕ (State ℕ)). u.state) is in
      record {
        state = led_state;
        tells = told ∙ ap (λ (u : Carried ℕ (State ℕ)). tallied u.gone f') is ∙ ap (tallied (on w.sent w.state).gone) a.tells ∙ sym (tallied-append w.gone (on w.sent w.state).gone f);
        itself = a.itself;
        few = few-by t blocks;
        some = a.some;
        beside = beside;
        hand = λ i. omega (arith, all i, a.hands.counts i, hands.counts i);
        room = next-room s t call.again (cost_of most (parcels_in s sent_on)) (next_cost here (state_in s p)) (next_cost here (state_in t q))
            (ap (next_cost here) led_state ∙ sent-cost K here w.sent w.state ∙ ap (next_cost here) (sym a.state)) a.room
            (record { mblks = omega (arith, spends.blocks.mblks, takes-most); dblks = omega (arith, spends.blocks.dblks, takes-most) });
        left = omega (arith, acted-spare, spends.spare, takes-few);
        pool = record { mblks = pool.mblks ∙ a.pool.mblks; dblks = pool.dblks ∙ a.pool.dblks };
        enabled = enabled;
      }
