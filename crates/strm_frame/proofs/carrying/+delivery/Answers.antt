-- Each message that was sent is carried in turn, and the rest is as if it alone had been sent.
use Rattle.strm_frame.proofs.Prelude.{ℕ, suc, ◌≡◌, ◌-◌, List, refl, sym, ap, subst, ◌∙◌, arith}
use Rattle.strm_frame.specs.Prelude.{Parcel, carried, Costs, Within, budget, cost_of, At, token}
use Rattle.strm_types.proofs.DeliveryHolds.{carried-holds}
use Rattle.strm_frame.specs.Hands.{once, MayDeliver, Takes}
use Rattle.strm_frame.specs.Outboxes.{message_in, sent_of, spot_in, times_sent, parcels_in, parcel_in}
use Rattle.strm_frame.specs.Does.{StaysAlone}
use Rattle.strm_frame.proofs.Staying.{only-stays}
use Rattle.strm_frame.proofs.Budgeting.{budget-parts, own-few, own-may, sent-few, sent-may}
use Rattle.strm_frame.proofs.Handing.{hands-on, next-chain, next-chains, next-ends, next-may, next-takes, no-cost, next-parts, next-can, next-hands, next-same, no-more, no-parts, sent-in, still-sent, takes-both, takes-more}
use Rattle.strm_frame.proofs.Turns.{begins-state, begins-told, goes-state, goes-told, stops-state, stops-told}
use Rattle.strm_frame.proofs.carrying.+delivery.Goals as goal

pub deliver-put_at-sent-requires-clause-room : goal.deliver-put_at-sent-requires-clause-room
deliver-put_at-sent-requires-clause-room g t c =
    let w = g.S.Stations in
    let s = g.B.Blocks.value c.args.store.now in
    let p = w.plain s c.args.stations.now in
    own-may (w.costs p) c.args.hops (spot_in s c.args.to (token c.args.message)) s (w.spare p) c.requires.may

pub deliver-overflow_sub-left : goal.deliver-overflow_sub-left
deliver-overflow_sub-left g t c =
    let w = g.S.Stations in
    let s = g.B.Blocks.value c.args.store.now in
    let parts = budget-parts (w.costs (w.plain s c.args.stations.now)) c.args.hops (spot_in s c.args.to (token c.args.message)) c.requires.may.ends in
    omega (arith, parts.some)

pub deliver-deliver_all-requires : goal.deliver-deliver_all-requires
deliver-deliver_all-requires g t c κs within =
    let value = g.B.Blocks.value in
    let w = g.S.Stations in
    let s0 = value c.args.store.now in
    let s = value c.put_at-sent.new.store in
    let m = message_in s0 (token c.args.message) in
    let a = spot_in s0 c.args.to (token c.args.message) in
    let e = c.put_at-sent.ensures.puts in
    let all = sent_of c.put_at-sent.result in
    let in_hand = sent-in s0 s (once (token c.args.message)) (λ i. times_sent i all) (w.keeps c.args.stations.now) (w.keeps c.put_at-sent.new.self) c.requires.can_put e.hands in
    let before = w.plain s0 c.args.stations.now in
    let behind = w.plain s c.put_at-sent.new.self in
    let table = w.costs before in
    let some = (budget-parts table c.args.hops a c.requires.may.ends).some in
    let same : w.costs behind ≡ table = ap w.costs e.state ∙ g.met.S.Stations.costed.stays c.args.to m before in
    let sent = subst (λ (ps : List (Parcel ℕ)). Within ps (table a).emits) (sym e.sent) (g.met.S.Stations.costed.within c.args.to m before) in
    let left = sent-may table c.args.hops a s0 (w.spare before) c.requires.may (parcels_in s all) sent s (w.spare behind) e.takes in
    let may = subst (λ (costs : At → Costs). MayDeliver s (w.spare behind) (cost_of (budget costs (c.args.hops - 1)) (parcels_in s all))) (sym same) left in
    (omega (arith, some), (within.0, (within.1.0, (within.1.1, (e.held, (in_hand, (e.chains, may)))))))

pub deliver-returns-clause-delivers : goal.deliver-returns-clause-delivers
deliver-returns-clause-delivers g t c =
    let value = g.B.Blocks.value in
    let w = g.S.Stations in
    let s0 = value c.args.store.now in
    let s = value c.put_at-sent.new.store in
    let u = value c.deliver_all.new.store in
    let m = message_in s0 (token c.args.message) in
    let a = spot_in s0 c.args.to (token c.args.message) in
    let p : Parcel ℕ = record { to = c.args.to; message = m } in
    let e = c.put_at-sent.ensures.puts in
    let f = c.deliver_all.ensures.delivers in
    let before = w.plain s0 c.args.stations.now in
    let behind = w.plain s c.put_at-sent.new.self in
    let after = w.plain u c.deliver_all.new.stations in
    let all = sent_of c.put_at-sent.result in
    let sent = parcels_in s all in
    let table = w.costs before in
    let some = (budget-parts table c.args.hops a c.requires.may.ends).some in
    let next : c.args.hops ≡ suc (c.args.hops - 1) = omega (arith, some) in
    let same : w.costs behind ≡ table = ap w.costs e.state ∙ g.met.S.Stations.costed.stays c.args.to m before in
    let within = subst (λ (ps : List (Parcel ℕ)). Within ps (table a).emits) (sym e.sent) (g.met.S.Stations.costed.within c.args.to m before) in
    let few = sent-few table c.args.hops a s0 (w.spare before) c.requires.may sent within in
    let then = subst (λ (costs : At → Costs). Takes s u (w.spare behind) (w.spare after) (cost_of (budget costs (c.args.hops - 1)) sent) 0) same f.takes in
    record {
      state = f.state ∙ begins-state w.puts c.args.hops (c.args.hops - 1) p before behind sent next e.state e.sent;
      told = f.told ∙ begins-told w.puts c.args.hops (c.args.hops - 1) p before behind sent _ _ next e.state e.sent e.told;
      held = f.held;
      hands = hands-on s0 s u (once (token c.args.message)) (λ i. times_sent i all) (w.keeps c.args.stations.now) (w.keeps c.put_at-sent.new.self) (w.keeps c.deliver_all.new.stations) c.audit.ensures e.hands f.hands;
      takes = takes-both s0 s u (w.spare before) (w.spare behind) (w.spare after) (table a).own (cost_of (budget table (c.args.hops - 1)) sent) (budget table c.args.hops a) e.takes then few;
      pool = record { mblks = f.pool.mblks ∙ e.pool.mblks; dblks = f.pool.dblks ∙ e.pool.dblks };
    }

-- What stays is sent on as what stays.
pub deliver-returns-clause-blocks : goal.deliver-returns-clause-blocks
deliver-returns-clause-blocks g t c = λ stays.
    let value = g.B.Blocks.value in
    let w = g.S.Stations in
    let s0 = value c.args.store.now in
    let s = value c.put_at-sent.new.store in
    let m = message_in s0 (token c.args.message) in
    let e = c.put_at-sent.ensures in
    let on = g.met.S.Stations.stays_on c.args.to m (w.plain s0 c.args.stations.now) stays in
    let sent = parcels_in s (sent_of c.put_at-sent.result) in
    let first = e.blocks stays in
    let behind = subst (λ p. StaysAlone w.stays p sent) (sym e.puts.state) (subst (λ ps. StaysAlone w.stays (w.puts c.args.to m (w.plain s0 c.args.stations.now)).state ps) (sym e.puts.sent) on) in
    let second = c.deliver_all.ensures.blocks behind in
    (omega (arith, first.0, second.0), omega (arith, first.1, second.1))

pub deliver-returns-then-is_empty-clause-blocks : goal.deliver-returns-then-is_empty-clause-blocks
deliver-returns-then-is_empty-clause-blocks g t c = λ stays. c.put_at-sent.ensures.blocks stays

-- Nothing is sent on, and all is done.
pub deliver-returns-then-is_empty-clause-delivers : goal.deliver-returns-then-is_empty-clause-delivers
deliver-returns-then-is_empty-clause-delivers g t c =
    let value = g.B.Blocks.value in
    let w = g.S.Stations in
    let s0 = value c.args.store.now in
    let s = value c.put_at-sent.new.store in
    let m = message_in s0 (token c.args.message) in
    let p : Parcel ℕ = record { to = c.args.to; message = m } in
    let e = c.put_at-sent.ensures.puts in
    let before = w.plain s0 c.args.stations.now in
    let behind = w.plain s c.put_at-sent.new.self in
    let all = sent_of c.put_at-sent.result in
    let sent = parcels_in s all in
    let a = spot_in s0 c.args.to (token c.args.message) in
    let table = w.costs before in
    let some = (budget-parts table c.args.hops a c.requires.may.ends).some in
    let next : c.args.hops ≡ suc (c.args.hops - 1) = omega (arith, some) in
    let empty = c.if-is_empty.ensures.0 refl in
    let none = no-parts s all empty in
    let carry = carried w.puts (c.args.hops - 1) in
    record {
      state = sym (stops-state carry sent behind none) ∙ begins-state w.puts c.args.hops (c.args.hops - 1) p before behind sent next e.state e.sent;
      told = sym (stops-told carry sent behind c.put_at-sent.new.told none)
          ∙ begins-told w.puts c.args.hops (c.args.hops - 1) p before behind sent c.args.told.now c.put_at-sent.new.told next e.state e.sent e.told;
      held = e.held;
      hands = no-more s0 s (once (token c.args.message)) (w.keeps c.args.stations.now) (w.keeps c.put_at-sent.new.self) all empty e.hands;
      takes = takes-more s0 s (w.spare before) (w.spare behind) (table a).own (budget table c.args.hops a) e.takes (own-few table c.args.hops a s0 (w.spare before) c.requires.may);
      pool = e.pool;
    }

pub deliver_all-loop-next-init : goal.deliver_all-loop-next-init
deliver_all-loop-next-init g t c =
    let s = g.B.Blocks.value c.args.store.now in
    record {
      state = refl;
      told = refl;
      held = c.requires.held;
      chains = c.requires.chains;
      ends = c.requires.may.ends;
      hands = record { counts = λ i. omega arith; others = λ i gone kept some. refl };
      costs = refl;
      takes = record { blocks = record { mblks = omega arith; dblks = omega arith }; spare = omega arith };
      blocks = λ alone. (alone, (omega arith, omega arith));
      pool = record { mblks = refl; dblks = refl };
    }

pub deliver_all-loop-next-preserved : goal.deliver_all-loop-next-preserved
deliver_all-loop-next-preserved g t c =
    let value = g.B.Blocks.value in
    let w = g.S.Stations in
    let i = c.loop-next.invariant in
    let x = c.in-Some.next in
    let s0 = value c.args.store.now in
    let s = value c.loop-next.store in
    let s' = value c.deliver.new.store in
    let first = λ (j : ℕ). times_sent j (sent_of c.args.sent) in
    let all = sent_of c.loop-next.left in
    let more = sent_of c.take_first.new.self in
    let k0 = w.keeps c.args.stations.now in
    let k = w.keeps c.loop-next.stations in
    let k' = w.keeps c.deliver.new.stations in
    let split = c.in-Some.ensures in
    let carry = carried w.puts c.args.hops in
    let parts = next-parts s0 s s' first k0 k k' x more all split c.audit.ensures c.requires.are_in i.hands in
    let same = next-same s0 s s' first k0 k k' x more all split c.audit.ensures c.requires.are_in i.hands c.deliver.ensures.delivers.hands in
    let before = w.plain s0 c.args.stations.now in
    let now = w.plain s c.loop-next.stations in
    let after = w.plain s' c.deliver.new.stations in
    let cost = budget (w.costs before) c.args.hops in
    let most = cost_of cost (parcels_in s0 (sent_of c.args.sent)) in
    let parcel = parcel_in s x in
    let behind : w.costs after ≡ w.costs now =
    ap w.costs c.deliver.ensures.delivers.state
    ∙ carried-holds (λ p. w.costs p ≡ w.costs now) w.puts (λ to m p is. g.met.S.Stations.costed.stays to m p ∙ is) c.args.hops parcel now refl in
    record {
      state = goes-state carry (parcels_in s all) (parcels_in s more) (parcels_in s' more) (parcel_in s x) (w.plain s c.loop-next.stations) _ parts same c.deliver.ensures.delivers.state ∙ i.state;
      told = goes-told carry (parcels_in s all) (parcels_in s more) (parcels_in s' more) (parcel_in s x) (w.plain s c.loop-next.stations) _ _ _ parts same c.deliver.ensures.delivers.state c.deliver.ensures.delivers.told ∙ i.told;
      held = c.deliver.ensures.delivers.held;
      chains = next-chains s0 s s' first k0 k k' x more all split c.audit.ensures c.requires.are_in i.hands c.deliver.ensures.delivers.hands i.chains;
      ends = next-ends s0 s s' first k0 k k' x more all split c.audit.ensures c.requires.are_in i.hands c.deliver.ensures.delivers.hands cost i.ends;
      hands = next-hands s0 s s' first k0 k k' x more all split c.audit.ensures c.requires.are_in i.hands c.deliver.ensures.delivers.hands;
      costs = behind ∙ i.costs;
      takes = next-takes s0 s s' first k0 k k' x more all split c.audit.ensures c.requires.are_in i.hands c.deliver.ensures.delivers.hands cost most (w.spare before) (w.spare now) (w.spare after) i.takes
          (subst (λ (costs : At → Costs). Takes s s' (w.spare now) (w.spare after) (budget costs c.args.hops (spot_in s x.to (token x.message))) 0) i.costs c.deliver.ensures.delivers.takes);
      blocks = λ alone.
          let was = i.blocks alone in
          let only = only-stays w.stays s s' now x more all split was.0 in
          let none = c.deliver.ensures.blocks only.0 in
          (only.1 after, (omega (arith, was.1.0, none.0), omega (arith, was.1.1, none.1)));
      pool = record { mblks = c.deliver.ensures.delivers.pool.mblks ∙ i.pool.mblks; dblks = c.deliver.ensures.delivers.pool.dblks ∙ i.pool.dblks };
    }

pub deliver_all-deliver-requires : goal.deliver_all-deliver-requires
deliver_all-deliver-requires g t c κs within =
    let value = g.B.Blocks.value in
    let w = g.S.Stations in
    let i = c.loop-next.invariant in
    let s0 = value c.args.store.now in
    let s = value c.loop-next.store in
    let first = λ (j : ℕ). times_sent j (sent_of c.args.sent) in
    let k0 = w.keeps c.args.stations.now in
    let k = w.keeps c.loop-next.stations in
    let x = c.in-Some.next in
    let more = sent_of c.take_first.new.self in
    let all = sent_of c.loop-next.left in
    let can = next-can s0 s s first k0 k k x more all c.in-Some.ensures c.audit.ensures c.requires.are_in i.hands in
    let before = w.plain s0 c.args.stations.now in
    let now = w.plain s c.loop-next.stations in
    let cost = budget (w.costs before) c.args.hops in
    let most = cost_of cost (parcels_in s0 (sent_of c.args.sent)) in
    let left = next-may s0 s s first k0 k k x more all c.in-Some.ensures c.audit.ensures c.requires.are_in i.hands cost most (w.spare before) (w.spare now) c.requires.may i.takes i.ends in
    let may = subst (λ (costs : At → Costs). MayDeliver s (w.spare now) (budget costs c.args.hops (spot_in s x.to (token x.message)))) (sym i.costs) left in
    let chain = next-chain s0 s s first k0 k k x more all c.in-Some.ensures c.audit.ensures c.requires.are_in i.hands i.chains in
    (omega arith, (within.0, (within.1.0, (within.1.1, (i.held, (can, (chain, may)))))))

pub deliver_all-returns-clause-delivers : goal.deliver_all-returns-clause-delivers
deliver_all-returns-clause-delivers g t c =
    let w = g.S.Stations in
    let s0 = g.B.Blocks.value c.args.store.now in
    let s = g.B.Blocks.value c.loop-next.store in
    let i = c.loop-next.invariant in
    let left = sent_of c.loop-next.left in
    let all = parcels_in s left in
    let before = w.plain s0 c.args.stations.now in
    let now = w.plain s c.loop-next.stations in
    let empty = c.in_default.ensures.0 in
    let none = no-parts s left empty in
    let first = λ (j : ℕ). times_sent j (sent_of c.args.sent) in
    record {
      state = sym (stops-state (carried w.puts c.args.hops) all now none) ∙ i.state;
      told = sym (stops-told (carried w.puts c.args.hops) all now c.loop-next.told none) ∙ i.told;
      held = i.held;
      hands = no-more s0 s first (w.keeps c.args.stations.now) (w.keeps c.loop-next.stations) left empty i.hands;
      takes = no-cost s0 s (budget (w.costs before) c.args.hops) (cost_of (budget (w.costs before) c.args.hops) (parcels_in s0 (sent_of c.args.sent))) (w.spare before) (w.spare now) left empty i.takes;
      pool = i.pool;
    }

pub deliver_all-returns-then-is_empty-clause-delivers : goal.deliver_all-returns-then-is_empty-clause-delivers
deliver_all-returns-then-is_empty-clause-delivers g t c =
    let w = g.S.Stations in
    let s = g.B.Blocks.value c.args.store.now in
    let sent = sent_of c.args.sent in
    let now = w.plain s c.args.stations.now in
    let empty = c.if-is_empty.ensures.0 refl in
    let none = no-parts s sent empty in
    record {
      state = sym (stops-state (carried w.puts c.args.hops) (parcels_in s sent) now none);
      told = sym (stops-told (carried w.puts c.args.hops) (parcels_in s sent) now c.args.told.now none);
      held = c.requires.held;
      hands = still-sent s (w.keeps c.args.stations.now) sent empty;
      takes = record { blocks = record { mblks = omega arith; dblks = omega arith }; spare = omega arith };
      pool = record { mblks = refl; dblks = refl };
    }

pub deliver_all-returns-clause-blocks : goal.deliver_all-returns-clause-blocks
deliver_all-returns-clause-blocks g t c = λ alone. (c.loop-next.invariant.blocks alone).1

pub deliver_all-returns-then-is_empty-clause-blocks : goal.deliver_all-returns-then-is_empty-clause-blocks
deliver_all-returns-then-is_empty-clause-blocks g t c = λ alone. (omega arith, omega arith)
