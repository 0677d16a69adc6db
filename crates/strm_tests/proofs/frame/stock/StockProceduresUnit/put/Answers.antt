-- The message stays on the queue, or is sent on as it is.
use Rattle.std.proofs.Common.{ℕ, ◌≡◌, true, false, cond, List, Option, [], ◌∷◌, Some, refl, sym, ap, subst, ◌∙◌, arith, rules}
use Rattle.strm_types.specs.declared.spots.Spot.{Spot}
use Rattle.strm_types.specs.declared.spots.Note.{Note}
use Rattle.strm_types.specs.declared.spots.Note.TheVariants.{Enable}
use Rattle.strm_types.specs.declared.names.Way.TheVariants.{Down}
use Rattle.strm_types.specs.Deliver.{Acted, toward, tallied}
use Rattle.strm_types.specs.Queue as plain_queue
use Rattle.strm_types.specs.Standings as standings
use Rattle.strm_types.specs.Standings.{stood}
use Rattle.strm_blocks.specs.Blocks.{dropped, in_hand, token}
use Rattle.strm_msg.proofs.Chains.{kind-is}
use Rattle.strm_queue.specs.declared.queue.Queue.{Queue}
use Rattle.strm_frame.specs.declared.parcels.Sent.{Sent}
use Rattle.strm_frame.specs.Hands.{OnlyOwn, once}
use Rattle.strm_frame.specs.Outboxes.{message_in}
use Rattle.strm_tests.specs.Toys.{Stock, onward, stocks}
use Rattle.strm_frame.specs.declared.queue_pair.QueuePair.{QueuePair}
use Rattle.strm_frame.specs.Standings.{IsPairReady, pair_in, queues_in, queues_own, standing, standing_in}
use Rattle.strm_frame.proofs.Handing.{can-in_hand, no-parts, none-chains, none-hands, one-parts, one-chains, one-hands}
use Rattle.strm_frame.proofs.WidePools.{frees-spends}
use Rattle.strm_tests.proofs.ToySteps.{changed-own, changed-pair, changed-ready, kind-stays, stocks-stay}
use Rattle.strm_tests.proofs.ToySteps.{stocks-on, joined-hands, never-bare, owned-by, pair-ready}
use Rattle.strm_tests.proofs.frame.stock.StockProceduresUnit.put.Goals as goal

pub kind-kind-requires-clause-in_hand : goal.kind-kind-requires-clause-in_hand
kind-kind-requires-clause-in_hand g c = can-in_hand _ _ _ c.audit.ensures c.requires.can_put

pub unreachable-requires : goal.unreachable-requires
unreachable-requires g c = never-bare c.args.queues.now c.in_default.is c.requires.held.itself

pub keep-enables-requires-clause-ready : goal.keep-enables-requires-clause-ready
keep-enables-requires-clause-ready g c = (pair-ready (g.B.Blocks.value c.args.store.now) c.args.queues.now c.in-Some.pair c.in-Some.is c.requires.held.queues).write

pub keep-enables-requires-clause-in_hand : goal.keep-enables-requires-clause-in_hand
keep-enables-requires-clause-in_hand g c = can-in_hand _ _ _ c.audit.ensures c.requires.can_put

pub returns-then-stays : goal.returns-then-stays
returns-then-stays g c =
    let s = g.B.Blocks.value c.args.store.now in
    let t = g.B.Blocks.value c.keep-enables.new.store in
    let n = token c.args.message in
    let m = message_in s n in
    let x = c.args.self.now in
    let pair = c.in-Some.pair in
    let ready = pair-ready s c.args.queues.now pair c.in-Some.is c.requires.held.queues in
    let name = x.name in
    let plain = pair_in s pair in
    let same = ap (λ (o : Option QueuePair). stood name (queues_in s o)) (sym c.in-Some.is) in
    let stayed = stocks-stay c.args.here m name plain (kind-stays s n c.args.here.way c.kind-kind.result c.stays.result true c.kind-kind.ensures c.stays.ensures c.if-stays.true) in
    let did = sym stayed ∙ ap (stocks c.args.here m) same in
    let e = c.keep-enables.ensures in
    let pair' = c.keep-enables.new.pair in
    let q = pair'.write in
    let is : pair' ≡ record pair { write = q } = ap (λ (r : Queue). record { read = r; write = q }) e.read in
    let hand = (dropped s n).hand in
    record {
      state = ap (λ (p : QueuePair). stood name (Some (pair_in t p))) is ∙ ap (λ (p : standings.QueuePair ℕ). stood name (Some p)) (changed-pair s t hand pair ready q e.changes ∙ ap (λ (w : plain_queue.Queue ℕ). record plain { write = w }) e.queue) ∙ ap (λ (a : Acted ℕ Stock). a.state) did;
      notes = c.note_if.ensures ∙ ap (λ v. cond {A = List Note} v (Enable Down ∷ []) []) e.enables ∙ ap (λ (a : Acted ℕ Stock). a.notes) did;
      sent = no-parts _ _ c.none.ensures ∙ ap (λ (a : Acted ℕ Stock). a.sent) did;
      told = ap (λ (a : Acted ℕ Stock). tallied a.gone c.args._told.now) did;
      held = record { queues = subst (IsPairReady t) (sym is) (changed-ready s t hand pair ready q e.changes); itself = refl };
      own = subst (λ (p : QueuePair). OnlyOwn s t (queues_own c.args.queues.now) (queues_own (Some p))) (sym is) (owned-by s t c.args.queues.now pair _ c.in-Some.is (changed-own s t hand pair ready q e.changes));
      chains = none-chains _ _ c.none.ensures;
      hands = none-hands _ _ (once n) (λ _. 0) (λ _. 0) _ c.none.ensures (joined-hands s _ n _ _ c.audit.ensures c.requires.can_put e.changes e.frees);
      spends = frees-spends s t (record { mblks = e.changes.mblks; dblks = e.changes.dblks }) e.frees _;
      blocks = λ holds held. e.blocks;
      pool = search rules;
    }

pub returns : goal.returns
returns g c =
    let s = g.B.Blocks.value c.args.store.now in
    let n = token c.args.message in
    let m = message_in s n in
    let here = c.args.here in
    let kind = c.kind-kind.result in
    let next : Sent = record { to = c.toward.result; message = c.args.message } in
    let p = standing_in (λ t y. y.name) s (standing c.args.self.now c.args.queues.now) in
    let did = stocks-on here m p (kind-stays s n here.way kind c.stays.result false c.kind-kind.ensures c.stays.ensures c.if-stays.false) in
    let way = c.onward.ensures ∙ ap (λ k. onward k here.way) (c.kind-kind.ensures ∙ sym (kind-is (in_hand s n))) in
    record {
      state = ap (λ (a : Acted ℕ Stock). a.state) (sym did);
      notes = c.new.ensures ∙ ap (λ (a : Acted ℕ Stock). a.notes) (sym did);
      sent = one-parts s next _ c.one.ensures
          ∙ ap (λ (to : Spot). record { to = to; message = m } ∷ []) (c.toward.ensures ∙ ap (λ w. toward w here) way)
          ∙ ap (λ (a : Acted ℕ Stock). a.sent) (sym did);
      told = ap (λ (a : Acted ℕ Stock). tallied a.gone c.args._told.now) (sym did);
      held = search rules;
      own = search rules;
      chains = one-chains s next _ c.one.ensures c.requires.chain;
      hands = one-hands s next (λ _. 0) _ c.one.ensures;
      spends = record { mblks = omega arith; dblks = omega arith };
      blocks = λ holds held. (omega arith, omega arith);
      pool = search rules;
    }
