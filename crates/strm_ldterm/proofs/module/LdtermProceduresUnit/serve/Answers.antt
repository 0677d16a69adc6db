use Rattle.strm_ldterm.proofs.Prelude.{◌≤◌, ap, sym, subst, Option}
use Rattle.strm_ldterm.specs.Prelude.{plain, made_of, ldterm_serves, as_stands, QueuePair, parcels_in, sent_of, stop_of}
use Rattle.std.proofs.lemmas.Bool.{OnTrue_from}
use Rattle.strm_types.specs.Service.{most_made}
use Rattle.strm_types.proofs.LdtermMakes.{serves-makes}
use Rattle.strm_ldterm.specs.ServedLaws.{again-works}
use Rattle.strm_ldterm.specs.Stands.{ldterm_in, paired}
use Rattle.strm_ldterm.proofs.Standing.{ServesAt, held-there, never-bare, stands-held}
use Rattle.strm_ldterm.proofs.Spared.{call-room}
use Rattle.strm_ldterm.proofs.module.LdtermProceduresUnit.serve.Goals as goal

pub unreachable-requires : goal.unreachable-requires
unreachable-requires g c = never-bare (g.B.Blocks.value c.args.store.now) c.args.self.now c.args.queues.now c.in_default.is c.requires.held

pub serve-requires-clause-held : goal.serve-requires-clause-held
serve-requires-clause-held g c = stands-held (g.B.Blocks.value c.args.store.now) c.args.self.now c.args.queues.now c.in-Some.pair c.in-Some.is c.requires.held

pub returns : goal.returns
returns g c =
    let s = g.B.Blocks.value c.args.store.now in
    let t = g.B.Blocks.value c.serve.new.store in
    let here = c.args.here in
    let again = c.args.again in
    let r = c.serve.result in
    let stop = stop_of r in
    let x = c.args.self.now in
    let y = c.serve.new.ldterm in
    let pair = c.in-Some.pair in
    let p = ldterm_in s (paired x pair) in
    let q = ldterm_in t (paired y c.serve.new.queues) in
    let e = c.serve.ensures in
    subst (λ (o : Option QueuePair). ServesAt s t x y o c.serve.new.queues here again r c.args.told.now c.serve.new.told) (sym c.in-Some.is) (record {
      state = ap as_stands e.does.state;
      notes = e.does.noted;
      sent = e.does.parcels;
      told = e.does.told;
      bytes = e.bytes;
      again = e.again_is;
      stopped = OnTrue_from r.stopped _ e.stops;
      stops = OnTrue_from r.stopped _ e.ends;
      some = OnTrue_from r.stopped _ e.some;
      made = subst (λ bytes. made_of (ldterm_serves plain here 0 again stop p).acted.gone ≤ most_made bytes) (sym e.bytes) (serves-makes here again stop p (c.audit.ensures s pair));
      held = held-there t y c.serve.new.queues e.does.held;
      own = record { lists = e.does.own.lists; owns_same = e.does.own.owns_same };
      chains = e.does.chains;
      hands = record { counts = e.does.hands.counts; others = e.does.hands.others };
      room = call-room here again stop p s t q r.again (parcels_in t (sent_of r.acts.sent)) e.does.state e.does.parcels e.again_is
          (λ up more. again-works here.way again p up more c.requires.turn) c.requires.room e.whole e.room e.over;
      pool = e.does.pool;
    })
