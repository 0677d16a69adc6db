-- Each call goes on from what those before it led to.
use Rattle.strm_pair.proofs.Prelude.{◌≡◌, ◌<◌, ◌+◌, ◌-◌, false, true, [], length, refl, sym, ap, subst, ◌∙◌, arith, false≢true}
use Rattle.strm_pair.specs.Prelude.{STOP_BLOCKS, stream, stands_of, times_in, HasRoom}
use Rattle.strm_laws.proofs.ModuleTurnCalls.{reached-first}
use Rattle.strm_pair.specs.Framing.{rests}
use Rattle.strm_pair.specs.ModuleServed.{stop_in}
use Rattle.strm_pair.specs.Pairs.{state_in}
use Rattle.strm_pair.proofs.CallsOn.{Along, FewAt, GoOn, Since, along, comes-closer, few-along, first-begins, first-books, first-cost, first-went, later-went, next-books, still_to_come}
use Rattle.strm_pair.proofs.MovingOn.{full-at}
use Rattle.strm_pair.proofs.ServeSteps.{call-within}
use Rattle.strm_pair.proofs.StopsFew.{led-stands}
use Rattle.strm_frame.proofs.WidePools.{wide-on}
use Rattle.strm_pair.proofs.streams.Streams.call_on.Goals as goal

pub loop-call-init : goal.loop-call-init
loop-call-init g c =
    let K = g.M.Behaves.does in
    let here = c.args.here in
    let st0 = state_in (g.B.Blocks.value c.args.store.now) c.args.self.now in
    let m = c.call_module-call in
    let e = m.ensures in
    let st = state_in (g.B.Blocks.value m.new.store) m.new.self in
    let f = c.args.told.now in
    let low : here.at - 1 < length (stream here.side st0).modules = let inside = c.requires.inside in let within = c.requires.within in omega arith in
    let begins = first-begins here st0 c.requires.may.rests.idle low in
    let full = full-at here (g.B.Blocks.value c.args.store.now) c.args.self.now (c.requires.may.rests.held.beside here.side).stack in
    let since : Since here false 0 st0 st0 = record { all = omega arith; full = λ first. full; opened = λ side. refl; stands = refl } in
    let first = along here K st0 false 0 [] st0 st (reached-first here st0 K low begins) m.result e.itself e.state f f m.new.told refl e.tells e.left 0 (omega arith) (omega arith) since
    (λ over none. first-went here K m.result st0 e.itself low full over (omega (arith, none)) (HasRoom (g.B.Blocks.value c.args.store.now) STOP_BLOCKS) c.requires.may.room e.some) m.result.again refl in
    record {
      along = subst (λ n. Along K m.result.again here n st0 st f m.new.told) (let none : 0 + m.result.bytes ≡ m.result.bytes = omega arith in none) first;
      few = subst (λ n. FewAt m.result.again here n st0 (g.B.Blocks.value m.new.store)) (let none : 0 + m.result.bytes ≡ m.result.bytes = omega arith in none)
          (few-along K here false m.result st0 e.itself low full 0 st0 (g.B.Blocks.value m.new.store) since e.few m.result.again refl);
      room = e.room;
      beside = e.beside;
      hand = e.hand;
      pool = record { mblks = e.pool.mblks; dblks = e.pool.dblks };
      enabled = e.enabled;
      stands = ap stands_of e.state ∙ led-stands K here false (stop_in m.result) st0;
    }

pub call_module-call-requires-clause-books : goal.call_module-call-requires-clause-books
call_module-call-requires-clause-books g c = first-books c.args.here (state_in (g.B.Blocks.value c.args.store.now) c.args.self.now) c.requires.may.range c.requires.few

pub call_module-call-requires-in-loop-call-clause-books : goal.call_module-call-requires-in-loop-call-clause-books
call_module-call-requires-in-loop-call-clause-books g c =
    let K = g.M.Behaves.does in
    let here = c.args.here in
    let l = c.loop-call in
    let st0 = state_in (g.B.Blocks.value c.args.store.now) c.args.self.now in
    let st = state_in (g.B.Blocks.value l.store) l.self in
    let on : GoOn K here l.bytes st0 st c.args.told.now l.told = subst (λ more. Along K more here l.bytes st0 st c.args.told.now l.told) c.loop-call-test.true l.invariant.along in
    next-books here K l.bytes st0 st c.args.told.now l.told c.requires.may.range c.requires.few on

pub overflow_add-bytes : goal.overflow_add-bytes
overflow_add-bytes g c =
    let K = g.M.Behaves.does in
    let here = c.args.here in
    let l = c.loop-call in
    let m = c.call_module-call-in-loop-call in
    let st0 = state_in (g.B.Blocks.value c.args.store.now) c.args.self.now in
    let st = state_in (g.B.Blocks.value l.store) l.self in
    let on : GoOn K here l.bytes st0 st c.args.told.now l.told = subst (λ more. Along K more here l.bytes st0 st c.args.told.now l.told) c.loop-call-test.true l.invariant.along in
    let most = call-within K here true m.result st m.ensures.itself on.reached.begins on.reached.inside in
    let within = on.reached.within in
    let few = c.requires.few in
    omega (arith, most, within, few)

pub loop-call-smaller : goal.loop-call-smaller
loop-call-smaller g c =
    let K = g.M.Behaves.does in
    let here = c.args.here in
    let l = c.loop-call in
    let m = c.call_module-call-in-loop-call in
    let e = m.ensures in
    let st0 = state_in (g.B.Blocks.value c.args.store.now) c.args.self.now in
    let st = state_in (g.B.Blocks.value l.store) l.self in
    let behind = state_in (g.B.Blocks.value m.new.store) m.new.self in
    let f = c.args.told.now in
    let on : GoOn K here l.bytes st0 st f l.told = subst (λ more. Along K more here l.bytes st0 st f l.told) c.loop-call-test.true
    l.invariant.along in
    let closer = comes-closer here K st0 true l.bytes on.gone st behind on.reached m.result e.itself e.state f l.told m.new.told on.tells e.tells e.left m.result.again refl in
    subst (λ n. still_to_come m.result.again here behind < n) (sym (ap (λ more. still_to_come more here st) c.loop-call-test.true)) closer

pub loop-call-preserved : goal.loop-call-preserved
loop-call-preserved g c =
    let K = g.M.Behaves.does in
    let here = c.args.here in
    let l = c.loop-call in
    let m = c.call_module-call-in-loop-call in
    let e = m.ensures in
    let st0 = state_in (g.B.Blocks.value c.args.store.now) c.args.self.now in
    let st = state_in (g.B.Blocks.value l.store) l.self in
    let behind = state_in (g.B.Blocks.value m.new.store) m.new.self in
    let f = c.args.told.now in
    let on : GoOn K here l.bytes st0 st f l.told = subst (λ more. Along K more here l.bytes st0 st f l.told) c.loop-call-test.true
    l.invariant.along in
    let since : Since here true l.bytes st0 st = record
    { all = on.all; full = λ first. absurd (false≢true (sym first)); opened = on.opened; stands = on.stands } in
    record {
      few = few-along K here true m.result st e.itself on.reached.inside (full-at here (g.B.Blocks.value l.store) l.self (l.invariant.beside here.side).stack) l.bytes st0 (g.B.Blocks.value m.new.store) since e.few m.result.again refl;
      along = along here K st0 true l.bytes on.gone st behind on.reached m.result e.itself e.state f l.told m.new.told on.tells e.tells e.left on.count on.few on.left since
          (λ over none. later-went here K l.bytes st0 st f l.told m.result on e.itself over none) m.result.again refl;
      room = e.room;
      beside = e.beside;
      hand = e.hand;
      pool = record { mblks = e.pool.mblks ∙ l.invariant.pool.mblks; dblks = e.pool.dblks ∙ l.invariant.pool.dblks };
      enabled = e.enabled;
      stands = ap stands_of e.state ∙ led-stands K here true (stop_in m.result) st ∙ l.invariant.stands;
    }

pub call_module-call-requires-clause-may : goal.call_module-call-requires-clause-may
call_module-call-requires-clause-may g c =
    let here = c.args.here in
    let s = g.B.Blocks.value c.args.store.now in
    let p = c.args.self.now in
    let st0 = state_in s p in
    let at_rest = c.requires.may.rests in
    let cost = first-cost here st0 in
    let room = c.requires.may.room in
    record {
      inside = c.requires.inside;
      within = c.requires.within;
      begins = first-begins here st0 at_rest.idle (let inside = c.requires.inside in let within = c.requires.within in omega arith);
      beside = at_rest.held.beside;
      enabled = at_rest.enabled;
      hand = λ i. ap (times_in i) at_rest.held.hand ∙ sym (rests s p at_rest.held.beside at_rest.idle i);
      room = record { mblks = omega (arith, cost, room.mblks); dblks = omega (arith, cost, room.dblks) };
    }

pub call_module-call-requires-in-loop-call-clause-wide : goal.call_module-call-requires-in-loop-call-clause-wide
call_module-call-requires-in-loop-call-clause-wide g c =
    let pool = c.loop-call.invariant.pool in
    wide-on g.M.OwnModule.wide (g.B.Blocks.value c.args.store.now) (g.B.Blocks.value c.loop-call.store) pool.mblks pool.dblks c.requires.wide
