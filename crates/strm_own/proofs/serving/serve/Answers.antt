-- Nothing stands there, or the first message is taken and put at the module.
use Rattle.std.proofs.Common.{◌≤◌, ap, arith, false, length, refl, subst, sym}
use Rattle.strm_types.specs.Cells.{plain}
use Rattle.strm_blocks.specs.Blocks.{list_at, token}
use Rattle.strm_frame.specs.Queued.{TakesFirst, TakesNone}
use Rattle.strm_frame.specs.StandingLaws.{pair-ready}
use Rattle.strm_laws.specs.Behaviours.{own_by}
use Rattle.strm_frame.proofs.WidePools.{wide-on}
use Rattle.strm_own.proofs.FirstServed.{serves-first, serves-none, taken-in-hand}
use Rattle.strm_own.proofs.serving.serve.Goals as goal

pub returns-in_default : goal.returns-in_default
returns-in_default g c =
    let s = g.B.Blocks.value c.args.store.now in
    let t = g.B.Blocks.value c.take.new.store in
    let pair = c.args.pair.now in
    let none : TakesNone s t pair c.take.new.self c.args.here.way = rw c.in_default.is at c.take.ensures in
    let u = c.unserved in
    serves-none (own_by g.M.Behaves.does plain) s t c.args.own.now pair c.take.new.self c.args.here u.result c.args.told.now c.requires.has none
    u.ensures.notes u.ensures.sent u.ensures.bytes u.ensures.stopped u.ensures.again

pub message_size-bytes-requires : goal.message_size-bytes-requires
message_size-bytes-requires g c =
    let s = g.B.Blocks.value c.args.store.now in
    let t = g.B.Blocks.value c.take.new.store in
    let i = token c.in-Some.message in
    let first : TakesFirst s t c.args.pair.now c.take.new.self c.args.here.way i = rw c.in-Some.is at c.take.ensures in
    taken-in-hand s t c.args.pair.now c.take.new.self c.args.here.way i c.audit.ensures first

pub put_alone-acts-requires-clause-may : goal.put_alone-acts-requires-clause-may
put_alone-acts-requires-clause-may g c =
    let s = g.B.Blocks.value c.args.store.now in
    let t = g.B.Blocks.value c.take.new.store in
    let i = token c.in-Some.message in
    let first : TakesFirst s t c.args.pair.now c.take.new.self c.args.here.way i = rw c.in-Some.is at c.take.ensures in
    record {
      held = taken-in-hand s t c.args.pair.now c.take.new.self c.args.here.way i c.audit.ensures first;
      chain = first.chain;
      inside = c.requires.inside;
      small = c.requires.small;
    }

pub put_alone-acts-requires-clause-wide : goal.put_alone-acts-requires-clause-wide
put_alone-acts-requires-clause-wide g c =
    let s = g.B.Blocks.value c.args.store.now in
    let t = g.B.Blocks.value c.take.new.store in
    let i = token c.in-Some.message in
    let first : TakesFirst s t c.args.pair.now c.take.new.self c.args.here.way i = rw c.in-Some.is at c.take.ensures in
    wide-on g.M.OwnModule.wide s t first.pool.mblks first.pool.dblks c.requires.wide

pub wake-requires-clause-ready : goal.wake-requires-clause-ready
wake-requires-clause-ready g c =
    let s = g.B.Blocks.value c.args.store.now in
    let t = g.B.Blocks.value c.take.new.store in
    let i = token c.in-Some.message in
    let first : TakesFirst s t c.args.pair.now c.take.new.self c.args.here.way i = rw c.in-Some.is at c.take.ensures in
    pair-ready t (g.B.Blocks.value c.put_alone-acts.new.store) c.take.new.self
    (λ k own. ap (λ l. list_at (record t { lists = l }) k) c.put_alone-acts.ensures.did.lists) first.ready

pub wake-requires-clause-few : goal.wake-requires-clause-few
wake-requires-clause-few g c = subst (λ ns. length ns ≤ 2) (sym c.put_alone-acts.ensures.notes) (omega arith)

pub returns : goal.returns
returns g c =
    let K = g.M.Behaves.does in
    let s = g.B.Blocks.value c.args.store.now in
    let t = g.B.Blocks.value c.take.new.store in
    let u = g.B.Blocks.value c.put_alone-acts.new.store in
    let pair = c.args.pair.now in
    let i = token c.in-Some.message in
    let first : TakesFirst s t pair c.take.new.self c.args.here.way i = rw c.in-Some.is at c.take.ensures in
    let before = c.both_ask-before in
    let a = c.put_alone-acts in
    serves-first K s t u c.args.own.now a.new.own pair c.take.new.self c.args.here i a.result
    (record { acts = c.wake.result; bytes = c.message_size-bytes.result; stopped = false; again = false }) c.args.told.now a.new.told c.audit.ensures
    c.requires.has first a.ensures.notes a.ensures.did before.result.read before.result.write before.ensures.read before.ensures.write c.requires.room
    c.wake.ensures.sent c.wake.ensures.notes (c.message_size-bytes.ensures.message first.chain) refl refl
