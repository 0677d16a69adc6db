-- By what becomes of the message.
use Rattle.std.proofs.Common.{◌≤◌, cond, length, sym, ap, subst, ◌∙◌, arith}
use Rattle.std.specs.Prelude.{Some}
use Rattle.strm_types.specs.Budgets.{own_at}
use Rattle.strm_types.specs.Cells.{plain}
use Rattle.strm_types.specs.Flushing.{is_flush}
use Rattle.strm_types.specs.OwnStands.{own_holds, own_queued, pair_flushed}
use Rattle.strm_types.specs.Service.{acts_alone}
use Rattle.strm_types.specs.Standings.{stood}
use Rattle.strm_types.specs.Tables.{own_does}
use Rattle.strm_blocks.specs.Blocks.{in_hand, token}
use Rattle.strm_laws.specs.Behaviours.{own_by}
use Rattle.strm_msg.proofs.Chains.{kind-is}
use Rattle.strm_frame.specs.Outboxes.{message_in}
use Rattle.strm_frame.specs.Standings.{pair_in}
use Rattle.strm_own.specs.Stands.{PutsThere}
use Rattle.strm_own.proofs.Queueing.{puts-alone}
use Rattle.strm_own.proofs.putting.act.Goals as goal

pub pass_flush-requires-clause-kind : goal.pass_flush-requires-clause-kind
pass_flush-requires-clause-kind g c =
    let chain = in_hand (g.B.Blocks.value c.args.store.now) (token c.args.message) in
    ap is_flush (kind-is chain ∙ sym c.kind-kind.ensures) ∙ sym c.is_flush.ensures ∙ c.if-is_flush.true

pub returns-then-is_flush-clause-did : goal.returns-then-is_flush-clause-did
returns-then-is_flush-clause-did g c =
    let s = g.B.Blocks.value c.args.store.now in
    let i = token c.args.message in
    let m = message_in s i in
    let here = c.args.here in
    let o = c.args.own.now in
    let pair = pair_in s c.args.pair.now in
    let by = own_by g.M.Behaves.does plain in
    let flush = ap is_flush (kind-is (in_hand s i) ∙ sym c.kind-kind.ensures) ∙ sym c.is_flush.ensures ∙ c.if-is_flush.true in
    let otherwise = cond (own_holds by here m o) (own_queued here.way m o pair) (acts_alone (by.puts here m) (stood o (Some pair))) in
    subst (λ b. PutsThere s (g.B.Blocks.value c.pass_flush.new.store) o (Some c.args.pair.now) o (Some c.pass_flush.new.pair) i (own_at own_does here m)
    c.pass_flush.result c.args.told.now c.pass_flush.new.told (cond b (pair_flushed here m o pair) otherwise)) (sym flush)
    (c.pass_flush.ensures.did o (own_at own_does here m) c.requires.has)

pub returns-then-holds-clause-did : goal.returns-then-holds-clause-did
returns-then-holds-clause-did g c =
    let s = g.B.Blocks.value c.args.store.now in
    let i = token c.args.message in
    let m = message_in s i in
    let here = c.args.here in
    let o = c.args.own.now in
    let pair = pair_in s c.args.pair.now in
    let by = own_by g.M.Behaves.does plain in
    let alone = acts_alone (by.puts here m) (stood o (Some pair)) in
    let flush = ap is_flush (kind-is (in_hand s i) ∙ sym c.kind-kind.ensures) ∙ sym c.is_flush.ensures ∙ c.if-is_flush.false in
    let holds = sym c.holds.ensures ∙ c.if-holds.true in
    subst (λ b. PutsThere s (g.B.Blocks.value c.wait.new.store) o (Some c.args.pair.now) o (Some c.wait.new.pair) i (own_at own_does here m)
    c.wait.result c.args.told.now c.args.told.now
    (cond b (pair_flushed here m o pair) (cond (own_holds by here m o) (own_queued here.way m o pair) alone))) (sym flush)
    (subst (λ b. PutsThere s (g.B.Blocks.value c.wait.new.store) o (Some c.args.pair.now) o (Some c.wait.new.pair) i (own_at own_does here m)
    c.wait.result c.args.told.now c.args.told.now (cond b (own_queued here.way m o pair) alone)) (sym holds)
    (c.wait.ensures.did o c.args.told.now (own_at own_does here m) c.requires.has))

pub returns-clause-did : goal.returns-clause-did
returns-clause-did g c =
    let K = g.M.Behaves.does in
    let s = g.B.Blocks.value c.args.store.now in
    let t = g.B.Blocks.value c.put_alone.new.store in
    let i = token c.args.message in
    let m = message_in s i in
    let here = c.args.here in
    let o = c.args.own.now in
    let queues = c.args.pair.now in
    let pair = pair_in s queues in
    let by = own_by K plain in
    let most = own_at own_does here m in
    let flush = ap is_flush (kind-is (in_hand s i) ∙ sym c.kind-kind.ensures) ∙ sym c.is_flush.ensures ∙ c.if-is_flush.false in
    let holds = sym c.holds.ensures ∙ c.if-holds.false in
    let owes = K.put plain here m o in
    subst (λ b. PutsThere s t o (Some queues) c.put_alone.new.own (Some queues) i most c.put_alone.result c.args.told.now c.put_alone.new.told
    (cond b (pair_flushed here m o pair) (cond (own_holds by here m o) (own_queued here.way m o pair) (acts_alone (by.puts here m) (stood o (Some pair))))))
    (sym flush)
    (subst (λ b. PutsThere s t o (Some queues) c.put_alone.new.own (Some queues) i most c.put_alone.result c.args.told.now c.put_alone.new.told
    (cond b (own_queued here.way m o pair) (acts_alone (by.puts here m) (stood o (Some pair))))) (sym holds)
    (puts-alone s t o c.put_alone.new.own (Some queues) i most c.put_alone.result c.args.told.now c.put_alone.new.told (by.puts here m) c.put_alone.ensures.did
    c.put_alone.ensures.notes owes.notes owes.number c.requires.has c.requires.ready))

pub returns-clause-few : goal.returns-clause-few
returns-clause-few g c = subst (λ ns. length ns ≤ 2) (sym c.put_alone.ensures.notes) (omega arith)
