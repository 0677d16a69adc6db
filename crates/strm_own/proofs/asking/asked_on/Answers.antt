-- What is seen of the first message is what it asks by.
use Rattle.std.proofs.Common.{◌≡◌, [], cond, sym, ap, ◌∙◌}
use Rattle.strm_types.specs.Cells.{plain}
use Rattle.strm_types.specs.declared.spots.Asks.{Asks}
use Rattle.strm_types.specs.declared.spots.Asks.TheVariants as asked
use Rattle.strm_blocks.specs.Blocks.{list_at}
use Rattle.strm_blocks.specs.Outcomes.{PeekedFirst}
use Rattle.strm_laws.specs.Behaviours.{own_by}
use Rattle.strm_laws.proofs.OwnForgets.{messages-plain}
use Rattle.strm_queue.specs.Stored.{messages_on}
use Rattle.strm_frame.proofs.FirstSizes.{first-few}
use Rattle.strm_own.proofs.FirstAsks.{asks-high, asks-low, asks-none, begins}
use Rattle.strm_own.proofs.asking.asked_on.Goals as goal

pub returns-in_default-clause-asks : goal.returns-in_default-clause-asks
returns-in_default-clause-asks g c =
    let s = g.B.Blocks.value c.args.store.now in
    let k = c.args.queue.now.list in
    let none : list_at s k ≡ [] = rw c.in_default.is at c.peek.ensures in
    asks-none (own_by g.M.Behaves.does plain) c.args.way c.args.own.now s k none

pub returns-in_default-clause-few : goal.returns-in_default-clause-few
returns-in_default-clause-few g c = first-few (g.B.Blocks.value c.args.store.now) c.args.queue.now c.audit.ensures c.requires.ready

pub returns-then-is_high_priority-clause-asks : goal.returns-then-is_high_priority-clause-asks
returns-then-is_high_priority-clause-asks g c =
    let s = g.B.Blocks.value c.args.store.now in
    let k = c.args.queue.now.list in
    let seen : PeekedFirst s k c.in-Some.peek = rw c.in-Some.is at c.peek.ensures in
    asks-high (own_by g.M.Behaves.does plain) c.args.way c.args.own.now s k c.in-Some.peek seen (sym c.is_high_priority.ensures ∙ c.if-is_high_priority.true)

pub returns-then-is_high_priority-clause-few : goal.returns-then-is_high_priority-clause-few
returns-then-is_high_priority-clause-few g c = first-few (g.B.Blocks.value c.args.store.now) c.args.queue.now c.audit.ensures c.requires.ready

pub goes-requires-clause-first : goal.goes-requires-clause-first
goes-requires-clause-first g c =
    let s = g.B.Blocks.value c.args.store.now in
    let k = c.args.queue.now.list in
    let seen : PeekedFirst s k c.in-Some.peek = rw c.in-Some.is at c.peek.ensures in
    begins (own_by g.M.Behaves.does plain) c.args.way c.args.own.now s k c.in-Some.peek seen (sym c.is_high_priority.ensures ∙ c.if-is_high_priority.false)

pub returns-then-goes-clause-asks : goal.returns-then-goes-clause-asks
returns-then-goes-clause-asks g c =
    let s = g.B.Blocks.value c.args.store.now in
    let k = c.args.queue.now.list in
    let seen : PeekedFirst s k c.in-Some.peek = rw c.in-Some.is at c.peek.ensures in
    let goes = ap (λ l. g.M.Behaves.does.goes c.args.way l c.args.own.now) (messages-plain (messages_on s k)) ∙ sym c.goes.ensures ∙ c.if-goes.true in
    ap (λ b. cond {A = Asks} b (asked.Room c.in-Some.peek.band) asked.Held) (sym goes)
    ∙ asks-low (own_by g.M.Behaves.does plain) c.args.way c.args.own.now s k c.in-Some.peek seen (sym c.is_high_priority.ensures ∙ c.if-is_high_priority.false)

pub returns-then-goes-clause-few : goal.returns-then-goes-clause-few
returns-then-goes-clause-few g c = first-few (g.B.Blocks.value c.args.store.now) c.args.queue.now c.audit.ensures c.requires.ready

pub returns-else-goes-clause-asks : goal.returns-else-goes-clause-asks
returns-else-goes-clause-asks g c =
    let s = g.B.Blocks.value c.args.store.now in
    let k = c.args.queue.now.list in
    let seen : PeekedFirst s k c.in-Some.peek = rw c.in-Some.is at c.peek.ensures in
    let goes = ap (λ l. g.M.Behaves.does.goes c.args.way l c.args.own.now) (messages-plain (messages_on s k)) ∙ sym c.goes.ensures ∙ c.if-goes.false in
    ap (λ b. cond {A = Asks} b (asked.Room c.in-Some.peek.band) asked.Held) (sym goes)
    ∙ asks-low (own_by g.M.Behaves.does plain) c.args.way c.args.own.now s k c.in-Some.peek seen (sym c.is_high_priority.ensures ∙ c.if-is_high_priority.false)

pub returns-else-goes-clause-few : goal.returns-else-goes-clause-few
returns-else-goes-clause-few g c = first-few (g.B.Blocks.value c.args.store.now) c.args.queue.now c.audit.ensures c.requires.ready
