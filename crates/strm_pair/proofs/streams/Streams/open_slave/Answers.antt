-- The head is as new, and the driver stays.
use Rattle.strm_pair.proofs.Prelude.{ℕ, refl, sym, ap, subst, ◌∙◌, arith}
use Rattle.strm_pair.specs.Prelude.{Open, Master, Slave, new_head, driver_of, enable, enable_if, State, stream, with_stream}
use Rattle.std.proofs.Common.{not}
use Rattle.strm_pair.specs.Pairs.{state_in}
use Rattle.strm_frame.specs.MayEnable.{MayEnable}
use Rattle.strm_pair.proofs.Enabling.{one-room}
use Rattle.strm_pair.proofs.Sides.{none-left, renewed-beside, renewed-state}
use Rattle.strm_pair.proofs.streams.Streams.open_slave.Goals as goal

pub open-requires : goal.open-requires
open-requires g c = (c.requires.held.beside Slave).head.ready

pub enable-requires : goal.enable-requires
enable-requires g c =
    let s = g.B.Blocks.value c.args.store.now in
    let p = c.args.self.now in
    record { room = subst (λ n. MayEnable p.enabled n) (sym c.driver.ensures) (one-room (state_in s p) c.requires.enabled (driver_of Master) refl) }

pub returns-then-not-is_empty-clause-leads : goal.returns-then-not-is_empty-clause-leads
returns-then-not-is_empty-clause-leads g c = λ told.
    let s = g.B.Blocks.value c.args.store.now in
    let t = g.B.Blocks.value c.open.new.store in
    let p = c.args.self.now in
    let st = state_in s p in
    let x = c.open.new.self in
    let e = c.open.ensures in
    record {
      state = ap (λ (v : State ℕ). record v { enabled = c.enable.new.self })
          (renewed-state s t p x c.requires.held.beside Slave Open e)
          ∙ ap (λ names. record (with_stream Slave (record (stream Slave st) { opened = Open; head = new_head }) st) { enabled = names })
          (c.enable.ensures ∙ ap (λ n. enable n p.enabled) c.driver.ensures ∙ sym (ap (λ b. enable_if b (driver_of Master) p.enabled) (ap not (none-left s t p.ends.master.driver.list (e.keeps.others p.ends.master.driver.list (λ same. let a = (c.requires.held.beside Master).driver_list in let b = (c.requires.held.beside Slave).head_list in absurd (omega arith)))) ∙ ap not (sym c.is_empty.ensures ∙ c.if-not-is_empty.true))));
      tells = refl;
      held = record { hand = e.keeps.hand ∙ c.requires.held.hand; beside = renewed-beside s t p x c.requires.held.beside Slave Open e };
      pool = record { mblks = e.keeps.mblks; dblks = e.keeps.dblks };
    }

pub returns-else-not-is_empty-clause-leads : goal.returns-else-not-is_empty-clause-leads
returns-else-not-is_empty-clause-leads g c = λ told.
    let s = g.B.Blocks.value c.args.store.now in
    let t = g.B.Blocks.value c.open.new.store in
    let p = c.args.self.now in
    let st = state_in s p in
    let x = c.open.new.self in
    let e = c.open.ensures in
    record {
      state = ap (λ (v : State ℕ). record v { enabled = p.enabled })
          (renewed-state s t p x c.requires.held.beside Slave Open e)
          ∙ ap (λ names. record (with_stream Slave (record (stream Slave st) { opened = Open; head = new_head }) st) { enabled = names })
          (sym (ap (λ b. enable_if b (driver_of Master) p.enabled) (ap not (none-left s t p.ends.master.driver.list (e.keeps.others p.ends.master.driver.list (λ same. let a = (c.requires.held.beside Master).driver_list in let b = (c.requires.held.beside Slave).head_list in absurd (omega arith)))) ∙ ap not (sym c.is_empty.ensures ∙ c.if-not-is_empty.false))));
      tells = refl;
      held = record { hand = e.keeps.hand ∙ c.requires.held.hand; beside = renewed-beside s t p x c.requires.held.beside Slave Open e };
      pool = record { mblks = e.keeps.mblks; dblks = e.keeps.dblks };
    }
