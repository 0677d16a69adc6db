-- A driver's turn makes little: what becomes packets of its message.
use Rattle.strm_pair.proofs.Prelude.{ℕ, ◌≡◌, List, ap, sym, subst, arith, turn-few, range-spare, spare-low}
use Rattle.strm_pair.specs.Prelude.{plain, FewBooked, QueueName, STOP_BLOCKS, StoreValue, spare, stream, driver_turned}
use Rattle.strm_types.specs.Names.{without}
use Rattle.strm_laws.proofs.StepBooks.{serves-books}
use Rattle.strm_pair.specs.declared.streams.Streams.{Streams}
use Rattle.strm_pair.specs.Effects.{MayDeliver}
use Rattle.strm_pair.specs.Enabling.{AreFewEnabled}
use Rattle.strm_pair.specs.Pairs.{free_in, state_in}
use Rattle.strm_pair.proofs.Enabling.{without-few}
use Rattle.strm_pair.proofs.MovingOn.{driver-moves, moves-taken}
use Rattle.strm_pair.proofs.streams.Streams.turn.Goals as goal

-- the queue whose turn it is is off the list
off-list : (s : StoreValue) (p : Streams) (name : QueueName) (names : List QueueName) (blocks : ℕ) → MayDeliver s p blocks → names ≡ without name p.enabled
    → MayDeliver s (record p { enabled = names }) blocks
off-list s p name names blocks may is = record {
  rests = record {
    held = record { hand = may.rests.held.hand; beside = may.rests.held.beside };
    idle = may.rests.idle;
    enabled = subst (λ ns. AreFewEnabled (record (state_in s p) { enabled = ns })) (sym is) (without-few (state_in s p) may.rests.enabled name);
  };
  room = may.room;
  range = may.range;
}

pub turn_driver-requires-clause-may : goal.turn_driver-requires-clause-may
turn_driver-requires-clause-may g c =
    let s = g.B.Blocks.value c.args.store.now in
    off-list s c.args.self.now c.args.name c.remove.new.self 8 (rw c.in-Driver.is at c.requires.may) c.remove.ensures

pub turn_module-requires-clause-may : goal.turn_module-requires-clause-may
turn_module-requires-clause-may g c =
    let s = g.B.Blocks.value c.args.store.now in
    off-list s c.args.self.now c.args.name c.remove.new.self STOP_BLOCKS (rw c.in-Module.is at c.requires.may) c.remove.ensures

pub returns-in-Driver-clause-few : goal.returns-in-Driver-clause-few
returns-in-Driver-clause-few g c =
    let K = g.M.Behaves.does in
    let side = c.args.name.side in
    let from = state_in (g.B.Blocks.value c.args.store.now) (record c.args.self.now { enabled = c.remove.new.self }) in
    let behind = driver_turned K plain side from in
    let e = c.turn_driver.ensures in
    subst FewBooked (sym e.delivers.leads.state)
    (turn-few plain from behind.state behind.gone c.requires.may.range (serves-books plain K side (stream side from).driver.queue.messages from)
    (spare-low behind.state (omega (arith, e.delivers.left, ap spare e.delivers.leads.state, range-spare from c.requires.may.range))))

-- a driver's message goes whole
pub returns-in-Driver-clause-stops : goal.returns-in-Driver-clause-stops
returns-in-Driver-clause-stops g c =
    let from = state_in (g.B.Blocks.value c.args.store.now) (record c.args.self.now { enabled = c.remove.new.self }) in
    let free = free_in (g.B.Blocks.value c.turn_driver.new.store) in
    moves-taken c.remove.new.self (state_in (g.B.Blocks.value c.args.store.now) c.args.self.now) free c.args.name c.turn_driver.result
    (driver-moves g.M.Behaves.does c.args.name c.turn_driver.result from free c.in-Driver.is c.turn_driver.ensures.turn)

pub returns-in-Module-clause-stops : goal.returns-in-Module-clause-stops
returns-in-Module-clause-stops g c =
    moves-taken c.remove.new.self (state_in (g.B.Blocks.value c.args.store.now) c.args.self.now) (free_in (g.B.Blocks.value c.turn_module.new.store)) c.args.name c.turn_module.result
    (c.turn_module.ensures.stops c.in-Module.field-0 c.in-Module.is)
