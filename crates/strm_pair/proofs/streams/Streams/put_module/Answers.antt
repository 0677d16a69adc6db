-- The module takes the message, what it says of its queues is done by how the stream was before, and what it made is told, and fits the books.
use Rattle.strm_pair.proofs.Prelude.{◌-◌, map, sym, ap, ◌∙◌, arith, slice_index_or, None, keep-names}
use Rattle.strm_pair.specs.Prelude.{MasterToSlave, SlaveToMaster, tallied, places_of, plain, earlier_at, noted, module_name, message_in, stands_of, token}
use Rattle.std.specs.List.{list_all}
use Rattle.strm_types.specs.Tables.{name_holds}
use Rattle.strm_laws.specs.State as state
use Rattle.strm_pair.specs.declared.service_calls.Made.{Made}
use Rattle.strm_pair.specs.declared.streams.Streams.{Streams}
use Rattle.strm_pair.specs.ModuleServed.{between, with_more}
use Rattle.strm_pair.specs.Pairs.{end_at, state_in}
use Rattle.strm_pair.specs.PutBy.{taken_at}
use Rattle.strm_pair.specs.Stacks.{modules_in}
use Rattle.strm_pair.proofs.Enabling.{noted-few, place-noted, stands-stack}
use Rattle.strm_pair.proofs.Holding.{place-holds, stands-kept}
use Rattle.strm_pair.proofs.ModuleSteps.{module-by, put-between, put-fits}
use Rattle.strm_pair.proofs.NearestStays.{before-stays}
use Rattle.strm_pair.proofs.PlaceCosts.{plain-few}
use Rattle.strm_pair.proofs.Sides.{modules-are}
use Rattle.strm_pair.proofs.streams.Streams.put_module.Goals as goal

-- what it says of its queues is there
pub note-requires : goal.note-requires
note-requires g c =
    let K = g.M.Behaves.does in
    let s = g.B.Blocks.value c.args.store.now in
    let t = g.B.Blocks.value c.put_on_stack-acts.new.store in
    let p = c.args.self.now in
    let y = c.put_on_stack-acts.new.self in
    let to = c.args.to in
    let e = c.put_on_stack-acts.ensures in
    let notes = c.as_slice.result.now in
    let names = ap (λ ls. map module_name ls) e.takes.state
    ∙ keep-names K plain 0 (to.at - 1) to (message_in s (token c.args.message)) (modules_in s (end_at to.side p).stack) in
    let same = ap (λ (z : Streams). stands_of (state_in t z)) e.streams
    ∙ stands-stack s t p to.side (record (end_at to.side p) { stack = (end_at to.side y).stack }) names in
    let place_is = c.place_at-place.ensures s ∙ ap (λ (on : state.Stream _). slice_index_or (places_of on.modules) (to.at - 1) None) (c.end.ensures.stream s) in
    let fine = place-noted s p to.side c.place_at-place.result (to.at - 1) notes place_is in
    record { few = (t, noted-few s t p y to.side c.place_at-place.result to.at notes c.requires.enabled same (ap (λ (z : Streams). z.enabled) e.streams) fine) }

pub book_made-requires-clause-master : goal.book_made-requires-clause-master
book_made-requires-clause-master g c =
    let K = g.M.Behaves.does in
    let s = g.B.Blocks.value c.args.store.now in
    let i = token c.args.message in
    let p = c.args.self.now in
    let to = c.args.to in
    let m = message_in s i in
    let st = state_in s p in
    let f = c.args.told.now in
    let f' = c.put_on_stack-acts.new.told in
    let e = c.put_on_stack-acts.ensures in
    let small = plain-few s i c.audit.ensures in
    let tells = e.takes.told ∙ ap (λ ls. tallied (taken_at K to m ls).gone f) (sym (modules-are s p to.side)) in
    let few = c.of-before.ensures.few in
    let first = ap (λ (b : Made). b.from_master) c.of-before.ensures.counts in
    let second = ap (λ (b : Made). b.from_slave) c.of-before.ensures.counts in
    let made = ap (λ k. between k f'.made_from_master) first ∙ put-between to m st small K MasterToSlave f f' (omega (arith, few.0, first)) (omega (arith, few.1, second)) tells in
    let book = ap (λ (y : Streams). y.books.master.made) (c.note.ensures s) ∙ ap (λ (y : Streams). y.books.master.made) e.streams in
    λ some. (let fits = put-fits to m st small K c.requires.books MasterToSlave (omega (arith, some, made)) in omega (arith, made, book, fits))

pub book_made-requires-clause-slave : goal.book_made-requires-clause-slave
book_made-requires-clause-slave g c =
    let K = g.M.Behaves.does in
    let s = g.B.Blocks.value c.args.store.now in
    let i = token c.args.message in
    let p = c.args.self.now in
    let to = c.args.to in
    let m = message_in s i in
    let st = state_in s p in
    let f = c.args.told.now in
    let f' = c.put_on_stack-acts.new.told in
    let e = c.put_on_stack-acts.ensures in
    let small = plain-few s i c.audit.ensures in
    let tells = e.takes.told ∙ ap (λ ls. tallied (taken_at K to m ls).gone f) (sym (modules-are s p to.side)) in
    let few = c.of-before.ensures.few in
    let first = ap (λ (b : Made). b.from_master) c.of-before.ensures.counts in
    let second = ap (λ (b : Made). b.from_slave) c.of-before.ensures.counts in
    let made = ap (λ k. between k f'.made_from_slave) second ∙ put-between to m st small K SlaveToMaster f f' (omega (arith, few.0, first)) (omega (arith, few.1, second)) tells in
    let book = ap (λ (y : Streams). y.books.slave.made) (c.note.ensures s) ∙ ap (λ (y : Streams). y.books.slave.made) e.streams in
    λ some. (let fits = put-fits to m st small K c.requires.books SlaveToMaster (omega (arith, some, made)) in omega (arith, made, book, fits))

pub returns-clause-does : goal.returns-clause-does
returns-clause-does g c =
    let K = g.M.Behaves.does in
    let s = g.B.Blocks.value c.args.store.now in
    let i = token c.args.message in
    let p = c.args.self.now in
    let to = c.args.to in
    let m = message_in s i in
    let st = state_in s p in
    let f = c.args.told.now in
    let f' = c.put_on_stack-acts.new.told in
    let y = c.put_on_stack-acts.new.self in
    let acts = c.put_on_stack-acts.result in
    let e = c.put_on_stack-acts.ensures in
    let x = (end_at to.side y).stack in
    let place = c.place_at-place.result in
    let t = g.B.Blocks.value c.put_on_stack-acts.new.store in
    let earlier = earlier_at to.side to.at (state_in t y) in
    let names = ap (λ ls. map module_name ls) e.takes.state ∙ keep-names K plain 0 (to.at - 1) to m (modules_in s (end_at to.side p).stack) in
    let place_is = c.place_at-place.ensures s ∙ ap (λ (on : state.Stream _). slice_index_or (places_of on.modules) (to.at - 1) None) (c.end.ensures.stream s) in
    let small = plain-few s i c.audit.ensures in
    let tells = e.takes.told ∙ ap (λ ls. tallied (taken_at K to m ls).gone f) (sym (modules-are s p to.side)) in
    let few = c.of-before.ensures.few in
    let first = ap (λ (b : Made). b.from_master) c.of-before.ensures.counts in
    let second = ap (λ (b : Made). b.from_slave) c.of-before.ensures.counts in
    let a = between c.of-before.result.from_master f'.made_from_master in
    let b = between c.of-before.result.from_slave f'.made_from_slave in
    let a_is = ap (λ k. between k f'.made_from_master) first ∙ put-between to m st small K MasterToSlave f f' (omega (arith, few.0, first)) (omega (arith, few.1, second)) tells in
    let b_is = ap (λ k. between k f'.made_from_slave) second ∙ put-between to m st small K SlaveToMaster f f' (omega (arith, few.0, first)) (omega (arith, few.1, second)) tells in
    let at : Streams → Streams = λ z. record z
    { enabled = noted to.side place earlier acts.notes.items z.enabled; books = with_more a b z.books } in
    module-by K s t p c.book_made.new.self x i to place earlier acts f f' a b
    c.audit.ensures c.requires.may.can_put place_is (λ way. before-stays s t p y to.side way to.at (c.requires.may.beside to.side).stack e.takes.held names) c.requires.may.beside e.takes a_is b_is
    (c.book_made.ensures
    ∙ ap (λ (z : Streams). record z { books = with_more a b z.books })
    (c.note.ensures t ∙ ap (λ ns. record y { enabled = noted to.side place earlier ns y.enabled }) c.as_slice.ensures.value)
    ∙ ap at e.streams)

pub returns-clause-blocks : goal.returns-clause-blocks
returns-clause-blocks g c = λ is.
    let s = g.B.Blocks.value c.args.store.now in
    let to = c.args.to in
    let ms = modules_in s (end_at to.side c.args.self.now).stack in
    let kept = ap (λ ps. list_all name_holds (map module_name ps)) (sym (modules-are s c.args.self.now to.side)) ∙ stands-kept to.side
    (state_in s c.args.self.now) is.kept.kept in
    c.put_on_stack-acts.ensures.takes.blocks (place-holds (to.at - 1) ms kept) is.held
