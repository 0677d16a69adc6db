-- What was made is told, and fits the books.
use Rattle.strm_pair.proofs.Prelude.{◌<◌, ◌-◌, length, map, sym, ap, ◌∙◌, arith, slice_index_or, None, serve-names}
use Rattle.strm_pair.specs.Prelude.{MasterToSlave, SlaveToMaster, tallied, places_of, plain, earlier_at, noted, module_name, called, stands_of}
use Rattle.strm_laws.specs.State as state
use Rattle.strm_pair.specs.declared.ends.StreamEnd.{StreamEnd}
use Rattle.strm_pair.specs.declared.service_calls.Made.{Made}
use Rattle.strm_pair.specs.declared.streams.Streams.{Streams}
use Rattle.strm_pair.specs.ModuleServed.{between, call_of, stop_in, with_more}
use Rattle.strm_pair.specs.Pairs.{end_at, state_in}
use Rattle.strm_pair.proofs.Enabling.{noted-few, place-noted, stands-stack}
use Rattle.strm_pair.proofs.NearestStays.{before-stays}
use Rattle.strm_pair.proofs.ServeSteps.{acts-by, made-fits, master-between, slave-between, tells-by, within-any}
use Rattle.strm_pair.proofs.Sides.{modules-are}
use Rattle.strm_pair.proofs.streams.Streams.act.Goals as goal
use Rattle.strm_pair.specs.Stacks.{modules_in}

pub place_at-place-requires-clause-within : goal.place_at-place-requires-clause-within
place_at-place-requires-clause-within g c = λ s.
    let p = c.args.self.now in
    let here = c.args.here in
    let low = within-any (g.B.Blocks.value c.args.store.now) s p here.side here.at c.requires.may.within in
    let same = ap length (modules-are s p here.side) in
    let there = ap (λ (e : StreamEnd). length (modules_in s e.stack)) c.end.ensures.end in
    omega (arith, low, same, there)

-- what it says of its queues is there
pub note-requires : goal.note-requires
note-requires g c =
    let K = g.M.Behaves.does in
    let s = g.B.Blocks.value c.args.store.now in
    let t = g.B.Blocks.value c.serve_at-served.new.store in
    let p = c.args.self.now in
    let y = c.serve_at-served.new.self in
    let here = c.args.here in
    let e = c.serve_at-served.ensures in
    let notes = c.as_slice.result.now in
    let names = ap (λ ls. map module_name ls) e.serves.state
    ∙ serve-names K plain here 0 c.args.again (stop_in (call_of c.serve_at-served.result)) (here.at - 1) (modules_in s (end_at here.side p).stack) in
    let same = ap (λ (z : Streams). stands_of (state_in t z)) e.streams
    ∙ stands-stack s t p here.side (record (end_at here.side p) { stack = (end_at here.side y).stack }) names in
    let place_is = c.place_at-place.ensures s ∙ ap (λ (on : state.Stream _). slice_index_or (places_of on.modules) (here.at - 1) None) (c.end.ensures.stream s) in
    let fine = place-noted s p here.side c.place_at-place.result (here.at - 1) notes place_is in
    record {
      few = (t, noted-few s t p y here.side c.place_at-place.result here.at notes c.requires.may.enabled same (ap (λ (z : Streams). z.enabled) e.streams) fine);
    }

pub book_made-requires-clause-master : goal.book_made-requires-clause-master
book_made-requires-clause-master g c =
    let K = g.M.Behaves.does in
    let s = g.B.Blocks.value c.args.store.now in
    let t = g.B.Blocks.value c.serve_at-served.new.store in
    let p = c.args.self.now in
    let q = c.serve_at-served.new.self in
    let here = c.args.here in
    let st = state_in s p in
    let f = c.args.told.now in
    let f' = c.serve_at-served.new.told in
    let call = call_of c.serve_at-served.result in
    let e = c.serve_at-served.ensures in
    let x = (end_at here.side q).stack in
    let told = (called here K c.args.again (stop_in call) (state.stream here.side st).modules).gone in
    let tells = tells-by K s t p q x here c.args.again c.serve_at-served.result f f' e.serves in
    let low = let inside = c.requires.may.inside in let within = c.requires.may.within in let l : here.at - 1 < length (state.stream here.side st).modules = omega arith in l in
    let tallies = e.serves.tells ∙ ap (λ ls. tallied (called here K c.args.again (stop_in call) ls).gone f) (sym (modules-are s p here.side)) in
    let few = c.of-before.ensures.few.0 in
    let counts = c.of-before.ensures.counts in
    let before = ap (λ (m : Made). m.from_master) counts in
    let made = ap (λ k. between k f'.made_from_master) before ∙ master-between K here c.args.again call st tells c.requires.may.begins low c.requires.books f f' (omega (arith, few, before)) tallies in
    let book = ap (λ (y : Streams). y.books.master.made) (c.note.ensures s) ∙ ap (λ (y : Streams). y.books.master.made) e.streams in
    let fits = made-fits K here c.args.again call st tells c.requires.may.begins low c.requires.books MasterToSlave in
    λ some. omega (arith, made, book, fits)

pub book_made-requires-clause-slave : goal.book_made-requires-clause-slave
book_made-requires-clause-slave g c =
    let K = g.M.Behaves.does in
    let s = g.B.Blocks.value c.args.store.now in
    let t = g.B.Blocks.value c.serve_at-served.new.store in
    let p = c.args.self.now in
    let q = c.serve_at-served.new.self in
    let here = c.args.here in
    let st = state_in s p in
    let f = c.args.told.now in
    let f' = c.serve_at-served.new.told in
    let call = call_of c.serve_at-served.result in
    let e = c.serve_at-served.ensures in
    let x = (end_at here.side q).stack in
    let tells = tells-by K s t p q x here c.args.again c.serve_at-served.result f f' e.serves in
    let low = let inside = c.requires.may.inside in let within = c.requires.may.within in let l : here.at - 1 < length (state.stream here.side st).modules = omega arith in l in
    let tallies = e.serves.tells ∙ ap (λ ls. tallied (called here K c.args.again (stop_in call) ls).gone f) (sym (modules-are s p here.side)) in
    let few = c.of-before.ensures.few.1 in
    let before = ap (λ (m : Made). m.from_slave) c.of-before.ensures.counts in
    let made = ap (λ k. between k f'.made_from_slave) before ∙ slave-between K here c.args.again call st tells c.requires.may.begins low c.requires.books f f' (omega (arith, few, before)) tallies in
    let book = ap (λ (y : Streams). y.books.slave.made) (c.note.ensures s) ∙ ap (λ (y : Streams). y.books.slave.made) e.streams in
    let fits = made-fits K here c.args.again call st tells c.requires.may.begins low c.requires.books SlaveToMaster in
    λ some. omega (arith, made, book, fits)

pub returns : goal.returns
returns g c =
    let K = g.M.Behaves.does in
    let s = g.B.Blocks.value c.args.store.now in
    let t = g.B.Blocks.value c.serve_at-served.new.store in
    let p = c.args.self.now in
    let y = c.serve_at-served.new.self in
    let here = c.args.here in
    let st = state_in s p in
    let f = c.args.told.now in
    let f' = c.serve_at-served.new.told in
    let served = c.serve_at-served.result in
    let call = call_of served in
    let e = c.serve_at-served.ensures in
    let x = (end_at here.side y).stack in
    let place = c.place_at-place.result in
    let earlier = earlier_at here.side here.at (state_in t y) in
    let ms = modules_in s (end_at here.side p).stack in
    let names = ap (λ ls. map module_name ls) e.serves.state ∙ serve-names K plain here 0 c.args.again (stop_in call) (here.at - 1) ms in
    let place_is = c.place_at-place.ensures s ∙ ap (λ (on : state.Stream _). slice_index_or (places_of on.modules) (here.at - 1) None) (c.end.ensures.stream s) in
    let tells = tells-by K s t p c.book_made.new.self x here c.args.again served f f' e.serves in
    let low = let inside = c.requires.may.inside in let within = c.requires.may.within in let l : here.at - 1 < length (state.stream here.side st).modules = omega arith in l in
    let tallies = e.serves.tells ∙ ap (λ ls. tallied (called here K c.args.again (stop_in call) ls).gone f) (sym (modules-are s p here.side)) in
    let counts = c.of-before.ensures.counts in
    let first = ap (λ (m : Made). m.from_master) counts in
    let second = ap (λ (m : Made). m.from_slave) counts in
    let few = c.of-before.ensures.few in
    let m_is = ap (λ k. between k f'.made_from_master) first ∙ master-between K here c.args.again call st tells c.requires.may.begins low c.requires.books f f' (omega (arith, few.0, first)) tallies in
    let n_is = ap (λ k. between k f'.made_from_slave) second ∙ slave-between K here c.args.again call st tells c.requires.may.begins low c.requires.books f f' (omega (arith, few.1, second)) tallies in
    let m = between c.of-before.result.from_master f'.made_from_master in
    let n = between c.of-before.result.from_slave f'.made_from_slave in
    let at : Streams → Streams = λ z. record z { enabled = noted here.side place earlier served.acts.notes.items z.enabled; books = with_more m n z.books } in
    acts-by K s t p c.book_made.new.self x here c.args.again served f f' place earlier m n c.audit.ensures c.requires.may.hand c.requires.may.enabled c.requires.may.beside
    place_is (λ way. before-stays s t p y here.side way here.at (c.requires.may.beside here.side).stack e.serves.held names) e.serves m_is n_is
    (c.book_made.ensures
    ∙ ap (λ (z : Streams). record z { books = with_more m n z.books }) (c.note.ensures t ∙ ap (λ ns. record y { enabled = noted here.side place earlier ns y.enabled }) c.as_slice.ensures.value)
    ∙ ap at e.streams)
