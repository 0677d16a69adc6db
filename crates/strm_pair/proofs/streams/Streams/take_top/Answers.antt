-- The module on top is taken off its stack, its queues are no longer enabled, and those before it are.
use Rattle.strm_pair.proofs.Prelude.{ℕ, ◌≡◌, ◌≤◌, List, ◌∷◌, length, refl, ap, subst, sym, ◌∙◌, noted-same, slice_index_or, None}
use Rattle.strm_pair.specs.Prelude.{Way, Standing, stream, stands_of, places_of, without_module, earlier_at, noted, place_of}
use Rattle.strm_laws.proofs.EnabledExist.{MayBe, before-there}
use Rattle.strm_laws.proofs.EnabledFew.{few-enabled}
use Rattle.strm_pair.specs.declared.streams.Streams.{Streams}
use Rattle.strm_pair.specs.Nearest.{earlier_of}
use Rattle.strm_pair.specs.Pairs.{state_in}
use Rattle.strm_pair.proofs.Enabling.{noted-names, place-noted}
use Rattle.strm_pair.proofs.Sides.{modules-are}
use Rattle.strm_pair.proofs.Takings.{none-went, top-went}
use Rattle.strm_pair.proofs.streams.Streams.take_top.Goals as goal

-- what its queues say is there
pub note-requires : goal.note-requires
note-requires g c =
    let s = g.B.Blocks.value c.args.store.now in
    let p = c.args.self.now in
    let st = state_in s p in
    let side = c.args.side in
    let few = c.requires.rests.enabled in
    let took = rw c.in-Some.is at c.take_off.ensures.took in
    let these : (stream side st).modules ≡ took.top ∷ took.rest = modules-are s p side ∙ took.was in
    let place_is = c.place-place.ensures ∙ ap place_of took.name
    ∙ ap (λ (ms : List (Standing ℕ)). slice_index_or (places_of ms) 0 None) (sym these) in
    let notes = c.as_slice.result.now in
    let earlier = earlier_of c.earlier-earlier.result in
    let before : (way : Way) → MayBe (stands_of st) (earlier way) = λ way.
    subst (MayBe (stands_of st)) (sym (c.earlier-earlier.ensures s way)) (before-there (stands_of st) st refl side way 1) in
    let names = noted-names st few side c.place-place.result earlier notes (place-noted s p side c.place-place.result 0 notes place_is) before in
    let enabled = ap (λ (r : Streams). r.enabled) c.take_off.ensures.streams in
    record {
      few = subst (λ ns. length (noted side c.place-place.result earlier notes ns) ≤ 14) (sym enabled) (few-enabled few.all few.few _ names);
    }

pub returns-in_default-clause-taken : goal.returns-in_default-clause-taken
returns-in_default-clause-taken g c =
    let e = c.take_off.ensures in
    none-went c.args.side c.args.rule (g.B.Blocks.value c.args.store.now) (g.B.Blocks.value c.take_off.new.store) c.args.self.now c.take_off.new.self c.args.told.now c.take_off.new.told
    c.requires.rests.held (rw c.in_default.is at e.none) (rw c.in_default.is at e.took)

pub returns-clause-taken : goal.returns-clause-taken
returns-clause-taken g c =
    let s = g.B.Blocks.value c.args.store.now in
    let p = c.args.self.now in
    let st = state_in s p in
    let e = c.take_off.ensures in
    let taken = c.in-Some.taken in
    let took = rw c.in-Some.is at e.took in
    top-went c.args.side c.args.rule s p c.requires.rests.held c.args.told.now (g.B.Blocks.value c.take_off.new.store) c.take_off.new.self c.take_off.new.told taken c.forget.new.self e.streams took
    (c.forget.ensures ∙ ap (without_module c.args.side taken.name)
    (c.note.ensures
    ∙ noted-same c.args.side c.place-place.result (earlier_of c.earlier-earlier.result) (earlier_at c.args.side 1 st) (λ way. c.earlier-earlier.ensures s way) c.as_slice.result.now c.take_off.new.self.enabled
    ∙ ap (λ ns. noted c.args.side c.place-place.result (earlier_at c.args.side 1 st) ns c.take_off.new.self.enabled) c.as_slice.ensures.value
    ∙ ap (λ pl. noted c.args.side pl (earlier_at c.args.side 1 st) taken.notes.items c.take_off.new.self.enabled) c.place-place.ensures
    ∙ ap (λ names. noted c.args.side (place_of taken.name) (earlier_at c.args.side 1 st) taken.notes.items names) (ap (λ (r : Streams). r.enabled) e.streams)))

pub returns-in_default-clause-shelf : goal.returns-in_default-clause-shelf
returns-in_default-clause-shelf g c = c.take_off.ensures.shelf

pub returns-clause-shelf : goal.returns-clause-shelf
returns-clause-shelf g c = c.take_off.ensures.shelf
