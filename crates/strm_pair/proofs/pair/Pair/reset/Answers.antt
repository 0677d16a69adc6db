-- The store is emptied in place, and what stands beside it is as new.
use Rattle.strm_pair.proofs.Prelude.{◌≡◌, ◌∙◌, ap, arith}
use Rattle.strm_pair.specs.Prelude.{PairState, new_pair, empty_store, StoreValue}
use Rattle.strm_pair.specs.BaseTexts.{start_in}
use Rattle.strm_pair.proofs.BaseRows.{is-written}
use Rattle.strm_pair.proofs.Fresh.{AreFresh, fresh-has-image, fresh-kept, fresh-room, fresh-shown, fresh-start}
use Rattle.strm_frame.proofs.WidePools.{wide-on}
use Rattle.strm_pair.specs.Pairs.{state_in}
use Rattle.strm_pair.proofs.ShelfSteps.{all-back, stocked-new, stocked-room}
use Rattle.strm_pair.proofs.pair.Pair.reset.Goals as goal

pub write-requires-clause-held : goal.write-requires-clause-held
write-requires-clause-held g c =
    let l = c.self.inside.limits in
    let fresh = c.renew.ensures in
    let kept = c.self.invariant.kept in
    let old = g.B.Blocks.value c.self.inside.store in
    let blank : g.B.Blocks.value c.reset.new.self ≡ empty_store l.mblks l.dblks = c.reset.ensures ∙ ap (λ m. empty_store m old.dblks) kept.mblks ∙ ap (λ d. empty_store l.mblks d) kept.dblks in
    rw blank (fresh.held old l.mblks l.dblks kept.held.beside)

pub write-requires-clause-has : goal.write-requires-clause-has
write-requires-clause-has g c =
    let l = c.self.inside.limits in
    let fresh = c.renew.ensures in
    let kept = c.self.invariant.kept in
    let old = g.B.Blocks.value c.self.inside.store in
    let blank : g.B.Blocks.value c.reset.new.self ≡ empty_store l.mblks l.dblks = c.reset.ensures ∙ ap (λ m. empty_store m old.dblks) kept.mblks ∙ ap (λ d. empty_store l.mblks d) kept.dblks in
    fresh-has-image _ c.renew.new.self _ l.mblks l.dblks blank (record { state = fresh.state old l.mblks l.dblks kept.held.beside; held = fresh.held old l.mblks l.dblks kept.held.beside }) c.none-self-inside.ensures

pub write-requires-clause-room : goal.write-requires-clause-room
write-requires-clause-room g c =
    let l = c.self.inside.limits in
    let fresh = c.renew.ensures in
    let kept = c.self.invariant.kept in
    let old = g.B.Blocks.value c.self.inside.store in
    let blank : g.B.Blocks.value c.reset.new.self ≡ empty_store l.mblks l.dblks = c.reset.ensures ∙ ap (λ m. empty_store m old.dblks) kept.mblks ∙ ap (λ d. empty_store l.mblks d) kept.dblks in
    let room = fresh-room _ c.renew.new.self _ l.mblks l.dblks blank (record { state = fresh.state old l.mblks l.dblks kept.held.beside; held = fresh.held old l.mblks l.dblks kept.held.beside }) c.none-self-inside.ensures in
    omega (arith, room, c.self.invariant.written.room)

pub invariant_of-self : goal.invariant_of-self
invariant_of-self g c =
    let K = g.M.Behaves.does in
    let l = c.self.inside.limits in
    let fresh = c.renew.ensures in
    let kept = c.self.invariant.kept in
    let old = g.B.Blocks.value c.self.inside.store in
    let blank : g.B.Blocks.value c.reset.new.self ≡ empty_store l.mblks l.dblks = c.reset.ensures ∙ ap (λ m. empty_store m old.dblks) kept.mblks ∙ ap (λ d. empty_store l.mblks d) kept.dblks in
    let as_new : AreFresh l.mblks l.dblks c.renew.new.self = record { state = fresh.state old l.mblks l.dblks kept.held.beside; held = fresh.held old l.mblks l.dblks kept.held.beside } in
    let start = fresh-start _ c.renew.new.self (start_in c.write.new.self) _ _ l.mblks l.dblks blank as_new c.none-self-inside.ensures c.none-self-inside-2.ensures c.write.ensures.start in
    record {
      kept = fresh-kept K _ _ _ _ l _ start blank as_new c.clear.ensures.empty (c.clear.ensures.most_entries ∙ kept.events) (c.clear.ensures.most_bytes ∙ kept.bytes) c.none-self-inside.ensures;
      wide =
          (let new = g.B.Blocks.value c.reset.new.self in
          let mblks = ap (λ (v : StoreValue). v.mblks) c.reset.ensures in
          let dblks = ap (λ (v : StoreValue). v.dblks) c.reset.ensures in
          wide-on g.M.OwnModule.wide old new mblks dblks c.self.invariant.wide);
      stocked =
          stocked-new g.M.OwnModule.queued c.renew.new.shelf (state_in (g.B.Blocks.value c.reset.new.self) c.renew.new.self) (ap (λ v. state_in v c.renew.new.self) blank ∙ as_new.state)
          (all-back g.M.OwnModule.queued c.self.inside.shelf c.renew.new.shelf old c.self.inside.streams kept.held.beside c.self.invariant.stocked fresh.shelf);
      written = is-written c.write.new.self _ _ _ l c.write.ensures.start c.write.ensures.text (omega (arith, c.self.invariant.written.room, c.write.ensures.memory));
    }

pub returns : goal.returns
returns g c =
    let l = c.self.inside.limits in
    let fresh = c.renew.ensures in
    let kept = c.self.invariant.kept in
    let old = g.B.Blocks.value c.self.inside.store in
    let blank : g.B.Blocks.value c.reset.new.self ≡ empty_store l.mblks l.dblks = c.reset.ensures ∙ ap (λ m. empty_store m old.dblks) kept.mblks ∙ ap (λ d. empty_store l.mblks d) kept.dblks in
    let as_new : AreFresh l.mblks l.dblks c.renew.new.self = record { state = fresh.state old l.mblks l.dblks kept.held.beside; held = fresh.held old l.mblks l.dblks kept.held.beside } in
    let start = fresh-start _ c.renew.new.self (start_in c.write.new.self) _ _ l.mblks l.dblks blank as_new c.none-self-inside.ensures c.none-self-inside-2.ensures c.write.ensures.start in
    fresh-shown _ _ _ _ l _ start blank as_new c.clear.ensures.empty c.none-self-inside.ensures ∙ ap (λ (v : PairState). new_pair v.limits) c.self.view_is

pub renew-requires : goal.renew-requires
renew-requires g c =
    stocked-room g.M.OwnModule.queued c.self.inside.shelf (g.B.Blocks.value c.self.inside.store) c.self.inside.streams c.self.invariant.kept.held.beside c.self.invariant.stocked
