-- The driver takes the message, and what it says of its queues is done.
use Rattle.strm_pair.proofs.Prelude.{ℕ, ◌≡◌, refl, ap, subst, sym, ◌∙◌, Some, can-in_hand}
use Rattle.strm_pair.specs.Prelude.{Driver, Across, Acted, tallied, driver_put, Queue, before_among, IsKeptAhead, earlier_at, noted, message_in}
use Rattle.strm_pair.specs.Prelude.{parcels_in, sent_of, OnlyQueue, queue_in, stands_of, token}
use Rattle.strm_laws.proofs.EnabledExist.{AreNoted}
use Rattle.strm_pair.specs.declared.ends.StreamEnd.{StreamEnd}
use Rattle.strm_pair.specs.Pairs.{end_at, kept_by, state_in, with_end}
use Rattle.strm_pair.proofs.DriverNoted.{driver-noted}
use Rattle.strm_pair.proofs.Enabling.{noted-few, stands-stack}
use Rattle.strm_pair.proofs.PutSteps.{driver-by, driver-room}
use Rattle.strm_pair.proofs.Sides.{modules-behind}
use Rattle.strm_pair.proofs.streams.Streams.put_driver.Goals as goal

pub put-acts-requires-clause-in_hand : goal.put-acts-requires-clause-in_hand
put-acts-requires-clause-in_hand g c = can-in_hand (g.B.Blocks.value c.args.store.now) (token c.args.message) (kept_by c.args.self.now) c.audit.ensures c.requires.may.can_put

pub put-acts-requires-clause-room : goal.put-acts-requires-clause-room
put-acts-requires-clause-room g c = driver-room c.args.to.way (g.B.Blocks.value c.args.store.now) (token c.args.message) c.requires.may.chain c.requires.room

-- what it says of its queue is there
pub note-requires : goal.note-requires
note-requires g c =
    let s = g.B.Blocks.value c.args.store.now in
    let p = c.args.self.now in
    let st = state_in s p in
    let side = c.args.to.side in
    let at = c.driver_place-at.result in
    let notes = c.as_slice.result.now in
    let end = record (end_at side p) { driver = c.put-acts.new.queue } in
    let one = with_end side end p in
    let did : StreamEnd → Acted ℕ (Queue ℕ) = λ x. driver_put side c.across-across.result (record c.args.to { at = at })
    (message_in s (token c.args.message)) (queue_in s x.driver) in
    let said = c.as_slice.ensures.value ∙ subst (λ (x : StreamEnd). c.put-acts.result.notes.items ≡ (did x).notes) c.get_mut.ensures.value c.put-acts.ensures.notes in
    let fine = subst (λ ns. AreNoted (stands_of st) side (Some Driver) ns) (sym said) (driver-noted st side c.across-across.result (record c.args.to { at = at })
    (message_in s (token c.args.message)) (queue_in s (end_at side p).driver)) in
    rw c.get_mut.ensures.value (record { few = (s, noted-few s s p one side (Some Driver) at notes c.requires.enabled (stands-stack s s p side end refl) refl fine) })

pub returns-clause-does : goal.returns-clause-does
returns-clause-does g c =
    let s = g.B.Blocks.value c.args.store.now in
    let p = c.args.self.now in
    let side = c.args.to.side in
    let at = c.driver_place-at.result in
    let acts = c.put-acts.result in
    let t = g.B.Blocks.value c.put-acts.new.store in
    let f = c.args.told.now in
    let did : StreamEnd → Acted ℕ (Queue ℕ) = λ x. driver_put side c.across-across.result (record c.args.to { at = at })
    (message_in s (token c.args.message)) (queue_in s x.driver) in
    let is = c.get_mut.ensures.value in
    let e = c.put-acts.ensures in
    let end = record (end_at side p) { driver = c.put-acts.new.queue } in
    driver-by side s (g.B.Blocks.value c.put-acts.new.store) p c.note.new.self c.put-acts.new.queue (token c.args.message) c.args.to at c.across-across.result acts c.args.told.now c.put-acts.new.told
    c.audit.ensures c.requires.may.can_put c.requires.may.chain refl (c.driver_place-at.ensures.place s) (c.across-across.ensures s) c.requires.may.beside
    (subst (λ (x : StreamEnd). queue_in t c.put-acts.new.queue ≡ (did x).state) is e.state)
    (subst (λ (x : StreamEnd). acts.notes.items ≡ (did x).notes) is e.notes)
    (subst (λ (x : StreamEnd). parcels_in t (sent_of acts.sent) ≡ (did x).sent) is e.sent)
    (subst (λ (x : StreamEnd). c.put-acts.new.told ≡ tallied (did x).gone f) is e.told)
    (subst (λ (x : StreamEnd). OnlyQueue s t x.driver c.put-acts.new.queue) is e.only)
    e.chains e.hands e.spends e.pool
    (rw is at (c.note.ensures s)
    ∙ ap (λ ns. record (with_end side end p) { enabled = noted side (Some Driver) (earlier_at side at (state_in s (with_end side end p))) ns p.enabled }) c.as_slice.ensures.value
    ∙ ap (λ ms. record (with_end side end p) { enabled = noted side (Some Driver) (λ way. before_among side way at ms) acts.notes.items p.enabled }) (modules-behind s p side end refl))

pub returns-clause-blocks : goal.returns-clause-blocks
returns-clause-blocks g c = λ way is.
    let st = state_in (g.B.Blocks.value c.args.store.now) c.args.self.now in
    c.put-acts.ensures.blocks is.held (ap (λ (x : Across). x.ended) (c.across-across.ensures (g.B.Blocks.value c.args.store.now)) ∙ (subst (λ w. IsKeptAhead w c.args.to.side st) way is.kept).opened)
