-- The nearest module below has its messages on its own queue alone, and before all modules comes the other side's driver.
use Rattle.strm_pair.proofs.Prelude.{ℕ, ◌≡◌, ◌≤◌, ◌-◌, List, arith, sym, ap, subst, ◌∙◌, [], length, length-map, nat_lt, not, min, None, IfSome, slice_index_or}
use Rattle.strm_pair.specs.Prelude.{MODULES, Up, QueueName, Side, Stream, stream, Standing, is_none_left, at_place, messages_at, before_by, places_of}
use Rattle.strm_types.specs.ModuleQueues.{place_before}
use Rattle.strm_laws.specs.Earlier.{before_modules, queue_named}
use Rattle.strm_laws.specs.Pushes.{messages_on}
use Rattle.strm_frame.specs.Stacks.{IsPlace}
use Rattle.strm_pair.specs.declared.ends.StreamEnd.{StreamEnd}
use Rattle.strm_pair.specs.AnyModules.{module_in}
use Rattle.strm_pair.specs.Pairs.{state_in}
use Rattle.strm_pair.specs.Stacks.{IsStackHeld}
use Rattle.strm_pair.specs.Streams.{AreApart}
use Rattle.strm_pair.proofs.Coming.{driver-waits, module-waits}
use Rattle.strm_pair.proofs.Sides.{modules-are}
use Rattle.strm_pair.proofs.streams.Streams.waits_below.Goals as goal

pub sizes-requires : goal.sizes-requires
sizes-requires g c =
    let inside = subst (IsPlace (length c.end.result.now.stack.modules.items)) c.in-Some.is c.place_before.ensures.inside in
    let held = subst (λ (e : StreamEnd). IsStackHeld (g.B.Blocks.value c.args.store.now) e.stack) (sym c.end.ensures.end) (c.requires c.args.side).stack in
    (omega arith, (inside.0, (inside.1, held)))

pub returns-in-Some : goal.returns-in-Some
returns-in-Some g c =
    let s = g.B.Blocks.value c.args.store.now in
    let p = c.args.self.now in
    let st = state_in s p in
    let side = c.args.side in
    let items = c.end.result.now.stack.modules.items in
    let are = ap (λ (t : Stream ℕ). t.modules) (sym (c.end.ensures.stream s)) in
    let place = c.in-Some.place in
    let inside = subst (IsPlace (length items)) c.in-Some.is c.place_before.ensures.inside in
    let found = ap (place_before Up 1) are ∙ sym (c.place_before.ensures.place s) ∙ c.in-Some.is in
    let within = subst (λ (ms : List (Standing ℕ)). place ≤ length ms) (sym are) (omega (arith, inside.1, length-map items (module_in s))) in
    let apart = subst AreApart (sym (modules-are s p side)) (c.requires side).once in
    let long = c.sizes.ensures.messages ∙ ap (λ ms. length (at_place (messages_at Up) [] place ms)) (sym are) in
    subst (λ o. IfSome (before_by side Up 1 (places_of (stream side st).modules) o) (λ (name : QueueName). nat_lt 0 c.sizes.result.0 ≡ not (is_none_left (messages_on name st))))
    (sym found)
    (subst (λ n. IfSome (queue_named side Up (slice_index_or (places_of (stream side st).modules) (place - 1) None)) (λ (name : QueueName). nat_lt 0 n ≡ not (is_none_left (messages_on name st))))
    (sym long) (module-waits side st place apart inside.0 within))

pub returns-in-None : goal.returns-in-None
returns-in-None g c =
    let s = g.B.Blocks.value c.args.store.now in
    let p = c.args.self.now in
    let st = state_in s p in
    let side = c.args.side in
    let are = ap (λ (t : Stream ℕ). t.modules) (sym (c.end.ensures.stream s)) in
    let found = ap (place_before Up 1) are ∙ sym (c.place_before.ensures.place s) ∙ c.in-None.is in
    let waits = c.driver_waits.ensures ∙ ap (λ (sd : Side). not (is_none_left (stream sd st).driver.queue.messages)) c.other.ensures in
    subst (λ o. IfSome (before_by side Up 1 (places_of (stream side st).modules) o) (λ (name : QueueName). c.driver_waits.result ≡ not (is_none_left (messages_on name st))))
    (sym found)
    (subst
    (λ b. IfSome (before_modules side Up (min MODULES (length (places_of (stream side st).modules))) 1) (λ (name : QueueName). b ≡ not (is_none_left (messages_on name st))))
    (sym waits) (driver-waits side st))
