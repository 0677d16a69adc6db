-- The first note is done, and then the rest.
use Rattle.strm_pair.proofs.Prelude.{◌≤◌, ◌∙◌, List, length, ap, sym, subst, arith, Option}
use Rattle.strm_pair.specs.Prelude.{QueueName, Note, noted}
use Rattle.strm_types.specs.Names.{enable_found}
use Rattle.strm_pair.specs.Nearest.{earlier_of, queue_noted}
use Rattle.strm_pair.proofs.Enabling.{found-room, noted-long}
use Rattle.strm_pair.proofs.NotesDone.{noted-first}
use Rattle.strm_pair.proofs.earlier.+note.Goals as goal

pub enable_found-requires : goal.enable_found-requires
enable_found-requires t c =
    let names = c.args.enabled.now in
    let earlier = earlier_of c.args.earlier in
    let n = c.in-Some.first.now in
    let ns = c.in-Some.rest.now in
    let all = subst (λ (ms : List Note). length (noted c.args.side c.args.place earlier ms names) ≤ 14) c.in-Some.ensures.cases.0 c.requires.few in
    let is = ap (λ (xs : List QueueName). length xs) (noted-first c.args.side c.args.place earlier n ns names) in
    let one : length (enable_found (queue_noted c.args.side c.args.place earlier n) names) ≤ 14 =
    omega (arith, all, is, noted-long c.args.side c.args.place earlier ns (enable_found (queue_noted c.args.side c.args.place earlier n) names)) in
    record {
      room = found-room c.queue_noted.result names
          (subst (λ (o : Option QueueName). length (enable_found o names) ≤ 14) (sym c.queue_noted.ensures) one);
    }

pub note-requires : goal.note-requires
note-requires t c =
    let names = c.args.enabled.now in
    let earlier = earlier_of c.args.earlier in
    let n = c.in-Some.first.now in
    let ns = c.in-Some.rest.now in
    let all = subst (λ (ms : List Note). length (noted c.args.side c.args.place earlier ms names) ≤ 14) c.in-Some.ensures.cases.0 c.requires.few in
    let is = noted-first c.args.side c.args.place earlier n ns names in
    let enabled = c.enable_found.ensures ∙ ap (λ (o : Option QueueName). enable_found o names) c.queue_noted.ensures in
    let less = ap (λ (ms : List Note). length ms) c.in-Some.ensures.cases.0 in (
      omega (arith, less),
      subst (λ (xs : List QueueName). length (noted c.args.side c.args.place earlier ns xs) ≤ 14) (sym enabled)
          (subst (λ (xs : List QueueName). length xs ≤ 14) is all),
    )

pub returns : goal.returns
returns t c =
    let names = c.args.enabled.now in
    let earlier = earlier_of c.args.earlier in
    let n = c.in-Some.first.now in
    let ns = c.in-Some.rest.now in
    let enabled = c.enable_found.ensures ∙ ap (λ (o : Option QueueName). enable_found o names) c.queue_noted.ensures in
    c.note.ensures
    ∙ ap (noted c.args.side c.args.place earlier ns) enabled
    ∙ sym (noted-first c.args.side c.args.place earlier n ns names)
    ∙ ap (λ (ms : List Note). noted c.args.side c.args.place earlier ms names) (sym c.in-Some.ensures.cases.0)
