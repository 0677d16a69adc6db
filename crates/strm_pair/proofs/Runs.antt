-- Turns one after the other.
use Rattle.strm_pair.proofs.Prelude.{ℕ, suc, ◌≡◌, ◌≤◌, ◌+◌, true, List, [], ◌∷◌, length, length-append, refl, ap, ◌∙◌, subst, arith, None, Some}
use Rattle.strm_pair.proofs.Prelude.{nat_lt, nat_le, slice_get, nat_tests, both-true, turn-allowed}
use Rattle.strm_pair.specs.Prelude.{Turn, Turned, STOP_BLOCKS, QueueName, PlainEntry, room_used, turn_blocks, PairState, AddsEntry, RanTurns}
use Rattle.strm_pair.specs.Prelude.{next_refused, queue_refused, enough, in_range, Restorable, stands_of, Behaviour}
use Rattle.strm_laws.specs.Pair.{Stops, refused_of}
use Rattle.strm_laws.specs.Rest.{EchoesOnce, work}
use Rattle.strm_laws.proofs.RestRuns.{echoed-runs, next-goes}
use Rattle.strm_pair.specs.Running.{IsRunning}

pub none-first : {A : Type 0} (xs : List A) → slice_get xs 0 ≡ None → xs ≡ []
none-first [] none = refl
none-first (x ∷ xs) none = absurd (cc)

pub next-is : (p : PairState) (name : QueueName) → slice_get p.state.enabled 0 ≡ Some name → next_refused p ≡ queue_refused p name
next-is p name first = ap (λ o. refused_of p o) first

-- the queue that was enabled first, of a full journal
pub full-refuses : (p : PairState) (name : QueueName) → p.limits.journal_events ≤ length p.journal → queue_refused p name ≡ None → ⊥
full-refuses p name full none =
    let room = both-true (nat_lt (length p.journal) p.limits.journal_events) (nat_le (room_used p.journal + 0) p.limits.journal_bytes)
    (turn-allowed p.state p.journal p.limits (enough (turn_blocks name.place) p.free) name none).2 in
    (let less = room.0 in grind (arith, nat_tests, full))

pub one-more : (K : Behaviour) (turns left : ℕ) (old mid new : PairState) (name : QueueName) (turn : Turn) → IsRunning K turns left old mid → slice_get mid.state.enabled 0 ≡ Some name
    → AddsEntry K mid new (Turned name turn) → Stops mid new name turn → IsRunning K (turns + 1) left old new
one-more K turns left old mid new name turn run first adds stops = record {
  ran = subst (λ n. RanTurns K n old new) (let e : suc turns ≡ turns + 1 = omega arith in e) (mid, (run.ran, record { name = name; turn = turn; first = first; adds = adds; stops = stops }));
  entries = ap (λ (es : List PlainEntry). length es) adds.journal ∙ length-append mid.journal (Turned name turn ∷ []) ∙ (let same = run.entries in omega arith);
  limits = adds.limits ∙ run.limits;
  room = run.room;
}

-- Where turns come to rest, and blocks and books last, the next one isn't refused.
pub next-allowed : (K : Behaviour) (turns : ℕ) (old new : PairState) → RanTurns K turns old new → Restorable old.state → EchoesOnce (stands_of old.state) → length old.journal + work old.state ≤ old.limits.journal_events
    → room_used old.journal ≤ old.limits.journal_bytes → in_range new.state ≡ true → enough STOP_BLOCKS new.free ≡ true → next_refused new ≡ None
next-allowed K turns old new ran good once events bytes range blocks = next-goes K turns old new ran (echoed-runs K turns old new ran once good).0.1 events bytes range blocks
