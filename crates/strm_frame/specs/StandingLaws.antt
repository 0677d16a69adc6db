-- A module stands for the same, and fits, where its own lists are the same and what it keeps in hand is.
use Rattle.std.specs.Prelude.{ℕ, ◌≡◌, ◌<◌, map, Option, None, Some, IfSome}
use Rattle.std.proofs.Common.{eqb, cond, true, refl, sym, ap, subst, ◌∙◌, arith}
use Rattle.std.proofs.lemmas.Bool.Decides.{nat_tests}
use Rattle.strm_types.specs.Standings as plain
use Rattle.strm_frame.specs.Prelude.{StoreValue, list_at, AreMessages, message_of, Queue, AreCounted, IsReady, queue_in}
use Rattle.strm_frame.specs.declared.queue_pair.QueuePair.{QueuePair}
use Rattle.strm_frame.specs.declared.standing.Standing.{Standing}
use Rattle.strm_frame.specs.Hands.{SameOwn, once}
use Rattle.strm_frame.specs.Standings.{Fits, IsPairReady, keeps_of, lists_of, owns, pair_in, queues_in, queues_own, standing_in}

pub name-once : (i : ℕ) → once i i ≡ 1
unfolding once
name-once i = let hit : eqb i i ≡ true = grind (arith, nat_tests) in ap (λ v. cond {A = ℕ} v 1 0) hit

-- a queue whose list is the same
pub queue-same : (s t : StoreValue) (q : Queue) → list_at t q.list ≡ list_at s q.list → queue_in t q ≡ queue_in s q
queue-same s t q same = ap (λ l. record (queue_in s q) { messages = map message_of l }) same

pub queue-ready : (s t : StoreValue) (q : Queue) → list_at t q.list ≡ list_at s q.list → IsReady s q → IsReady t q
queue-ready s t q same ready = record { messages = subst AreMessages (sym same) ready.messages; counted = subst (AreCounted q.flows) (sym same) ready.counted }

-- its own lists
module _ (s t : StoreValue) (pair : QueuePair) (same : (k : ℕ) → 0 < queues_own (Some pair) k → list_at t k ≡ list_at s k) where
  pub read-same : list_at t pair.read.list ≡ list_at s pair.read.list
  read-same = same pair.read.list (let one = name-once pair.read.list in omega arith)

  pub write-same : list_at t pair.write.list ≡ list_at s pair.write.list
  write-same = same pair.write.list (let one = name-once pair.write.list in omega arith)

  pub pair-same : pair_in t pair ≡ pair_in s pair
  pair-same =
      ap (λ q. record (pair_in t pair) { read = q }) (queue-same s t pair.read read-same)
      ∙ ap (λ q. record (pair_in s pair) { write = q }) (queue-same s t pair.write write-same)

  pub pair-ready : IsPairReady s pair → IsPairReady t pair
  pair-ready ready = record {
    read = queue-ready s t pair.read read-same ready.read;
    write = queue-ready s t pair.write write-same ready.write;
    apart = ready.apart;
  }

-- where there are no lists there are no queues
pub none-same : (queues others : Option QueuePair) → lists_of others ≡ lists_of queues → queues ≡ None → others ≡ None
none-same queues None lists none = refl
none-same queues (Some pair) lists none = absurd (cc (lists ∙ ap lists_of none))

module _ (s t : StoreValue) where
  pub queues-same : (queues : Option QueuePair) → ((k : ℕ) → 0 < queues_own queues k → list_at t k ≡ list_at s k) → queues_in t queues ≡ queues_in s queues
  queues-same None same = refl
  queues-same (Some pair) same = ap Some (pair-same s t pair same)

  pub queues-ready : (queues : Option QueuePair) → ((k : ℕ) → 0 < queues_own queues k → list_at t k ≡ list_at s k) → IfSome queues (IsPairReady s) → IfSome queues (IsPairReady t)
  queues-ready None same ready = tt
  queues-ready (Some pair) same ready = pair-ready s t pair same ready

module _ {M P : Type 0} (in_itself : StoreValue → M → P) (IsHeld : StoreValue → M → Option QueuePair → Type 0) (keeps : M → ℕ → ℕ)
    (frame : (s t : StoreValue) (x : M) (queues others : Option QueuePair) → lists_of others ≡ lists_of queues → SameOwn s t (queues_own queues) (keeps x) → IsHeld s x queues
    → (in_itself t x ≡ in_itself s x) × IsHeld t x others) where
  pub standing-frame : (s t : StoreValue) (x : Standing M) → SameOwn s t (owns x) (keeps_of keeps x) → Fits IsHeld s x
      → (standing_in in_itself t x ≡ standing_in in_itself s x) × Fits IsHeld t x
  standing-frame s t x same held =
      let own : SameOwn s t (queues_own x.queues) (keeps x.module) = record { lists = same.lists; mblks = same.mblks; dblks = same.dblks; kept = same.kept } in
      let part = frame s t x.module x.queues x.queues refl own held.itself in (
        ap (λ (p : P). plain.stood p (queues_in t x.queues)) part.0 ∙ ap (plain.stood (in_itself s x.module)) (queues-same s t x.queues same.lists),
        record { queues = queues-ready s t x.queues same.lists held.queues; itself = part.1 },
      )
