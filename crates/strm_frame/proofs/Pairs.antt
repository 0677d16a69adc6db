-- A pair of queues, of which one changed.
use Rattle.strm_frame.proofs.Prelude.{ℕ, ◌≡◌, ◌+◌, [], ◌∷◌, sym, ap, subst, ◌∙◌, arith, Some}
use Rattle.strm_frame.specs.Prelude.{StoreValue, list_at, AreMessages, Queue, AreCounted, Changes, IsReady, queue_in}
use Rattle.strm_types.specs.Queue as queues
use Rattle.strm_types.specs.Standings as plain
use Rattle.strm_frame.specs.declared.queue_pair.QueuePair.{QueuePair}
use Rattle.strm_frame.specs.Hands.{OnlyOwn, once}
use Rattle.strm_frame.specs.Serves.{SameHand}
use Rattle.strm_frame.specs.StandingLaws.{queue-ready, queue-same}
use Rattle.strm_frame.specs.Standings.{IsPairReady, lists_of, pair_in, queues_own}
use Rattle.strm_frame.proofs.Handing.{once-self}

-- a queue on an empty list is ready
pub empty-ready : (s : StoreValue) (q : Queue) (list : ℕ) → q.list ≡ list → AreCounted q.flows [] → list_at s list ≡ [] → IsReady s q
empty-ready s q list same counted none =
    let here : list_at s q.list ≡ [] = ap (list_at s) same ∙ none in
    record {
      messages = subst AreMessages (sym here) (record { chains = tt; ordered = tt });
      counted = subst (AreCounted q.flows) (sym here) counted;
    }

-- the pair of two plain queues
abbrev pub both-of : queues.Queue ℕ → queues.Queue ℕ → plain.QueuePair ℕ
both-of a b = record { read = a; write = b }

pub pair-shown : (a b c d : queues.Queue ℕ) → a ≡ c → b ≡ d → both-of a b ≡ both-of c d
pair-shown a b c d first second = ap (λ q. both-of q b) first ∙ ap (both-of c) second

-- what a store has in hand is the same where one queue changed
pub same-hand : (s t : StoreValue) (q q' : Queue) → Changes s t q q' → SameHand s t
same-hand s t q q' c = record { hand = c.hand; mblks = c.mblks; dblks = c.dblks }

module _ (s t : StoreValue) (pair : QueuePair) (ready : IsPairReady s pair) (q : Queue) where
  -- the read queue changed
  module _ (c : Changes s t pair.read q) where
    write-stays : list_at t pair.write.list ≡ list_at s pair.write.list
    write-stays = c.others pair.write.list (λ same. let a = ready.apart in absurd (omega arith))

    pub read-pair : pair_in t (record pair { read = q }) ≡ record (pair_in s pair) { read = queue_in t q }
    read-pair = ap (λ w. record (pair_in t (record pair { read = q })) { write = w }) (queue-same s t pair.write write-stays)

    pub read-ready : IsPairReady t (record pair { read = q })
    read-ready = record { read = c.ready; write = queue-ready s t pair.write write-stays ready.write; apart = omega (arith, c.list, ready.apart) }

    pub read-lists : lists_of (Some (record pair { read = q })) ≡ lists_of (Some pair)
    read-lists = ap (λ k. k ∷ pair.write.list ∷ []) c.list

    pub read-own : OnlyOwn s t (queues_own (Some pair)) (queues_own (Some (record pair { read = q })))
    read-own = record {
      lists = λ k none. c.others k (λ same. let at = ap (once pair.read.list) same in let one = once-self pair.read.list in absurd (omega arith));
      owns_same = λ k. ap (λ n. once n k + once pair.write.list k) c.list;
    }

  -- the write queue changed
  module _ (c : Changes s t pair.write q) where
    read-stays : list_at t pair.read.list ≡ list_at s pair.read.list
    read-stays = c.others pair.read.list (λ same. let a = ready.apart in absurd (omega arith))

    pub write-pair : pair_in t (record pair { write = q }) ≡ record (pair_in s pair) { write = queue_in t q }
    write-pair = ap (λ r. record (pair_in t (record pair { write = q })) { read = r }) (queue-same s t pair.read read-stays)

    pub write-ready : IsPairReady t (record pair { write = q })
    write-ready = record { read = queue-ready s t pair.read read-stays ready.read; write = c.ready; apart = omega (arith, c.list, ready.apart) }

    pub write-lists : lists_of (Some (record pair { write = q })) ≡ lists_of (Some pair)
    write-lists = ap (λ k. pair.read.list ∷ k ∷ []) c.list

    pub write-own : OnlyOwn s t (queues_own (Some pair)) (queues_own (Some (record pair { write = q })))
    write-own = record {
      lists = λ k none. c.others k (λ same. let at = ap (once pair.write.list) same in let one = once-self pair.write.list in absurd (omega arith));
      owns_same = λ k. ap (λ n. once pair.read.list k + once n k) c.list;
    }
