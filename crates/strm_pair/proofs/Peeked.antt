-- What is seen of a list's first message without taking it.
use Rattle.strm_pair.proofs.Prelude.{ℕ, ◌≡◌, ◌∷◌, map, ap, subst}
use Rattle.strm_pair.specs.Prelude.{StoreValue, list_at, PeekedFirst, Peek, message_of, IsChain, AreMessages, messages_on}
use Rattle.strm_queue.proofs.Holding.{first-chain}

module _ (s : StoreValue) (k : ℕ) (peek : Peek) (p : PeekedFirst s k peek) where
  pub seen-before : messages_on s k ≡ message_of p.message ∷ map message_of p.rest
  seen-before = ap (map message_of) p.joined

  pub seen-chain : AreMessages (list_at s k) → IsChain p.message
  seen-chain m = first-chain p.message p.rest (subst AreMessages p.joined m)
