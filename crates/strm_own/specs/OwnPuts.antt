-- What a put at a module of a user's own did to a store (put(9E)).
use Rattle.std.specs.Prelude.{ℕ, ◌≡◌}
use Rattle.strm_own.specs.Prelude.{Fates, Acted, tallied, StoreValue, Hands, Outbox, Own, SamePool, Spends, AreChains, parcels_in, sent_of, times_sent}

-- It did what a definition says: `message` has gone, what is sent on has come in hand, and what was dropped is told by its rule. No list of the
-- store changed. No more blocks of each kind were taken than `most`, of data blocks of those that may be counted on: so a message may be freed and
-- another one taken with as many blocks, whatever is shared, where the store has as many data blocks as message blocks.
pub record OwnPuts (old new : StoreValue) (x : Own) (message most : ℕ) (out : Outbox) (t t' : Fates) (is : Acted ℕ Own) : Type 0 where
  pub state : x ≡ is.state
  pub sent : parcels_in new (sent_of out) ≡ is.sent
  pub told : t' ≡ tallied is.gone t
  pub lists : new.lists ≡ old.lists
  pub chains : AreChains new (sent_of out)
  pub hands : Hands old new message (λ _. 0) (λ _. 0) (λ i. times_sent i (sent_of out))
  pub spends : Spends old new most 0
  pub pool : SamePool old new
