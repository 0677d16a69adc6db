-- What a put at the module ldterm, or a stage of its turn, did to a store, the module beside it and what has gone.
use Rattle.std.specs.Prelude.{ℕ, ◌≡◌, ◌≤◌, ◌+◌, List}
use Rattle.strm_ldterm.specs.Prelude.{Fates, Note, Acted, tallied, StoreValue, free_m, free_d, FreesBlocks, Acts, Sent, Hands, OnlyOwn, SamePool}
use Rattle.strm_ldterm.specs.Prelude.{sent_of, times_sent, parcels_in, AreChains}
use Rattle.strm_types.specs.Ldterms as plain
use Rattle.strm_frame.specs.Hands.{Handles, Spends}
use Rattle.strm_ldterm.specs.Stands.{ldterm_in, owns, keeps, IsHeld, Paired}

-- The module and its own lists changed, and nothing else. No message came in hand, and no block was taken.
pub record Alters (old new : StoreValue) (x x' : Paired) : Type 0 where
  pub held : IsHeld new x'
  pub own : OnlyOwn old new (owns x) (owns x')
  pub fewer : (i : ℕ) → keeps x' i ≤ keeps x i
  pub hands : Handles old new (λ _. 0) (keeps x) (keeps x') (λ _. 0)
  pub frees : FreesBlocks old new
  pub pool : SamePool old new

-- A put did what a definition says: `message` has gone, and what is sent on has come in hand. No block was taken.
pub record Does (old new : StoreValue) (x x' : Paired) (message : ℕ) (acts : Acts) (t t' : Fates) (is : Acted ℕ (plain.Discipline ℕ)) : Type 0 where
  pub state : ldterm_in new x' ≡ is.state
  pub notes : acts.notes.items ≡ is.notes
  pub sent : parcels_in new (sent_of acts.sent) ≡ is.sent
  pub told : t' ≡ tallied is.gone t
  pub held : IsHeld new x'
  pub own : OnlyOwn old new (owns x) (owns x')
  pub chains : AreChains new (sent_of acts.sent)
  pub hands : Hands old new message (keeps x) (keeps x') (λ i. times_sent i (sent_of acts.sent))
  pub frees : FreesBlocks old new
  pub pool : SamePool old new

-- The same, where at most so many blocks of each kind were taken.
pub record Puts (old new : StoreValue) (x x' : Paired) (message most : ℕ) (acts : Acts) (t t' : Fates) (is : Acted ℕ (plain.Discipline ℕ)) : Type 0 where
  pub state : ldterm_in new x' ≡ is.state
  pub notes : acts.notes.items ≡ is.notes
  pub sent : parcels_in new (sent_of acts.sent) ≡ is.sent
  pub told : t' ≡ tallied is.gone t
  pub held : IsHeld new x'
  pub own : OnlyOwn old new (owns x) (owns x')
  pub chains : AreChains new (sent_of acts.sent)
  pub hands : Hands old new message (keeps x) (keeps x') (λ i. times_sent i (sent_of acts.sent))
  pub spends : Spends old new most 0
  pub pool : SamePool old new

-- The module altered as a definition says, what has gone was told, and nothing was sent.
pub record Flushes (old new : StoreValue) (x x' : Paired) (notes : List Note) (t t' : Fates) (is : Acted ℕ (plain.Discipline ℕ)) : Type 0 where
  pub state : ldterm_in new x' ≡ is.state
  pub noted : notes ≡ is.notes
  pub told : t' ≡ tallied is.gone t
  pub alters : Alters old new x x'

-- A stage of a turn did what a definition says: what is sent has come in hand, and nothing has gone from there but what the module kept. At
-- most so many blocks of each kind were taken.
pub record Proceeds (old new : StoreValue) (x x' : Paired) (takes : ℕ) (notes : List Note) (sent : List Sent) (t t' : Fates) (is : Acted ℕ (plain.Discipline ℕ)) : Type 0 where
  pub state : ldterm_in new x' ≡ is.state
  pub noted : notes ≡ is.notes
  pub parcels : parcels_in new sent ≡ is.sent
  pub told : t' ≡ tallied is.gone t
  pub held : IsHeld new x'
  pub own : OnlyOwn old new (owns x) (owns x')
  pub chains : AreChains new sent
  pub hands : Handles old new (λ _. 0) (keeps x) (keeps x') (λ i. times_sent i sent)
  pub mblks : free_m old ≤ free_m new + takes
  pub dblks : free_d old ≤ free_d new + takes
  pub pool : SamePool old new
