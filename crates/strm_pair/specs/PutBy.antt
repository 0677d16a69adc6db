-- What a put at a spot of a pair did to the store and the streams.
use Rattle.std.specs.Prelude.{ℕ, ◌≡◌, ◌-◌, true, List}
use Rattle.strm_pair.specs.Prelude.{Fates, Spot, plain, Acted, Parcel, Took, tallied, Message, is_held, at_place, module_takes, Standing, module_puts}
use Rattle.strm_pair.specs.Prelude.{State, StoreValue, FreesNone, Sent, Acts, Puts, once, Handles, SamePool, Shifts, Spends, message_in, times_sent}
use Rattle.strm_pair.specs.Prelude.{parcels_in, AreChains, all_of, AreHeld, owns, module_name, Behaviour}
use Rattle.strm_types.specs.Modules.{put_among}
use Rattle.strm_types.specs.Tables.{name_holds}
use Rattle.strm_frame.specs.Stacks.{all_in}
use Rattle.strm_pair.specs.declared.streams.Streams.{Streams}
use Rattle.strm_pair.specs.AnyModules.{IsHeld, keeps, module_in}
use Rattle.strm_pair.specs.Pairs.{state_in, AreBeside, kept_by}
use Rattle.strm_pair.specs.Stacks.{modules_in, Stack}

-- A put did what a definition says: the message has gone, and what is sent on has come in hand, beside what the stacks keep. No more
-- blocks of each kind were taken than `takes`.
pub record PutBy (old new : StoreValue) (p q : Streams) (message takes : ℕ) (sent_on : List Sent) (told told' : Fates) (is : Took ℕ (State ℕ)) : Type 0 where
  pub state : state_in new q ≡ is.state
  pub sent : parcels_in new sent_on ≡ is.sent
  pub tells : told' ≡ tallied is.gone told
  pub beside : AreBeside new q
  pub chains : AreChains new sent_on
  pub hands : Handles old new (once message) (kept_by p) (kept_by q) (λ i. times_sent i sent_on)
  pub spends : Spends old new takes 0
  pub pool : SamePool old new

-- A put at an open head did what a definition says: the message has gone, and this is to be sent down. No block was taken, the stacks keep what
-- they did, and an M_DATA or M_PROTO frees none.
pub record CameBy (old new : StoreValue) (p q : Streams) (message : ℕ) (down : List (Parcel ℕ)) (told told' : Fates) (is : Took ℕ (State ℕ)) : Type 0 where
  pub state : state_in new q ≡ is.state
  pub down_is : down ≡ is.sent
  pub tells : told' ≡ tallied is.gone told
  pub beside : AreBeside new q
  pub keeps : (i : ℕ) → kept_by q i ≡ kept_by p i
  pub hands : Shifts old new (once message) (λ _. 0) 0
  pub blocks : is_held (message_in old message).kind ≡ true → FreesNone old new

-- what the modules of a stack do with a message that is put at one of them
abbrev pub taken_at : (K : Behaviour) → Spot → Message ℕ → List (Standing ℕ) → Acted ℕ (List (Standing ℕ))
taken_at K to m ms = put_among (module_puts K plain 0) (to.at - 1) to m ms

-- A stack of modules took a message at a place.
abbrev pub StackTakes : (K : Behaviour) (old new : StoreValue) → (x y : Stack) → (message : ℕ) → Spot → Acts → (told told' : Fates)
    → Type 0
StackTakes K old new x y message to acts told told' =
    let m = message_in old message in
    let ms = modules_in old x in
    Puts (all_in module_in) (AreHeld IsHeld owns) (all_of owns) (all_of keeps) old new x.modules.items y.modules.items
    (at_place (λ p. name_holds (module_name p)) true to.at ms) message (at_place (module_takes to m) 0 to.at ms)
    acts told told' (taken_at K to m ms)
