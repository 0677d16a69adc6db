-- What a put, a delivery, a call of a service procedure, the end of a turn and a pop did to a store and what stands beside it.
use Rattle.std.specs.Prelude.{ℕ, ◌≡◌, ◌<◌, ◌≤◌, Bool, true, false, if◌then◌else◌, List, [], ◌∷◌, Option, IfSome}
use Rattle.std.specs.Bool.{OnTrue}
use Rattle.strm_frame.specs.Prelude.{Side, Way, Fates, Rule, Room, Spot, Acted, Carried, Parcel, Took, tallied, is_met, made_of, Message, Serving}
use Rattle.strm_frame.specs.Prelude.{queues_cleared, most_made, StoreValue, FreesBlocks, FreesNone}
use Rattle.strm_types.specs.declared.limits.TheConstants.{STOP_BLOCKS}
use Rattle.strm_types.specs.Message.{is_held}
use Rattle.strm_types.specs.Standings.{messages_on}
use Rattle.strm_frame.specs.declared.modules.Acts.{Acts}
use Rattle.strm_frame.specs.declared.modules.LetGo.{LetGo}
use Rattle.strm_frame.specs.declared.parcels.Sent.{Sent}
use Rattle.strm_frame.specs.declared.queue_pair.QueuePair.{QueuePair}
use Rattle.strm_frame.specs.declared.queues.Emptied.{Emptied}
use Rattle.strm_frame.specs.declared.service.Served.{Served}
use Rattle.strm_frame.specs.declared.service.TurnEnd.{TurnEnd}
use Rattle.strm_frame.specs.Hands.{Handles, Hands, HasRoom, OnlyOwn, SamePool, Spends, Takes}
use Rattle.strm_frame.specs.Outboxes.{message_in, sent_of, times_sent, parcels_in, AreChains}
use Rattle.strm_frame.specs.Serves.{SameHand, least_free, later_cost}
use Rattle.strm_frame.specs.Standings.{IsPairReady, lists_of, queues_in, queues_own}

-- What is on its way is nothing, or one message that stays, by what stays.
abbrev pub StaysAlone : {P : Type 0} → (P → Spot → Message ℕ → Type 0) → P → List (Parcel ℕ) → Type 0
StaysAlone stays p [] = Unit {0}
StaysAlone stays p (x ∷ []) = stays p x.to x.message
StaysAlone stays p (x ∷ y ∷ more) = ⊥

module _ {X P : Type 0} (plain : StoreValue → X → P) (IsHeld : StoreValue → X → Type 0) (keeps : X → ℕ → ℕ) (spare : P → ℕ) where
  -- A put at a spot did what a definition says: the message has gone, and what is sent on has come in hand. No more was taken than `own`, of blocks and of
  -- what else the stations count.
  pub record PutsAt (own : ℕ) (old new : StoreValue) (x y : X) (message : ℕ) (sent_on : List Sent) (t t' : Fates) (is : Took ℕ P) : Type 0 where
    pub state : plain new y ≡ is.state
    pub sent : parcels_in new sent_on ≡ is.sent
    pub told : t' ≡ tallied is.gone t
    pub held : IsHeld new y
    pub chains : AreChains new sent_on
    pub hands : Hands old new message (keeps x) (keeps y) (λ i. times_sent i sent_on)
    pub takes : Takes old new (spare (plain old x)) (spare (plain new y)) own 0
    pub pool : SamePool old new

  -- A delivery led to what a definition says: what was delivered has gone, and nothing has come in hand but what the stations keep. No more was
  -- taken than `most`.
  pub record Delivers (old new : StoreValue) (x y : X) (gone : ℕ → ℕ) (most : ℕ) (t t' : Fates) (is : Carried ℕ P) : Type 0 where
    pub state : plain new y ≡ is.state
    pub told : t' ≡ tallied is.gone t
    pub held : IsHeld new y
    pub hands : Handles old new gone (keeps x) (keeps y) (λ _. 0)
    pub takes : Takes old new (spare (plain old x)) (spare (plain new y)) most 0
    pub pool : SamePool old new

module _ {X P : Type 0} (plain : StoreValue → X → P) (IsHeld : StoreValue → X → Type 0) (owns keeps : X → ℕ → ℕ) where
  -- A put procedure did what a definition says: the message has gone, and what is sent on has come in hand. Only the module's own lists changed. No more
  -- blocks of each kind were taken than `most`. An M_DATA or M_PROTO frees none where the module holds what it is given.
  pub record Puts (old new : StoreValue) (x y : X) (holds : Bool) (message most : ℕ) (acts : Acts) (t t' : Fates) (is : Acted ℕ P) : Type 0 where
    pub state : plain new y ≡ is.state
    pub notes : acts.notes.items ≡ is.notes
    pub sent : parcels_in new (sent_of acts.sent) ≡ is.sent
    pub told : t' ≡ tallied is.gone t
    pub held : IsHeld new y
    pub own : OnlyOwn old new (owns x) (owns y)
    pub chains : AreChains new (sent_of acts.sent)
    pub hands : Hands old new message (keeps x) (keeps y) (λ i. times_sent i (sent_of acts.sent))
    pub spends : Spends old new most 0
    pub blocks : holds ≡ true → is_held (message_in old message).kind ≡ true → FreesNone old new
    pub pool : SamePool old new

  -- A call of a service procedure did what a definition says: what is sent has come in hand, beside what the module keeps. Only the module's own lists
  -- changed. The call stopped within the message only where fewer than `STOP_BLOCKS` blocks of some kind are left, where it may stop, and behind a byte at
  -- least if that many were free before; then it isn't called again. Blocks are left for what it sent, and for the next call of the turn.
  pub record Serves (turn_cost : P → ℕ) (MayStop : ℕ → P → Type 0) (old new : StoreValue) (x y : X) (served : Served) (t t' : Fates) (is : Serving ℕ P) : Type 0 where
    pub state : plain new y ≡ is.acted.state
    pub notes : served.acts.notes.items ≡ is.acted.notes
    pub sent : parcels_in new (sent_of served.acts.sent) ≡ is.acted.sent
    pub told : t' ≡ tallied is.acted.gone t
    pub bytes : served.bytes ≡ is.bytes
    pub again : served.again ≡ is.again
    pub stopped : OnTrue served.stopped ((least_free new < STOP_BLOCKS) × (served.again ≡ false))
    pub stops : OnTrue served.stopped (MayStop served.bytes (plain old x))
    pub some : OnTrue served.stopped (HasRoom old STOP_BLOCKS → 0 < served.bytes)
    pub made : made_of is.acted.gone ≤ most_made served.bytes
    pub held : IsHeld new y
    pub own : OnlyOwn old new (owns x) (owns y)
    pub chains : AreChains new (sent_of served.acts.sent)
    pub hands : Handles old new (λ _. 0) (keeps x) (keeps y) (λ i. times_sent i (sent_of served.acts.sent))
    pub room : HasRoom new (later_cost served.again (turn_cost (plain new y)) (parcels_in new (sent_of served.acts.sent)))
    pub pool : SamePool old new

  -- A turn of a queue ended as a definition says, and told whether waiting writers were let go, and whether messages stand there. The module owns and
  -- keeps what it did.
  pub record EndsTurn (s : StoreValue) (x y : X) (end : TurnEnd) (relieves stands : Bool) (is : P) : Type 0 where
    pub state : plain s y ≡ is
    pub room : end.room ≡ relieves
    pub more : end.more ≡ stands
    pub held : IsHeld s y
    pub owns_same : (k : ℕ) → owns y k ≡ owns x k
    pub keeps_same : (i : ℕ) → keeps y i ≡ keeps x i

  -- A module changed as a definition says, whatever the store holds, and fits it where it did. It owns and keeps what it did.
  pub record Changes (x y : X) (change : P → P) : Type 0 where
    pub state : (s : StoreValue) → plain s y ≡ change (plain s x)
    pub held : (s : StoreValue) → IsHeld s x → IsHeld s y
    pub owns_same : (k : ℕ) → owns y k ≡ owns x k
    pub keeps_same : (i : ℕ) → keeps y i ≡ keeps x i

  -- A module let all go, as a definition says, and told whether the M_IOCTL of a number, where one is sought, stood among `below`. Only its own lists changed,
  -- it keeps nothing in hand, and no block was taken.
  pub record Clears (old new : StoreValue) (x y : X) (seeking : Option ℕ) (below : List (Message ℕ)) (gone : LetGo) (t t' : Fates) (is : Acted ℕ P) : Type 0 where
    pub state : plain new y ≡ is.state
    pub notes : gone.notes.items ≡ is.notes
    pub met : gone.met ≡ is_met seeking below
    pub told : t' ≡ tallied is.gone t
    pub held : IsHeld new y
    pub rests : (i : ℕ) → keeps y i ≡ 0
    pub own : OnlyOwn old new (owns x) (owns y)
    pub hand : SameHand old new
    pub frees : FreesBlocks old new

-- All went that stood on the queue of a way, where there are queues, as the definition says. Only their lists changed, they are ready still, and no block was
-- taken.
pub record ClearsQueue (side : Side) (way : Way) (rule : Rule) (old new : StoreValue) (q r : Option QueuePair) (seeking : Option ℕ) (gone : Emptied) (t t' : Fates) : Type 0 where
  pub state : queues_in new r ≡ (queues_cleared side rule way (queues_in old q)).state
  pub notes : (if gone.room then Room way ∷ [] else []) ≡ (queues_cleared side rule way (queues_in old q)).notes
  pub met : gone.met ≡ is_met seeking (messages_on way (queues_in old q))
  pub told : t' ≡ tallied (queues_cleared side rule way (queues_in old q)).gone t
  pub ready : IfSome r (IsPairReady new)
  pub lists : lists_of r ≡ lists_of q
  pub own : OnlyOwn old new (queues_own q) (queues_own r)
  pub hand : SameHand old new
  pub frees : FreesBlocks old new
