-- A module of a user's own where it stands on a stream, beside a store: what it stands for with its queues, and what a put and a call of its service
-- procedure did (put(9E), srv(9E)).
use Rattle.std.specs.Prelude.{ℕ, ◌≡◌, false, List, [], ◌∷◌, Option, is_some}
use Rattle.strm_own.specs.Prelude.{StoreValue, QueuePair, Message, is_high_priority, Own, Fates, Acted}
use Rattle.strm_types.specs.declared.names.ModuleName.TheVariants as names
use Rattle.strm_types.specs.Names.{have_queues}
use Rattle.strm_types.specs.Service.{Serving}
use Rattle.strm_types.specs.Standings as plain
use Rattle.strm_frame.specs.declared.modules.Acts.{Acts}
use Rattle.strm_frame.specs.declared.service.Served.{Served}
use Rattle.strm_frame.specs.Does.{Puts, Serves}
use Rattle.strm_frame.specs.Standings.{Fits, keeps_of, owns, standing, standing_in}

-- It has queues exactly where those of its number have.
abbrev pub HasQueues : Own → Option QueuePair → Type 0
HasQueues x queues = is_some queues ≡ have_queues (names.Own x.number)

-- what it is by itself, whatever the store holds, and how often it keeps a message in hand: never
abbrev pub own_in : StoreValue → Own → Own
own_in s x = x

abbrev pub IsHeld : StoreValue → Own → Option QueuePair → Type 0
IsHeld s x queues = HasQueues x queues

abbrev pub keeps : Own → ℕ → ℕ
keeps x i = 0

-- How many blocks of each kind the delivery of what it sends takes at most: an answer and what passes, or an M_IOCTL that goes on.
abbrev pub turn_room : ℕ
turn_room = 12

-- A put at it, with these queues, did what a definition says, and no more blocks of each kind were taken than `most`.
abbrev pub PutsThere : StoreValue → StoreValue → Own → Option QueuePair → Own → Option QueuePair → ℕ → ℕ → Acts → Fates → Fates
    → Acted ℕ (plain.Standing Own ℕ) → Type 0
PutsThere old new x queues y queues' message most acts t t' is =
    Puts (standing_in own_in) (Fits IsHeld) owns (keeps_of keeps) old new (standing x queues) (standing y queues') false message most acts t t' is

-- a call of its service procedure did so, which never stops within a message
abbrev pub ServesThere : StoreValue → StoreValue → Own → Option QueuePair → Own → Option QueuePair → Served → Fates → Fates
    → Serving ℕ (plain.Standing Own ℕ) → Type 0
ServesThere old new x queues y queues' served t t' is =
    Serves (standing_in own_in) (Fits IsHeld) owns (keeps_of keeps) (λ p. turn_room) (λ bytes p. ⊥) old new (standing x queues) (standing y queues')
    served t t' is

-- a message stands first that isn't of high priority, so that it may be held back
abbrev pub BeginsOrdinary : List (Message ℕ) → Type 0
BeginsOrdinary [] = ⊥
BeginsOrdinary (m ∷ rest) = is_high_priority m.kind ≡ false
