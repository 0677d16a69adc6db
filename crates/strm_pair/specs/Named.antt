-- The module of a stream whose queues have a name, and what is said of it. Places count from 1 for the module on top.
use Rattle.std.specs.Prelude.{ℕ, Bool, false, List, [], Option, None, Some}
use Rattle.strm_pair.specs.Prelude.{Place, Way, Message, at_place, same_place, messages_at, place_named, Standing}

-- a place of queues is this one
abbrev pub is_there : Place → Option Place → Bool
is_there place None = false
is_there place (Some there) = same_place there place

-- what is said of the module at a place, where there is one
abbrev pub at_found : {A : Type 0} → (Standing ℕ → A) → A → List (Standing ℕ) → Option ℕ → A
at_found say otherwise ps None = otherwise
at_found say otherwise ps (Some at) = at_place say otherwise at ps

-- what is said of the one whose queues have a name, where one stands there
abbrev pub at_named : {A : Type 0} → Place → (Standing ℕ → A) → A → List (Standing ℕ) → A
at_named place say otherwise ps = at_found say otherwise ps (place_named place ps)

-- the messages on its queue of a way
abbrev pub messages_named : Place → Way → List (Standing ℕ) → List (Message ℕ)
messages_named place way ps = at_named place (messages_at way) [] ps
