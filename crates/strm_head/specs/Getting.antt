-- What a get takes of the first message of a head, and what it leaves of that message's blocks (getmsg(2)).
use Rattle.std.specs.Prelude.{ℕ, Bool, if◌then◌else◌, ◌≡◌, List, ◌++◌, length, option_map}
use Rattle.strm_head.specs.Prelude.{Prio, High, Band, Message, part, is_high_priority, left_with, Got, Block, StoreValue, list_at, placed, dropped}
use Rattle.strm_head.specs.Prelude.{put_back, Queue, queue_in}
use Rattle.strm_head.specs.declared.getting.Gotten.{Gotten}

-- the store behind a get of a message in hand: what is left of it, if anything is, is put back on its list
abbrev pub put_rest : Bool → StoreValue → ℕ → ℕ → List Block → StoreValue
put_rest left s i k rest = if left then placed (dropped s i) k (put_back rest (list_at s k)) else dropped s i

-- the priority of a message
abbrev pub prio_at : Message ℕ → Prio
prio_at m = if is_high_priority m.kind then High else Band (record { 0 = m.band })

-- and of what a get takes
abbrev pub prio_of : Got ℕ → Prio
prio_of g = if g.high then High else Band (record { 0 = g.band })

-- What a get handed back is what it takes by the definition: the bytes of the control part and then those of the data part, how
-- many those are, where the part is there, the priority, MORECTL and MOREDATA.
pub record Gives (result : Gotten) (out : List ℕ) (g : Got ℕ) : Type 0 where
  pub given : out ≡ part g.control ++ part g.body
  pub control_there : result.control ≡ option_map (λ cells. length cells) g.control
  pub body_there : result.body ≡ option_map (λ cells. length cells) g.body
  pub prio : result.prio ≡ prio_of g
  pub more_control : result.more_control ≡ g.more_control
  pub more_data : result.more_data ≡ g.more_data

-- The same, and the queue is left with what the get leaves.
pub record TakesFirst (result : Gotten) (out : List ℕ) (old new : StoreValue) (q q' : Queue) (g : Got ℕ) : Type 0 where
  pub gives : Gives result out g
  pub queue : queue_in new q' ≡ left_with g.left (queue_in old q)
