-- The lists of a raw store: how a list leads through its messages, on and back.
use Rattle.std.specs.Prelude.{ℕ, ◌≡◌, ◌≢◌, ◌≤◌, ◌+◌, ◌-◌, ◌==◌, if◌then◌else◌, List, [], ◌∷◌, length, sum_by, slice_index_or, slice_set, Option, None, Some, option_map, unwrap_or}
use Rattle.strm_types.specs.declared.limits.TheConstants.{LISTS}
use denote.RawPtr.{Ptr, null_ptr}
use Rattle.strm_types.specs.Ranked as ranked
use Rattle.strm_blocks.specs.Blocks.{StoreValue, rank_of, list_at}
use Rattle.strm_blocks.specs.Outcomes.{Popped, PoppedLast}
use Rattle.strm_raw.specs.Numbered.{Nodes, Row, row_at, msg_number, IsMsgOrNone}
use Rattle.strm_raw.specs.Roster.{Msg, Roster}
use Rattle.strm_raw.specs.Raw.{value_of, msg_in, without_in, ids, broken}
use Rattle.strm_raw.specs.declared.neighbours.Course.{Course}
use Rattle.strm_raw.specs.declared.neighbours.Course.TheVariants.{On, Back}
use Rattle.strm_raw.specs.declared.neighbours.Ends.{Ends}
use Rattle.strm_raw.specs.declared.neighbours.KeptEnds.{KeptEnds}
use Rattle.strm_raw.specs.declared.msg_nodes.MsgLink.{MsgLink}

abbrev pub no_ends : Ends
no_ends = record { first = None; last = None; count = 0 }

-- the ends that a store keeps, and ends as it keeps them
abbrev pub opened : KeptEnds → Ends
opened e = record { first = if e.count == 0 then None else Some e.first; last = if e.count == 0 then None else Some e.last; count = e.count }

abbrev pub nowhere : MsgLink
nowhere = record { at = null_ptr }

abbrev pub kept : Ends → KeptEnds
kept e = record { first = unwrap_or e.first nowhere; last = unwrap_or e.last nowhere; count = e.count }

abbrev pub ends_at : ℕ → List KeptEnds → Ends
ends_at k ends = opened (slice_index_or ends k (kept no_ends))

abbrev pub queue_at : ℕ → List (List Msg) → List Msg
queue_at k lists = slice_index_or lists k []

-- Where a list leads from a place: by an end of the list or by a link. A place is the first block of a message, or None:
-- the list's outside, from which it leads on to its first message and back to its last one.
abbrev pub Step : Type 0
Step = Option ℕ → Option ℕ

abbrev pub ahead_of : List Row → ℕ → Option ℕ
ahead_of rows i = (row_at i rows).ahead

abbrev pub behind_of : List Row → ℕ → Option ℕ
behind_of rows i = (row_at i rows).behind

abbrev pub lead : Ptr → Option MsgLink → (ℕ → Option ℕ) → Step
lead mat end link None = option_map (msg_number mat) end
lead mat end link (Some i) = link i

abbrev pub on : Ptr → (ℕ → Option ℕ) → Ends → Step
on mat ahead ends = lead mat ends.first ahead

abbrev pub back : Ptr → (ℕ → Option ℕ) → Ends → Step
back mat behind ends = lead mat ends.last behind

-- the end at which a list begins in a course, and where it leads in that course
abbrev pub edge : Course → Ends → Option MsgLink
edge On ends = ends.first
edge Back ends = ends.last

abbrev pub along : Course → Nodes → Ends → Step
along On v ends = on v.mat (ahead_of v.rows) ends
along Back v ends = back v.mat (behind_of v.rows) ends

-- of two, the one for a course
abbrev pub pick : {A : Type 0} → Course → A → A → A
pick On x y = x
pick Back x y = y

-- from a place on, the steps on lead through the messages in order and to the outside, and each step back undoes one on
abbrev pub IsTied : Step → Step → Option ℕ → List Msg → Type 0
IsTied on back from [] = (on from ≡ None) × (back None ≡ from)
IsTied on back from (m ∷ q) = (on from ≡ Some m.head) × ((back (Some m.head) ≡ from) × IsTied on back (Some m.head) q)

abbrev pub IsList : Nodes → Ends → List Msg → Type 0
IsList v ends q = IsTied (on v.mat (ahead_of v.rows) ends) (back v.mat (behind_of v.rows) ends) None q

-- the place behind some messages, and the place before some
abbrev pub end_of : Option ℕ → List Msg → Option ℕ
end_of from [] = from
end_of from (m ∷ q) = end_of (Some m.head) q

abbrev pub begin_of : List Msg → Option ℕ
begin_of [] = None
begin_of (m ∷ q) = Some m.head

-- the blocks of each message of a list are linked in order, and are no more than there are message blocks
pub record AreWhole (rows : List Row) (q : List Msg) : Type 0 where
  pub chained : sum_by (broken rows) q ≡ 0
  pub few : sum_by (λ m. length (ids m)) q ≤ length rows

-- The ends of each list lead to nodes, the links of each list are its messages, its count says how many they are, and each list is in order of
-- rank.
pub record AreListed (v : Nodes) (ends : List KeptEnds) (b : Roster) : Type 0 where
  pub eight : length ends ≡ LISTS
  pub first : (k : ℕ) → IsMsgOrNone v.mat (length v.rows) (ends_at k ends).first
  pub last : (k : ℕ) → IsMsgOrNone v.mat (length v.rows) (ends_at k ends).last
  pub tied : (k : ℕ) → IsList v (ends_at k ends) (queue_at k b.lists)
  pub counted : (k : ℕ) → (ends_at k ends).count ≡ length (queue_at k b.lists)
  pub ordered : (k : ℕ) → ranked.IsOrdered rank_of (list_at (value_of v b) k)

-- a message block without its neighbours
abbrev pub plain : Row → Row
plain r = record r { ahead = None; behind = None }

-- a list leads on from one place to another one, and back
pub record Ties (mat : Ptr) (rows rows' : List Row) (e e' : Ends) (a b : Option ℕ) : Type 0 where
  pub len : length rows' ≡ length rows
  pub plain : (i : ℕ) → plain (row_at i rows') ≡ plain (row_at i rows)
  pub on_at : on mat (ahead_of rows') e' a ≡ b
  pub back_at : back mat (behind_of rows') e' b ≡ a
  pub on_else : (p : Option ℕ) → p ≢ a → on mat (ahead_of rows') e' p ≡ on mat (ahead_of rows) e p
  pub back_else : (p : Option ℕ) → p ≢ b → back mat (behind_of rows') e' p ≡ back mat (behind_of rows) e p

-- a message lies between two places that followed one another, and counts
pub record Seats (mat : Ptr) (rows rows' : List Row) (e e' : Ends) (a : Option ℕ) (x : ℕ) (b : Option ℕ) : Type 0 where
  pub middle : List Row
  pub ends : Ends
  pub front : Ties mat rows middle e ends a (Some x)
  pub rear : Ties mat middle rows' ends e' (Some x) b
  pub count : e'.count ≡ e.count + 1

-- how a call on a list changes the roster

-- the messages with another one in front of that which begins with a block, and at the end where none does
abbrev pub seat_in : ℕ → Msg → List Msg → List Msg
seat_in j x [] = x ∷ []
seat_in j x (m ∷ q) = if m.head == j then x ∷ m ∷ q else m ∷ seat_in j x q

-- a message of a list is in hand
abbrev pub unseated : ℕ → MsgLink → Roster → Roster
unseated k l b = let i = msg_number b.mat l in let q = queue_at k b.lists in record b { lists = slice_set b.lists k (without_in i q); hand = msg_in i q ∷ b.hand }

-- a message in hand is on a list, in front of the one to which a link leads
abbrev pub seated : ℕ → ℕ → MsgLink → Roster → Roster
seated k i l b = record b { lists = slice_set b.lists k (seat_in (msg_number b.mat l) (msg_in i b.hand) (queue_at k b.lists)); hand = without_in i b.hand }

-- A message is taken off a list: its neighbours are tied, and it counts no longer.
pub record Unseats (v v' : Nodes) (ends ends' : List KeptEnds) (b b' : Roster) (k : ℕ) (l : MsgLink) : Type 0 where
  pub after : Ends
  pub nodes : v' ≡ record v { rows = v'.rows }
  pub tied : Ties v.mat v.rows v'.rows (ends_at k ends) after (behind_of v.rows (msg_number v.mat l)) (ahead_of v.rows (msg_number v.mat l))
  pub count : after.count ≡ (ends_at k ends).count - 1
  pub first : IsMsgOrNone v.mat (length v.rows) after.first
  pub last : IsMsgOrNone v.mat (length v.rows) after.last
  pub ends_are : ends' ≡ slice_set ends k (kept after)
  pub roster_is : b' ≡ unseated k l b

-- the message at the end of a list where it begins in a course is taken off it, and is in hand
abbrev pub PoppedBy : Course → StoreValue → StoreValue → ℕ → ℕ → Type 0
PoppedBy On = Popped
PoppedBy Back = PoppedLast
