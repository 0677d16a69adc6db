-- What a raw store stands for, and what holds of its fields.
use Rattle.std.specs.Prelude.{◌≢◌, ℕ, ◌≡◌, ◌≤◌, ◌+◌, ◌-◌, ◌==◌, nat_lt, if◌then◌else◌, List, [], ◌∷◌, ◌++◌, length, map, drop, slice_index_or, replicate, sum_by, count_by, slice_range, Option, None, Some, option_map}
use Rattle.strm_types.specs.declared.limits.TheConstants.{LISTS}
use Rattle.strm_blocks.specs.Blocks.{Block, Held, StoreValue, times_in}
use Rattle.strm_raw.specs.Numbered.{Nodes, Row, DataRow, row_at, data_at, no_bytes, msg_number, data_number, with_data, IsMsg, IsMsgOrNone, IsDataOrNone}
use Rattle.strm_raw.specs.Roster.{Msg, Roster}
use Rattle.strm_raw.specs.declared.msg_nodes.MsgLink.{MsgLink}
use Rattle.strm_raw.specs.declared.data_nodes.DataLink.{DataLink}

abbrev pub ids : Msg → List ℕ
ids m = m.head ∷ m.tail

-- what a message block shows
abbrev pub shown : List DataRow → Row → Block
shown datas r = record {
  kind = r.kind;
  band = r.band;
  number = r.number;
  bytes = slice_range (data_at r.number datas).bytes r.start r.end;
  room = 256 - r.end;
}

abbrev pub block_no : Nodes → ℕ → Block
block_no v i = shown v.datas (row_at i v.rows)

abbrev pub chain_of : Nodes → Msg → List Block
chain_of v m = map (block_no v) (ids m)

abbrev pub held_of : Nodes → Msg → Held
held_of v m = record { name = m.head; chain = chain_of v m }

abbrev pub value_of : Nodes → Roster → StoreValue
value_of v b = record {
  lists = map (λ q. map (chain_of v) q) b.lists;
  hand = map (held_of v) b.hand;
  mblks = v.mblks;
  dblks = v.dblks;
}

-- the sum of a number over all messages, on the lists and in hand
abbrev pub weigh : (Msg → ℕ) → List (List Msg) → List Msg → ℕ
weigh f lists hand = sum_by (λ q. sum_by f q) lists + sum_by f hand

-- how often a number stands in a list
abbrev pub times : ℕ → List ℕ → ℕ
times i xs = count_by (λ x. x == i) xs

-- how many blocks of a message name a data block
abbrev pub naming : List Row → ℕ → Msg → ℕ
naming rows d m = count_by (λ i. (row_at i rows).number == d) (ids m)

-- 0 for two links that are the same
abbrev pub gap : Option ℕ → Option ℕ → ℕ
gap None None = 0
gap (Some i) (Some j) = if i == j then 0 else 1
gap None (Some j) = 1
gap (Some i) None = 1

-- 0 where the links lead from the first one through these numbers to an end
unfoldable pub breaks : (ℕ → Option ℕ) → Option ℕ → List ℕ → ℕ
breaks next from [] = gap from None
breaks next from (i ∷ is) = gap from (Some i) + breaks next (next i) is

abbrev pub next_of : List Row → ℕ → Option ℕ
next_of rows i = (row_at i rows).next

abbrev pub free_after : List DataRow → ℕ → Option ℕ
free_after datas d = (data_at d datas).next

-- 0 where the links of a message's blocks are its chain
abbrev pub broken : List Row → Msg → ℕ
broken rows m = breaks (next_of rows) (next_of rows m.head) m.tail

-- 1 for a number below a bound, and 1 for a data block that is named
abbrev pub is_there : ℕ → ℕ → ℕ
is_there i n = if nat_lt i n then 1 else 0

abbrev pub is_named : ℕ → List DataRow → ℕ
is_named d datas = if (data_at d datas).references == 0 then 0 else 1

-- how far a block's places are out of order
abbrev pub askew : Row → ℕ
askew r = (r.start - r.end) + (r.end - 256)

-- Each message block that is made is free, or stands in the chain of one message, on a list or in hand; each is there once.
-- The links of free blocks and of each chain lead through them in order. A data block is free where no message block names
-- it, and its references are the message blocks that name it. Blocks that aren't made are free too, and no link leads to them.
pub record IsRaw (v : Nodes) (first_m : Option MsgLink) (first_d : Option DataLink) (spare_m spare_d : ℕ) (b : Roster) : Type 0 where
  pub same : b.mat ≡ v.mat
  pub same_d : b.dat ≡ v.dat
  pub eight : length b.lists ≡ LISTS
  pub most_m : v.mblks ≤ 65536
  pub most_d : v.dblks ≤ 65536
  pub few_m : length v.rows ≤ v.mblks
  pub few_d : length v.datas ≤ v.dblks
  pub counted_m : length b.free_m + weigh (λ m. length (ids m)) b.lists b.hand ≡ length v.rows
  pub counted_d : length b.free_d ≡ count_by (λ r. r.references == 0) v.datas
  pub owned_m : (i : ℕ) → times i b.free_m + weigh (λ m. times i (ids m)) b.lists b.hand ≡ is_there i (length v.rows)
  pub owned_d : (d : ℕ) → times d b.free_d + is_named d v.datas ≡ is_there d (length v.datas)
  pub referenced : (d : ℕ) → (data_at d v.datas).references ≡ weigh (naming v.rows d) b.lists b.hand
  pub bounded : (d : ℕ) → (data_at d v.datas).references ≤ 255
  pub linked_m : breaks (next_of v.rows) (option_map (msg_number v.mat) first_m) b.free_m ≡ 0
  pub linked_d : breaks (free_after v.datas) (option_map (data_number v.dat) first_d) b.free_d ≡ 0
  pub chained : weigh (broken v.rows) b.lists b.hand ≡ 0
  pub straight : (i : ℕ) → askew (row_at i v.rows) ≡ 0
  pub count_m : spare_m + length v.rows ≡ length b.free_m + v.mblks
  pub count_d : spare_d + length v.datas ≡ length b.free_d + v.dblks
  pub there_m : IsMsgOrNone v.mat (length v.rows) first_m
  pub there_d : IsDataOrNone v.dat (length v.datas) first_d

-- a link leads to the first block of one message in hand
abbrev pub IsHere : Nodes → Roster → MsgLink → Type 0
IsHere v b l = IsMsg v.mat (length v.rows) l × (times_in (msg_number v.mat l) (map (held_of v) b.hand) ≡ 1)

-- how a call changes the roster

-- the first free block of each kind is a message in hand
abbrev pub allocated : Roster → Roster
allocated b = record b { free_m = drop 1 b.free_m; free_d = drop 1 b.free_d; hand = record { head = slice_index_or b.free_m 0 0; tail = [] } ∷ b.hand }

-- a message that stands for none
abbrev pub no_msg : Msg
no_msg = record { head = 0; tail = [] }

-- the first message with a first block, the messages without it, and with another one in its place
abbrev pub msg_in : ℕ → List Msg → Msg
msg_in i [] = no_msg
msg_in i (m ∷ q) = if m.head == i then m else msg_in i q

abbrev pub without_in : ℕ → List Msg → List Msg
without_in i [] = []
without_in i (m ∷ q) = if m.head == i then q else m ∷ without_in i q

abbrev pub with_in : ℕ → Msg → List Msg → List Msg
with_in i x [] = []
with_in i x (m ∷ q) = if m.head == i then x ∷ q else m ∷ with_in i x q

-- how many messages have a first block
abbrev pub heads : ℕ → List Msg → ℕ
heads i q = count_by (λ m. m.head == i) q

-- the blocks of a message are linked in this order, from the first one on
abbrev pub IsChain : List Row → ℕ → List ℕ → Type 0
IsChain rows i is = breaks (next_of rows) (Some i) is ≡ 0

-- the first free message block is a message in hand
abbrev pub duplicated : Roster → Roster
duplicated b = record b { free_m = drop 1 b.free_m; hand = record { head = slice_index_or b.free_m 0 0; tail = [] } ∷ b.hand }

-- the blocks of a message behind its first one, as a message
abbrev pub rest_of : Msg → Msg
rest_of m = record { head = slice_index_or m.tail 0 0; tail = drop 1 m.tail }

abbrev pub alone : ℕ → Msg
alone i = record { head = i; tail = [] }

-- a message in hand is parted into its first block and the rest
abbrev pub parted : MsgLink → Roster → Roster
parted l b = let i = msg_number b.mat l in record b { hand = rest_of (msg_in i b.hand) ∷ with_in i (alone i) b.hand }

-- two messages as one
abbrev pub joined : Msg → Msg → Msg
joined m p = record { head = m.head; tail = m.tail ++ ids p }

-- a message in hand hangs behind another one
abbrev pub linked : MsgLink → ℕ → Roster → Roster
linked l j b = let i = msg_number b.mat l in record b { hand = with_in i (joined (msg_in i b.hand) (msg_in j b.hand)) (without_in j b.hand) }

-- a message in hand of one block is free
abbrev pub given : MsgLink → Roster → Roster
given l b = let i = msg_number b.mat l in record b { free_m = i ∷ b.free_m; hand = without_in i b.hand }

-- a data block is free
abbrev pub given_data : DataLink → Roster → Roster
given_data k b = record b { free_d = data_number b.dat k ∷ b.free_d }

-- A data block has one reference less. Where that was its last one it is the first free one, and zeros stand where its bytes were.
pub record GivesLast (old new : Nodes) (b b' : Roster) (k : DataLink) (first first' : Option DataLink) (spare spare' : ℕ) : Type 0 where
  pub last : (data_at (data_number old.dat k) old.datas).references ≡ 1
  pub memory : new ≡ with_data (data_number old.dat k) (record { next = option_map (data_number old.dat) first; references = 0; bytes = no_bytes }) old
  pub roster : b' ≡ given_data k b
  pub first_is : first' ≡ Some k
  pub spare_is : spare' ≡ spare + 1

pub record GivesOne (old new : Nodes) (b b' : Roster) (k : DataLink) (first first' : Option DataLink) (spare spare' : ℕ) : Type 0 where
  pub more : (data_at (data_number old.dat k) old.datas).references ≢ 1
  pub memory : new ≡ with_data (data_number old.dat k) (record { next = (data_at (data_number old.dat k) old.datas).next; references = (data_at (data_number old.dat k) old.datas).references - 1; bytes = (data_at (data_number old.dat k) old.datas).bytes }) old
  pub roster : b' ≡ b
  pub first_is : first' ≡ first
  pub spare_is : spare' ≡ spare

-- the roster of a store with nothing in it, none of whose blocks is made
abbrev pub empty_roster : MsgLink → DataLink → Roster
empty_roster l k = record { mat = l.at; dat = k.at; free_m = []; free_d = []; lists = replicate LISTS []; hand = [] }
