-- The nodes of a store by their numbers: what of them its other parts see.
use Rattle.std.specs.Prelude.{ℕ, ◌≡◌, List, length, map, Option, None, option_map, slice_get, slice_index_or, slice_set, Some, MatchOption, replicate}
use denote.RawPtr.{Ptr}
use Rattle.strm_types.specs.declared.kinds.MsgKind.{MsgKind}
use Rattle.strm_types.specs.declared.kinds.MsgKind.TheVariants as kinds
use Rattle.strm_raw.specs.Links.{index_of, IsPlace}
use Rattle.strm_raw.specs.MsgNodes as messages
use Rattle.strm_raw.specs.DataNodes as data_blocks
use Rattle.strm_raw.specs.declared.msg_nodes.MsgNode.{MsgNode}
use Rattle.strm_raw.specs.declared.msg_nodes.MsgLink.{MsgLink}
use Rattle.strm_raw.specs.declared.msg_nodes.Shows.{Shows}
use Rattle.strm_raw.specs.declared.data_nodes.DataNode.{DataNode}
use Rattle.strm_raw.specs.declared.data_nodes.DataLink.{DataLink}

-- A message block: its kind and band, the number of its data block, of that the read place and the write place, and the
-- numbers of the message blocks to which its links lead.
pub record Row : Type 0 where
  pub kind : MsgKind
  pub band : ℕ
  pub number : ℕ
  pub start : ℕ
  pub end : ℕ
  pub next : Option ℕ
  pub ahead : Option ℕ
  pub behind : Option ℕ

-- a data block: the next free one, how many references it has, and its bytes
pub record DataRow : Type 0 where
  pub next : Option ℕ
  pub references : ℕ
  pub bytes : List ℕ

-- where the nodes of one kind begin, how many their memory has room for, and those that are made
pub record Rows (X : Type 0) : Type 0 where
  pub at : Ptr
  pub room : ℕ
  pub items : List X

abbrev pub rows : {X : Type 0} → Ptr → ℕ → List X → Rows X
rows p room xs = record { at = p; room = room; items = xs }

-- where both kinds of nodes begin, how many there is room for, and those that are made
pub record Nodes : Type 0 where
  pub mat : Ptr
  pub dat : Ptr
  pub mblks : ℕ
  pub dblks : ℕ
  pub rows : List Row
  pub datas : List DataRow

-- a message block as it is made; so one that isn't made counts too
abbrev pub no_row : Row
no_row = record { kind = kinds.Data; band = 0; number = 0; start = 0; end = 0; next = None; ahead = None; behind = None }

-- the bytes of a data block as it is made, and as it is freed
abbrev pub no_bytes : List ℕ
no_bytes = replicate 256 0

-- a data block as it is made; so one that isn't made counts too
abbrev pub no_data : DataRow
no_data = record { next = None; references = 0; bytes = no_bytes }

abbrev pub row_at : ℕ → List Row → Row
row_at i rows = slice_index_or rows i no_row

abbrev pub data_at : ℕ → List DataRow → DataRow
data_at i datas = slice_index_or datas i no_data

-- the number of the node to which a pointer leads
abbrev pub msg_number : Ptr → MsgLink → ℕ
msg_number mat l = index_of messages.node_size mat l.at

abbrev pub data_number : Ptr → DataLink → ℕ
data_number dat l = index_of data_blocks.node_size dat l.at

-- a pointer leads to one of the nodes
abbrev pub IsMsg : Ptr → ℕ → MsgLink → Type 0
IsMsg mat n l = IsPlace messages.node_size mat l.at n

abbrev pub IsData : Ptr → ℕ → DataLink → Type 0
IsData dat n l = IsPlace data_blocks.node_size dat l.at n

abbrev pub IsMsgOrNone : Ptr → ℕ → Option MsgLink → Type 0
IsMsgOrNone mat n o = MatchOption o (Unit {0}) (IsMsg mat n)

abbrev pub IsDataOrNone : Ptr → ℕ → Option DataLink → Type 0
IsDataOrNone dat n o = MatchOption o (Unit {0}) (IsData dat n)

-- a node whose links lead to nodes
pub record IsRow (mat dat : Ptr) (m d : ℕ) (n : MsgNode) : Type 0 where
  pub number : IsData dat d n.number
  pub next : IsMsgOrNone mat m n.next
  pub ahead : IsMsgOrNone mat m n.ahead
  pub behind : IsMsgOrNone mat m n.behind

abbrev pub row_of : Ptr → Ptr → MsgNode → Row
row_of mat dat n = record {
  kind = n.kind;
  band = n.band;
  number = data_number dat n.number;
  start = n.start;
  end = n.end;
  next = option_map (msg_number mat) n.next;
  ahead = option_map (msg_number mat) n.ahead;
  behind = option_map (msg_number mat) n.behind;
}

abbrev pub data_of : Ptr → DataNode → DataRow
data_of dat n = record { next = option_map (data_number dat) n.next; references = n.references; bytes = n.bytes }

abbrev pub nodes_of : Rows MsgNode → Rows DataNode → Nodes
nodes_of ms ds = record {
  mat = ms.at;
  dat = ds.at;
  mblks = ms.room;
  dblks = ds.room;
  rows = map (row_of ms.at ds.at) ms.items;
  datas = map (data_of ds.at) ds.items;
}

-- all links lead to nodes, and each message block has its own number
pub record AreLinked (ms : Rows MsgNode) (ds : Rows DataNode) : Type 0 where
  pub rows : (i : ℕ) (n : MsgNode) → slice_get ms.items i ≡ Some n → IsRow ms.at ds.at (length ms.items) (length ds.items) n
  pub named : (i : ℕ) (n : MsgNode) → slice_get ms.items i ≡ Some n → n.name ≡ i
  pub datas : (i : ℕ) (n : DataNode) → slice_get ds.items i ≡ Some n → IsDataOrNone ds.at (length ds.items) n.next
  pub sized : (i : ℕ) (n : DataNode) → slice_get ds.items i ≡ Some n → length n.bytes ≡ 256

-- a node whose links lead to nodes of a memory
abbrev pub Fits : Nodes → MsgNode → Type 0
Fits v n = IsRow v.mat v.dat (length v.rows) (length v.datas) n

abbrev pub with_row : ℕ → Row → Nodes → Nodes
with_row i r v = record v { rows = slice_set v.rows i r }

abbrev pub with_data : ℕ → DataRow → Nodes → Nodes
with_data i r v = record v { datas = slice_set v.datas i r }

-- a message block that shows bytes of a data block, with no next one
abbrev pub showing : Ptr → Shows → Row → Row
showing dat s r = record r { kind = s.kind; band = s.band; number = data_number dat s.number; start = s.start; end = s.end; next = None }
