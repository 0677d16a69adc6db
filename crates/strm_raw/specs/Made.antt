-- The free block that is given out next: one that is linked, or one that is made.
use Rattle.std.specs.Prelude.{◌≡◌, ◌+◌, [], ◌∷◌, ◌++◌, length, Option, None, Some}
use Rattle.strm_raw.specs.Numbered.{Nodes, no_row, no_data, msg_number, data_number, IsMsg, IsData}
use Rattle.strm_raw.specs.Roster.{Roster}
use Rattle.strm_raw.specs.Raw.{given_data}
use Rattle.strm_raw.specs.declared.msg_nodes.MsgLink.{MsgLink}
use Rattle.strm_raw.specs.declared.data_nodes.DataLink.{DataLink}

-- a message block is free
abbrev pub given_message : MsgLink → Roster → Roster
given_message l b = record b { free_m = msg_number b.mat l ∷ b.free_m }

-- A message block is made behind the others, and is free.
pub record MakesMessage (old new : Nodes) (b b' : Roster) (l : MsgLink) : Type 0 where
  pub nodes : new ≡ record old { rows = old.rows ++ no_row ∷ [] }
  pub roster : b' ≡ given_message l b
  pub there : IsMsg old.mat (length old.rows + 1) l
  pub number : msg_number old.mat l ≡ length old.rows

-- A data block is made behind the others, and is free.
pub record MakesData (old new : Nodes) (b b' : Roster) (k : DataLink) : Type 0 where
  pub nodes : new ≡ record old { datas = old.datas ++ no_data ∷ [] }
  pub roster : b' ≡ given_data k b
  pub there : IsData old.dat (length old.datas + 1) k
  pub number : data_number old.dat k ≡ length old.datas

-- A block is the one that is there, and nothing is made.
pub record IsThere {Link : Type 0} (old new : Nodes) (b b' : Roster) (first l : Link) : Type 0 where
  pub nodes : new ≡ old
  pub roster : b' ≡ b
  pub link : l ≡ first

abbrev pub GivesMessage : Nodes → Nodes → Roster → Roster → Option MsgLink → MsgLink → Type 0
GivesMessage old new b b' None l = MakesMessage old new b b' l
GivesMessage old new b b' (Some first) l = IsThere old new b b' first l

abbrev pub GivesData : Nodes → Nodes → Roster → Roster → Option DataLink → DataLink → Type 0
GivesData old new b b' None k = MakesData old new b b' k
GivesData old new b b' (Some first) k = IsThere old new b b' first k
