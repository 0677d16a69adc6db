-- How a message hangs behind another one.
use Rattle.std.specs.Prelude.{ℕ, ◌≡◌, ◌≤◌, ◌-◌, List, length, slice_index_or, Some}
use Rattle.strm_raw.specs.Numbered.{Nodes, row_at, msg_number, with_row, IsMsg}
use Rattle.strm_raw.specs.Roster.{Roster}
use Rattle.strm_raw.specs.Raw.{IsChain, linked}
use Rattle.strm_raw.specs.declared.msg_nodes.MsgLink.{MsgLink}

-- the last block of the message that begins with block i leads on to block j
pub record Hangs (v v' : Nodes) (b b' : Roster) (i j : ℕ) : Type 0 where
  pub head : MsgLink
  pub next : MsgLink
  pub there : IsMsg v.mat (length v.rows) head
  pub there_next : IsMsg v.mat (length v.rows) next
  pub number : msg_number v.mat head ≡ i
  pub number_next : msg_number v.mat next ≡ j
  pub nodes : (is : List ℕ) → IsChain v.rows i is → length is ≤ length v.rows
      → let t = slice_index_or is (length is - 1) 0 in v' ≡ with_row t (record (row_at t v.rows) { next = Some j }) v
  pub roster_is : b' ≡ linked head j b
