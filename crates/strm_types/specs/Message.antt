-- A message as its users see it: without blocks (STREAMS Programming Guide, "Messages").
use Rattle.std.specs.Prelude.{ℕ, Bool, true, false, ◌||◌, List, [], ◌++◌, length, ◌+◌, map, if◌then◌else◌, Option, None, Some, unwrap_or, option_map, count_by}
use Rattle.strm_types.specs.declared.kinds.MsgKind.{MsgKind}
use Rattle.strm_types.specs.declared.limits.TheConstants.{HIGH_PRIORITY_RANK}
use Rattle.strm_types.specs.declared.kinds.MsgKind.TheVariants.{Data, Proto, Sig, Ctl, Ioctl, Setopts}

-- A message of cells: bytes, or bytes with their origin. Its control part and its data part are each absent or a list
-- of cells. The bytes of kinds that no ledger books (all but M_DATA, M_PROTO, M_PCPROTO) are no cells: they are `plain`.
pub record Message (C : Type 0) : Type 0 where
  pub kind : MsgKind
  pub band : ℕ
  pub control : Option (List C)
  pub body : Option (List C)
  pub plain : List ℕ

-- the kinds of high priority, which have the numbers from 0x80 up
unfoldable pub is_high_priority : MsgKind → Bool
is_high_priority Data = false
is_high_priority Proto = false
is_high_priority Sig = false
is_high_priority Ctl = false
is_high_priority Ioctl = false
is_high_priority Setopts = false
is_high_priority _ = true

-- the kinds that flow control holds back
unfoldable pub is_held : MsgKind → Bool
is_held Data = true
is_held Proto = true
is_held _ = false

module _ {C : Type 0} where
  -- the cells of a part, none where it is absent
  abbrev pub part : Option (List C) → List C
  part o = unwrap_or o []

  -- whether a part is there
  abbrev pub is_part : Option (List C) → Bool
  is_part None = false
  is_part (Some cells) = true

  -- whether a message has parts: M_DATA, M_PROTO and M_PCPROTO have, and no other one
  abbrev pub has_parts : Message C → Bool
  has_parts m = is_part m.control || is_part m.body

  -- all cells of a message: its control part, then its data part
  unfoldable pub cells_of : Message C → List C
  cells_of m = part m.control ++ part m.body

  -- how many bytes a message has, all of them
  unfoldable pub size_of : Message C → ℕ
  size_of m = length (cells_of m) + length m.plain

  -- the rank of a message: above all bands for high priority, else its band
  unfoldable pub rank_of : Message C → ℕ
  rank_of m = if is_high_priority m.kind then HIGH_PRIORITY_RANK else m.band

  -- the band in which a message's bytes count: those of high priority count in band 0
  unfoldable pub band_of : Message C → ℕ
  band_of m = if is_high_priority m.kind then 0 else m.band

  -- an ordinary message of data, M_DATA of band 0
  unfoldable pub data_message : List C → Message C
  data_message cells = record { kind = Data; band = 0; control = None; body = Some cells; plain = [] }

  -- how many cells of a message pass a test
  unfoldable pub weight_of : (C → Bool) → Message C → ℕ
  weight_of p m = count_by p (cells_of m)

-- the same message of other cells, as where their origins are forgotten
unfoldable pub map_message : {C D : Type 0} → (C → D) → Message C → Message D
map_message f m = record { kind = m.kind; band = m.band; control = option_map (map f) m.control; body = option_map (map f) m.body; plain = m.plain }
