-- What a putmsg(2) or putpmsg(2) sends down a stream, and what it is refused for before anything else is looked at.
use Rattle.std.specs.Prelude.{ℕ, Bool, false, not, ◌&&◌, ◌||◌, ◌+◌, nat_lt, if◌then◌else◌, List, [], length, Option, None, Some}
use Rattle.strm_types.specs.declared.kinds.MsgKind.{MsgKind}
use Rattle.strm_types.specs.declared.kinds.MsgKind.TheVariants.{Data, Proto, Pcproto}
use Rattle.strm_types.specs.declared.limits.TheConstants.{CONTROL_MAX, DATA_MAX}
use Rattle.strm_types.specs.declared.modes.Prio.{Prio}
use Rattle.strm_types.specs.declared.modes.Prio.TheVariants.{High, Band}
use Rattle.strm_types.specs.declared.refusals.Refusal.{Refusal}
use Rattle.strm_types.specs.declared.refusals.Refusal.TheVariants.{Einval, Erange}
use Rattle.strm_types.specs.Message.{Message, part, is_part}

-- the band of a priority, 0 for the high one
abbrev pub put_band : Prio → ℕ
put_band High = 0
put_band (Band band) = band.0

module _ {C : Type 0} where
  -- neither part is there: then nothing is sent
  abbrev pub no_parts : Option (List C) → Option (List C) → Bool
  no_parts control body = not (is_part control || is_part body)

  -- M_PCPROTO for high priority, else M_PROTO with a control part and M_DATA without
  abbrev pub put_kind : Prio → Option (List C) → MsgKind
  put_kind High control = Pcproto
  put_kind (Band band) (Some control) = Proto
  put_kind (Band band) None = Data

  -- the message that is sent
  abbrev pub put_message : Prio → Option (List C) → Option (List C) → Message C
  put_message prio control body = record { kind = put_kind prio control; band = put_band prio; control = control; body = body; plain = [] }

  -- whether no message can have this priority: one of high priority has a control part
  abbrev pub is_no_prio : Prio → Option (List C) → Bool
  is_no_prio High control = not (is_part control)
  is_no_prio (Band band) control = false

  -- whether a part is longer than one that is sent
  abbrev pub is_too_long : Option (List C) → Option (List C) → Bool
  is_too_long control body = nat_lt CONTROL_MAX (length (part control)) || nat_lt DATA_MAX (length (part body))

  -- what a putmsg is refused for by its arguments alone: EINVAL, then ERANGE
  abbrev pub put_refusal : Prio → Option (List C) → Option (List C) → Option Refusal
  put_refusal prio control body =
      if is_no_prio prio control then Some Einval
      else (if is_too_long control body then Some Erange else None)

  -- how many blocks its parts take: each part fits in one
  abbrev pub part_blocks : Option (List C) → ℕ
  part_blocks None = 0
  part_blocks (Some cells) = 1

  abbrev pub put_blocks : Option (List C) → Option (List C) → ℕ
  put_blocks control body = part_blocks control + part_blocks body

-- Whether it has to wait, as the queue below is full in its band. High priority waits for nothing, nor does what isn't sent.
abbrev pub put_waits : {C : Type 0} → Prio → Option (List C) → Option (List C) → (ℕ → Bool) → Bool
put_waits High control body full = false
put_waits (Band band) control body full = not (no_parts control body) && full band.0
