-- What a delivery depends on of a message, beside the spot to which it goes: what modules, heads and drivers tell messages apart by, where they
-- send something on.
use Rattle.std.specs.Prelude.{ℕ, Bool, true, false, if◌then◌else◌, List}
use Rattle.strm_types.specs.declared.flushing.FlushAsked.{FlushAsked}
use Rattle.strm_types.specs.declared.kinds.MsgKind.{MsgKind}
use Rattle.strm_types.specs.declared.kinds.MsgKind.TheVariants as kinds
use Rattle.strm_types.specs.declared.spots.Spot.{Spot}
use Rattle.strm_types.specs.Deliver.{Parcel}
use Rattle.strm_types.specs.Flushing.{asked_by}
use Rattle.strm_types.specs.Message.{Message, has_parts}
use Rattle.strm_types.specs.Pckts.{is_packed}

-- M_DATA and M_PROTO; M_IOCTL; M_IOCACK; an M_FLUSH without FLUSHW, with FLUSHW alone, and with both; what is none of these and becomes a packet
-- at pckt, and what passes all modules. An M_FLUSH with FLUSHW that has parts is mixed: pckt treats it, and no head or driver does.
pub data Shape : Type 0 where
  Held : Shape
  Asking : Shape
  Acking : Shape
  FlushR : Shape
  FlushW : Shape
  FlushRW : Shape
  FlushMixed : Shape
  Packed : Shape
  Passing : Shape

-- a kind of message that is neither obeyed nor answered
abbrev pub other_shape : Bool → Shape
other_shape packed = if packed then Packed else Passing

abbrev pub flush_shape : FlushAsked → Shape
flush_shape asked = if asked.for_write then (if asked.for_read then FlushRW else FlushW) else FlushR

-- without parts, and with parts
abbrev pub bare_shape : MsgKind → List ℕ → Shape
bare_shape kinds.Data bytes = Held
bare_shape kinds.Proto bytes = Held
bare_shape kinds.Ioctl bytes = Asking
bare_shape kinds.Iocack bytes = Acking
bare_shape kinds.Flush bytes = flush_shape (asked_by bytes)
bare_shape kind bytes = other_shape (is_packed kind)

abbrev pub parts_shape : MsgKind → List ℕ → Shape
parts_shape kinds.Data bytes = Held
parts_shape kinds.Proto bytes = Held
parts_shape kinds.Flush bytes = if (asked_by bytes).for_write then FlushMixed else Packed
parts_shape kind bytes = other_shape (is_packed kind)

abbrev pub shape_by : Bool → MsgKind → List ℕ → Shape
shape_by parts kind bytes = if parts then parts_shape kind bytes else bare_shape kind bytes

abbrev pub shape_of : {C : Type 0} → Message C → Shape
shape_of m = shape_by (has_parts m) m.kind m.plain

-- whether it is an M_FLUSH as it always is, without parts
abbrev pub is_flushing : Shape → Bool
is_flushing FlushR = true
is_flushing FlushW = true
is_flushing FlushRW = true
is_flushing _ = false

-- a message of a shape on its way to a spot
pub record At : Type 0 where
  pub to : Spot
  pub shape : Shape

abbrev pub at_of : {C : Type 0} → Parcel C → At
at_of p = record { to = p.to; shape = shape_of p.message }
