-- The shapes of the messages that modules, heads and drivers make, and what they say of a message's kind.
use Rattle.std.proofs.Common.{ℕ, ◌≡◌, Bool, true, false, cond, List, refl, ap, ◌∙◌}
use Rattle.std.specs.Prelude.{◌&&◌, not, Option, None, Some}
use Rattle.strm_types.specs.declared.flushing.FlushAsked.{FlushAsked}
use Rattle.strm_types.specs.declared.kinds.Band.{Band}
use Rattle.strm_types.specs.declared.kinds.MsgKind.{MsgKind}
use Rattle.strm_types.specs.declared.kinds.MsgKind.TheVariants as kinds
use Rattle.strm_types.specs.Commands.{is_acked, is_asked, is_ioctl}
use Rattle.strm_types.specs.Flushing.{asked_by, flush_bytes, flush_message, is_bare_flush, is_flush, read_flush}
use Rattle.strm_types.specs.Message.{Message, data_message, has_parts}
use Rattle.strm_types.specs.Pckts.{is_flush_passed, is_packed}
use Rattle.strm_types.specs.Shapes.{Shape, Held, Asking, Acking, FlushR, FlushW, FlushRW, FlushMixed, Packed, Passing, bare_shape, is_flushing, shape_by, shape_of}
use Rattle.strm_types.proofs.LdtermPuts.{acked-bare, acked-kind}

-- an M_FLUSH for readers alone, and one that goes down again
pub reads-shape : (C : Type 0) (band : Option Band) → shape_of (flush_message {C = C} (read_flush band)) ≡ FlushR
reads-shape C None = refl
reads-shape C (Some band) = refl

pub writes-shape : (C : Type 0) (asked : FlushAsked) → asked.for_write ≡ true → shape_of (flush_message {C = C} (flush_bytes (record asked { for_read = false }))) ≡ FlushW
writes-shape C asked is = ap (λ w. form w asked.band) is ∙ by asked.band
  where
    form : Bool → Option Band → Shape
    form w band = shape_of (flush_message {C = C} (flush_bytes (record { for_read = false; for_write = w; band = band })))

    by : (band : Option Band) → form true band ≡ FlushW
    by None = refl
    by (Some band) = refl

pub data-shape : {C : Type 0} (cells : List C) → shape_of (data_message cells) ≡ Held
unfolding data_message
data-shape cells = refl

-- an M_IOCACK, and an M_IOCTL
pub acked-shape : {C : Type 0} (m : Message C) → is_acked m ≡ true → shape_of m ≡ Acking
acked-shape m is = ap (λ parts. shape_by parts m.kind m.plain) (acked-bare m is) ∙ ap (λ kind. bare_shape kind m.plain) (acked-kind m is)

pub asked-shape : {C : Type 0} (m : Message C) → is_asked m ≡ true → shape_of m ≡ Asking
asked-shape m is = at m.kind (has_parts m) is
  where
    at : (kind : MsgKind) (parts : Bool) → (is_ioctl kind && not parts) ≡ true → shape_by parts kind m.plain ≡ Asking
    at kinds.Ioctl false is = refl
    at kinds.Ioctl true is = absurd (cc)
    at _ parts is = absurd (cc)

-- what pckt looks at is told by the shape
abbrev pub packed_shape : Shape → Bool
packed_shape Acking = false
packed_shape Passing = false
packed_shape _ = true

abbrev pub passed_shape : Shape → Bool
passed_shape FlushW = true
passed_shape FlushRW = true
passed_shape FlushMixed = true
passed_shape _ = false

pub same-packed : (parts : Bool) (kind : MsgKind) (bytes : List ℕ) → packed_shape (shape_by parts kind bytes) ≡ is_packed kind
same-packed true kinds.Flush bytes = at (asked_by bytes).for_write
  where
    at : (w : Bool) → packed_shape (cond w FlushMixed Packed) ≡ true
    at true = refl
    at false = refl
same-packed false kinds.Flush bytes = at (asked_by bytes).for_write (asked_by bytes).for_read
  where
    at : (w r : Bool) → packed_shape (cond w (cond r FlushRW FlushW) FlushR) ≡ true
    at true true = refl
    at true false = refl
    at false r = refl
same-packed true _ bytes = refl
same-packed false _ bytes = refl

pub same-passed : (parts : Bool) (kind : MsgKind) (bytes : List ℕ) → passed_shape (shape_by parts kind bytes) ≡ is_flush_passed kind bytes
same-passed true kinds.Flush bytes = at (asked_by bytes).for_write
  where
    at : (w : Bool) → passed_shape (cond w FlushMixed Packed) ≡ w
    at true = refl
    at false = refl
same-passed false kinds.Flush bytes = at (asked_by bytes).for_write (asked_by bytes).for_read
  where
    at : (w r : Bool) → passed_shape (cond w (cond r FlushRW FlushW) FlushR) ≡ w
    at true true = refl
    at true false = refl
    at false r = refl
same-passed true _ bytes = refl
same-passed false _ bytes = refl

-- so is whether a driver takes it that comes across
pub same-flushing : {C : Type 0} (m : Message C) → is_flushing (shape_of m) ≡ is_bare_flush m
same-flushing m = at (has_parts m) m.kind m.plain
  where
    with-parts : (w : Bool) → is_flushing (cond w FlushMixed Packed) ≡ false
    with-parts true = refl
    with-parts false = refl

    bare : (w r : Bool) → is_flushing (cond w (cond r FlushRW FlushW) FlushR) ≡ true
    bare true true = refl
    bare true false = refl
    bare false r = refl

    at : (parts : Bool) (kind : MsgKind) (bytes : List ℕ) → is_flushing (shape_by parts kind bytes) ≡ (is_flush kind && not parts)
    at true kinds.Flush bytes = with-parts (asked_by bytes).for_write
    at false kinds.Flush bytes = bare (asked_by bytes).for_write (asked_by bytes).for_read
    at true _ bytes = refl
    at false _ bytes = refl
