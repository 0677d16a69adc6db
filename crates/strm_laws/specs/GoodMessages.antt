-- Messages as an image of a pair may hold them, and as modules may send them.
use Rattle.std.specs.Prelude.{◌≡◌, ◌≤◌, ◌<◌, ◌+◌, ◌||◌, Bool, true, false, List, [], length, None}
use Rattle.std.specs.List.{AllByRecursion}
use Rattle.strm_laws.specs.Prelude.{MsgKind, Ioctl, Iocack, Iocnak, Setopts, BANDS, IOCTL_MAX, is_control_kind, is_body_kind, Message, Parcel}
use Rattle.strm_laws.specs.Prelude.{is_high_priority, options_in, is_part}

-- the kinds that have parts: M_DATA, M_PROTO and M_PCPROTO (STREAMS Programming Guide, "Message Types")
abbrev pub is_part_kind : MsgKind → Bool
is_part_kind kind = is_control_kind kind || is_body_kind kind

-- the kinds that begin with the header of an ioctl: M_IOCTL, M_IOCACK and M_IOCNAK (streamio(7I): I_STR; sys/stream.h: struct iocblk)
abbrev pub has_header : MsgKind → Bool
has_header Ioctl = true
has_header Iocack = true
has_header Iocnak = true
has_header _ = false

abbrev pub sets_options : MsgKind → Bool
sets_options Setopts = true
sets_options _ = false

-- A message that fits its kind: M_PROTO and M_PCPROTO have a control part and no other kind has one, M_DATA has a data part, and a kind without
-- parts has its bytes in neither; its band is one that queues have, 0 for high priority; an ioctl's header has 16 bytes, with 256 behind it at most.
-- No M_SETOPTS that is sent here sets marks, and none stands on a queue.
pub record GoodMessage {C : Type 0} (m : Message C) : Type 0 where
  pub control : is_part m.control ≡ is_control_kind m.kind
  pub body : is_body_kind m.kind ≡ true → is_part m.body ≡ true
  pub bare : is_part_kind m.kind ≡ false → is_part m.body ≡ false
  pub plain : is_part_kind m.kind ≡ true → m.plain ≡ []
  pub band : m.band < BANDS
  pub high : is_high_priority m.kind ≡ true → m.band ≡ 0
  pub header : has_header m.kind ≡ true → (16 ≤ length m.plain) × (length m.plain ≤ 16 + IOCTL_MAX)
  pub options : sets_options m.kind ≡ true → (options_in m.plain).marks ≡ None

-- messages on their way, of which each is so
abbrev pub AreGood : {C : Type 0} → (Message C → Type 0) → List (Parcel C) → Type 0
AreGood Good ps = AllByRecursion (λ q. Good q.message) ps
