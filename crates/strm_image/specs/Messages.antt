-- The text of a message and of the messages of a queue, and which of them have one.
use Rattle.std.specs.Prelude.{ℕ, Bool, true, false, not, ◌&&◌, ◌||◌, ◌==◌, nat_lt, nat_le, if◌then◌else◌, List, [], length, Option, None, Some, unwrap_or, is_some}
use Rattle.strm_image.specs.Prelude.{MsgKind, Ioctl, Iocack, Iocnak, BANDS, HIGH_PRIORITY_RANK, crosses, is_data_kind, is_control_kind, waits_there}
use Rattle.strm_image.specs.Prelude.{Message, is_high_priority, rank_of}
use Rattle.strm_types.specs.Commands.{is_ioctl}
use Rattle.strm_image.specs.declared.versions.QueueKind.{QueueKind}
use Rattle.strm_image.specs.declared.versions.QueueKind.TheVariants as queues
use Rattle.strm_image.specs.declared.versions.Version.{Version}
use Rattle.strm_image.specs.declared.versions.Version.TheVariants.{First, Second}
use Rattle.strm_image.specs.declared.versions.TheConstants.{FIRST_BANDS}
use Rattle.strm_image.specs.Codes.{flag, kind}
use Rattle.strm_image.specs.Format.{Format, byte, u32, bytes_of, only, counted, chain, ◌then◌, made}

abbrev pub any : {A : Type 0} → A → Bool
any x = true

-- ---- parts of a message

-- whether a part is there, its length and its bytes; an absent part has length 0
abbrev pub part_fits : Bool × List ℕ → Bool
part_fits (there, bytes) = there || length bytes == 0

abbrev pub part_of : Bool × List ℕ → Option (List ℕ)
part_of (there, bytes) = if there then Some bytes else None

abbrev pub part_parts : Option (List ℕ) → Bool × List ℕ
part_parts None = (false, [])
part_parts (Some bytes) = (true, bytes)

unfoldable pub part : Format (Option (List ℕ))
part = made any part_of part_parts (only part_fits (flag then counted u32 bytes_of))

abbrev pub bytes_in : Option (List ℕ) → List ℕ
bytes_in o = unwrap_or o []

-- ---- messages

-- how many bands the messages of a version have
abbrev pub bands_in : Version → ℕ
bands_in First = FIRST_BANDS
bands_in Second = BANDS

-- a band that there is, and 0 for high priority
abbrev pub band_fits : Version → MsgKind → ℕ → Bool
band_fits v k band = nat_lt band (bands_in v) && (not (is_high_priority k) || band == 0)

-- a control part in M_PROTO and M_PCPROTO, and in no other kind
abbrev pub control_fits : MsgKind → Option (List ℕ) → Bool
control_fits k control = if is_control_kind k then is_some control else not (is_some control)

-- a data part in all other kinds, also for no bytes
abbrev pub data_fits : MsgKind → Option (List ℕ) → Bool
data_fits k body = is_control_kind k || is_some body

abbrev pub is_ioctl_kind : MsgKind → Bool
is_ioctl_kind Ioctl = true
is_ioctl_kind Iocack = true
is_ioctl_kind Iocnak = true
is_ioctl_kind _ = false

-- an ioctl has its header of 16 bytes, and 256 bytes behind it at most
abbrev pub ioctl_fits : MsgKind → ℕ → Bool
ioctl_fits k bytes = not (is_ioctl_kind k) || (nat_le 16 bytes && nat_le bytes 272)

-- a kind, a band, a control part and a data part
abbrev pub Parts : Type 0
Parts = MsgKind × (ℕ × (Option (List ℕ) × Option (List ℕ)))

abbrev pub parts_fit : Version → Parts → Bool
parts_fit v (k, (band, (control, body))) =
    band_fits v k band && (control_fits k control && (data_fits k body && ioctl_fits k (length (bytes_in body))))

-- All bytes of the kinds without cells stand in the data part.
abbrev pub message_with : Bool → Parts → Message ℕ
message_with cells (k, (band, (control, body))) = record {
  kind = k;
  band = band;
  control = if cells then control else None;
  body = if cells then body else None;
  plain = if cells then [] else bytes_in body;
}

abbrev pub message_of : Parts → Message ℕ
message_of x = message_with (is_data_kind x.0) x

abbrev pub parts_with : Bool → Message ℕ → Parts
parts_with cells m = (m.kind, (m.band, (m.control, if cells then m.body else Some m.plain)))

abbrev pub message_parts : Message ℕ → Parts
message_parts m = parts_with (is_data_kind m.kind) m

-- the bytes of a message stand where its kind has them
abbrev pub stands_with : Bool → Message ℕ → Bool
stands_with cells m = if cells then length m.plain == 0 else (not (is_some m.control) && not (is_some m.body))

abbrev pub is_message : Message ℕ → Bool
is_message m = stands_with (is_data_kind m.kind) m

unfoldable pub message : Version → Format (Message ℕ)
message v = made is_message message_of message_parts (only (parts_fit v) (kind then (byte then (part then part))))

-- ---- the messages of a queue

-- the kinds that stand on a queue
abbrev pub stands_at : QueueKind → MsgKind → Bool
stands_at queues.Head k = is_data_kind k
stands_at queues.ModuleRead k = waits_there k
stands_at queues.ModuleWrite k = waits_there k || is_ioctl k
stands_at queues.Driver k = crosses k || is_ioctl k

-- of a kind that stands on the queue, and of at most a rank
abbrev pub may_follow : QueueKind → ℕ → Message ℕ → Bool
may_follow at rank m = stands_at at m.kind && nat_le (rank_of m) rank

-- a message of a queue behind one of a rank
unfoldable pub message_behind : Version → QueueKind → ℕ → Format (Message ℕ)
message_behind v at rank = only (may_follow at rank) (message v)

abbrev pub next_rank : Message ℕ → ℕ → ℕ
next_rank m rank = rank_of m

-- the messages of a queue, each of at most the rank of the one before it
unfoldable pub messages : Version → QueueKind → Format (List (Message ℕ))
messages v at = counted u32 (chain next_rank (message_behind v at) HIGH_PRIORITY_RANK)
