-- The module pckt on a stream: it makes packets of what comes up, by which those who read above it learn what kind each message was (pckt(7M)).
-- It is set to nothing and has no queues, and nothing that is put at it waits there.
use Rattle.std.specs.Prelude.{ℕ, suc, Bool, true, false, ◌&&◌, not, if◌then◌else◌, List, [], ◌∷◌, ◌++◌, None, Some}
use Rattle.strm_types.specs.declared.flushing.FlushAsked.{FlushAsked}
use Rattle.strm_types.specs.declared.kinds.MsgKind.{MsgKind}
use Rattle.strm_types.specs.declared.kinds.MsgKind.TheVariants.{Data, Proto, Ioctl, Pcproto, Read, Flush, Stop, Start}
use Rattle.strm_types.specs.declared.names.Dir.{Dir}
use Rattle.strm_types.specs.declared.names.Way.{Way}
use Rattle.strm_types.specs.declared.names.Way.TheVariants.{Up, Down}
use Rattle.strm_types.specs.declared.spots.Spot.{Spot}
use Rattle.strm_types.specs.Cells.{Cells, cells_made}
use Rattle.strm_types.specs.Deliver.{Acted, Comes, Parcel, onward}
use Rattle.strm_types.specs.Flushing.{asked_by, flush_bytes, flush_message}
use Rattle.strm_types.specs.Kinds.{kind_number}
use Rattle.strm_types.specs.Message.{Message, band_of, cells_of, has_parts}
use Rattle.strm_types.specs.Names.{direction_at}

-- what it is set to: nothing
pub record Pckt : Type 0 where

-- one as it is pushed
abbrev pub new_pckt : Pckt
new_pckt = record {}

-- the kinds of which packets are made
abbrev pub is_packed : MsgKind → Bool
is_packed Data = true
is_packed Proto = true
is_packed Ioctl = true
is_packed Pcproto = true
is_packed Read = true
is_packed Flush = true
is_packed Stop = true
is_packed Start = true
is_packed _ = false

-- those of them whose number says all
abbrev pub is_stop_or_start : MsgKind → Bool
is_stop_or_start Stop = true
is_stop_or_start Start = true
is_stop_or_start _ = false

-- whether an M_FLUSH is passed up: one with FLUSHW is
abbrev pub is_flush_passed : MsgKind → List ℕ → Bool
is_flush_passed Flush bytes = (asked_by bytes).for_write
is_flush_passed _ bytes = false

module _ {C : Type 0} where
  -- a message goes on as it is
  abbrev pub pckt_passes : Spot → Message C → Acted C Pckt
  pckt_passes here m = record { state = record {}; notes = []; sent = onward here.way here m ∷ []; gone = [] }

  -- whether a packet of a message has no data part
  abbrev pub is_bare_packet : Message C → Bool
  is_bare_packet m = is_stop_or_start m.kind && not (has_parts m)

  -- the bytes of a packet that are no cells of its message, behind the number of the kind
  abbrev pub plain_packed : Message C → List ℕ
  plain_packed m = if is_bare_packet m then [] else m.plain

  -- What is passed up of an M_FLUSH has FLUSHR cleared, so that those who read here keep what they have. FLUSHBAND and its band stay.
  abbrev pub writers_flush : Spot → FlushAsked → Parcel C
  writers_flush here asked = onward Up here (flush_message (flush_bytes (record asked { for_read = false })))

  abbrev pub flush_passed : Spot → MsgKind → List ℕ → List (Parcel C)
  flush_passed here kind bytes = if is_flush_passed kind bytes then writers_flush here (asked_by bytes) ∷ [] else []

  module _ (cells : Cells C) (made : ℕ) (here : Spot) where
    -- the direction in which they go up
    abbrev pub pckt_dir : Dir
    pckt_dir = direction_at Up here.side

    -- the number of the kind, and then the bytes that are no cells of the message, are made
    abbrev pub kind_made : Message C → C
    kind_made m = cells.made pckt_dir made (kind_number m.kind)

    abbrev pub plain_made : Message C → List C
    plain_made m = cells_made cells pckt_dir (suc made) (plain_packed m)

    -- The packet of a message: an M_PROTO of its band, whose control part is the number of the kind. Its data part has all bytes of the message:
    -- those of its control part, those of its data part, and those that are in no part.
    abbrev pub packet : Message C → Message C
    packet m = record {
      kind = Proto;
      band = band_of m;
      control = Some (kind_made m ∷ []);
      body = if is_bare_packet m then None else Some (cells_of m ++ plain_made m);
      plain = [];
    }

    -- It goes up in place of the message, and what is passed of an M_FLUSH behind it.
    abbrev pub pckt_packs : Message C → Acted C Pckt
    pckt_packs m = record {
      state = record {};
      notes = [];
      sent = onward Up here (packet m) ∷ flush_passed here m.kind m.plain;
      gone = Comes pckt_dir (kind_made m ∷ plain_made m) ∷ [];
    }

    abbrev pub pckt_on_way : Way → Message C → Acted C Pckt
    pckt_on_way Down m = pckt_passes here m
    pckt_on_way Up m = if is_packed m.kind then pckt_packs m else pckt_passes here m

    -- A message that is put here, on its way up or down, where so many cells were made before in the direction of what goes up.
    abbrev pub pckt_puts : Message C → Acted C Pckt
    pckt_puts m = pckt_on_way here.way m
