-- How many blocks of each kind a put takes itself: at a head, of what comes up behind it, and at pckt (pckt(7M)). What tables say of puts is no less (Tables).
use Rattle.std.specs.Prelude.{ℕ, suc, Bool, true, false, ◌&&◌, ◌==◌, if◌then◌else◌, List}
use Rattle.strm_types.specs.declared.kinds.MsgKind.{MsgKind}
use Rattle.strm_types.specs.declared.kinds.MsgKind.TheVariants.{Flush, Ioctl}
use Rattle.strm_types.specs.declared.limits.TheConstants.{MODULES}
use Rattle.strm_types.specs.declared.names.Way.{Way}
use Rattle.strm_types.specs.declared.names.Way.TheVariants.{Up, Down}
use Rattle.strm_types.specs.declared.spots.Spot.{Spot}
use Rattle.strm_types.specs.Flushing.{asked_by, is_bare_flush}
use Rattle.strm_types.specs.Message.{Message}
use Rattle.strm_types.specs.Pckts.{is_flush_passed, is_packed}

-- whether what comes up to a head sends something down: an M_FLUSH with FLUSHW goes down again, and an M_IOCTL is answered
abbrev pub turns_round : MsgKind → List ℕ → Bool
turns_round Flush bytes = (asked_by bytes).for_write
turns_round Ioctl bytes = true
turns_round kind bytes = false

abbrev pub is_turned : {C : Type 0} → Message C → Bool
is_turned m = turns_round m.kind m.plain

-- whether a message on its way up is an M_FLUSH that was sent across, to the driver's place
abbrev pub is_across : {C : Type 0} → Spot → Message C → Bool
is_across here m = is_bare_flush m && here.at == suc MODULES

-- what a put takes itself, at a head, and of what comes up behind it
abbrev pub head_takes : {C : Type 0} → Message C → ℕ
head_takes m = if is_turned m then 1 else 0

abbrev pub up_takes : {C : Type 0} → Spot → Message C → ℕ
up_takes here m = if is_across here m then 1 else 0

-- what pckt takes itself of what comes up: one block for a packet, and one more for what is passed of an M_FLUSH
abbrev pub packet_blocks : MsgKind → List ℕ → ℕ
packet_blocks kind bytes = if is_packed kind then (if is_flush_passed kind bytes then 2 else 1) else 0

abbrev pub pckt_takes_on : Way → MsgKind → List ℕ → ℕ
pckt_takes_on Down kind bytes = 0
pckt_takes_on Up kind bytes = packet_blocks kind bytes

abbrev pub pckt_takes : {C : Type 0} → Spot → Message C → ℕ
pckt_takes here m = pckt_takes_on here.way m.kind m.plain

-- how many packets it makes
abbrev pub packs_on_way : {C : Type 0} → Way → Message C → ℕ
packs_on_way Up m = if is_packed m.kind then 1 else 0
packs_on_way Down m = 0
