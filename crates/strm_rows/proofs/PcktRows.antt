-- What pckt does with what is put at it, as worked out by hand from pckt(7M) and sys/stream.h.
use Rattle.strm_rows.proofs.Prelude.{ℕ, ◌≡◌, true, false, List, [], ◌∷◌, ◌++◌, map, refl, replicate, Option, None, Some, Data, Proto, Sig, Ctl, Ioctl}
use Rattle.strm_rows.proofs.Prelude.{Setopts, Iocack, Iocnak, Pcproto, Pcsig, Read, Flush, Stop, Start, Hangup, Error, MasterToSlave, SlaveToMaster}
use Rattle.strm_rows.proofs.Prelude.{Master, Slave, Way, Up, Down, Spot, Tagged, Base, Made, Written, plain, tagged, Acted, Comes, Parcel, no_own}
use Rattle.strm_rows.proofs.Prelude.{kind_number, Message, band_of, cells_of, is_high_priority, put_in, State, new_stream, opening, with_book}
use Rattle.strm_rows.proofs.Prelude.{with_stream, module_named, header, ordinary, proto, urgent, without_parts}
use Rattle.strm_types.specs.declared.names.ModuleName.TheVariants as names
use Rattle.strm_types.specs.Pckts.{Pckt, is_packed, pckt_puts}
use Rattle.strm_laws.specs.Puts.{booked}

pub kinds-that-are-packed :
    map is_packed (Data ∷ Proto ∷ Pcproto ∷ Ioctl ∷ Stop ∷ Start ∷ Flush ∷ Read ∷ []) ∷ map is_packed (Sig ∷ Ctl ∷ Setopts ∷ Iocack ∷ Iocnak ∷ Pcsig ∷ Hangup ∷ Error ∷ []) ∷ []
    ≡ replicate 8 true ∷ replicate 8 false ∷ []
kinds-that-are-packed = refl

-- on the master's side, at the second place

abbrev at : Way → Spot
at way = record { side = Master; at = 2; way = way }

abbrev up : {C : Type 0} → Message C → Parcel C
up m = record { to = record { side = Master; at = 1; way = Up }; message = m }

abbrev down : Message ℕ → Parcel ℕ
down m = record { to = record { side = Master; at = 3; way = Down }; message = m }

-- what becomes of a message that comes up, and of one that goes down; no cell was made before
abbrev from_below : Message ℕ → Acted ℕ Pckt
from_below m = pckt_puts plain 0 (at Up) m

abbrev from_above : Message ℕ → Acted ℕ Pckt
from_above m = pckt_puts plain 0 (at Down) m

abbrev passed : Parcel ℕ → Acted ℕ Pckt
passed p = record { state = record {}; notes = []; sent = p ∷ []; gone = [] }

-- a packet of a band, with the number of a kind and a data part
abbrev packet_of : {C : Type 0} → ℕ → C → Option (List C) → Message C
packet_of band kind body = record { kind = Proto; band = band; control = Some (kind ∷ []); body = body; plain = [] }

-- what goes up, and which bytes are made
abbrev packed : List (Parcel ℕ) → List ℕ → Acted ℕ Pckt
packed sent made = record { state = record {}; notes = []; sent = sent; gone = Comes SlaveToMaster made ∷ [] }

-- what has parts: its bytes are cells, and the number of the kind alone is made

pub data-is-packed : map from_below (ordinary (104 ∷ 105 ∷ []) ∷ ordinary [] ∷ record (ordinary (104 ∷ [])) { band = 3 } ∷ [])
    ≡ packed (up (packet_of 0 0 (Some (104 ∷ 105 ∷ []))) ∷ []) (0 ∷ []) ∷ packed (up (packet_of 0 0 (Some [])) ∷ []) (0 ∷ []) ∷ packed (up (packet_of 3 0 (Some (104 ∷ []))) ∷ []) (0 ∷ []) ∷ []
unfolding band_of cells_of is_high_priority kind_number
data-is-packed = refl

-- the control part goes before the data part, also where there is no data part or nothing in either
pub proto-is-packed : map from_below (proto ∷ record proto { body = None } ∷ record proto { control = Some []; body = None } ∷ [])
    ≡ packed (up (packet_of 2 1 (Some (1 ∷ 2 ∷ 3 ∷ 4 ∷ 5 ∷ []))) ∷ []) (1 ∷ []) ∷ packed (up (packet_of 2 1 (Some (1 ∷ 2 ∷ []))) ∷ []) (1 ∷ []) ∷ packed (up (packet_of 2 1 (Some [])) ∷ []) (1 ∷ []) ∷ []
unfolding band_of cells_of is_high_priority kind_number
proto-is-packed = refl

-- a packet is an ordinary message, also one of a message of high priority, whose band says nothing
pub pcproto-is-packed : map from_below (urgent ∷ record proto { kind = Pcproto; band = 0 } ∷ [])
    ≡ packed (up (packet_of 0 131 (Some (9 ∷ []))) ∷ []) (131 ∷ []) ∷ packed (up (packet_of 0 131 (Some (1 ∷ 2 ∷ 3 ∷ 4 ∷ 5 ∷ []))) ∷ []) (131 ∷ []) ∷ []
unfolding band_of cells_of is_high_priority kind_number
pcproto-is-packed = refl

-- what has no parts: its bytes are made too

pub ioctl-is-packed : map from_below (without_parts Ioctl (header 6 7 0) ∷ without_parts Ioctl (header 6 7 0 ++ 200 ∷ 201 ∷ []) ∷ without_parts Ioctl [] ∷ [])
    ≡ packed (up (packet_of 0 14 (Some (header 6 7 0))) ∷ []) (14 ∷ header 6 7 0)
    ∷ packed (up (packet_of 0 14 (Some (header 6 7 0 ++ 200 ∷ 201 ∷ []))) ∷ []) (14 ∷ (header 6 7 0 ++ 200 ∷ 201 ∷ []))
    ∷ packed (up (packet_of 0 14 (Some [])) ∷ []) (14 ∷ []) ∷ []
unfolding band_of cells_of is_high_priority kind_number
ioctl-is-packed = refl

pub read-is-packed : map from_below (without_parts Read (1 ∷ 2 ∷ []) ∷ without_parts Read [] ∷ [])
    ≡ packed (up (packet_of 0 133 (Some (1 ∷ 2 ∷ []))) ∷ []) (133 ∷ 1 ∷ 2 ∷ []) ∷ packed (up (packet_of 0 133 (Some [])) ∷ []) (133 ∷ []) ∷ []
unfolding band_of cells_of is_high_priority kind_number
read-is-packed = refl

-- M_STOP and M_START have no data part
pub stop-and-start-are-packed : map from_below (without_parts Stop [] ∷ without_parts Start [] ∷ without_parts Stop (1 ∷ []) ∷ [])
    ≡ packed (up (packet_of 0 135 None) ∷ []) (135 ∷ []) ∷ packed (up (packet_of 0 136 None) ∷ []) (136 ∷ []) ∷ packed (up (packet_of 0 135 None) ∷ []) (135 ∷ []) ∷ []
unfolding band_of cells_of is_high_priority kind_number
stop-and-start-are-packed = refl

-- none comes with a part; if one did, no cell of it would be lost
pub stop-with-a-part : from_below (record (without_parts Stop []) { body = Some (8 ∷ []) }) ≡ packed (up (packet_of 0 135 (Some (8 ∷ []))) ∷ []) (135 ∷ [])
unfolding band_of cells_of is_high_priority kind_number
stop-with-a-part = refl

-- An M_FLUSH with FLUSHR alone goes no further than its packet.
abbrev flush : List ℕ → Message ℕ
flush bytes = without_parts Flush bytes

pub flush-for-readers : map from_below (flush (1 ∷ []) ∷ flush (5 ∷ 2 ∷ []) ∷ flush (0 ∷ []) ∷ flush [] ∷ [])
    ≡ packed (up (packet_of 0 134 (Some (1 ∷ []))) ∷ []) (134 ∷ 1 ∷ []) ∷ packed (up (packet_of 0 134 (Some (5 ∷ 2 ∷ []))) ∷ []) (134 ∷ 5 ∷ 2 ∷ [])
    ∷ packed (up (packet_of 0 134 (Some (0 ∷ []))) ∷ []) (134 ∷ 0 ∷ []) ∷ packed (up (packet_of 0 134 (Some [])) ∷ []) (134 ∷ []) ∷ []
unfolding band_of cells_of is_high_priority kind_number
flush-for-readers = refl

-- One with FLUSHW goes up too, behind its packet and without FLUSHR; the packet has FLUSHR still.
pub flush-for-writers : map from_below (flush (2 ∷ []) ∷ flush (3 ∷ []) ∷ [])
    ≡ packed (up (packet_of 0 134 (Some (2 ∷ []))) ∷ up (flush (2 ∷ [])) ∷ []) (134 ∷ 2 ∷ []) ∷ packed (up (packet_of 0 134 (Some (3 ∷ []))) ∷ up (flush (2 ∷ [])) ∷ []) (134 ∷ 3 ∷ []) ∷ []
unfolding band_of cells_of is_high_priority kind_number
flush-for-writers = refl

-- FLUSHBAND and its band stay.
pub flush-of-a-band : map from_below (flush (6 ∷ 2 ∷ []) ∷ flush (7 ∷ 2 ∷ []) ∷ [])
    ≡ packed (up (packet_of 0 134 (Some (6 ∷ 2 ∷ []))) ∷ up (flush (6 ∷ 2 ∷ [])) ∷ []) (134 ∷ 6 ∷ 2 ∷ [])
    ∷ packed (up (packet_of 0 134 (Some (7 ∷ 2 ∷ []))) ∷ up (flush (6 ∷ 2 ∷ [])) ∷ []) (134 ∷ 7 ∷ 2 ∷ []) ∷ []
unfolding band_of cells_of is_high_priority kind_number
flush-of-a-band = refl

-- FLUSHBAND without a band asks for nothing
pub flush-of-no-band : from_below (flush (6 ∷ [])) ≡ packed (up (packet_of 0 134 (Some (6 ∷ []))) ∷ []) (134 ∷ 6 ∷ [])
unfolding band_of cells_of is_high_priority kind_number
flush-of-no-band = refl

-- all else goes on up as it is, and nothing is made
abbrev others : List (Message ℕ)
others = map (λ kind. without_parts kind (header 6 7 0)) (Sig ∷ Ctl ∷ Setopts ∷ Iocack ∷ Iocnak ∷ Pcsig ∷ Hangup ∷ Error ∷ [])

pub others-go-up : map from_below others ≡ map (λ m. passed (up m)) others
others-go-up = refl

-- and all goes on down
abbrev all_kinds : List (Message ℕ)
all_kinds = ordinary (1 ∷ []) ∷ ordinary [] ∷ proto ∷ urgent ∷ map (λ kind. without_parts kind (3 ∷ [])) (Ioctl ∷ Read ∷ Flush ∷ Stop ∷ Start ∷ []) ++ others

pub all-goes-down : map from_above all_kinds ≡ map (λ m. passed (down m)) all_kinds
all-goes-down = refl

-- on the slave's side what is made goes from the master
pub slave-has-one : pckt_puts plain 0 (record { side = Slave; at = 1; way = Up }) (ordinary (104 ∷ []))
    ≡ record { state = record {}; notes = []; sent = record { to = record { side = Slave; at = 0; way = Up }; message = packet_of 0 0 (Some (104 ∷ [])) } ∷ []; gone = Comes MasterToSlave (0 ∷ []) ∷ [] }
unfolding band_of cells_of is_high_priority kind_number
slave-has-one = refl

-- Cells with their origin: bytes of a message keep theirs, and the number of the kind is the next one that is made.

abbrev wrote : ℕ → ℕ → Tagged
wrote n b = record { byte = b; origin = Written SlaveToMaster n }

abbrev new : ℕ → ℕ → Tagged
new n b = record { byte = b; origin = Made SlaveToMaster n }

abbrev tagged_from_below : ℕ → Message Tagged → Acted Tagged Pckt
tagged_from_below made m = pckt_puts tagged made (at Up) m

pub bytes-keep-their-origin : tagged_from_below 40 (record { kind = Proto; band = 2; control = Some (wrote 7 1 ∷ []); body = Some (record { byte = 2; origin = Base SlaveToMaster 8 } ∷ new 9 3 ∷ []); plain = [] })
    ≡ record {
      state = record {};
      notes = [];
      sent = up (packet_of 2 (new 40 1) (Some (wrote 7 1 ∷ record { byte = 2; origin = Base SlaveToMaster 8 } ∷ new 9 3 ∷ []))) ∷ [];
      gone = Comes SlaveToMaster (new 40 1 ∷ []) ∷ [];
    }
unfolding band_of cells_of is_high_priority kind_number
bytes-keep-their-origin = refl

-- the bytes of an M_FLUSH are made behind it, and those of the one that is passed are none
pub other-bytes-are-made : tagged_from_below 40 (record { kind = Flush; band = 0; control = None; body = None; plain = 7 ∷ 2 ∷ [] })
    ≡ record {
      state = record {};
      notes = [];
      sent = up (packet_of 0 (new 40 134) (Some (new 41 7 ∷ new 42 2 ∷ []))) ∷ up (record { kind = Flush; band = 0; control = None; body = None; plain = 6 ∷ 2 ∷ [] }) ∷ [];
      gone = Comes SlaveToMaster (new 40 134 ∷ new 41 7 ∷ new 42 2 ∷ []) ∷ [];
    }
unfolding band_of cells_of is_high_priority kind_number
other-bytes-are-made = refl

pub stop-is-one-byte : tagged_from_below 0 (record { kind = Stop; band = 0; control = None; body = None; plain = [] })
    ≡ record { state = record {}; notes = []; sent = up (packet_of 0 (new 0 135) None) ∷ []; gone = Comes SlaveToMaster (new 0 135 ∷ []) ∷ [] }
unfolding band_of cells_of is_high_priority kind_number
stop-is-one-byte = refl

-- In a pair what is made is numbered from what was made before in the direction of what goes up, and booked there.

abbrev below_pckt : ℕ → State Tagged
below_pckt made = with_book SlaveToMaster (record { written = 5; made = 60 }) (with_book MasterToSlave (record { written = 3; made = made }) (with_stream Slave (record new_stream { modules = module_named no_own names.Pckt ∷ [] }) opening))

abbrev made_before : ℕ → ℕ → Tagged
made_before n b = record { byte = b; origin = Made MasterToSlave n }

abbrev stops : Message Tagged
stops = record { kind = Stop; band = 0; control = None; body = None; plain = [] }

pub packet-is-booked : put_in no_own tagged (record { side = Slave; at = 1; way = Up }) stops (below_pckt 40)
    ≡ record {
      state = below_pckt 41;
      sent = record { to = record { side = Slave; at = 0; way = Up }; message = packet_of 0 (made_before 40 135) None } ∷ [];
      gone = Comes MasterToSlave (made_before 40 135 ∷ []) ∷ [];
    }
unfolding band_of cells_of is_high_priority kind_number
packet-is-booked = refl

-- and what is told behind it goes on from there, in its own direction
pub each-direction-is-booked : booked (Comes SlaveToMaster (wrote 0 1 ∷ wrote 1 2 ∷ []) ∷ Comes MasterToSlave (made_before 40 7 ∷ []) ∷ Comes SlaveToMaster (wrote 2 3 ∷ []) ∷ []) (below_pckt 40)
    ≡ (with_book SlaveToMaster (record { written = 5; made = 63 }) (below_pckt 41))
each-direction-is-booked = refl
