-- Messages and queues for the rows.
use Rattle.strm_laws.proofs.Prelude.{ℕ, Bool, true, false, List, [], ◌∷◌, None, Some}
use Rattle.strm_laws.specs.Prelude.{MsgKind, Data, Proto, Setopts, Pcproto, Message, Refuse, ByteStream, Free, Queue, Flow, Head, Discipline}
use Rattle.strm_laws.specs.Prelude.{discipline, new_ldterm, new_pair}

-- an M_PROTO of band 2, an M_PCPROTO that names band 3, an M_SETOPTS of band 1 whose four bytes are no cells
abbrev pub proto : Message ℕ
proto = record { kind = Proto; band = 2; control = Some (1 ∷ 2 ∷ []); body = Some (3 ∷ 4 ∷ 5 ∷ []); plain = [] }

abbrev pub urgent : Message ℕ
urgent = record { kind = Pcproto; band = 3; control = Some (9 ∷ []); body = None; plain = [] }

abbrev pub options : Message ℕ
options = record { kind = Setopts; band = 1; control = None; body = None; plain = 1 ∷ 2 ∷ 3 ∷ 4 ∷ [] }

-- a message without parts, of a kind and these bytes
abbrev pub without_parts : MsgKind → List ℕ → Message ℕ
without_parts kind bytes = record { kind = kind; band = 0; control = None; body = None; plain = bytes }

-- the header of an ioctl message: its command, its number and its refusal are the last bytes of their four, and it has no result
abbrev pub header : ℕ → ℕ → ℕ → List ℕ
header command number error = 0 ∷ 0 ∷ 0 ∷ command ∷ 0 ∷ 0 ∷ 0 ∷ number ∷ 0 ∷ 0 ∷ 0 ∷ error ∷ 0 ∷ 0 ∷ 0 ∷ 0 ∷ []

-- an ordinary message of these bytes
abbrev pub ordinary : List ℕ → Message ℕ
ordinary bytes = record { kind = Data; band = 0; control = None; body = Some bytes; plain = [] }

abbrev pub flow : ℕ → ℕ → Bool → Flow
flow high low want_write = record { high = high; low = low; want_write = want_write }

abbrev pub queue : List (Message ℕ) → List Flow → Queue ℕ
queue messages flows = record { messages = messages; flows = flows; want_read = true; no_enable = false }

-- a head in the modes of a new one
abbrev pub head_with : Queue ℕ → Bool → Head ℕ
head_with q hung_up = record { queue = q; read_mode = ByteStream; control_mode = Refuse; tostop = false; group = 0; hung_up = hung_up; signals = []; ioctl = Free }

-- an ldterm as it is pushed, with its queues
module _ {C : Type 0} where
  abbrev pub fresh : Discipline C
  fresh = discipline new_ldterm new_pair
