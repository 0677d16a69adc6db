-- What reads give in each read mode and control mode, worked out by hand from read(2) and streamio(7I).
use Rattle.strm_rows.proofs.Prelude.{ℕ, ◌≡◌, true, false, List, [], ◌∷◌, refl, None, Some, ByteStream, MessageKeep, MessageDiscard, Refuse, Discard}
use Rattle.strm_rows.proofs.Prelude.{Eagain, Ebadmsg, Message, cells_of, rank_of, band_of, is_high_priority, urgent, ordinary}
use Rattle.strm_types.specs.declared.kinds.MsgKind.TheVariants as kinds
use Rattle.strm_types.specs.declared.modes.ControlMode.TheVariants.{Data}
use Rattle.strm_types.specs.Reads.{Drawn, head_draw, read_refusal}

abbrev taken : List ℕ → List ℕ → List ℕ → List (Message ℕ) → Drawn ℕ
taken given discarded dropped left = record { given = given; discarded = discarded; dropped = dropped; left = left }

-- an M_DATA message of band 2
abbrev banded : List ℕ → Message ℕ
banded bytes = record { kind = kinds.Data; band = 2; control = None; body = Some bytes; plain = [] }

-- an M_PROTO of band 2 with these parts
abbrev parts : List ℕ → List ℕ → Message ℕ
parts control body = record { kind = kinds.Proto; band = 2; control = Some control; body = Some body; plain = [] }

-- an M_PROTO of band 0 without a data part
abbrev only : List ℕ → Message ℕ
only control = record { kind = kinds.Proto; band = 0; control = Some control; body = None; plain = [] }

-- an M_PCPROTO with a data part
abbrev high : List ℕ → List ℕ → Message ℕ
high control body = record { kind = kinds.Pcproto; band = 0; control = Some control; body = Some body; plain = [] }

-- across messages, and the rest is put back
pub stream-across : head_draw ByteStream Refuse 4 (ordinary (1 ∷ 2 ∷ []) ∷ ordinary (3 ∷ 4 ∷ 5 ∷ []) ∷ []) ≡ taken (1 ∷ 2 ∷ 3 ∷ 4 ∷ []) [] [] (ordinary (5 ∷ []) ∷ [])
unfolding cells_of rank_of band_of is_high_priority
stream-across = refl

-- exactly two messages
pub stream-exact : head_draw ByteStream Refuse 5 (ordinary (1 ∷ 2 ∷ []) ∷ ordinary (3 ∷ 4 ∷ 5 ∷ []) ∷ ordinary (1 ∷ 2 ∷ []) ∷ []) ≡ taken (1 ∷ 2 ∷ 3 ∷ 4 ∷ 5 ∷ []) [] [] (ordinary (1 ∷ 2 ∷ []) ∷ [])
unfolding cells_of rank_of band_of is_high_priority
stream-exact = refl

pub stream-rest : head_draw ByteStream Refuse 1 (ordinary (1 ∷ 2 ∷ []) ∷ []) ≡ taken (1 ∷ []) [] [] (ordinary (2 ∷ []) ∷ [])
unfolding cells_of rank_of band_of is_high_priority
stream-rest = refl

-- a read of messages ends with its message
pub keep-ends : head_draw MessageKeep Refuse 4 (ordinary (1 ∷ 2 ∷ []) ∷ ordinary (3 ∷ 4 ∷ 5 ∷ []) ∷ []) ≡ taken (1 ∷ 2 ∷ []) [] [] (ordinary (3 ∷ 4 ∷ 5 ∷ []) ∷ [])
unfolding cells_of rank_of band_of is_high_priority
keep-ends = refl

pub keep-rest : head_draw MessageKeep Refuse 1 (ordinary (1 ∷ 2 ∷ []) ∷ ordinary (3 ∷ 4 ∷ 5 ∷ []) ∷ []) ≡ taken (1 ∷ []) [] [] (ordinary (2 ∷ []) ∷ ordinary (3 ∷ 4 ∷ 5 ∷ []) ∷ [])
unfolding cells_of rank_of band_of is_high_priority
keep-rest = refl

pub keep-exact : head_draw MessageKeep Refuse 2 (ordinary (1 ∷ 2 ∷ []) ∷ ordinary (3 ∷ 4 ∷ 5 ∷ []) ∷ []) ≡ taken (1 ∷ 2 ∷ []) [] [] (ordinary (3 ∷ 4 ∷ 5 ∷ []) ∷ [])
unfolding cells_of rank_of band_of is_high_priority
keep-exact = refl

pub discard-ends : head_draw MessageDiscard Refuse 4 (ordinary (1 ∷ 2 ∷ []) ∷ ordinary (3 ∷ 4 ∷ 5 ∷ []) ∷ []) ≡ taken (1 ∷ 2 ∷ []) [] [] (ordinary (3 ∷ 4 ∷ 5 ∷ []) ∷ [])
unfolding cells_of rank_of band_of is_high_priority
discard-ends = refl

-- and discards the rest under RMSGD
pub discard-rest : head_draw MessageDiscard Refuse 1 (ordinary (3 ∷ 4 ∷ 5 ∷ []) ∷ ordinary (1 ∷ 2 ∷ []) ∷ []) ≡ taken (3 ∷ []) (4 ∷ 5 ∷ []) [] (ordinary (1 ∷ 2 ∷ []) ∷ [])
unfolding cells_of rank_of band_of is_high_priority
discard-rest = refl

pub discard-exact : head_draw MessageDiscard Refuse 3 (ordinary (3 ∷ 4 ∷ 5 ∷ []) ∷ ordinary (1 ∷ 2 ∷ []) ∷ []) ≡ taken (3 ∷ 4 ∷ 5 ∷ []) [] [] (ordinary (1 ∷ 2 ∷ []) ∷ [])
unfolding cells_of rank_of band_of is_high_priority
discard-exact = refl

-- a read of none takes nothing
pub stream-none : head_draw ByteStream Refuse 0 (ordinary (1 ∷ 2 ∷ []) ∷ []) ≡ taken [] [] [] (ordinary (1 ∷ 2 ∷ []) ∷ [])
unfolding cells_of rank_of band_of is_high_priority
stream-none = refl

-- a zero-length message that stands first goes, and nothing is given
pub stream-empty-first : head_draw ByteStream Refuse 3 (ordinary [] ∷ ordinary (1 ∷ 2 ∷ []) ∷ []) ≡ taken [] [] [] (ordinary (1 ∷ 2 ∷ []) ∷ [])
unfolding cells_of rank_of band_of is_high_priority
stream-empty-first = refl

pub stream-empty-alone : head_draw ByteStream Refuse 3 (ordinary [] ∷ []) ≡ taken [] [] [] []
unfolding cells_of rank_of band_of is_high_priority
stream-empty-alone = refl

pub stream-empty-stays : head_draw ByteStream Refuse 0 (ordinary [] ∷ []) ≡ taken [] [] [] (ordinary [] ∷ [])
unfolding cells_of rank_of band_of is_high_priority
stream-empty-stays = refl

pub keep-none : head_draw MessageKeep Refuse 0 (ordinary (1 ∷ 2 ∷ []) ∷ []) ≡ taken [] [] [] (ordinary (1 ∷ 2 ∷ []) ∷ [])
unfolding cells_of rank_of band_of is_high_priority
keep-none = refl

pub keep-empty-first : head_draw MessageKeep Refuse 3 (ordinary [] ∷ ordinary (1 ∷ 2 ∷ []) ∷ []) ≡ taken [] [] [] (ordinary (1 ∷ 2 ∷ []) ∷ [])
unfolding cells_of rank_of band_of is_high_priority
keep-empty-first = refl

pub keep-empty-alone : head_draw MessageKeep Refuse 3 (ordinary [] ∷ []) ≡ taken [] [] [] []
unfolding cells_of rank_of band_of is_high_priority
keep-empty-alone = refl

pub keep-empty-stays : head_draw MessageKeep Refuse 0 (ordinary [] ∷ []) ≡ taken [] [] [] (ordinary [] ∷ [])
unfolding cells_of rank_of band_of is_high_priority
keep-empty-stays = refl

pub discard-none : head_draw MessageDiscard Refuse 0 (ordinary (1 ∷ 2 ∷ []) ∷ []) ≡ taken [] [] [] (ordinary (1 ∷ 2 ∷ []) ∷ [])
unfolding cells_of rank_of band_of is_high_priority
discard-none = refl

pub discard-empty-first : head_draw MessageDiscard Refuse 3 (ordinary [] ∷ ordinary (1 ∷ 2 ∷ []) ∷ []) ≡ taken [] [] [] (ordinary (1 ∷ 2 ∷ []) ∷ [])
unfolding cells_of rank_of band_of is_high_priority
discard-empty-first = refl

pub discard-empty-alone : head_draw MessageDiscard Refuse 3 (ordinary [] ∷ []) ≡ taken [] [] [] []
unfolding cells_of rank_of band_of is_high_priority
discard-empty-alone = refl

pub discard-empty-stays : head_draw MessageDiscard Refuse 0 (ordinary [] ∷ []) ≡ taken [] [] [] (ordinary [] ∷ [])
unfolding cells_of rank_of band_of is_high_priority
discard-empty-stays = refl

-- behind bytes it ends the read and stays
pub stream-empty-behind : head_draw ByteStream Refuse 9 (ordinary (1 ∷ 2 ∷ []) ∷ ordinary [] ∷ ordinary (3 ∷ 4 ∷ 5 ∷ []) ∷ []) ≡ taken (1 ∷ 2 ∷ []) [] [] (ordinary [] ∷ ordinary (3 ∷ 4 ∷ 5 ∷ []) ∷ [])
unfolding cells_of rank_of band_of is_high_priority
stream-empty-behind = refl

pub keep-empty-behind : head_draw MessageKeep Refuse 9 (ordinary (1 ∷ 2 ∷ []) ∷ ordinary [] ∷ []) ≡ taken (1 ∷ 2 ∷ []) [] [] (ordinary [] ∷ [])
unfolding cells_of rank_of band_of is_high_priority
keep-empty-behind = refl

-- the rest of a banded message keeps its band
pub stream-band : head_draw ByteStream Refuse 1 (banded (1 ∷ 2 ∷ []) ∷ ordinary (1 ∷ 2 ∷ []) ∷ []) ≡ taken (1 ∷ []) [] [] (banded (2 ∷ []) ∷ ordinary (1 ∷ 2 ∷ []) ∷ [])
unfolding cells_of rank_of band_of is_high_priority
stream-band = refl

-- under RPROTNORM a control part stops a read
pub refuse-first : head_draw ByteStream Refuse 9 (parts (7 ∷ []) (1 ∷ []) ∷ ordinary (1 ∷ 2 ∷ []) ∷ []) ≡ taken [] [] [] (parts (7 ∷ []) (1 ∷ []) ∷ ordinary (1 ∷ 2 ∷ []) ∷ [])
unfolding cells_of rank_of band_of is_high_priority
refuse-first = refl

pub refuse-behind : head_draw ByteStream Refuse 9 (ordinary (1 ∷ 2 ∷ []) ∷ parts (7 ∷ []) (1 ∷ []) ∷ []) ≡ taken (1 ∷ 2 ∷ []) [] [] (parts (7 ∷ []) (1 ∷ []) ∷ [])
unfolding cells_of rank_of band_of is_high_priority
refuse-behind = refl

-- under RPROTDAT a control part is given before the data part
pub data-stream-whole : head_draw ByteStream Data 9 (parts (7 ∷ 8 ∷ []) (9 ∷ []) ∷ ordinary (1 ∷ 2 ∷ []) ∷ []) ≡ taken (7 ∷ 8 ∷ 9 ∷ 1 ∷ 2 ∷ []) [] [] []
unfolding cells_of rank_of band_of is_high_priority
data-stream-whole = refl

-- what is left of it keeps its kind
pub data-stream-in-control : head_draw ByteStream Data 1 (parts (7 ∷ 8 ∷ []) (9 ∷ []) ∷ ordinary (1 ∷ 2 ∷ []) ∷ []) ≡ taken (7 ∷ []) [] [] (parts (8 ∷ []) (9 ∷ []) ∷ ordinary (1 ∷ 2 ∷ []) ∷ [])
unfolding cells_of rank_of band_of is_high_priority
data-stream-in-control = refl

-- without its control part the rest is M_DATA of the same band
pub data-stream-at-data : head_draw ByteStream Data 2 (parts (7 ∷ 8 ∷ []) (9 ∷ []) ∷ ordinary (1 ∷ 2 ∷ []) ∷ []) ≡ taken (7 ∷ 8 ∷ []) [] [] (banded (9 ∷ []) ∷ ordinary (1 ∷ 2 ∷ []) ∷ [])
unfolding cells_of rank_of band_of is_high_priority
data-stream-at-data = refl

-- or of band 0 where it was of high priority: then it goes behind banded messages
pub data-stream-high : head_draw ByteStream Data 1 (high (7 ∷ []) (9 ∷ []) ∷ banded (1 ∷ []) ∷ []) ≡ taken (7 ∷ []) [] [] (banded (1 ∷ []) ∷ ordinary (9 ∷ []) ∷ [])
unfolding cells_of rank_of band_of is_high_priority
data-stream-high = refl

-- an empty control part alone is zero-length
pub data-stream-empty-control : head_draw ByteStream Data 9 (only [] ∷ ordinary (1 ∷ 2 ∷ []) ∷ []) ≡ taken [] [] [] (ordinary (1 ∷ 2 ∷ []) ∷ [])
unfolding cells_of rank_of band_of is_high_priority
data-stream-empty-control = refl

pub data-stream-control-only : head_draw ByteStream Data 9 (only (7 ∷ []) ∷ []) ≡ taken (7 ∷ []) [] [] []
unfolding cells_of rank_of band_of is_high_priority
data-stream-control-only = refl

pub data-stream-none : head_draw ByteStream Data 0 (only (7 ∷ []) ∷ []) ≡ taken [] [] [] (only (7 ∷ []) ∷ [])
unfolding cells_of rank_of band_of is_high_priority
data-stream-none = refl

pub data-keep-whole : head_draw MessageKeep Data 9 (parts (7 ∷ 8 ∷ []) (9 ∷ []) ∷ ordinary (1 ∷ 2 ∷ []) ∷ []) ≡ taken (7 ∷ 8 ∷ 9 ∷ []) [] [] (ordinary (1 ∷ 2 ∷ []) ∷ [])
unfolding cells_of rank_of band_of is_high_priority
data-keep-whole = refl

pub data-keep-in-control : head_draw MessageKeep Data 1 (parts (7 ∷ 8 ∷ []) (9 ∷ []) ∷ ordinary (1 ∷ 2 ∷ []) ∷ []) ≡ taken (7 ∷ []) [] [] (parts (8 ∷ []) (9 ∷ []) ∷ ordinary (1 ∷ 2 ∷ []) ∷ [])
unfolding cells_of rank_of band_of is_high_priority
data-keep-in-control = refl

pub data-keep-at-data : head_draw MessageKeep Data 2 (parts (7 ∷ 8 ∷ []) (9 ∷ []) ∷ ordinary (1 ∷ 2 ∷ []) ∷ []) ≡ taken (7 ∷ 8 ∷ []) [] [] (banded (9 ∷ []) ∷ ordinary (1 ∷ 2 ∷ []) ∷ [])
unfolding cells_of rank_of band_of is_high_priority
data-keep-at-data = refl

pub data-keep-high : head_draw MessageKeep Data 1 (high (7 ∷ []) (9 ∷ []) ∷ banded (1 ∷ []) ∷ []) ≡ taken (7 ∷ []) [] [] (banded (1 ∷ []) ∷ ordinary (9 ∷ []) ∷ [])
unfolding cells_of rank_of band_of is_high_priority
data-keep-high = refl

pub data-keep-empty-control : head_draw MessageKeep Data 9 (only [] ∷ ordinary (1 ∷ 2 ∷ []) ∷ []) ≡ taken [] [] [] (ordinary (1 ∷ 2 ∷ []) ∷ [])
unfolding cells_of rank_of band_of is_high_priority
data-keep-empty-control = refl

pub data-keep-control-only : head_draw MessageKeep Data 9 (only (7 ∷ []) ∷ []) ≡ taken (7 ∷ []) [] [] []
unfolding cells_of rank_of band_of is_high_priority
data-keep-control-only = refl

pub data-keep-none : head_draw MessageKeep Data 0 (only (7 ∷ []) ∷ []) ≡ taken [] [] [] (only (7 ∷ []) ∷ [])
unfolding cells_of rank_of band_of is_high_priority
data-keep-none = refl

pub data-discard-whole : head_draw MessageDiscard Data 9 (parts (7 ∷ 8 ∷ []) (9 ∷ []) ∷ ordinary (1 ∷ 2 ∷ []) ∷ []) ≡ taken (7 ∷ 8 ∷ 9 ∷ []) [] [] (ordinary (1 ∷ 2 ∷ []) ∷ [])
unfolding cells_of rank_of band_of is_high_priority
data-discard-whole = refl

-- the rest of a control part is discarded as data is
pub data-discard-in-control : head_draw MessageDiscard Data 1 (parts (7 ∷ 8 ∷ []) (9 ∷ []) ∷ ordinary (1 ∷ 2 ∷ []) ∷ []) ≡ taken (7 ∷ []) (8 ∷ 9 ∷ []) [] (ordinary (1 ∷ 2 ∷ []) ∷ [])
unfolding cells_of rank_of band_of is_high_priority
data-discard-in-control = refl

pub data-discard-at-data : head_draw MessageDiscard Data 2 (parts (7 ∷ 8 ∷ []) (9 ∷ []) ∷ ordinary (1 ∷ 2 ∷ []) ∷ []) ≡ taken (7 ∷ 8 ∷ []) (9 ∷ []) [] (ordinary (1 ∷ 2 ∷ []) ∷ [])
unfolding cells_of rank_of band_of is_high_priority
data-discard-at-data = refl

pub data-discard-empty-control : head_draw MessageDiscard Data 9 (only [] ∷ ordinary (1 ∷ 2 ∷ []) ∷ []) ≡ taken [] [] [] (ordinary (1 ∷ 2 ∷ []) ∷ [])
unfolding cells_of rank_of band_of is_high_priority
data-discard-empty-control = refl

pub data-discard-control-only : head_draw MessageDiscard Data 9 (only (7 ∷ []) ∷ []) ≡ taken (7 ∷ []) [] [] []
unfolding cells_of rank_of band_of is_high_priority
data-discard-control-only = refl

pub data-discard-none : head_draw MessageDiscard Data 0 (only (7 ∷ []) ∷ []) ≡ taken [] [] [] (only (7 ∷ []) ∷ [])
unfolding cells_of rank_of band_of is_high_priority
data-discard-none = refl

pub data-stream-empty-behind : head_draw ByteStream Data 9 (ordinary (1 ∷ 2 ∷ []) ∷ only [] ∷ ordinary (3 ∷ 4 ∷ 5 ∷ []) ∷ []) ≡ taken (1 ∷ 2 ∷ []) [] [] (only [] ∷ ordinary (3 ∷ 4 ∷ 5 ∷ []) ∷ [])
unfolding cells_of rank_of band_of is_high_priority
data-stream-empty-behind = refl

-- under RPROTDIS a control part is dropped
pub dropped-stream-whole : head_draw ByteStream Discard 9 (parts (7 ∷ 8 ∷ []) (9 ∷ []) ∷ ordinary (1 ∷ 2 ∷ []) ∷ []) ≡ taken (9 ∷ 1 ∷ 2 ∷ []) [] (7 ∷ 8 ∷ []) []
unfolding cells_of rank_of band_of is_high_priority
dropped-stream-whole = refl

-- also where the data part isn't read whole
pub dropped-stream-rest : head_draw ByteStream Discard 1 (parts (7 ∷ []) (8 ∷ 9 ∷ []) ∷ ordinary (1 ∷ 2 ∷ []) ∷ []) ≡ taken (8 ∷ []) [] (7 ∷ []) (banded (9 ∷ []) ∷ ordinary (1 ∷ 2 ∷ []) ∷ [])
unfolding cells_of rank_of band_of is_high_priority
dropped-stream-rest = refl

-- a message without a data part goes with the one that is read behind it, and stays where none is
pub dropped-stream-passed : head_draw ByteStream Discard 9 (only (7 ∷ []) ∷ ordinary (1 ∷ 2 ∷ []) ∷ only (8 ∷ []) ∷ []) ≡ taken (1 ∷ 2 ∷ []) [] (7 ∷ []) (only (8 ∷ []) ∷ [])
unfolding cells_of rank_of band_of is_high_priority
dropped-stream-passed = refl

-- nothing is taken where no data part stands
pub dropped-stream-only : head_draw ByteStream Discard 9 (urgent ∷ only (7 ∷ []) ∷ []) ≡ taken [] [] [] (urgent ∷ only (7 ∷ []) ∷ [])
unfolding cells_of rank_of band_of is_high_priority
dropped-stream-only = refl

-- an empty data part is read as zero-length, and the control parts go
pub dropped-stream-empty : head_draw ByteStream Discard 9 (only (7 ∷ []) ∷ parts (6 ∷ []) [] ∷ ordinary (1 ∷ 2 ∷ []) ∷ []) ≡ taken [] [] (7 ∷ 6 ∷ []) (ordinary (1 ∷ 2 ∷ []) ∷ [])
unfolding cells_of rank_of band_of is_high_priority
dropped-stream-empty = refl

pub dropped-stream-none : head_draw ByteStream Discard 0 (only (7 ∷ []) ∷ ordinary (1 ∷ 2 ∷ []) ∷ []) ≡ taken [] [] [] (only (7 ∷ []) ∷ ordinary (1 ∷ 2 ∷ []) ∷ [])
unfolding cells_of rank_of band_of is_high_priority
dropped-stream-none = refl

pub dropped-keep-whole : head_draw MessageKeep Discard 9 (parts (7 ∷ 8 ∷ []) (9 ∷ []) ∷ ordinary (1 ∷ 2 ∷ []) ∷ []) ≡ taken (9 ∷ []) [] (7 ∷ 8 ∷ []) (ordinary (1 ∷ 2 ∷ []) ∷ [])
unfolding cells_of rank_of band_of is_high_priority
dropped-keep-whole = refl

pub dropped-keep-rest : head_draw MessageKeep Discard 1 (parts (7 ∷ []) (8 ∷ 9 ∷ []) ∷ ordinary (1 ∷ 2 ∷ []) ∷ []) ≡ taken (8 ∷ []) [] (7 ∷ []) (banded (9 ∷ []) ∷ ordinary (1 ∷ 2 ∷ []) ∷ [])
unfolding cells_of rank_of band_of is_high_priority
dropped-keep-rest = refl

pub dropped-keep-passed : head_draw MessageKeep Discard 9 (only (7 ∷ []) ∷ ordinary (1 ∷ 2 ∷ []) ∷ only (8 ∷ []) ∷ []) ≡ taken (1 ∷ 2 ∷ []) [] (7 ∷ []) (only (8 ∷ []) ∷ [])
unfolding cells_of rank_of band_of is_high_priority
dropped-keep-passed = refl

pub dropped-keep-only : head_draw MessageKeep Discard 9 (urgent ∷ only (7 ∷ []) ∷ []) ≡ taken [] [] [] (urgent ∷ only (7 ∷ []) ∷ [])
unfolding cells_of rank_of band_of is_high_priority
dropped-keep-only = refl

pub dropped-keep-empty : head_draw MessageKeep Discard 9 (only (7 ∷ []) ∷ parts (6 ∷ []) [] ∷ ordinary (1 ∷ 2 ∷ []) ∷ []) ≡ taken [] [] (7 ∷ 6 ∷ []) (ordinary (1 ∷ 2 ∷ []) ∷ [])
unfolding cells_of rank_of band_of is_high_priority
dropped-keep-empty = refl

pub dropped-keep-none : head_draw MessageKeep Discard 0 (only (7 ∷ []) ∷ ordinary (1 ∷ 2 ∷ []) ∷ []) ≡ taken [] [] [] (only (7 ∷ []) ∷ ordinary (1 ∷ 2 ∷ []) ∷ [])
unfolding cells_of rank_of band_of is_high_priority
dropped-keep-none = refl

pub dropped-discard-whole : head_draw MessageDiscard Discard 9 (parts (7 ∷ 8 ∷ []) (9 ∷ []) ∷ ordinary (1 ∷ 2 ∷ []) ∷ []) ≡ taken (9 ∷ []) [] (7 ∷ 8 ∷ []) (ordinary (1 ∷ 2 ∷ []) ∷ [])
unfolding cells_of rank_of band_of is_high_priority
dropped-discard-whole = refl

pub dropped-discard-rest : head_draw MessageDiscard Discard 1 (parts (7 ∷ []) (8 ∷ 9 ∷ []) ∷ ordinary (1 ∷ 2 ∷ []) ∷ []) ≡ taken (8 ∷ []) (9 ∷ []) (7 ∷ []) (ordinary (1 ∷ 2 ∷ []) ∷ [])
unfolding cells_of rank_of band_of is_high_priority
dropped-discard-rest = refl

pub dropped-discard-passed : head_draw MessageDiscard Discard 9 (only (7 ∷ []) ∷ ordinary (1 ∷ 2 ∷ []) ∷ only (8 ∷ []) ∷ []) ≡ taken (1 ∷ 2 ∷ []) [] (7 ∷ []) (only (8 ∷ []) ∷ [])
unfolding cells_of rank_of band_of is_high_priority
dropped-discard-passed = refl

pub dropped-discard-only : head_draw MessageDiscard Discard 9 (urgent ∷ only (7 ∷ []) ∷ []) ≡ taken [] [] [] (urgent ∷ only (7 ∷ []) ∷ [])
unfolding cells_of rank_of band_of is_high_priority
dropped-discard-only = refl

pub dropped-discard-empty : head_draw MessageDiscard Discard 9 (only (7 ∷ []) ∷ parts (6 ∷ []) [] ∷ ordinary (1 ∷ 2 ∷ []) ∷ []) ≡ taken [] [] (7 ∷ 6 ∷ []) (ordinary (1 ∷ 2 ∷ []) ∷ [])
unfolding cells_of rank_of band_of is_high_priority
dropped-discard-empty = refl

pub dropped-discard-none : head_draw MessageDiscard Discard 0 (only (7 ∷ []) ∷ ordinary (1 ∷ 2 ∷ []) ∷ []) ≡ taken [] [] [] (only (7 ∷ []) ∷ ordinary (1 ∷ 2 ∷ []) ∷ [])
unfolding cells_of rank_of band_of is_high_priority
dropped-discard-none = refl

-- a zero-length message that stays keeps its control part, and so do those before it
pub dropped-stream-empty-behind : head_draw ByteStream Discard 9 (ordinary (1 ∷ 2 ∷ []) ∷ only (7 ∷ []) ∷ parts (6 ∷ []) [] ∷ ordinary (3 ∷ 4 ∷ 5 ∷ []) ∷ []) ≡ taken (1 ∷ 2 ∷ []) [] [] (only (7 ∷ []) ∷ parts (6 ∷ []) [] ∷ ordinary (3 ∷ 4 ∷ 5 ∷ []) ∷ [])
unfolding cells_of rank_of band_of is_high_priority
dropped-stream-empty-behind = refl

-- the rest of an M_PCPROTO goes behind banded messages
pub dropped-stream-high : head_draw ByteStream Discard 3 (ordinary (1 ∷ 2 ∷ []) ∷ only (7 ∷ []) ∷ high (6 ∷ []) (5 ∷ 4 ∷ []) ∷ banded (9 ∷ []) ∷ []) ≡ taken (1 ∷ 2 ∷ 5 ∷ []) [] (7 ∷ 6 ∷ []) (banded (9 ∷ []) ∷ ordinary (4 ∷ []) ∷ [])
unfolding cells_of rank_of band_of is_high_priority
dropped-stream-high = refl

-- a read that has all its bytes passes over nothing more
pub dropped-stream-exact : head_draw ByteStream Discard 2 (ordinary (1 ∷ 2 ∷ []) ∷ only (7 ∷ []) ∷ ordinary (1 ∷ 2 ∷ []) ∷ []) ≡ taken (1 ∷ 2 ∷ []) [] [] (only (7 ∷ []) ∷ ordinary (1 ∷ 2 ∷ []) ∷ [])
unfolding cells_of rank_of band_of is_high_priority
dropped-stream-exact = refl

-- a read of an empty queue waits, unless the input is at its end
pub empty-waits : read_refusal {C = ℕ} Refuse false 1 [] ≡ Some Eagain
unfolding cells_of rank_of band_of is_high_priority
empty-waits = refl

pub empty-ends : read_refusal {C = ℕ} Refuse true 1 [] ≡ None
unfolding cells_of rank_of band_of is_high_priority
empty-ends = refl

pub none-of-empty : read_refusal {C = ℕ} Refuse false 0 [] ≡ None
unfolding cells_of rank_of band_of is_high_priority
none-of-empty = refl

-- a control part that stands first is refused under RPROTNORM alone
pub control-refused : read_refusal {C = ℕ} Refuse false 1 (parts (7 ∷ []) (1 ∷ []) ∷ []) ≡ Some Ebadmsg
unfolding cells_of rank_of band_of is_high_priority
control-refused = refl

pub control-refused-at-end : read_refusal {C = ℕ} Refuse true 1 (parts (7 ∷ []) (1 ∷ []) ∷ []) ≡ Some Ebadmsg
unfolding cells_of rank_of band_of is_high_priority
control-refused-at-end = refl

pub none-of-control : read_refusal {C = ℕ} Refuse false 0 (parts (7 ∷ []) (1 ∷ []) ∷ []) ≡ None
unfolding cells_of rank_of band_of is_high_priority
none-of-control = refl

pub control-behind : read_refusal {C = ℕ} Refuse false 1 (ordinary (1 ∷ 2 ∷ []) ∷ parts (7 ∷ []) (1 ∷ []) ∷ []) ≡ None
unfolding cells_of rank_of band_of is_high_priority
control-behind = refl

pub control-as-data : read_refusal {C = ℕ} Data false 1 (parts (7 ∷ []) (1 ∷ []) ∷ []) ≡ None
unfolding cells_of rank_of band_of is_high_priority
control-as-data = refl

pub control-dropped : read_refusal {C = ℕ} Discard false 1 (parts (7 ∷ []) (1 ∷ []) ∷ []) ≡ None
unfolding cells_of rank_of band_of is_high_priority
control-dropped = refl

-- a queue without a data part counts as empty under RPROTDIS
pub no-data-part-waits : read_refusal {C = ℕ} Discard false 1 (only (7 ∷ []) ∷ urgent ∷ []) ≡ Some Eagain
unfolding cells_of rank_of band_of is_high_priority
no-data-part-waits = refl

pub no-data-part-ends : read_refusal {C = ℕ} Discard true 1 (only (7 ∷ []) ∷ urgent ∷ []) ≡ None
unfolding cells_of rank_of band_of is_high_priority
no-data-part-ends = refl

pub data-part-behind : read_refusal {C = ℕ} Discard false 1 (only (7 ∷ []) ∷ ordinary (1 ∷ 2 ∷ []) ∷ []) ≡ None
unfolding cells_of rank_of band_of is_high_priority
data-part-behind = refl

pub empty-control-as-data : read_refusal {C = ℕ} Data false 1 (only [] ∷ []) ≡ None
unfolding cells_of rank_of band_of is_high_priority
empty-control-as-data = refl
