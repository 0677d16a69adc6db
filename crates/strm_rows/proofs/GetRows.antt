-- What gets give, worked out by hand from getmsg(2).
use Rattle.strm_rows.proofs.Prelude.{ℕ, ◌≡◌, Bool, true, false, List, [], ◌∷◌, refl, Option, None, Some, Any, High, Eagain, Message, cells_of}
use Rattle.strm_rows.proofs.Prelude.{rank_of, band_of, is_high_priority, proto, urgent, ordinary}
use Rattle.strm_types.specs.declared.kinds.MsgKind.TheVariants as kinds
use Rattle.strm_types.specs.declared.modes.Wanted.TheVariants.{Band}
use Rattle.strm_types.specs.Gets.{Got, head_get, get_refusal}

abbrev gives : Option (List ℕ) → Option (List ℕ) → ℕ → Bool → Bool → List (Message ℕ) → Got ℕ
gives control body band more_control more_data left = record { control = control; body = body; high = false; band = band; more_control = more_control; more_data = more_data; left = left }

abbrev gives-high : Option (List ℕ) → Option (List ℕ) → Bool → Bool → List (Message ℕ) → Got ℕ
gives-high control body more_control more_data left = record { control = control; body = body; high = true; band = 0; more_control = more_control; more_data = more_data; left = left }

abbrev banded : List ℕ → Message ℕ
banded bytes = record { kind = kinds.Data; band = 2; control = None; body = Some bytes; plain = [] }

abbrev parts : Option (List ℕ) → Option (List ℕ) → Message ℕ
parts control body = record { kind = kinds.Proto; band = 2; control = control; body = body; plain = [] }

abbrev high : Message ℕ
high = record { kind = kinds.Pcproto; band = 0; control = Some (9 ∷ []); body = Some (8 ∷ []); plain = [] }

-- both parts whole, each cut, and one of them cut
pub whole : head_get Any 9 9 (proto ∷ []) ≡ gives (Some (1 ∷ 2 ∷ [])) (Some (3 ∷ 4 ∷ 5 ∷ [])) 2 false false []
unfolding cells_of rank_of band_of is_high_priority
whole = refl

pub exact : head_get Any 2 3 (proto ∷ []) ≡ gives (Some (1 ∷ 2 ∷ [])) (Some (3 ∷ 4 ∷ 5 ∷ [])) 2 false false []
unfolding cells_of rank_of band_of is_high_priority
exact = refl

pub both-cut : head_get Any 1 1 (proto ∷ []) ≡ gives (Some (1 ∷ [])) (Some (3 ∷ [])) 2 true true (parts (Some (2 ∷ [])) (Some (4 ∷ 5 ∷ [])) ∷ [])
unfolding cells_of rank_of band_of is_high_priority
both-cut = refl

pub control-cut : head_get Any 1 9 (proto ∷ []) ≡ gives (Some (1 ∷ [])) (Some (3 ∷ 4 ∷ 5 ∷ [])) 2 true false (parts (Some (2 ∷ [])) None ∷ [])
unfolding cells_of rank_of band_of is_high_priority
control-cut = refl

pub data-cut : head_get Any 9 1 (proto ∷ ordinary (7 ∷ []) ∷ []) ≡ gives (Some (1 ∷ 2 ∷ [])) (Some (3 ∷ [])) 2 false true (banded (4 ∷ 5 ∷ []) ∷ ordinary (7 ∷ []) ∷ [])
unfolding cells_of rank_of band_of is_high_priority
data-cut = refl

-- a size of 0 leaves all bytes of a part, and gives it as present and empty
pub sizes-of-none : head_get Any 0 0 (proto ∷ []) ≡ gives (Some []) (Some []) 2 true true (proto ∷ [])
unfolding cells_of rank_of band_of is_high_priority
sizes-of-none = refl

-- a zero-length message goes, its part present
pub zero-length : head_get Any 0 0 (ordinary [] ∷ []) ≡ gives None (Some []) 0 false false []
unfolding cells_of rank_of band_of is_high_priority
zero-length = refl

-- what is left of an M_PCPROTO without its control part is of band 0, behind banded messages
pub high-cut : head_get High 9 0 (high ∷ banded (1 ∷ []) ∷ []) ≡ gives-high (Some (9 ∷ [])) (Some []) false true (banded (1 ∷ []) ∷ ordinary (8 ∷ []) ∷ [])
unfolding cells_of rank_of band_of is_high_priority
high-cut = refl

-- which message is asked for
pub band-takes-high : get_refusal (Band (record { 0 = 7 })) false (urgent ∷ []) ≡ None
unfolding is_high_priority
band-takes-high = refl

pub band-takes-its-own : get_refusal (Band (record { 0 = 2 })) false (proto ∷ []) ≡ None
unfolding is_high_priority
band-takes-its-own = refl

pub band-waits-for-higher : get_refusal (Band (record { 0 = 3 })) true (proto ∷ []) ≡ Some Eagain
unfolding is_high_priority
band-waits-for-higher = refl

pub high-waits : get_refusal High false (proto ∷ []) ≡ Some Eagain
unfolding is_high_priority
high-waits = refl

pub empty-waits : get_refusal {C = ℕ} Any false [] ≡ Some Eagain
empty-waits = refl

pub empty-ends : get_refusal {C = ℕ} High true [] ≡ None
empty-ends = refl
