-- The base of a journal, as its text tells it.
use Rattle.std.specs.Prelude.{ℕ, List, Option, None, Some, ◌≡◌, ◌≤◌, ◌+◌, ◌*◌, vec_capacity}
use Rattle.strm_pair.specs.Prelude.{Both, Config, Fates, PlainEntry, no_fates, State, opening, Version, Second, whole, imaged, Imaged, image}
use Rattle.strm_image.specs.declared.lengths.TheConstants.{IMAGE_BLOCK, IMAGE_FIXED}
use Rattle.strm_pair.specs.declared.base.Base.{Base}
use Rattle.strm_pair.specs.Starts.{Start}

-- what a text tells: that of a base is always an image
abbrev pub state_told : Option (Version × Imaged) → State ℕ
state_told None = opening
state_told (Some x) = x.1.state

-- an image doesn't tell how many bytes were made till then, beyond its books
abbrev pub fates_told : Both ℕ → Option (Version × Imaged) → Fates
fates_told made None = no_fates
fates_told made (Some x) = record { from_master = x.1.fates.master; from_slave = x.1.fates.slave; made_from_master = made.master; made_from_slave = made.slave }

abbrev pub made_of : Fates → Both ℕ
made_of fates = record { master = fates.made_from_master; slave = fates.made_from_slave }

-- a base at a state, with what has gone by each rule, behind so many entries
abbrev pub begun_at : State ℕ → Fates → List PlainEntry → Start
begun_at s fates past = record { state = s; fates = fates; past = past }

-- where a journal begins that has this base
unfoldable pub start_in : Base → Start
start_in b = let told = whole image b.text.items in begun_at (state_told told) (fates_told b.made told) b.past.entries

-- how many bytes any image takes of a pair with so many message blocks
abbrev pub image_room : ℕ → ℕ
image_room mblks = IMAGE_FIXED + IMAGE_BLOCK * mblks

-- The text of a base is the image of the state and of what had gone by each rule where the journal begins, in memory that takes any image of
-- the pair.
pub record IsWritten (b : Base) (limits : Config) : Type 0 where
  pub text : b.text.items ≡ image.text (Second, imaged (start_in b).state (start_in b).fates)
  pub room : image_room limits.mblks ≤ vec_capacity b.text
