-- The rule of the word, and what each kind of step tells the opener that takes it.
use Rattle.std.specs.Prelude.{◌≡◌, ◌≢◌, ℕ, ◌+◌, ◌<◌, ◌≤◌, List, [], ◌∷◌, ◌++◌, length, slice_index}
use Rattle.std.specs.Int.{bit_at}
use Rattle.std.specs.Int.RustNames.{bit_or}
use lib.Bits.{bit_and}
use Rattle.atomic_table.specs.Table.{State, Me, Step}
use Rattle.strm_minors.specs.declared.view.View.{View}

abbrev pub knows : ℕ → ℕ → List ℕ → View
knows held joining passed = record { held = held; joining = joining; passed = passed }

-- how often a view holds the minor k, and how often all views do
abbrev pub holds_in : View → ℕ → ℕ
holds_in v k = bit_at v.held k + bit_at v.joining k

abbrev pub holders : List View → ℕ → ℕ
holders [] k = 0
holders (v ∷ vs) k = holds_in v k + holders vs k

-- The rule, between any two steps: the bit of a minor is set exactly where one opener holds it, and never two do. No bit is set that is no pair's.
pub record IsMarked (pairs : ℕ) (s : State (Unit {0}) View) : Type 0 where
  pub one_word : length s.words ≡ 1
  pub one_holder : (k : ℕ) → holders s.views k ≡ bit_at (slice_index s.words 0) k
  pub no_other : (k : ℕ) → pairs ≤ k → bit_at (slice_index s.words 0) k ≡ 0

-- what a `Minors` keeps of its table: the number of words, the key, and the number of pairs
pub record IsWord (words key pairs : ℕ) : Type 0 where
  pub one_word : words ≡ 1
  pub of_pairs : key ≡ pairs
  pub at_most : pairs ≤ 64

-- what an opener's seat knows, with the slots that it has taken
abbrev pub Mine : Type 0
Mine = Me (Unit {0}) View

-- an opener's seat, where the opener holds these minors: it has no slot, and nothing is being joined to it
pub record IsSeated (seat : Mine) (held : ℕ) : Type 0 where
  pub holds : seat.0.held ≡ held
  pub alone : seat.0.joining ≡ 0
  pub no_slot : seat.1 ≡ []

-- the mask has the bit k and no other
pub record IsBit (mask k : ℕ) : Type 0 where
  pub here : bit_at mask k ≡ 1
  pub others : (i : ℕ) → i ≢ k → bit_at mask i ≡ 0

-- A try by a mask of the minor k alone: where it was found free, the opener comes to hold it, and did not before; where it was found taken, the opener has passed it by
pub record Tries (mask found : ℕ) (m m' : Mine) (k : ℕ) : Type 0 where
  pub free : bit_at found k ≡ 0 → (bit_at m.0.held k ≡ 0) × (m' ≡ (knows (bit_or m.0.held mask) m.0.joining m.0.passed, m.1))
  pub taken : bit_at found k ≢ 0 → m' ≡ (knows m.0.held m.0.joining (m.0.passed ++ k ∷ []), m.1)

abbrev pub tried : Step (Unit {0}) → Mine → ℕ → Mine → Type 0
tried st m found m' = (k : ℕ) → IsBit st.first k → Tries st.first found m m' k

-- a release by a mask in which only bits of minors are clear that go
abbrev pub released : Step (Unit {0}) → Mine → ℕ → Mine → Type 0
released st m found m' = m' ≡ (knows (bit_and m.0.held st.first) m.0.joining m.0.passed, m.1)

-- a look: the two sets of a view have no minor in common, and are one since
abbrev pub looked : Step (Unit {0}) → Mine → ℕ → Mine → Type 0
looked st m found m' = ((k : ℕ) → bit_at m.0.held k + bit_at m.0.joining k < 2) × (m' ≡ (knows (bit_or m.0.held m.0.joining) 0 m.0.passed, m.1))
