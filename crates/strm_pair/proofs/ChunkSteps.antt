-- A write chunk by chunk: a chunk is delivered, and the rest is a write of the other chunks.
use Rattle.strm_pair.proofs.Prelude.{ℕ, zero, suc, ◌≡◌, Bool, true, false, List, [], length, take, drop, refl, sym, ap, ◌∙◌, written-plain}
use Rattle.strm_pair.proofs.Prelude.{tallied-append}
use Rattle.strm_pair.specs.Prelude.{Count, Side, Fates, with_written, cells_written, plain, direction_from, Outcome, tallied, data_message, most_of}
use Rattle.strm_pair.specs.Prelude.{State, book, with_book, chunk_count, chunks_of, Wrote, below_head, chunks_sent, Behaviour}
use Rattle.strm_laws.specs.Calls.{wrote, write_sent}
use Rattle.strm_laws.specs.Writes.{cells_sent, is_full_below}
use Rattle.strm_laws.proofs.WriteSteps.{chunk_goes, went}

-- a chunk on its way down takes no block but its own, and no packet comes of it
pub chunk-free : (side : Side) (chunk : List ℕ) → most_of (below_head side) (data_message chunk) ≡ 0
unfolding data_message
chunk-free side chunk = refl

-- nothing was sent
abbrev pub none-went : State ℕ → Wrote ℕ
none-went s = record { taken = 0; state = s; gone = [] }

module _ (K : Behaviour) (side : Side) (s : State ℕ) where
  -- a chunk, and then the others
  abbrev pub chunk-then : List ℕ → Wrote ℕ → Wrote ℕ
  chunk-then chunk more = went false (length chunk) s (chunk_goes K plain side chunk s) more

  pub chunks-none : (chunks : ℕ) (bytes : List ℕ) → chunks ≡ 0 → chunks_sent K plain side (chunks_of chunks bytes) s ≡ none-went s
  chunks-none chunks bytes none = ap (λ k. chunks_sent K plain side (chunks_of k bytes) s) none

  pub chunks-full : (chunks : ℕ) (bytes : List ℕ) → is_full_below 0 side s ≡ true → chunks_sent K plain side (chunks_of chunks bytes) s ≡ none-went s
  chunks-full zero bytes full = refl
  chunks-full (suc more) bytes full =
      let t = chunk_goes K plain side (take 256 bytes) s in
      ap (λ (b : Bool). went b (length (take 256 bytes)) s t (chunks_sent K plain side (chunks_of more (drop 256 bytes)) t.state)) full

  chunks-first : (more : ℕ) (bytes : List ℕ) → is_full_below 0 side s ≡ false
      → chunks_sent K plain side (chunks_of (suc more) bytes) s ≡ chunk-then (take 256 bytes) (chunks_sent K plain side (chunks_of more (drop 256 bytes)) (chunk_goes K plain side (take 256 bytes) s).state)
  chunks-first more bytes below =
      let t = chunk_goes K plain side (take 256 bytes) s in
      ap (λ (b : Bool). went b (length (take 256 bytes)) s t (chunks_sent K plain side (chunks_of more (drop 256 bytes)) t.state)) below

  pub chunks-more : (chunks more : ℕ) (bytes chunk rest : List ℕ) (t : State ℕ) → chunks ≡ suc more → is_full_below 0 side s ≡ false → chunk ≡ take 256 bytes → rest ≡ drop 256 bytes → t ≡ (chunk_goes K plain side chunk s).state
      → chunks_sent K plain side (chunks_of chunks bytes) s ≡ chunk-then chunk (chunks_sent K plain side (chunks_of more rest) t)
  chunks-more chunks more bytes chunk rest t count below first others next =
      ap (λ k. chunks_sent K plain side (chunks_of k bytes) s) count ∙ chunks-first more bytes below
      ∙ ap (λ c. chunk-then c (chunks_sent K plain side (chunks_of more (drop 256 bytes)) (chunk_goes K plain side c s).state)) (sym first)
      ∙ ap (λ r. chunk-then chunk (chunks_sent K plain side (chunks_of more r) (chunk_goes K plain side chunk s).state)) (sym others)
      ∙ ap (λ v. chunk-then chunk (chunks_sent K plain side (chunks_of more rest) v)) (sym next)

  -- what goes is told chunk by chunk
  pub chunks-told : (chunk : List ℕ) (more : Wrote ℕ) (old mid new : Fates) → mid ≡ tallied (chunk_goes K plain side chunk s).gone old → new ≡ tallied more.gone mid → new ≡ tallied (chunk-then chunk more).gone old
  chunks-told chunk more old mid new one two =
      two ∙ ap (λ (f : Fates). tallied more.gone f) one ∙ sym (tallied-append (chunk_goes K plain side chunk s).gone more.gone old)

-- what a write makes of what was sent
abbrev booked : Side → List ℕ → Wrote ℕ → Outcome ℕ
booked side xs t = let dir = direction_from side in record { answer = Count t.taken; state = with_book dir (with_written t.taken (book dir t.state)) t.state; came = take t.taken xs; gone = t.gone }

-- the chunks of a write
abbrev pub chunks-written : (K : Behaviour) → Side → ℕ → List ℕ → State ℕ → Wrote ℕ
chunks-written K side n bytes s = chunks_sent K plain side (chunks_of n bytes) s

module _ (side : Side) (bytes : List ℕ) (s : State ℕ) (n : ℕ) (count : n ≡ chunk_count (length bytes)) where
  pub chunks-are : (K : Behaviour) → write_sent K plain side bytes s ≡ chunks-written K side n bytes s
  chunks-are K =
      ap (λ (xs : List ℕ). cells_sent K plain side xs s) (written-plain (direction_from side) (book (direction_from side) s).written bytes)
      ∙ ap (λ k. chunks-written K side k bytes s) (sym count)

  -- the bytes of it, as they are written
  abbrev cells : List ℕ
  cells = cells_written plain (direction_from side) (book (direction_from side) s).written bytes

  pub wrote-chunks : (K : Behaviour) → wrote K plain side bytes s ≡ booked side cells (chunks-written K side n bytes s)
  wrote-chunks K = ap (λ (t : Wrote ℕ). booked side cells t) (chunks-are K)
