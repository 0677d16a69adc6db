-- What a write sends down a stream, chunk by chunk: it loses no cell, keeps what each delivery keeps, and is the same where the origins of
-- cells are forgotten.
use Rattle.strm_laws.proofs.Prelude.{ℕ, zero, suc, ◌≡◌, ◌+◌, Bool, true, false, cond, List, [], ◌∷◌, ◌++◌, length, map, take, drop, refl, sym, ap}
use Rattle.strm_laws.proofs.Prelude.{◌∙◌, arith, count_by, not, drop-map, length-map, take-map, weight-data}
use Rattle.strm_laws.specs.Prelude.{Side, Spot, Dir, AreCells, Cells, plain, direction_from, Carried, Message, data_message, map_carried, map_fate}
use Rattle.strm_laws.specs.Prelude.{chunk_count, chunks_of, Down}
use Rattle.strm_laws.specs.Behaviours.{Behaviour, MayTestOwn}
use Rattle.strm_laws.specs.Kept.{state_weight}
use Rattle.strm_laws.specs.Places.{weight_gone, weight_made}
use Rattle.strm_laws.specs.Puts.{delivered}
use Rattle.strm_laws.specs.State.{State, map_state}
use Rattle.strm_laws.specs.Writes.{Wrote, below_head, cells_sent, chunks_sent, map_wrote, is_full_below}
use Rattle.strm_laws.proofs.Deliveries.{delivered-keeps}
use Rattle.strm_laws.proofs.DeliveryForgets.{map-join}
use Rattle.strm_laws.proofs.DeliveryKeeps.{gone-append, made-append}
use Rattle.strm_laws.proofs.Forgetting.{data-forgets}
use Rattle.strm_laws.proofs.PutsForget.{delivered-forgets}
use Rattle.strm_types.proofs.Weights.{first-cells}
use Rattle.strm_laws.proofs.Past.{room-forgets}

module _ {C : Type 0} where
  -- a write by whether the first queue below is full, and what a chunk's delivery and the chunks behind it lead to
  abbrev pub went : Bool → ℕ → State C → Carried C (State C) → Wrote C → Wrote C
  went full size s t more = cond full (record { taken = 0; state = s; gone = [] }) (record { taken = size + more.taken; state = more.state; gone = t.gone ++ more.gone })

  abbrev pub chunk_goes : Behaviour → Cells C → Side → List C → State C → Carried C (State C)
  chunk_goes K cells side chunk s = delivered K cells (below_head side) (data_message chunk) s

  -- what each delivery keeps, a write keeps
  module _ (K : Behaviour) (cells : Cells C) (Holds : State C → Type 0) (each : (to : Spot) (m : Message C) (s : State C) → Holds s → Holds (delivered K cells to m s).state) where
    went-holds : (full : Bool) (size : ℕ) (s : State C) (t : Carried C (State C)) (more : Wrote C) → Holds s → Holds more.state → Holds (went full size s t more).state
    went-holds true size s t more one two = one
    went-holds false size s t more one two = two

    chunks-hold : (side : Side) (chunks : List (List C)) (s : State C) → Holds s → Holds (chunks_sent K cells side chunks s).state
    chunks-hold side [] s holds = holds
    chunks-hold side (chunk ∷ chunks) s holds =
        let t = chunk_goes K cells side chunk s in
        went-holds (is_full_below 0 side s) (length chunk) s t (chunks_sent K cells side chunks t.state) holds
        (chunks-hold side chunks t.state (each (below_head side) (data_message chunk) s holds))

    pub cells_sent-holds : (side : Side) (xs : List C) (s : State C) → Holds s → Holds (cells_sent K cells side xs s).state
    cells_sent-holds side xs s = chunks-hold side (chunks_of (chunk_count (length xs)) xs) s

  module _ (cells : Cells C) (p : Dir → C → Bool) (side : Side) where
    -- the test of what is written
    abbrev down : C → Bool
    down = p (direction_from side)

    -- a write of cells on a state: those that it took are there, but for what went on the way
    abbrev WroteKeeps : Wrote C → List C → State C → Type 0
    WroteKeeps t xs s = state_weight p t.state + weight_gone p t.gone ≡ state_weight p s + (count_by down (take t.taken xs) + weight_made p t.gone)

    went-keeps : (full : Bool) (xs : List C) (s : State C) (t : Carried C (State C)) (more : Wrote C) →
        state_weight p t.state + weight_gone p t.gone ≡ state_weight p s + (count_by down (take 256 xs) + weight_made p t.gone) → WroteKeeps more (drop 256 xs) t.state →
        WroteKeeps (went full (length (take 256 xs)) s t more) xs s
    went-keeps true xs s t more one two = omega arith
    went-keeps false xs s t more one two = omega (arith, first-cells down xs more.taken, gone-append p t.gone more.gone, made-append p t.gone more.gone)

    chunks-keep : (K : Behaviour) → MayTestOwn K cells p → (count : ℕ) (xs : List C) (s : State C)
        → WroteKeeps (chunks_sent K cells side (chunks_of count xs) s) xs s
    chunks-keep K tests zero xs s = omega arith
    chunks-keep K tests (suc count) xs s =
        let t = chunk_goes K cells side (take 256 xs) s in
        went-keeps (is_full_below 0 side s) xs s t (chunks_sent K cells side (chunks_of count (drop 256 xs)) t.state)
        (let here = delivered-keeps K cells p tests (below_head side) (data_message (take 256 xs)) s in omega (arith, weight-data down (take 256 xs)))
        (chunks-keep K tests count (drop 256 xs) t.state)

    pub cells_sent-keeps : (K : Behaviour) → MayTestOwn K cells p → (xs : List C) (s : State C) → WroteKeeps (cells_sent K cells side xs s) xs s
    cells_sent-keeps K tests xs s = chunks-keep K tests (chunk_count (length xs)) xs s

module _ {C D : Type 0} (f : C → D) where
  went-forgets : (full : Bool) (size : ℕ) (s : State C) (t : Carried C (State C)) (more : Wrote C) →
      went full size (map_state f s) (map_carried f (map_state f) t) (map_wrote f more) ≡ map_wrote f (went full size s t more)
  went-forgets true size s t more = refl
  went-forgets false size s t more = ap (λ fates. record { taken = size + more.taken; state = map_state f more.state; gone = fates }) (sym (map-join (map_fate f) t.gone more.gone))

  below-forgets : (side : Side) (s : State C) → is_full_below 0 side (map_state f s) ≡ is_full_below 0 side s
  below-forgets side s = ap (λ (room : Bool). not room) (room-forgets f side Down 0 0 s)

module _ {C : Type 0} (cells : Cells C) (are : AreCells cells) where
  abbrev f : C → ℕ
  f = cells.byte

  goes-forgets : (K : Behaviour) (side : Side) (chunk : List C) (s : State C) → chunk_goes K plain side (map f chunk) (map_state f s) ≡ map_carried f (map_state f) (chunk_goes K cells side chunk s)
  goes-forgets K side chunk s =
      ap (λ (m : Message ℕ). delivered K plain (below_head side) m (map_state f s)) (sym (data-forgets f chunk))
      ∙ delivered-forgets cells are K (below_head side) (data_message chunk) s

  chunks-forget : (K : Behaviour) (side : Side) (count : ℕ) (xs : List C) (s : State C) → chunks_sent K plain side (chunks_of count (map f xs)) (map_state f s) ≡ map_wrote f (chunks_sent K cells side (chunks_of count xs) s)
  chunks-forget K side zero xs s = refl
  chunks-forget K side (suc count) xs s =
      let full = is_full_below 0 side s in
      let chunk = take 256 xs in
      let rest = drop 256 xs in
      let t = chunk_goes K cells side chunk s in
      let next : List ℕ → Carried ℕ (State ℕ) → Wrote ℕ = λ xs' t'. chunks_sent K plain side (chunks_of count xs') t'.state in
      ap (λ b. went b (length (take 256 (map f xs))) (map_state f s) (chunk_goes K plain side (take 256 (map f xs)) (map_state f s)) (next (drop 256 (map f xs)) (chunk_goes K plain side (take 256 (map f xs)) (map_state f s))))
      (below-forgets f side s)
      ∙ ap (λ (chunk' : List ℕ). went full (length chunk') (map_state f s) (chunk_goes K plain side chunk' (map_state f s)) (next (drop 256 (map f xs)) (chunk_goes K plain side chunk' (map_state f s)))) (take-map f 256 xs)
      ∙ ap (λ (rest' : List ℕ). went full (length (map f chunk)) (map_state f s) (chunk_goes K plain side (map f chunk) (map_state f s)) (next rest' (chunk_goes K plain side (map f chunk) (map_state f s)))) (drop-map f 256 xs)
      ∙ ap (λ n. went full n (map_state f s) (chunk_goes K plain side (map f chunk) (map_state f s)) (next (map f rest) (chunk_goes K plain side (map f chunk) (map_state f s)))) (length-map chunk f)
      ∙ ap (λ (t' : Carried ℕ (State ℕ)). went full (length chunk) (map_state f s) t' (next (map f rest) t')) (goes-forgets K side chunk s)
      ∙ ap (λ more. went full (length chunk) (map_state f s) (map_carried f (map_state f) t) more) (chunks-forget K side count rest t.state)
      ∙ went-forgets f full (length chunk) s t (chunks_sent K cells side (chunks_of count rest) t.state)

  pub cells_sent-forgets : (K : Behaviour) (side : Side) (xs : List C) (s : State C) → cells_sent K plain side (map f xs) (map_state f s) ≡ map_wrote f (cells_sent K cells side xs s)
  cells_sent-forgets K side xs s =
      ap (λ n. chunks_sent K plain side (chunks_of (chunk_count n) (map f xs)) (map_state f s)) (length-map xs f)
      ∙ chunks-forget K side (chunk_count (length xs)) xs s
