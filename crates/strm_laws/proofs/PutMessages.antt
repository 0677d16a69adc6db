-- A putmsg on a side's stream loses no cell, leaves a side that isn't open nothing to be read, and forgetting the origins of
-- cells commutes with it.
use Rattle.strm_laws.proofs.Prelude.{ℕ, ◌≡◌, ◌+◌, Bool, true, false, cond, List, [], length, map, refl, sym, ap, ◌∙◌, arith, Option, None, Some}
use Rattle.strm_laws.proofs.Prelude.{option_map, count_by, written-plain, written-bytes, weight-whole}
use Rattle.strm_laws.specs.Prelude.{Prio, High, Dir, Side, Down, Spot, with_written, Cells, AreCells, plain, cells_written, Carried, Message, part}
use Rattle.strm_laws.specs.Prelude.{cells_of, map_message, direction_from, map_carried, no_parts, put_message}
use Rattle.strm_types.specs.declared.modes.Prio.TheVariants.{Band}
use Rattle.strm_laws.specs.Behaviours.{Behaviour, MayTestOwn}
use Rattle.strm_laws.specs.Calls.{message_put, put_at}
use Rattle.strm_laws.specs.Kept.{state_weight}
use Rattle.strm_laws.specs.Places.{weight_gone, weight_made}
use Rattle.strm_laws.specs.Puts.{delivered}
use Rattle.strm_laws.specs.State.{State, book, with_book, map_state}
use Rattle.strm_laws.proofs.Deliveries.{delivered-keeps}
use Rattle.strm_laws.proofs.Forgetting.{cells-forget}
use Rattle.strm_laws.proofs.PutsForget.{delivered-forgets}

-- the place below a side's head
abbrev below : Side → Spot
below side = record { side = side; at = 1; way = Down }

module _ {C : Type 0} where
  -- what a delivery leads to, where so many bytes are booked as written
  abbrev booked : Dir → ℕ → Carried C (State C) → Carried C (State C)
  booked dir n t = record { state = with_book dir (with_written n (book dir t.state)) t.state; gone = t.gone }

  module _ (p : Dir → C → Bool) where
    nothing-put : (cells : Cells C) (side : Side) (prio : Prio) (s : State C) → count_by (p (direction_from side)) (cells_of (message_put cells side prio None None s)) ≡ 0
    unfolding cells_of
    nothing-put cells side prio s = refl

    module _ (K : Behaviour) (cells : Cells C) (tests : MayTestOwn K cells p) where
      sent-keeps : (side : Side) (n : ℕ) (m : Message C) (s : State C)
          → let t = booked (direction_from side) n (delivered K cells (below side) m s) in
          state_weight p t.state + weight_gone p t.gone ≡ state_weight p s + (count_by (p (direction_from side)) (cells_of m) + weight_made p t.gone)
      sent-keeps side n m s =
          let dir = direction_from side in
          let led = (delivered K cells (below side) m s).state in
          omega (arith, delivered-keeps K cells p tests (below side) m s, weight-whole (p dir) m)

      pub put_at-keeps : (side : Side) (prio : Prio) (control body : Option (List ℕ)) (s : State C)
          → let t = put_at K cells side prio control body s in
          state_weight p t.state + weight_gone p t.gone ≡ state_weight p s + (count_by (p (direction_from side)) (cells_of (message_put cells side prio control body s)) + weight_made p t.gone)
      put_at-keeps side prio None None s = omega (arith, nothing-put cells side prio s)
      put_at-keeps side prio None (Some xs) s = sent-keeps side (0 + length xs) (message_put cells side prio None (Some xs) s) s
      put_at-keeps side prio (Some xs) body s = sent-keeps side (length xs + length (part body)) (message_put cells side prio (Some xs) body s) s

put-forgets : {C D : Type 0} (f : C → D) (prio : Prio) (control body : Option (List C)) → put_message prio (option_map (map f) control) (option_map (map f) body) ≡ map_message f (put_message prio control body)
unfolding map_message
put-forgets f High control body = refl
put-forgets f (Band band) None body = refl
put-forgets f (Band band) (Some xs) body = refl

module _ {C : Type 0} (cells : Cells C) (are : AreCells cells) where
  written-forgets : (dir : Dir) (n : ℕ) (o : Option (List ℕ)) → option_map (cells_written plain dir n) o ≡ option_map (map cells.byte) (option_map (cells_written cells dir n) o)
  written-forgets dir n None = refl
  written-forgets dir n (Some bytes) = ap Some (written-plain dir n bytes ∙ sym (written-bytes cells are dir n bytes))

  -- the message of these parts, whose first byte is the nth that is written
  abbrev message_of : {D : Type 0} → Cells D → Dir → ℕ → Prio → Option (List ℕ) → Option (List ℕ) → Message D
  message_of kinds dir n prio control body = put_message prio (option_map (cells_written kinds dir n) control) (option_map (cells_written kinds dir (n + length (part control))) body)

  message-forgets : (dir : Dir) (n : ℕ) (prio : Prio) (control body : Option (List ℕ)) → message_of plain dir n prio control body ≡ map_message cells.byte (message_of cells dir n prio control body)
  message-forgets dir n prio control body =
      rw (written-forgets dir n control, written-forgets dir (n + length (part control)) body)
      (put-forgets cells.byte prio (option_map (cells_written cells dir n) control) (option_map (cells_written cells dir (n + length (part control))) body))

  -- what it brings
  pub put_came-forgets : (side : Side) (prio : Prio) (control body : Option (List ℕ)) (s : State C) → cells_of (message_put plain side prio control body (map_state cells.byte s)) ≡ map cells.byte (cells_of (message_put cells side prio control body s))
  put_came-forgets side prio control body s =
      let dir = direction_from side in
      let n = (book dir s).written in
      ap (λ m. cells_of m) (message-forgets dir n prio control body) ∙ cells-forget cells.byte (message_of cells dir n prio control body)

  pub put_at-forgets : (K : Behaviour) (side : Side) (prio : Prio) (control body : Option (List ℕ)) (s : State C) → put_at K plain side prio control body (map_state cells.byte s) ≡ map_carried cells.byte (map_state cells.byte) (put_at K cells side prio control body s)
  put_at-forgets K side prio control body s = at (no_parts control body)
    where
      image : State ℕ
      image = map_state cells.byte s

      dir : Dir
      dir = direction_from side

      n : ℕ
      n = (book dir s).written

      size : ℕ
      size = length (part control) + length (part body)

      at : (none : Bool) → cond none (record { state = image; gone = [] }) (booked dir size (delivered K plain (below side) (message_of plain dir n prio control body) image))
          ≡ map_carried cells.byte (map_state cells.byte) (cond none (record { state = s; gone = [] }) (booked dir size (delivered K cells (below side) (message_of cells dir n prio control body) s)))
      at true = refl
      at false = rw (message-forgets dir n prio control body, delivered-forgets cells are K (below side) (message_of cells dir n prio control body) s) refl
