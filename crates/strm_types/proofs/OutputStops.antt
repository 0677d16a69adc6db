-- Turns of ldterm's write queue over plain bytes: where they stop, and how much they make.
use Rattle.std.proofs.Common.{ℕ, ◌≡◌, ◌≤◌, ◌*◌, Bool, true, false, cond, List, [], ◌∷◌, length, refl, ap, ◌∙◌, arith, map}
use Rattle.std.specs.Prelude.{◌&&◌, Option, None, Some, drop, take, unwrap_or}
use Rattle.std.proofs.lemmas.List.{length-take}
use Rattle.strm_types.specs.declared.names.Way.TheVariants.{Down}
use Rattle.strm_types.specs.declared.spots.Spot.{Spot}
use Rattle.strm_types.specs.Cells.{plain}
use Rattle.strm_types.specs.Input.{is_data, left_of, made_of, back_on}
use Rattle.strm_types.specs.Deliver.{onward}
use Rattle.strm_types.specs.Ldterms.{Discipline}
use Rattle.strm_types.specs.Message.{Message, cells_of, size_of}
use Rattle.strm_types.specs.Output.{Output, posts}
use Rattle.strm_types.specs.OutputTurns.{Outgoing, outgoing, output_dir, output_serves, posted, unchanged, with_given}
use Rattle.strm_types.specs.Queue.{left_with, first_size}
use Rattle.strm_types.specs.Service.{Serving, most_made}
use Rattle.strm_types.specs.Termios.{opost}
use Rattle.strm_types.proofs.Outputs.{posts-make-few, posts-same}

-- a turn, by what becomes of its message
abbrev pub turn_of : {E : Type 0} → Spot → List (Message E) → Discipline E → Outgoing E → Serving E (Discipline E)
turn_of here rest l t = record {
  acted = record { state = record l { write_queue = back_on t.left (left_with rest l.write_queue); column = t.column }; notes = []; sent = map (onward Down here) t.messages; gone = t.told };
  bytes = t.bytes;
  again = false;
}

module _ (here : Spot) where
  -- Of a message, whatever was made before.
  abbrev out_of : Option ℕ → ℕ → Message ℕ → Discipline ℕ → Outgoing ℕ
  out_of stop made m l = outgoing plain here stop made m l

  abbrev parted : Message ℕ → List ℕ → List ℕ → Output ℕ → Outgoing ℕ
  parted m treated left t = record { messages = with_given t.given m; left = Some (left_of left m); bytes = length treated; column = t.column; told = t.told }

  posted-made : (stop : Option ℕ) (a b : ℕ) (xs : List ℕ) (m : Message ℕ) (l : Discipline ℕ) → posted plain here stop a xs m l ≡ posted plain here stop b xs m l
  posted-made stop a b [] m l = refl
  posted-made stop a b (c ∷ rest) m l =
      let most = unwrap_or stop (length (c ∷ rest)) in
      let treated = take most (c ∷ rest) in
      ap (λ t. parted m treated (drop most (c ∷ rest)) t) (posts-same (output_dir plain here) a b l.termios l.column treated)

  outgoing-made : (stop : Option ℕ) (a b : ℕ) (m : Message ℕ) (l : Discipline ℕ) → out_of stop a m l ≡ out_of stop b m l
  outgoing-made stop a b m l = at (is_data m.kind && opost l.termios)
    where
      at : (output : Bool) → cond output (posted plain here stop a (cells_of m) m l) (unchanged m l) ≡ cond output (posted plain here stop b (cells_of m) m l) (unchanged m l)
      at true = posted-made stop a b (cells_of m) m l
      at false = refl

  pub output-made : (stop : Option ℕ) (a b : ℕ) (ms : List (Message ℕ)) (l : Discipline ℕ) → output_serves plain here stop a ms l ≡ output_serves plain here stop b ms l
  output-made stop a b [] l = refl
  output-made stop a b (m ∷ rest) l = ap (λ t. turn_of here rest l t) (outgoing-made stop a b m l)

  -- A turn that isn't stopped treats the first message whole, and would do the same if it stopped there.
  posted-whole : (xs : List ℕ) (m : Message ℕ) (l : Discipline ℕ) → length xs ≤ size_of m → (posted plain here None 0 xs m l).bytes ≤ size_of m
  posted-whole [] m l few = omega arith
  posted-whole (c ∷ rest) m l few = omega (arith, length-take (length (c ∷ rest)) (c ∷ rest))

  cells-few : (m : Message ℕ) → length (cells_of m) ≤ size_of m
  unfolding size_of
  cells-few m = omega arith

  posted-again : (xs : List ℕ) (m : Message ℕ) (l : Discipline ℕ) → let t = posted plain here None 0 xs m l in posted plain here (Some t.bytes) 0 xs m l ≡ t
  posted-again [] m l = refl
  posted-again (c ∷ rest) m l =
      let xs = c ∷ rest in
      let whole : length (take (length xs) xs) ≡ length xs = omega (arith, length-take (length xs) xs) in
      ap (λ most. parted m (take most xs) (drop most xs) (posts plain (output_dir plain here) 0 l.termios l.column (take most xs))) whole

  outgoing-whole : (m : Message ℕ) (l : Discipline ℕ) → let t = out_of None 0 m l in (t.bytes ≤ size_of m) × (out_of (Some t.bytes) 0 m l ≡ t)
  outgoing-whole m l = at (is_data m.kind && opost l.termios)
    where
      at : (output : Bool) → let t = cond output (posted plain here None 0 (cells_of m) m l) (unchanged m l) in
          (t.bytes ≤ size_of m) × (cond output (posted plain here (Some t.bytes) 0 (cells_of m) m l) (unchanged m l) ≡ t)
      at true = (posted-whole (cells_of m) m l (cells-few m), posted-again (cells_of m) m l)
      at false = (omega arith, refl)

  pub output-ends : (ms : List (Message ℕ)) (l : Discipline ℕ) → let t = output_serves plain here None 0 ms l in
      (t.bytes ≤ first_size ms) × ((made : ℕ) → output_serves plain here (Some t.bytes) made ms l ≡ t)
  output-ends [] l = (omega arith, λ made. refl)
  output-ends (m ∷ rest) l =
      let whole = outgoing-whole m l in
      let t = out_of None 0 m l in
      (whole.0, λ made. output-made (Some t.bytes) made 0 (m ∷ rest) l ∙ ap (λ u. turn_of here rest l u) whole.1)

  -- it makes 8 cells at most for each byte that it treats
  posted-makes : (stop : Option ℕ) (xs : List ℕ) (m : Message ℕ) (l : Discipline ℕ) → let t = posted plain here stop 0 xs m l in made_of t.told ≤ 8 * t.bytes
  posted-makes stop [] m l = omega arith
  posted-makes stop (c ∷ rest) m l = posts-make-few plain (output_dir plain here) 0 l.termios l.column (take (unwrap_or stop (length (c ∷ rest))) (c ∷ rest))

  outgoing-makes : (stop : Option ℕ) (m : Message ℕ) (l : Discipline ℕ) → let t = out_of stop 0 m l in made_of t.told ≤ 8 * t.bytes
  outgoing-makes stop m l = at (is_data m.kind && opost l.termios)
    where
      at : (output : Bool) → let t = cond output (posted plain here stop 0 (cells_of m) m l) (unchanged m l) in made_of t.told ≤ 8 * t.bytes
      at true = posted-makes stop (cells_of m) m l
      at false = omega arith

  pub output-makes : (stop : Option ℕ) (ms : List (Message ℕ)) (l : Discipline ℕ) → let t = output_serves plain here stop 0 ms l in made_of t.acted.gone ≤ most_made t.bytes
  output-makes stop [] l = omega arith
  output-makes stop (m ∷ rest) l = let few = outgoing-makes stop m l in omega arith
