-- Turns of ldterm's write queue: what passes as it is, what is kept, and what is the same where origins are forgotten.
use Rattle.strm_laws.proofs.Prelude.{ℕ, suc, ◌≡◌, ◌≤◌, ◌+◌, Bool, true, false, cond, List, [], ◌∷◌, length, map, refl, sym, ap, ◌∙◌, arith, ◌&&◌}
use Rattle.strm_laws.proofs.Prelude.{Option, None, Some, count_by, option_map, unwrap_or, false≢true, drop-map, length-map, take-append-drop}
use Rattle.strm_laws.proofs.Prelude.{take-map, count-join, weight-take, weight-whole}
use Rattle.strm_laws.specs.Prelude.{Down, Spot, Dir, direction_at, Cells, AreCells, plain, Parcel, onward, is_data, left_of, passes, Discipline}
use Rattle.strm_laws.specs.Prelude.{Message, cells_of, map_message, weight_of, map_fate, map_parcel, map_output, posts, Outgoing, outgoing}
use Rattle.strm_laws.specs.Prelude.{output_dir, output_serves, posted, unchanged, with_given, left_with, map_messages, opost}
use Rattle.std.specs.Prelude.{drop, take}
use Rattle.std.specs.List.{AllByRecursion}
use Rattle.strm_laws.proofs.LdtermKeeps.{onward-weighs, way-down}
use Rattle.strm_types.specs.Input.{output_passes}
use Rattle.strm_laws.specs.LdtermOrigins.{map_ldterm, map_serving}
use Rattle.strm_laws.specs.LdtermTurns.{IsOrderly}
use Rattle.strm_laws.specs.LdtermWeights.{ActedKeeps, IgnoresMapping, ldterm_weight, weight_in_work}
use Rattle.strm_types.specs.Output.{Output}
use Rattle.strm_laws.specs.Places.{weight_sent, weight_gone, weight_made}
use Rattle.strm_laws.proofs.Forgetting.{cells-forget, kind-forgets, size-forgets}
use Rattle.strm_laws.proofs.LdtermServesForgets.{back_on-forgets, left_of-forgets}
use Rattle.strm_laws.proofs.LdtermStages.{back-weighs}
use Rattle.strm_types.proofs.OutputStops.{turn_of}
use Rattle.strm_laws.proofs.OutputKeeps.{posts-forget, posts-keep}

module _ {C : Type 0} (cells : Cells C) (here : Spot) (stop : Option ℕ) where
  passes-as-it-is : (made : ℕ) (m : Message C) (rest : List (Message C)) (l : Discipline C) → (is_data m.kind && opost l.termios) ≡ false →
      output_serves cells here stop made (m ∷ rest) l ≡ passes cells here Down m rest l
  passes-as-it-is made m rest l is = ap (λ b. turn_of here rest l (cond b (posted cells here stop made (cells_of m) m l) (unchanged m l))) is

  never : (b : Bool) → (b && false) ≡ false
  never true = refl
  never false = refl

  pub unposted-passes : (made : ℕ) (ms : List (Message C)) (l : Discipline C) → opost l.termios ≡ false → output_serves cells here stop made ms l ≡ output_passes cells here ms l
  unposted-passes made [] l is = refl
  unposted-passes made (m ∷ rest) l is = passes-as-it-is made m rest l (ap (λ b. is_data m.kind && b) is ∙ never (is_data m.kind))

  pub others-pass : (made : ℕ) (m : Message C) (rest : List (Message C)) (l : Discipline C) → is_data m.kind ≡ false → output_serves cells here stop made (m ∷ rest) l ≡ output_passes cells here (m ∷ rest) l
  others-pass made m rest l is = passes-as-it-is made m rest l (ap (λ b. b && opost l.termios) is)

  -- what holds of messages that pass and of those that are output holds of a turn's
  either-way : (P : Outgoing C → Type 0) (made : ℕ) (m : Message C) (l : Discipline C) → P (unchanged m l) → P (posted cells here stop made (cells_of m) m l) → P (outgoing cells here stop made m l)
  either-way P made m l one other = at (is_data m.kind && opost l.termios)
    where
      at : (output : Bool) → P (cond output (posted cells here stop made (cells_of m) m l) (unchanged m l))
      at true = other
      at false = one

  -- what it sends goes to the next place
  abbrev Near : List (Message C) → Type 0
  Near ms = AllByRecursion (λ (q : Parcel C). q.to.at ≤ suc here.at) (map (onward Down here) ms)

  given-near : (given : List C) (m : Message C) → Near (with_given given m)
  given-near [] m = tt
  given-near (c ∷ given) m = (omega arith, tt)

  posted-near : (made : ℕ) (xs : List C) (m : Message C) (l : Discipline C) → Near (posted cells here stop made xs m l).messages
  posted-near made [] m l = (omega arith, tt)
  posted-near made (c ∷ rest) m l = given-near (posts cells (output_dir cells here) made l.termios l.column (take (unwrap_or stop (length (c ∷ rest))) (c ∷ rest))).given m

  pub output-near : (made : ℕ) (ms : List (Message C)) (l : Discipline C) → AllByRecursion (λ (q : Parcel C). q.to.at ≤ suc here.at) (output_serves cells here stop made ms l).acted.sent
  output-near made [] l = tt
  output-near made (m ∷ rest) l = either-way (λ t. Near t.messages) made m l (omega arith, tt) (posted-near made (cells_of m) m l)

  pub output-orderly : (made : ℕ) (ms : List (Message C)) (l : Discipline C) → IsOrderly l → l.in_work ≡ None → IsOrderly (output_serves cells here stop made ms l).acted.state
  output-orderly made [] l is none = is
  output-orderly made (m ∷ rest) l is none = record { echo = λ e. absurd (false≢true (sym ((is.idle none).2) ∙ e)); idle = is.idle }

module _ {C : Type 0} (p : Dir → C → Bool) (cells : Cells C) (ignores : IgnoresMapping cells p) (here : Spot) (stop : Option ℕ) where
  -- the test of what goes down
  abbrev down : C → Bool
  down = p (direction_at Down here.side)

  -- a message with what its bytes give has the cells that are given
  given-weighs : (given : List C) (m : Message C) → weight_sent p (map (onward Down here) (with_given given m)) ≡ count_by (p (direction_at Down here.side)) given
  unfolding weight_of cells_of
  given-weighs [] m = refl
  given-weighs (c ∷ given) m = omega (arith, ap (λ way. count_by (p (direction_at way here.side)) (c ∷ given)) (way-down here.at))

  left-weighs : (rest : List C) (m : Message C) → weight_of (p (direction_at Down here.side)) (left_of rest m) ≡ count_by (p (direction_at Down here.side)) rest
  unfolding weight_of cells_of
  left-weighs rest m = refl

  abbrev Keeps : Message C → Outgoing C → Type 0
  Keeps m t = weight_in_work down t.left + (weight_sent p (map (onward Down here) t.messages) + weight_gone p t.told) ≡ weight_of down m + weight_made p t.told

  posted-keeps : (made : ℕ) (xs : List C) (m : Message C) (l : Discipline C) → weight_of down m ≡ count_by down xs → Keeps m (posted cells here stop made xs m l)
  posted-keeps made [] m l is = omega (arith, onward-weighs p Down here m)
  posted-keeps made (c ∷ rest) m l is =
      let most = unwrap_or stop (length (c ∷ rest)) in
      let treated = take most (c ∷ rest) in
      let left = drop most (c ∷ rest) in
      let t = posts cells (output_dir cells here) made l.termios l.column treated in
      let parts : count_by down (c ∷ rest) ≡ count_by down treated + count_by down left = ap (λ xs. count_by down xs) (sym (take-append-drop most (c ∷ rest))) ∙ count-join down treated left in
      omega (arith, parts, left-weighs left m, given-weighs t.given m, posts-keep p cells ignores (output_dir cells here) made l.termios l.column treated)

  outgoing-keeps : (made : ℕ) (m : Message C) (l : Discipline C) → Keeps m (outgoing cells here stop made m l)
  outgoing-keeps made m l = either-way cells here stop (λ t. Keeps m t) made m l (omega (arith, onward-weighs p Down here m)) (posted-keeps made (cells_of m) m l (sym (weight-whole down m)))

  pub output-keeps : (made : ℕ) (l : Discipline C) → ActedKeeps p here.side (output_serves cells here stop made l.write_queue.messages l).acted (ldterm_weight p here.side l)
  output-keeps made l = at l.write_queue.messages
    where
      at : (ms : List (Message C)) → (let held : Discipline C = record l { write_queue = record l.write_queue { messages = ms } } in ActedKeeps p here.side (output_serves cells here stop made ms held).acted (ldterm_weight p here.side held))
      at [] = omega arith
      at (m ∷ rest) =
          let held : Discipline C = record l { write_queue = record l.write_queue { messages = m ∷ rest } } in
          omega (arith, weight-take down m rest, outgoing-keeps made m held, back-weighs down (outgoing cells here stop made m held).left (left_with rest held.write_queue))

-- origins are forgotten

abbrev map_outgoing : {C D : Type 0} → (C → D) → Outgoing C → Outgoing D
map_outgoing f t = record { messages = map_messages f t.messages; left = option_map (map_message f) t.left; bytes = t.bytes; column = t.column; told = map (map_fate f) t.told }

module _ {C : Type 0} (cells : Cells C) (are : AreCells cells) (here : Spot) (stop : Option ℕ) where
  abbrev f : C → ℕ
  f = cells.byte

  given-forgets : (given : List C) (m : Message C) → with_given (map f given) (map_message f m) ≡ map_messages f (with_given given m)
  unfolding map_message
  given-forgets [] m = refl
  given-forgets (c ∷ given) m = refl

  unchanged-forgets : (m : Message C) (l : Discipline C) → unchanged (map_message f m) (map_ldterm f l) ≡ map_outgoing f (unchanged m l)
  unchanged-forgets m l = ap (λ n. record { messages = map_message f m ∷ []; left = None; bytes = n; column = l.column; told = [] }) (size-forgets f m)

  -- bytes that go out, and what is left behind them
  abbrev parted : {E : Type 0} → Output E → ℕ → List E → Message E → Outgoing E
  parted t n left m = record { messages = with_given t.given m; left = Some (left_of left m); bytes = n; column = t.column; told = t.told }

  parted-forgets : (t : Output C) (n : ℕ) (left : List C) (m : Message C) → parted (map_output f t) n (map f left) (map_message f m) ≡ map_outgoing f (parted t n left m)
  parted-forgets t n left m =
      rw (given-forgets t.given m, left_of-forgets f left m) refl

  posted-forgets : (made : ℕ) (xs : List C) (m : Message C) (l : Discipline C) → posted plain here stop made (map f xs) (map_message f m) (map_ldterm f l) ≡ map_outgoing f (posted cells here stop made xs m l)
  posted-forgets made [] m l = unchanged-forgets m l
  posted-forgets made (c ∷ rest) m l =
      let dir = output_dir cells here in
      let xs = c ∷ rest in
      let most = unwrap_or stop (length xs) in
      rw (length-map xs f, take-map f most xs, drop-map f most xs, length-map (take most xs) f, posts-forget cells are dir made l.termios l.column (take most xs))
      (parted-forgets (posts cells dir made l.termios l.column (take most xs)) (length (take most xs)) (drop most xs) m)

  outgoing-forgets : (made : ℕ) (m : Message C) (l : Discipline C) → outgoing plain here stop made (map_message f m) (map_ldterm f l) ≡ map_outgoing f (outgoing cells here stop made m l)
  outgoing-forgets made m l =
      ap (λ kind. cond (is_data kind && opost l.termios) (posted plain here stop made (cells_of (map_message f m)) (map_message f m) (map_ldterm f l)) (unchanged (map_message f m) (map_ldterm f l))) (kind-forgets f m)
      ∙ ap (λ xs. cond (is_data m.kind && opost l.termios) (posted plain here stop made xs (map_message f m) (map_ldterm f l)) (unchanged (map_message f m) (map_ldterm f l))) (cells-forget f m)
      ∙ at (is_data m.kind && opost l.termios)
    where
      at : (output : Bool) → cond output (posted plain here stop made (map f (cells_of m)) (map_message f m) (map_ldterm f l)) (unchanged (map_message f m) (map_ldterm f l))
          ≡ map_outgoing f (cond output (posted cells here stop made (cells_of m) m l) (unchanged m l))
      at true = posted-forgets made (cells_of m) m l
      at false = unchanged-forgets m l

  sent-forgets : (ms : List (Message C)) → map (onward Down here) (map_messages f ms) ≡ map (map_parcel f) (map (onward Down here) ms)
  sent-forgets [] = refl
  sent-forgets (m ∷ ms) = ap (λ rest. onward Down here (map_message f m) ∷ rest) (sent-forgets ms)

  turn-forgets : (rest : List (Message C)) (l : Discipline C) (t : Outgoing C) → turn_of here (map_messages f rest) (map_ldterm f l) (map_outgoing f t) ≡ map_serving f (map_ldterm f) (turn_of here rest l t)
  turn-forgets rest l t =
      rw (back_on-forgets f t.left (left_with rest l.write_queue), sent-forgets t.messages) refl

  pub output-forgets : (made : ℕ) (ms : List (Message C)) (l : Discipline C) → output_serves plain here stop made (map_messages f ms) (map_ldterm f l) ≡ map_serving f (map_ldterm f) (output_serves cells here stop made ms l)
  output-forgets made [] l = refl
  output-forgets made (m ∷ rest) l =
      ap (λ t. turn_of here (map_messages f rest) (map_ldterm f l) t) (outgoing-forgets made m l)
      ∙ turn-forgets rest l (outgoing cells here stop made m l)
