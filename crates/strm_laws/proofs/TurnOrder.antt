-- A call of ldterm's service procedure makes the next cells of the direction in which output goes, one after the other, and none of the other one.
use Rattle.strm_laws.proofs.Prelude.{ℕ, zero, suc, ◌≡◌, ◌+◌, ◌-◌, ◌*◌, Bool, true, false, cond, List, [], ◌∷◌, ◌++◌, length, drop, refl, sym, subst}
use Rattle.strm_laws.proofs.Prelude.{arith, not, ◌&&◌, count_by, replicate, Option, Some, unwrap_or, made-long, count-join}
use Rattle.strm_laws.specs.Prelude.{FlushAsked, Key, Stop, Start, Intr, Quit, Susp, Ignored, Eof, Erase, Kill, Werase, Reprint, Lnext, Delimiter}
use Rattle.strm_laws.specs.Prelude.{Ordinary, Side, Master, Slave, Way, Up, Down, Given, Byte, Ended, Nothing, Spaces, Rule, EraseKey, Erased, Killed}
use Rattle.strm_laws.specs.Prelude.{SignalKey, LineOver, Flushed, Spot, Termios, Cells, cells_made, Acted, Fate, Goes, Comes, begins_next, cells_left}
use Rattle.strm_laws.specs.Prelude.{input_begins, is_data, made_of, next_stage, passes, stage_at, stages, stages_done, then_on, to_treat, treats}
use Rattle.strm_laws.specs.Prelude.{with_left, carriage_return, restarts, ldterm_serves, Discipline, Stage, Between, Begun, Answered, ErasesByte}
use Rattle.strm_laws.specs.Prelude.{ErasesWord, edited, has_room, Message, cells_of, direction_at, made_for, post, posts, space, told_for, output_dir}
use Rattle.strm_laws.specs.Prelude.{output_serves, posted, unchanged, is_full, is_none_left, left_with, icanon, imaxbel, noflsh, opost, added}
use Rattle.strm_laws.specs.Prelude.{both_ways, begins, echo_dir, echo_grows, echo_lost, echo_stands, echoed, is_blank_cell, lost, sigint, signals}
use Rattle.strm_laws.specs.Prelude.{sigquit, sigtstp, is_lnext, strikes, stroke_at, struck, up_alone}
use Rattle.std.specs.Prelude.{take}
use Rattle.strm_laws.specs.Places.{weight_made}
use Rattle.strm_laws.proofs.DeliveryKeeps.{made-append}
use Rattle.strm_laws.proofs.InOrder.{InOrder, none-ordered, order-append}
use Rattle.strm_laws.proofs.LdtermKeeps.{lost-made}
use Rattle.strm_types.proofs.MadeCells.{made-both}

-- how many cells were made, of what is told
abbrev pub all_made : {C : Type 0} → List (Fate C) → ℕ
all_made told = weight_made (λ direction c. true) told

count-all : {C : Type 0} (xs : List C) → count_by (λ c. true) xs ≡ length xs
count-all [] = refl
count-all (x ∷ xs) = let more = count-all xs in omega (arith, count-join (λ c. true) (x ∷ []) xs)

pub made-all : {C : Type 0} (told : List (Fate C)) → made_of told ≡ all_made told
made-all [] = refl
made-all (Goes dir rule xs ∷ told) = omega (arith, made-all told)
made-all (Comes dir xs ∷ told) = omega (arith, made-all told, count-all xs)

module _ {C : Type 0} (cells : Cells C) (side : Side) where
  -- what is told of a call before which so many cells were made
  pub record TurnOrder (made : ℕ) (told : List (Fate C)) : Type 0 where
    pub down : InOrder cells (direction_at Down side) made told (made + made_of told)
    pub up : (n : ℕ) → InOrder cells (direction_at Up side) n told n

  pub order-none : (made : ℕ) (told : List (Fate C)) → all_made told ≡ 0 → TurnOrder made told
  order-none made told none = record {
    down = subst (λ n. InOrder cells (direction_at Down side) made told n) (let e : made ≡ made + made_of told = omega (arith, made-all told, none) in e) (none-ordered cells (direction_at Down side) made told none);
    up = λ n. none-ordered cells (direction_at Up side) n told none;
  }

  pub order-both : (made : ℕ) (one two : List (Fate C)) → TurnOrder made one → TurnOrder (made + made_of one) two → TurnOrder made (one ++ two)
  order-both made one two first second = record {
    down = subst (λ n. InOrder cells (direction_at Down side) made (one ++ two) n) (let e : made + made_of one + made_of two ≡ made + made_of (one ++ two) = omega (arith, made-both one two) in e)
        (order-append cells (direction_at Down side) made (made + made_of one) (made + made_of one + made_of two) one two first.down second.down);
    up = λ n. order-append cells (direction_at Up side) n n n one two (first.up n) (second.up n);
  }

-- cells that are made, with what is told behind them
module _ {C : Type 0} (cells : Cells C) where
  pub order-next : (side : Side) (made : ℕ) (bytes : List ℕ) (told : List (Fate C)) → all_made told ≡ 0 → TurnOrder cells side made (Comes (direction_at Down side) (cells_made cells (direction_at Down side) made bytes) ∷ told)
  order-next Master made bytes told none = record {
    down = (record { bytes = bytes; is = refl }, subst (λ n. InOrder cells (direction_at Down Master) (made + length xs) told n) (more xs) (none-ordered cells (direction_at Down Master) (made + length xs) told none));
    up = λ n. none-ordered cells (direction_at Up Master) n told none;
  }
    where
      xs : List C
      xs = cells_made cells (direction_at Down Master) made bytes

      more : (ys : List C) → made + length ys ≡ made + (length ys + made_of told)
      more ys = omega (arith, made-all told, none)
  order-next Slave made bytes told none = record {
    down = (record { bytes = bytes; is = refl }, subst (λ n. InOrder cells (direction_at Down Slave) (made + length xs) told n) (more xs) (none-ordered cells (direction_at Down Slave) (made + length xs) told none));
    up = λ n. none-ordered cells (direction_at Up Slave) n told none;
  }
    where
      xs : List C
      xs = cells_made cells (direction_at Down Slave) made bytes

      more : (ys : List C) → made + length ys ≡ made + (length ys + made_of told)
      more ys = omega (arith, made-all told, none)

-- what ldterm does with a byte
module _ {C : Type 0} (cells : Cells C) (here : Spot) where
  abbrev Ordered : ℕ → List (Fate C) → Type 0
  Ordered made told = TurnOrder cells here.side made told

  abbrev none_by : (Acted C (Discipline C)) → Type 0
  none_by t = all_made t.gone ≡ 0

  either : (b : Bool) (one another : Acted C (Discipline C)) → none_by one → none_by another → none_by (cond b one another)
  either true one another first second = first
  either false one another first second = second

  lost-none : (rule : Rule) (xs : List C) → all_made (lost cells here rule xs) ≡ 0
  lost-none rule xs = lost-made (λ direction c. true) here.side rule xs

  two-none : (one two : List (Fate C)) → all_made one ≡ 0 → all_made two ≡ 0 → all_made (one ++ two) ≡ 0
  two-none one two first second = omega (arith, made-append (λ direction c. true) one two, first, second)

  edits-none : (left : List C) (rule : Rule) (c : C) (l : Discipline C) → all_made (lost cells here rule (drop (length left) l.line) ++ lost cells here EraseKey (c ∷ [])) ≡ 0
  edits-none left rule c l = two-none (lost cells here rule (drop (length left) l.line)) (lost cells here EraseKey (c ∷ [])) (lost-none rule (drop (length left) l.line)) (lost-none EraseKey (c ∷ []))

  signals-none : (asked : FlushAsked) (signal : ℕ) (c : C) (l : Discipline C) → none_by (signals cells here asked signal c l)
  signals-none asked signal c l = either (noflsh l.termios) _ _ refl (two-none (lost cells here Flushed l.line) (lost cells here SignalKey (c ∷ [])) (lost-none Flushed l.line) refl)

  added-none : (c : C) (l : Discipline C) → none_by (added cells here c l)
  added-none c l = either (not (icanon l.termios)) _ _ refl (either (has_room l.line) _ _ refl (either (imaxbel l.termios) _ _ refl (lost-none LineOver (l.line ++ c ∷ []))))

  strikes-none : (key : Key) (c : C) (l : Discipline C) → none_by (strikes cells here key c l)
  strikes-none Stop c l = refl
  strikes-none Start c l = refl
  strikes-none Intr c l = signals-none both_ways sigint c l
  strikes-none Quit c l = signals-none both_ways sigquit c l
  strikes-none Susp c l = signals-none up_alone sigtstp c l
  strikes-none Ignored c l = refl
  strikes-none Eof c l = refl
  strikes-none Erase c l = edits-none (edited (is_blank_cell cells here) ErasesByte l.line) Erased c l
  strikes-none Werase c l = edits-none (edited (is_blank_cell cells here) ErasesWord l.line) Erased c l
  strikes-none Kill c l = edits-none [] Killed c l
  strikes-none Reprint c l = refl
  strikes-none Lnext c l = refl
  strikes-none Delimiter c l = refl
  strikes-none Ordinary c l = added-none c l

  begins-none : (c : C) (l : Discipline C) → none_by (begins cells here c l)
  begins-none c l = either (l.stopped && restarts l.termios (stroke_at cells here c l)) _ _ refl refl

  next-none : (xs : List C) (l : Discipline C) → none_by (begins_next cells here xs l)
  next-none [] l = refl
  next-none (c ∷ rest) l = begins-none c (with_left rest l)

  echoed-order : (made : ℕ) (echo : List ℕ) (l : Discipline C) → Ordered made (echoed cells here made echo l).gone
  echoed-order made [] l = order-none cells here.side made [] refl
  echoed-order made (b ∷ bytes) l = at (is_full 0 l.write_queue) l.echoing
    where
      new : List C
      new = cells_made cells (echo_dir cells here) made (b ∷ bytes)

      at : (full echoing : Bool) → Ordered made (cond full (echo_lost cells here new l) (cond echoing (echo_grows cells here new l) (echo_stands cells here new l))).gone
      at true echoing = order-next cells here.side made (b ∷ bytes) _ refl
      at false true = order-next cells here.side made (b ∷ bytes) [] refl
      at false false = order-next cells here.side made (b ∷ bytes) [] refl

  next-order : (made : ℕ) (l : Discipline C) → Ordered made (next_stage cells here made l).gone
  next-order made l = at l.stage
    where
      at : (stage : Stage C) → Ordered made (stage_at cells here stage made l).gone
      at Between = order-none cells here.side made _ (next-none (cells_left l) l)
      at (Begun started c) = order-none cells here.side made (struck cells here started c l).gone (strikes-none (stroke_at cells here c l).key (cells.mapped (stroke_at cells here c l).byte c) (record l { after_lnext = is_lnext (stroke_at cells here c l).key }))
      at (Answered echo) = echoed-order made echo _

  then-order : (made : ℕ) (t : Acted C (Discipline C)) (next : ℕ → Discipline C → Acted C (Discipline C)) → Ordered made t.gone → Ordered (made + made_of t.gone) (next (made + made_of t.gone) t.state).gone → Ordered made (then_on made t next).gone
  then-order made t next first second = at (is_none_left t.sent)
    where
      at : (none : Bool) → (let u = next (made + made_of t.gone) t.state in Ordered made (cond none (record { state = u.state; notes = t.notes ++ u.notes; sent = u.sent; gone = t.gone ++ u.gone }) t).gone)
      at true = order-both cells here.side made t.gone (next (made + made_of t.gone) t.state).gone first second
      at false = first

  stages-order : (n made : ℕ) (l : Discipline C) → Ordered made (stages cells here n made l).gone
  stages-order zero made l = order-none cells here.side made _ refl
  stages-order (suc more) made l =
      let t = next_stage cells here made l in
      then-order made t (stages cells here more) (next-order made l) (stages-order more (made + made_of t.gone) t.state)

  input-order : (stop : Option ℕ) (made : ℕ) (ms : List (Message C)) (l : Discipline C) → Ordered made (input_begins cells here stop made ms l).acted.gone
  input-order stop made [] l = order-none cells here.side made [] refl
  input-order stop made (m ∷ rest) l = at (is_data m.kind)
    where
      at : (treated : Bool) → Ordered made (cond treated (treats cells here (unwrap_or stop (length (cells_of m))) made (record l { read_queue = left_with rest l.read_queue; in_work = Some m })) (passes cells here Up m rest l)).acted.gone
      at true =
          let begun : Discipline C = record l { read_queue = left_with rest l.read_queue; in_work = Some m } in
          stages-order (3 * unwrap_or stop (length (cells_of m)) - stages_done begun.stage) made begun
      at false = order-none cells here.side made [] refl

  -- and with output
  told-order : (given : Given) (made : ℕ) (c : C) → Ordered made (told_for cells (output_dir cells here) given made c)
  told-order (Byte b) made c = order-none cells here.side made [] refl
  told-order Ended made c = order-next cells here.side made (carriage_return ∷ []) [] refl
  told-order (Spaces columns) made c = order-next cells here.side made (replicate columns space) _ refl
  told-order Nothing made c = order-none cells here.side made _ refl

  told-long : (given : Given) (made : ℕ) (c : C) → made_of (told_for cells (output_dir cells here) given made c) ≡ made_for given
  told-long (Byte b) made c = refl
  told-long Ended made c = refl
  told-long (Spaces columns) made c = omega (arith, made-long cells (output_dir cells here) made (replicate columns space), replicate-long columns)
    where
      replicate-long : (n : ℕ) → length (replicate n space) ≡ n
      replicate-long zero = refl
      replicate-long (suc n) = let more = replicate-long n in omega arith
  told-long Nothing made c = refl

  posts-order : (made : ℕ) (t : Termios) (column : ℕ) (xs : List C) → Ordered made (posts cells (output_dir cells here) made t column xs).told
  posts-order made t column [] = order-none cells here.side made [] refl
  posts-order made t column (c ∷ rest) =
      let first = post t column (cells.byte c) in
      let told = told_for cells (output_dir cells here) first.given made c in
      let more = posts-order (made + made_for first.given) t first.column rest in
      order-both cells here.side made told _ (told-order first.given made c)
      (subst (λ n. Ordered (made + n) (posts cells (output_dir cells here) (made + made_for first.given) t first.column rest).told) (sym (told-long first.given made c)) more)

  posted-order : (stop : Option ℕ) (made : ℕ) (xs : List C) (m : Message C) (l : Discipline C) → Ordered made (posted cells here stop made xs m l).told
  posted-order stop made [] m l = order-none cells here.side made [] refl
  posted-order stop made (c ∷ rest) m l = posts-order made l.termios l.column (take (unwrap_or stop (length (c ∷ rest))) (c ∷ rest))

  output-order : (stop : Option ℕ) (made : ℕ) (ms : List (Message C)) (l : Discipline C) → Ordered made (output_serves cells here stop made ms l).acted.gone
  output-order stop made [] l = order-none cells here.side made [] refl
  output-order stop made (m ∷ rest) l = at (is_data m.kind && opost l.termios)
    where
      at : (out : Bool) → Ordered made (cond out (posted cells here stop made (cells_of m) m l) (unchanged m l)).told
      at true = posted-order stop made (cells_of m) m l
      at false = order-none cells here.side made [] refl

module _ {C : Type 0} (cells : Cells C) where
  serves-at : (way : Way) (here : Spot) (again : Bool) (made : ℕ) (stop : Option ℕ) (l : Discipline C)
      → TurnOrder cells here.side made (ldterm_serves cells (record here { way = way }) made again stop l).acted.gone
  serves-at Down here again made stop l = output-order cells (record here { way = Down }) stop made l.write_queue.messages l
  serves-at Up here false made stop l = input-order cells (record here { way = Up }) stop made l.read_queue.messages l
  serves-at Up here true made stop l = stages-order cells (record here { way = Up }) (3 * unwrap_or stop (to_treat l) - stages_done l.stage) made l

  pub serves-order : (here : Spot) (made : ℕ) (again : Bool) (stop : Option ℕ) (l : Discipline C)
      → TurnOrder cells here.side made (ldterm_serves cells here made again stop l).acted.gone
  serves-order here made again stop l = serves-at here.way here again made stop l
