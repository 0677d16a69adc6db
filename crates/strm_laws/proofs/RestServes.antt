-- A call of ldterm's service procedure adds no moves, and the first one of a turn leaves fewer: one of the read queue that treats a byte at
-- least where its message has one, and one of the write queue too.
use Rattle.strm_laws.proofs.Prelude.{ℕ, zero, suc, ◌≡◌, ◌≤◌, ◌<◌, ◌+◌, ◌-◌, ◌*◌, ◌⊎◌, inl, inr, Bool, true, false, cond, List, [], ◌∷◌, ◌++◌, length}
use Rattle.strm_laws.proofs.Prelude.{map, take, drop, refl, ap, ◌∙◌, arith, ◌&&◌, not, nat_le, sum_by, Option, None, Some, nat_tests, length-drop}
use Rattle.strm_laws.proofs.Prelude.{length-map, sum_by-cons, made-long, sum-put, strikes-stay}
use Rattle.strm_laws.specs.Prelude.{FlushAsked, LINE_MAX, Key, Stop, Start, Intr, Quit, Susp, Ignored, Eof, Erase, Kill, Werase, Reprint, Lnext}
use Rattle.strm_laws.specs.Prelude.{Delimiter, Ordinary, MsgKind, Side, Way, Up, Down, Flushed, SignalKey, LineFull, LineOver, Spot, Cells, bytes_of}
use Rattle.strm_laws.specs.Prelude.{cells_made, Acted, onward, flush_bytes, flush_message, is_bare_flush, back_on, begins_next, cells_left, finished}
use Rattle.strm_laws.specs.Prelude.{input_begins, is_data, left_of, made_of, next_stage, passes, stage_at, stages, stages_done, treats, restarts}
use Rattle.strm_laws.specs.Prelude.{ldterm_serves, Answered, Begun, Between, Discipline, Stage, queue_at, sends, waits_there, Types, edited, has_room}
use Rattle.strm_laws.specs.Prelude.{Message, cells_of, data_message, rank_of, size_of, other, posts as outputs, output_dir, output_serves, posted}
use Rattle.strm_laws.specs.Prelude.{unchanged, with_given, IsOrdered, Queue, first_size, is_full, is_none_left, left_with, put_back, Serving}
use Rattle.strm_laws.specs.Prelude.{echo_most, icanon, imaxbel, noflsh, opost, added, bare, begins, both_ways, dropped, echo_dir, echo_grows}
use Rattle.strm_laws.specs.Prelude.{echo_lost, echo_stands, echoed, gathered_up, grown, is_blank_cell, is_lnext, lost, sigint, signals, sigquit}
use Rattle.strm_laws.specs.Prelude.{sigtstp, stops, stroke_at, strikes, struck, up_alone}
use Rattle.std.specs.List.{AllByRecursion}
use Rattle.std.proofs.lemmas.List.{length-append}
use Rattle.strm_types.specs.declared.kinds.MsgKind.TheVariants as kinds
use Rattle.strm_laws.specs.Rest.{byte_moves, echoes, ldterm_moves, moves_above, moves_across, moves_in, moves_in_work, moves_out, moves_within}
use Rattle.strm_laws.specs.Restorable.{StandsOn}
use Rattle.strm_laws.specs.StackCosts.{Stands}
use Rattle.strm_types.proofs.EchoSizes.{echo-few}
use Rattle.strm_types.proofs.Ranked.{sum-put_back}
use Rattle.strm_laws.proofs.GoodLdterms.{GoodDiscipline}
use Rattle.strm_laws.proofs.GoodLdtermTurns.{next-good}
use Rattle.strm_laws.proofs.RestCosts.{at_or_below, sinks_by, toll_at}
use Rattle.strm_laws.proofs.RestLdterms.{data-past, past-it}
use Rattle.strm_laws.proofs.RestPuts.{tolls, tolls-both}

-- M_DATA that stands on the read queue, and any message there
data-within : (kind : MsgKind) (n : ℕ) → is_data kind ≡ true → moves_within kind n ≡ 1 + byte_moves * n
data-within kinds.Data n is = refl
data-within kind n is = absurd (cc)

data-above : (kind : MsgKind) (n : ℕ) → is_data kind ≡ true → moves_above kind false n ≡ 0
data-above kinds.Data n is = refl
data-above kind n is = absurd (cc)

within-least : (kind : MsgKind) (n : ℕ) → suc (moves_above kind false n) ≤ moves_within kind n
within-least kinds.Data n = omega arith
within-least kind n = omega arith

within-most : (kind : MsgKind) (n : ℕ) → 0 < n → moves_within kind n ≤ 1 + byte_moves * n
within-most kinds.Data n some = omega arith
within-most kinds.Ioctl n some = omega (arith, some)
within-most kind n some = omega arith

sinks-none : (kind : MsgKind) (n : ℕ) → sinks_by kind false n ≡ 0
sinks-none kinds.Data n = refl
sinks-none kind n = refl

next-past : (n : ℕ) → nat_le (n + 1) n ≡ false
next-past n = let less : n < n + 1 = omega arith in grind (arith, nat_tests)

first-of : (a b : Bool) → (a && b) ≡ true → a ≡ true
first-of true b is = refl
first-of false b is = absurd (cc)

left-cells : {C : Type 0} (rest : List C) (m : Message C) → cells_of (left_of rest m) ≡ rest
unfolding cells_of
left-cells rest m = refl

sized : {C : Type 0} (m : Message C) → length (cells_of m) ≤ size_of m
unfolding size_of
sized m = omega arith

-- how far a turn goes that leaves less, of a message of so many bytes
abbrev pub Goes : ℕ → ℕ → Type 0
Goes left size = left ≡ 0 → size ≡ 0

some-left : (left size : ℕ) → Goes left size → 0 < size → 0 < left
some-left zero size goes some = let none = goes refl in absurd (omega (arith, none, some))
some-left (suc left) size goes some = omega arith

module _ {C : Type 0} (cells : Cells C) (all : Stands) (posts : Side → ℕ) (here : Spot) (some : 0 < here.at)
    (echoed-here : echoes all here.side ≡ true) (alone : echoes all (other here.side) ≡ false) (post : posts here.side ≡ here.at) where
  abbrev Less : Acted C (Discipline C) → ℕ → Type 0
  Less t n = ldterm_moves t.state + tolls all posts t.sent ≤ n

  -- what stands there beside the byte that has begun
  abbrev beside : Discipline C → ℕ
  beside l = sum_by moves_in l.read_queue.messages + (sum_by moves_out l.write_queue.messages + moves_in_work l.in_work)

  -- what goes down from it has no ldterm ahead
  past-down : (m : Message C) → toll_at all posts Down here.side (here.at + 1) m ≤ moves_across false m
  past-down m = at (is_bare_flush m)
    where
      long : ℕ
      long = length (cells_of m)

      sinks : sinks_by m.kind (at_or_below (echoes all here.side) (posts here.side) (here.at + 1)) long ≡ 0
      sinks = ap (λ (b : Bool). sinks_by m.kind (at_or_below b (posts here.side) (here.at + 1)) long) echoed-here
          ∙ ap (λ (n : ℕ). sinks_by m.kind (nat_le (here.at + 1) n) long) post
          ∙ ap (λ (b : Bool). sinks_by m.kind b long) (next-past here.at)
          ∙ sinks-none m.kind long

      across : moves_across (echoes all (other here.side)) m ≡ moves_across false m
      across = ap (λ (b : Bool). moves_across b m) alone

      at : (bare : Bool) → cond bare 0 (sinks_by m.kind (at_or_below (echoes all here.side) (posts here.side) (here.at + 1)) (length (cells_of m)) + moves_across (echoes all (other here.side)) m) ≤ moves_across false m
      at true = omega arith
      at false = omega (arith, sinks, across)

  gathered-free : (xs : List C) → tolls all posts (gathered_up cells here xs) ≡ 0
  gathered-free [] = refl
  gathered-free (c ∷ more) = omega (arith, data-past all posts here some echoed-here alone post (c ∷ more))

  -- a key sends one message down at most
  signals-free : (asked : FlushAsked) (signal : ℕ) (c : C) (l : Discipline C) → tolls all posts (signals cells here asked signal c l).sent ≡ 0
  signals-free asked signal c l = at (noflsh l.termios)
    where
      at : (kept : Bool) → tolls all posts (cond {A = Acted C (Discipline C)} kept
          (record { state = record l { gathered = [] }; notes = []; sent = gathered_up cells here l.gathered ++ onward Up here (bare kinds.Pcsig (signal ∷ [])) ∷ []; gone = lost cells here SignalKey (c ∷ []) })
          (record { state = record l { gathered = []; line = [] }; notes = []; sent = gathered_up cells here l.gathered ++ onward Up here (flush_message (flush_bytes asked)) ∷ onward Up here (bare kinds.Pcsig (signal ∷ [])) ∷ []; gone = lost cells here Flushed l.line ++ lost cells here SignalKey (c ∷ []) })).sent ≡ 0
      at true = omega (arith, gathered-free l.gathered, tolls-both all posts (gathered_up cells here l.gathered) (onward Up here (bare kinds.Pcsig (signal ∷ [])) ∷ []))
      at false = omega (arith, gathered-free l.gathered, tolls-both all posts (gathered_up cells here l.gathered) (onward Up here (flush_message (flush_bytes asked)) ∷ onward Up here (bare kinds.Pcsig (signal ∷ [])) ∷ []))

  added-free : (c : C) (l : Discipline C) → tolls all posts (added cells here c l).sent ≡ 0
  added-free c l = at (icanon l.termios) (has_room l.line) (imaxbel l.termios)
    where
      at : (canonical room bell : Bool) →
          tolls all posts (cond (not canonical) (sends [] (record l { gathered = l.gathered ++ c ∷ [] }))
          (cond room (sends [] (record l { line = edited (is_blank_cell cells here) (Types c) l.line }))
          (cond bell (dropped cells here LineFull c l) (record (sends [] (record l { line = [] })) { gone = lost cells here LineOver (l.line ++ c ∷ []) })))).sent ≡ 0
      at false room bell = refl
      at true true bell = refl
      at true false true = refl
      at true false false = refl

  stops-one : (c : C) (l : Discipline C) → tolls all posts (stops cells here c l).sent ≤ 1
  stops-one c l = at l.stopped
    where
      at : (stopped : Bool) → tolls all posts (cond stopped [] (onward Down here (bare {C = C} kinds.Stop []) ∷ [])) ≤ 1
      at true = omega arith
      at false = omega arith

  strikes-one : (key : Key) (c : C) (l : Discipline C) → tolls all posts (strikes cells here key c l).sent ≤ 1
  strikes-one Stop c l = stops-one c l
  strikes-one Start c l = omega arith
  strikes-one Intr c l = omega (arith, signals-free both_ways sigint c l)
  strikes-one Quit c l = omega (arith, signals-free both_ways sigquit c l)
  strikes-one Susp c l = omega (arith, signals-free up_alone sigtstp c l)
  strikes-one Ignored c l = omega arith
  strikes-one Eof c l = omega (arith, data-past all posts here some echoed-here alone post l.line)
  strikes-one Erase c l = omega arith
  strikes-one Werase c l = omega arith
  strikes-one Kill c l = omega arith
  strikes-one Reprint c l = omega arith
  strikes-one Lnext c l = omega arith
  strikes-one Delimiter c l = omega (arith, data-past all posts here some echoed-here alone post (l.line ++ c ∷ []))
  strikes-one Ordinary c l = omega (arith, added-free c l)

  -- a byte begins, and may start output
  begins-most : (c : C) (l : Discipline C) → Less (begins cells here c l) (beside l + 4 + 2 * echo_most)
  begins-most c l = at (l.stopped && restarts l.termios (stroke_at cells here c l))
    where
      at : (starts : Bool) → Less (cond starts (sends (onward Down here (bare kinds.Start []) ∷ []) (record l { stopped = false; stage = Begun true c })) (sends [] (record l { stage = Begun false c }))) (beside l + 4 + 2 * echo_most)
      at true = omega arith
      at false = omega arith

  begun-fewer : (m : Message C) (c : C) (rest : List C) (l : Discipline C) → cells_of m ≡ c ∷ rest
      → let t = begins_next cells here (c ∷ rest) (record l { stage = Between; in_work = Some m }) in suc (ldterm_moves t.state + tolls all posts t.sent) ≤ ldterm_moves (record l { stage = Between; in_work = Some m })
  begun-fewer m c rest l is =
      let was : length (cells_of m) ≡ suc (length rest) = ap length is in
      let left = ap length (left-cells rest m) in
      omega (arith, was, left, begins-most c (record l { stage = Between; in_work = Some (left_of rest m) }))

  between-less : (in_work : Option (Message C)) (l : Discipline C)
      → Less (begins_next cells here (cells_left (record l { in_work = in_work })) (record l { stage = Between; in_work = in_work })) (ldterm_moves (record l { stage = Between; in_work = in_work }))
  between-less None l = omega arith
  between-less (Some m) l = at (cells_of m) refl
    where
      at : (xs : List C) → cells_of m ≡ xs → Less (begins_next cells here xs (record l { stage = Between; in_work = Some m })) (ldterm_moves (record l { stage = Between; in_work = Some m }))
      at [] is = omega arith
      at (c ∷ rest) is = omega (arith, begun-fewer m c rest l is)

  -- a key is struck
  struck-less : (started : Bool) (c : C) (l : Discipline C) → length l.line ≤ LINE_MAX → Less (struck cells here started c l) (beside l + 3 + 2 * echo_most)
  struck-less started c l few =
      let stroke = stroke_at cells here c l in
      let from = record l { after_lnext = is_lnext stroke.key } in
      let t = strikes cells here stroke.key (cells.mapped stroke.byte c) from in
      let before = bytes_of cells l.line in
      let short : length before ≤ 255 = omega (arith, few, length-map l.line cells.byte) in
      let echo = echo-few l.termios stroke.key before (bytes_of cells t.state.line) stroke short in
      let stays = strikes-stay cells here (λ q. beside q ≡ beside l) (λ q stopped line gathered holds. holds) stroke.key (cells.mapped stroke.byte c) from refl in
      omega (arith, stays, echo, strikes-one stroke.key (cells.mapped stroke.byte c) from)

  -- it is echoed: one message more on the write queue at most
  data-out : (xs : List C) → moves_out (data_message xs) ≡ 2 + 2 * length xs
  unfolding data_message cells_of
  data-out xs = refl

  grown-less : (new : List C) (ms : List (Message C)) → sum_by moves_out (grown cells here new ms) ≤ sum_by moves_out ms + 2 * length new
  grown-less new [] = omega arith
  grown-less new (m ∷ []) =
      omega (arith, data-out (cells_of m ++ new), length-append (cells_of m) new, sum_by-cons moves_out m [], sum_by-cons moves_out (data_message (cells_of m ++ new)) [])
  grown-less new (m ∷ n ∷ ms) = omega (arith, grown-less new (n ∷ ms), sum_by-cons moves_out m (n ∷ ms), sum_by-cons moves_out m (grown cells here new (n ∷ ms)))

  echoed-less : (made : ℕ) (echo : List ℕ) (l : Discipline C) → Less (echoed cells here made echo (record l { stage = Between })) (beside l + 2 + 2 * length echo)
  echoed-less made [] l = omega arith
  echoed-less made (b ∷ bytes) l = at (is_full 0 l.write_queue) l.echoing
    where
      new : List C
      new = cells_made cells (echo_dir cells here) made (b ∷ bytes)

      long : length new ≡ length (b ∷ bytes)
      long = made-long cells (echo_dir cells here) made (b ∷ bytes)

      at : (full echoing : Bool) → Less (cond full (echo_lost cells here new (record l { stage = Between })) (cond echoing (echo_grows cells here new (record l { stage = Between })) (echo_stands cells here new (record l { stage = Between })))) (beside l + 2 + 2 * length (b ∷ bytes))
      at true echoing = omega arith
      at false true = omega (arith, long, grown-less new l.write_queue.messages)
      at false false = omega (arith, long, data-out new, sum-put rank_of moves_out (data_message new) l.write_queue.messages)

  next-less : (made : ℕ) (l : Discipline C) → length l.line ≤ LINE_MAX → Less (next_stage cells here made l) (ldterm_moves l)
  next-less made l few = at l.stage
    where
      at : (stage : Stage C) → Less (stage_at cells here stage made (record l { stage = stage })) (ldterm_moves (record l { stage = stage }))
      at Between = between-less l.in_work l
      at (Begun started c) = omega (arith, struck-less started c (record l { stage = Begun started c }) few)
      at (Answered echo) = omega (arith, echoed-less made echo (record l { stage = Answered echo }))

  -- the end of a turn: what is left of the message goes back
  back-less : (in_work : Option (Message C)) (q : Queue C) → sum_by moves_in (back_on in_work q).messages ≤ sum_by moves_in q.messages + moves_in_work in_work
  back-less None q = omega arith
  back-less (Some m) q = at (cells_of m) refl
    where
      at : (xs : List C) → cells_of m ≡ xs → sum_by moves_in (cond (is_none_left xs) q (record q { messages = put_back m q.messages })).messages ≤ sum_by moves_in q.messages + (1 + byte_moves * length (cells_of m))
      at [] is = omega arith
      at (c ∷ rest) is =
          let long : 0 < length (cells_of m) = (let e : length (cells_of m) ≡ suc (length rest) = ap length is in omega (arith, e)) in
          omega (arith, within-most m.kind (length (cells_of m)) long, sum-put_back rank_of moves_in m q.messages)

  finished-less : (l : Discipline C) → Less (finished cells here l) (beside l)
  finished-less l = omega (arith, gathered-free l.gathered, back-less l.in_work l.read_queue)

  stages-less : (k made : ℕ) (l : Discipline C) → GoodDiscipline l → Less (stages cells here k made l) (ldterm_moves l)
  stages-less zero made l good = omega (arith, finished-less l)
  stages-less (suc k) made l good = at (is_none_left t.sent) (next-less made l good.line) (stages-less k (made + made_of t.gone) t.state (next-good cells here made l good).state)
    where
      t : Acted C (Discipline C)
      t = next_stage cells here made l

      at : (none : Bool) → Less t (ldterm_moves l) → Less (stages cells here k (made + made_of t.gone) t.state) (ldterm_moves t.state)
          → (let u = stages cells here k (made + made_of t.gone) t.state in Less (cond none (record { state = u.state; notes = t.notes ++ u.notes; sent = u.sent; gone = t.gone ++ u.gone }) t) (ldterm_moves l))
      at true first rest = omega (arith, first, rest)
      at false first rest = first

  -- where a message has begun, one byte of it is treated, or there is none
  stages-fewer : (k made : ℕ) (m : Message C) (l : Discipline C) → GoodDiscipline (record l { stage = Between; in_work = Some m }) → (0 < k) ⊎ (cells_of m ≡ [])
      → let t = stages cells here k made (record l { stage = Between; in_work = Some m }) in suc (ldterm_moves t.state + tolls all posts t.sent) ≤ ldterm_moves (record l { stage = Between; in_work = Some m })
  stages-fewer zero made m l good may = elim may [
    | inl less ↦ absurd (omega (arith, less))
    | inr none ↦ over none
  ]
    where
      from : Discipline C
      from = record l { stage = Between; in_work = Some m }

      over : cells_of m ≡ [] → suc (ldterm_moves (finished cells here from).state + tolls all posts (finished cells here from).sent) ≤ ldterm_moves from
      over none = omega (arith, gathered-free l.gathered, ap (λ (xs : List C). sum_by moves_in (cond (is_none_left xs) l.read_queue (record l.read_queue { messages = put_back m l.read_queue.messages })).messages) none)
  stages-fewer (suc k) made m l good may = at (cells_of m) refl (next-good cells here made from good).state (λ none. stages-fewer k (made + 0) m l good (inr none))
    where
      from : Discipline C
      from = record l { stage = Between; in_work = Some m }

      on : Acted C (Discipline C) → Acted C (Discipline C)
      on t = (let u = stages cells here k (made + made_of t.gone) t.state in cond (is_none_left t.sent) (record { state = u.state; notes = t.notes ++ u.notes; sent = u.sent; gone = t.gone ++ u.gone }) t)

      goes : (t : Acted C (Discipline C)) (none : Bool) → suc (ldterm_moves t.state + tolls all posts t.sent) ≤ ldterm_moves from → Less (stages cells here k (made + made_of t.gone) t.state) (ldterm_moves t.state)
          → (let u = stages cells here k (made + made_of t.gone) t.state in let w = cond none (record { state = u.state; notes = t.notes ++ u.notes; sent = u.sent; gone = t.gone ++ u.gone }) t in suc (ldterm_moves w.state + tolls all posts w.sent) ≤ ldterm_moves from)
      goes t true first rest = omega (arith, first, rest)
      goes t false first rest = first

      at : (xs : List C) → cells_of m ≡ xs → GoodDiscipline (begins_next cells here xs from).state → (cells_of m ≡ [] → let u = stages cells here k (made + 0) from in suc (ldterm_moves u.state + tolls all posts u.sent) ≤ ldterm_moves from)
          → let w = on (begins_next cells here xs from) in suc (ldterm_moves w.state + tolls all posts w.sent) ≤ ldterm_moves from
      at [] is good again = again is
      at (c ∷ rest) is good again =
          let t = begins_next cells here (c ∷ rest) from in
          goes t (is_none_left t.sent) (begun-fewer m c rest l is) (stages-less k (made + made_of t.gone) t.state good)

  -- A turn that begins: what it takes first is treated whole, or byte by byte, and one at least.
  input-fewer : (made left : ℕ) (ms : List (Message C)) (l : Discipline C) → GoodDiscipline l → AllByRecursion (λ m. StandsOn waits_there m) ms → IsOrdered ms
      → l.read_queue.messages ≡ ms → l.stage ≡ Between → is_none_left ms ≡ false → Goes left (first_size ms)
      → let t = (input_begins cells here (Some left) made ms l).acted in suc (ldterm_moves t.state + tolls all posts t.sent) ≤ ldterm_moves l
  input-fewer made left [] l good each order is between waits size = absurd (cc)
  input-fewer made left (m ∷ rest) l good each order is between waits size = at (is_data m.kind) refl
    where
      sums : sum_by moves_in l.read_queue.messages ≡ moves_in m + sum_by moves_in rest
      sums = ap (λ (ms : List (Message C)). sum_by moves_in ms) is ∙ sum_by-cons moves_in m rest

      begun : Discipline C
      begun = record l { read_queue = left_with rest l.read_queue; in_work = Some m }

      begun-good : (stage : Stage C) → is_data m.kind ≡ true → GoodDiscipline (record begun { stage = stage })
      begun-good stage kind = record {
        termios = good.termios;
        column = good.column;
        line = good.line;
        read_queue = record { messages = each.1; order = order.1; marks = good.read_queue.marks };
        write_queue = good.write_queue;
        work = record { good = each.0.good; kind = kind };
      }

      work : (stage : Stage C) → stage ≡ Between → is_data m.kind ≡ true → (0 < 3 * left - stages_done stage) ⊎ (cells_of m ≡ [])
          → let t = stages cells here (3 * left - stages_done stage) made (record begun { stage = stage }) in suc (ldterm_moves t.state + tolls all posts t.sent) ≤ ldterm_moves (record begun { stage = Between })
      work Between between kind may = stages-fewer (3 * left - stages_done {C = C} Between) made m begun (begun-good Between kind) may
      work (Begun started c) between kind may = absurd (cc)
      work (Answered echo) between kind may = absurd (cc)

      may-be : (xs : List C) → cells_of m ≡ xs → (0 < 3 * left - stages_done l.stage) ⊎ (cells_of m ≡ [])
      may-be [] none = inr none
      may-be (c ∷ more) is =
          let done : stages_done l.stage ≡ 0 = ap (λ (stage : Stage C). stages_done stage) between in
          let long : length (cells_of m) ≡ suc (length more) = ap length is in
          let large = sized m in
          let goes = some-left left (size_of m) size (omega (arith, long, large)) in
          inl (omega (arith, done, goes))

      at : (typed : Bool) → is_data m.kind ≡ typed
          → let t = (cond {A = Serving C (Discipline C)} typed (treats cells here left made begun) (passes cells here Up m rest l)).acted in suc (ldterm_moves t.state + tolls all posts t.sent) ≤ ldterm_moves l
      at true kind =
          let within : moves_in m ≡ 1 + byte_moves * length (cells_of m) = data-within m.kind (length (cells_of m)) kind in
          omega (arith, sums, within, work l.stage between kind (may-be (cells_of m) refl))
      at false kind = omega (arith, sums, within-least m.kind (length (cells_of m)), past-it all posts here some echoed-here alone post m)

  given-one : (given : List C) (m : Message C) → is_data m.kind ≡ true → tolls all posts (map (onward Down here) (with_given given m)) ≤ 1
  given-one [] m typed = omega arith
  given-one (c ∷ given) m typed =
      let out : Message C = record m { control = None; body = Some (c ∷ given) } in
      omega (arith, past-down out, data-above m.kind (length (cells_of out)) typed)

  output-fewer : (made left : ℕ) (ms : List (Message C)) (l : Discipline C) → l.write_queue.messages ≡ ms → is_none_left ms ≡ false → Goes left (first_size ms)
      → let t = (output_serves cells here (Some left) made ms l).acted in suc (ldterm_moves t.state + tolls all posts t.sent) ≤ ldterm_moves l
  output-fewer made left [] l is waits size = absurd (cc)
  output-fewer made left (m ∷ rest) l is waits size = at (is_data m.kind && opost l.termios) refl
    where
      sums : sum_by moves_out l.write_queue.messages ≡ moves_out m + sum_by moves_out rest
      sums = ap (λ (ms : List (Message C)). sum_by moves_out ms) is ∙ sum_by-cons moves_out m rest

      -- what is left of the message has two moves for each of its bytes, and its own two
      left-out : (xs : List C) → is_data m.kind ≡ true → moves_out (left_of xs m) ≡ 2 + 2 * length xs
      left-out xs typed = omega (arith, data-above m.kind (length (cells_of (left_of xs m))) typed, ap (λ (ys : List C). length ys) (left-cells xs m))

      back-most : (xs : List C) → is_data m.kind ≡ true → sum_by moves_out (back_on (Some (left_of xs m)) (left_with rest l.write_queue)).messages ≤ 2 + 2 * length xs + sum_by moves_out rest
      back-most xs typed = at (is_none_left (cells_of (left_of xs m)))
        where
          at : (none : Bool) → let q = left_with rest l.write_queue in sum_by moves_out (cond none q (record q { messages = put_back (left_of xs m) q.messages })).messages ≤ 2 + 2 * length xs + sum_by moves_out rest
          at true = omega arith
          at false = omega (arith, left-out xs typed, sum-put_back rank_of moves_out (left_of xs m) rest)

      post-fewer : (xs : List C) → cells_of m ≡ xs → is_data m.kind ≡ true → let t = posted cells here (Some left) made xs m l in
          suc (sum_by moves_out (back_on t.left (left_with rest l.write_queue)).messages + tolls all posts (map (onward Down here) t.messages)) ≤ moves_out m + sum_by moves_out rest
      post-fewer [] is typed = omega (arith, past-down m)
      post-fewer (c ∷ more) is typed =
          let long : length (cells_of m) ≡ suc (length more) = ap length is in
          let goes = some-left left (size_of m) size (let large = sized m in omega (arith, long, large)) in
          omega (arith, long, goes, data-above m.kind (length (cells_of m)) typed, length-drop left (c ∷ more), back-most (drop left (c ∷ more)) typed, given-one (outputs cells (output_dir cells here) made l.termios l.column (take left (c ∷ more))).given m typed)

      at : (treated : Bool) → (is_data m.kind && opost l.termios) ≡ treated → let t = cond treated (posted cells here (Some left) made (cells_of m) m l) (unchanged m l) in
          suc (ldterm_moves (record l { write_queue = back_on t.left (left_with rest l.write_queue); column = t.column }) + tolls all posts (map (onward Down here) t.messages)) ≤ ldterm_moves l
      at true treated = omega (arith, sums, post-fewer (cells_of m) refl (first-of (is_data m.kind) (opost l.termios) treated))
      at false treated = omega (arith, sums, past-down m)

-- the first call of a turn, and each later one
module _ {C : Type 0} (cells : Cells C) (all : Stands) (posts : Side → ℕ) (here : Spot) (some : 0 < here.at)
    (echoed : echoes all here.side ≡ true) (alone : echoes all (other here.side) ≡ false) (post : posts here.side ≡ here.at) where
  pub first-fewer : (way : Way) (made left : ℕ) (l : Discipline C) → l.stage ≡ Between → is_none_left (queue_at way l).messages ≡ false → Goes left (first_size (queue_at way l).messages) → GoodDiscipline l
      → let t = (ldterm_serves cells (record here { way = way }) made false (Some left) l).acted in suc (ldterm_moves t.state + tolls all posts t.sent) ≤ ldterm_moves l
  first-fewer Up made left l between waits size good =
      input-fewer cells all posts (record here { way = Up }) some echoed alone post made left l.read_queue.messages l good good.read_queue.messages good.read_queue.order refl between waits size
  first-fewer Down made left l between waits size good = output-fewer cells all posts (record here { way = Down }) some echoed alone post made left l.write_queue.messages l refl waits size

  pub later-less : (way : Way) (made left : ℕ) (l : Discipline C) → way ≡ Up → GoodDiscipline l
      → let t = (ldterm_serves cells (record here { way = way }) made true (Some left) l).acted in ldterm_moves t.state + tolls all posts t.sent ≤ ldterm_moves l
  later-less Up made left l up good = stages-less cells all posts (record here { way = Up }) some echoed alone post (3 * left - stages_done l.stage) made l good
  later-less Down made left l up good = absurd (cc)
