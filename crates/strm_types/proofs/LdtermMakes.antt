-- A call of ldterm's service procedure makes an echo at most for each stage of the bytes that it treats.
use Rattle.std.proofs.Common.{ℕ, zero, suc, ◌≡◌, ◌≤◌, ◌+◌, ◌-◌, ◌*◌, Bool, true, false, cond, List, [], ◌∷◌, ◌++◌, length, refl, subst, arith, length-append}
use Rattle.std.specs.Prelude.{not, ◌&&◌, nat_lt, Option, Some, drop, is_some, unwrap_or}
use Rattle.std.proofs.lemmas.Bool.Decides.{nat_tests}
use Rattle.std.proofs.lemmas.List.{length-map, length-take}
use Rattle.strm_types.specs.declared.flushing.FlushAsked.{FlushAsked}
use Rattle.strm_types.specs.declared.keys.Key.{Key}
use Rattle.strm_types.specs.declared.keys.Key.TheVariants.{Stop, Start, Intr, Quit, Susp, Ignored, Eof, Erase, Kill, Werase, Reprint, Lnext, Delimiter, Ordinary}
use Rattle.strm_types.specs.declared.keys.TheConstants.{LINE_MAX}
use Rattle.strm_types.specs.declared.kinds.MsgKind.TheVariants as kinds
use Rattle.strm_types.specs.declared.names.Way.{Way}
use Rattle.strm_types.specs.declared.names.Way.TheVariants.{Up, Down}
use Rattle.strm_types.specs.declared.rules.Rule.{Rule}
use Rattle.strm_types.specs.declared.rules.Rule.TheVariants.{EraseKey, Erased, Killed, Flushed, SignalKey, LineFull, LineOver}
use Rattle.strm_types.specs.declared.spots.Spot.{Spot}
use Rattle.strm_types.specs.Cells.{bytes_of, cells_made, plain}
use Rattle.strm_types.specs.Deliver.{Acted, Fate, onward}
use Rattle.strm_types.specs.Flushing.{flush_bytes, flush_message}
use Rattle.strm_types.specs.Input.{begins_next, cells_left, input_begins, is_data, made_of, next_stage, passes, stage_at, stages, stages_done, to_treat, treats, with_left}
use Rattle.strm_types.specs.Keys.{restarts}
use Rattle.strm_types.specs.LdtermServes.{ldterm_serves}
use Rattle.strm_types.specs.Ldterms.{Discipline, Stage, Between, Begun, Answered, sends}
use Rattle.strm_types.specs.Lines.{Edit, ErasesByte, ErasesWord, ErasesAll, Types, edited, has_room, without_end, without_last, without_word}
use Rattle.strm_types.specs.Message.{Message, cells_of}
use Rattle.strm_types.specs.Queue.{is_full, is_none_left, left_with}
use Rattle.strm_types.specs.Service.{Serving, echo_most, most_made}
use Rattle.strm_types.specs.Termios.{icanon, imaxbel, noflsh}
use Rattle.strm_types.specs.LdtermCalls.{IsShort}
use Rattle.strm_types.specs.Typing.{added, bare, begins, both_ways, dropped, echo_dir, echo_grows, echo_lost, echo_stands, echoed, edits, gathered_up, is_blank_cell, is_lnext, lost, sigint, signals, sigquit, sigtstp, strikes, stroke_at, struck, up_alone}
use Rattle.strm_types.proofs.EchoSizes.{echo-few}
use Rattle.strm_types.proofs.StagesWork.{stages-work}
use Rattle.strm_types.proofs.OutputStops.{output-makes}
use Rattle.strm_types.proofs.MadeCells.{made-both, made-long}

-- an edit that takes bytes leaves a line no longer
module _ (test : ℕ → Bool) where
  end-fewer : (line : List ℕ) → length (without_end test line) ≤ length line
  end-fewer [] = omega arith
  end-fewer (c ∷ line) = at (is_none_left (without_end test line) && test c) (end-fewer line)
    where
      at : (taken : Bool) → length (without_end test line) ≤ length line → length (cond {A = List ℕ} taken [] (c ∷ without_end test line)) ≤ length (c ∷ line)
      at true fewer = omega arith
      at false fewer = omega arith

last-fewer : (line : List ℕ) → length (without_last line) ≤ length line
last-fewer line = omega (arith, length-take (length line - 1) line)

word-fewer : (blank : ℕ → Bool) (line : List ℕ) → length (without_word blank line) ≤ length line
word-fewer blank line =
    let word = end-fewer (λ c. not (blank c)) (without_end blank line) in
    let blanks = end-fewer blank line in
    omega arith

-- and one that adds a byte does so where there is room
typed-few : (blank : ℕ → Bool) (c : ℕ) (line : List ℕ) → length line ≤ LINE_MAX → length (edited blank (Types c) line) ≤ LINE_MAX
typed-few blank c line few = at (has_room line) refl
  where
    at : (room : Bool) → has_room line ≡ room → length (cond {A = List ℕ} room (line ++ c ∷ []) line) ≤ LINE_MAX
    at true is = let room : suc (length line) ≤ LINE_MAX = below (length line) LINE_MAX is in omega (arith, length-append line (c ∷ []))
      where
        below : (a b : ℕ) → nat_lt a b ≡ true → suc a ≤ b
        below a b is = grind (arith, nat_tests)
    at false is = few

module _ (here : Spot) where
  abbrev lost_at : Rule → List ℕ → List (Fate ℕ)
  lost_at rule cells = lost plain here rule cells

  lost-makes-none : (rule : Rule) (cells : List ℕ) → made_of (lost_at rule cells) ≡ 0
  lost-makes-none rule [] = refl
  lost-makes-none rule (c ∷ cells) = refl

  -- what a key does leaves the line short, and makes nothing
  record Strikes (t : Acted ℕ (Discipline ℕ)) : Type 0 where
    pub line : length t.state.line ≤ LINE_MAX
    pub none : made_of t.gone ≡ 0

  edits-strike : (edit : Edit ℕ) (rule : Rule) (c : ℕ) (l : Discipline ℕ) → length (edited (is_blank_cell plain here) edit l.line) ≤ LINE_MAX → Strikes (edits plain here edit rule c l)
  edits-strike edit rule c l few =
      let left = edited (is_blank_cell plain here) edit l.line in
      let taken = lost_at rule (drop (length left) l.line) in
      record { line = few; none = omega (arith, made-both taken (lost_at EraseKey (c ∷ [])), lost-makes-none rule (drop (length left) l.line)) }

  signals-strike : (asked : FlushAsked) (signal : ℕ) (c : ℕ) (l : Discipline ℕ) → length l.line ≤ LINE_MAX → Strikes (signals plain here asked signal c l)
  signals-strike asked signal c l few = at (noflsh l.termios)
    where
      at : (kept : Bool) → Strikes (cond {A = Acted ℕ (Discipline ℕ)} kept
          (record { state = record l { gathered = [] }; notes = []; sent = gathered_up plain here l.gathered ++ onward Up here (bare kinds.Pcsig (signal ∷ [])) ∷ []; gone = lost_at SignalKey (c ∷ []) })
          (record { state = record l { gathered = []; line = [] }; notes = []; sent = gathered_up plain here l.gathered ++ onward Up here (flush_message (flush_bytes asked)) ∷ onward Up here (bare kinds.Pcsig (signal ∷ [])) ∷ []; gone = lost_at Flushed l.line ++ lost_at SignalKey (c ∷ []) }))
      at true = record { line = few; none = refl }
      at false = record { line = omega arith; none = omega (arith, made-both (lost_at Flushed l.line) (lost_at SignalKey (c ∷ [])), lost-makes-none Flushed l.line) }

  added-strikes : (c : ℕ) (l : Discipline ℕ) → length l.line ≤ LINE_MAX → Strikes (added plain here c l)
  added-strikes c l few = at (icanon l.termios) (has_room l.line) (imaxbel l.termios)
    where
      at : (canonical room bell : Bool) → Strikes (cond (not canonical) (sends [] (record l { gathered = l.gathered ++ c ∷ [] }))
          (cond room (sends [] (record l { line = edited (is_blank_cell plain here) (Types c) l.line }))
          (cond bell (dropped plain here LineFull c l) (record (sends [] (record l { line = [] })) { gone = lost_at LineOver (l.line ++ c ∷ []) }))))
      at false room bell = record { line = few; none = refl }
      at true true bell = record { line = typed-few (is_blank_cell plain here) c l.line few; none = refl }
      at true false true = record { line = few; none = refl }
      at true false false = record { line = omega arith; none = lost-makes-none LineOver (l.line ++ c ∷ []) }

  strikes-strike : (key : Key) (c : ℕ) (l : Discipline ℕ) → length l.line ≤ LINE_MAX → Strikes (strikes plain here key c l)
  strikes-strike Stop c l few = record { line = few; none = refl }
  strikes-strike Start c l few = record { line = few; none = refl }
  strikes-strike Intr c l few = signals-strike both_ways sigint c l few
  strikes-strike Quit c l few = signals-strike both_ways sigquit c l few
  strikes-strike Susp c l few = signals-strike up_alone sigtstp c l few
  strikes-strike Ignored c l few = record { line = few; none = refl }
  strikes-strike Eof c l few = record { line = omega arith; none = refl }
  strikes-strike Erase c l few = edits-strike ErasesByte Erased c l (let fewer = last-fewer l.line in omega arith)
  strikes-strike Werase c l few = edits-strike ErasesWord Erased c l (let fewer = word-fewer (is_blank_cell plain here) l.line in omega arith)
  strikes-strike Kill c l few = edits-strike ErasesAll Killed c l (omega arith)
  strikes-strike Reprint c l few = record { line = few; none = refl }
  strikes-strike Lnext c l few = record { line = few; none = refl }
  strikes-strike Delimiter c l few = record { line = omega arith; none = refl }
  strikes-strike Ordinary c l few = added-strikes c l few

  -- a stage leaves the line and the echo short, and makes no more than an echo
  record Makes (t : Acted ℕ (Discipline ℕ)) : Type 0 where
    pub short : IsShort t.state
    pub few : made_of t.gone ≤ echo_most

  begins-makes : (c : ℕ) (l : Discipline ℕ) → length l.line ≤ LINE_MAX → Makes (begins plain here c l)
  begins-makes c l few = at (l.stopped && restarts l.termios (stroke_at plain here c l))
    where
      at : (starts : Bool) → Makes (cond starts (sends (onward Down here (bare kinds.Start []) ∷ []) (record l { stopped = false; stage = Begun true c })) (sends [] (record l { stage = Begun false c })))
      at true = record { short = record { line = few; echo = omega arith }; few = omega arith }
      at false = record { short = record { line = few; echo = omega arith }; few = omega arith }

  between-makes : (left : List ℕ) (l : Discipline ℕ) → IsShort l → Makes (begins_next plain here left l)
  between-makes [] l short = record { short = short; few = omega arith }
  between-makes (c ∷ rest) l short = begins-makes c (with_left rest l) short.line

  struck-makes : (started : Bool) (c : ℕ) (l : Discipline ℕ) → length l.line ≤ LINE_MAX → Makes (struck plain here started c l)
  struck-makes started c l few =
      let stroke = stroke_at plain here c l in
      let t = strikes plain here stroke.key (plain.mapped stroke.byte c) (record l { after_lnext = is_lnext stroke.key }) in
      let does = strikes-strike stroke.key (plain.mapped stroke.byte c) (record l { after_lnext = is_lnext stroke.key }) few in
      let before = length-map l.line plain.byte in
      record {
        short = record { line = does.line; echo = echo-few l.termios stroke.key (bytes_of plain l.line) (bytes_of plain t.state.line) stroke (omega arith) };
        few = let none = does.none in omega arith;
      }

  echoed-makes : (made : ℕ) (echo : List ℕ) (l : Discipline ℕ) → length l.line ≤ LINE_MAX → length echo ≤ echo_most → Makes (echoed plain here made echo (record l { stage = Between }))
  echoed-makes made [] l line few = record { short = record { line = line; echo = omega arith }; few = omega arith }
  echoed-makes made (b ∷ bytes) l line few = at (is_full 0 l.write_queue) l.echoing
    where
      new : List ℕ
      new = cells_made plain (echo_dir plain here) made (b ∷ bytes)

      size : length new ≤ echo_most
      size = omega (arith, made-long plain (echo_dir plain here) made (b ∷ bytes))

      at : (full echoing : Bool) → Makes (cond full (echo_lost plain here new (record l { stage = Between })) (cond echoing (echo_grows plain here new (record l { stage = Between })) (echo_stands plain here new (record l { stage = Between }))))
      at true echoing = record { short = record { line = line; echo = omega arith }; few = omega (arith, size) }
      at false true = record { short = record { line = line; echo = omega arith }; few = omega (arith, size) }
      at false false = record { short = record { line = line; echo = omega arith }; few = omega (arith, size) }

  next-makes : (made : ℕ) (l : Discipline ℕ) → IsShort l → Makes (next_stage plain here made l)
  next-makes made l short = at l.stage short
    where
      at : (stage : Stage ℕ) → IsShort (record l { stage = stage }) → Makes (stage_at plain here stage made (record l { stage = stage }))
      at Between short = between-makes (cells_left l) (record l { stage = Between }) short
      at (Begun started c) short = struck-makes started c (record l { stage = Begun started c }) short.line
      at (Answered echo) short = echoed-makes made echo l short.line short.echo

  -- so many stages make no more than as many echoes
  stages-make : (n made : ℕ) (l : Discipline ℕ) → IsShort l → made_of (stages plain here n made l).gone ≤ echo_most * n
  stages-make zero made l short = omega arith
  stages-make (suc n) made l short = at (is_none_left t.sent) (stages-make n (made + made_of t.gone) t.state first.short)
    where
      t : Acted ℕ (Discipline ℕ)
      t = next_stage plain here made l

      first : Makes t
      first = next-makes made l short

      at : (none : Bool) → let u = stages plain here n (made + made_of t.gone) t.state in made_of u.gone ≤ echo_most * n
          → made_of (cond {A = Acted ℕ (Discipline ℕ)} none (record { state = u.state; notes = t.notes ++ u.notes; sent = u.sent; gone = t.gone ++ u.gone }) t).gone ≤ echo_most * suc n
      at true rest =
          let u = stages plain here n (made + made_of t.gone) t.state in
          let one = first.few in
          omega (arith, made-both t.gone u.gone)
      at false rest = let one = first.few in omega arith

  done-few : (stage : Stage ℕ) → stages_done stage ≤ 2
  done-few Between = omega arith
  done-few (Begun started c) = omega arith
  done-few (Answered echo) = omega arith

  -- a call that asks for another one did no more stages than what it treated has, and two of the next byte
  treats-make : (most made : ℕ) (l : Discipline ℕ) → IsShort l → let t = treats plain here most made l in made_of t.acted.gone ≤ most_made t.bytes
  treats-make most made l short = at (is_some t.state.in_work) refl
    where
      n : ℕ
      n = 3 * most - stages_done l.stage

      t : Acted ℕ (Discipline ℕ)
      t = stages plain here n made l

      at : (again : Bool) → is_some t.state.in_work ≡ again → made_of t.gone ≤ most_made (cond {A = ℕ} again (to_treat l - to_treat t.state) most)
      at true works =
          let w = stages-work here n made l works in
          let few = subst (λ (u : Acted ℕ (Discipline ℕ)). made_of u.gone ≤ echo_most * w.steps) (w.same w.steps made (omega arith)) (stages-make w.steps made l short) in
          let done = w.done in
          let two = done-few t.state.stage in
          omega arith
      at false over = let few = stages-make n made l short in omega arith

  makes-at : (way : Way) (again : Bool) (stop : Option ℕ) (l : Discipline ℕ) → IsShort l → let t = ldterm_serves plain (record here { way = way }) 0 again stop l in made_of t.acted.gone ≤ most_made t.bytes
  makes-at Down again stop l short = output-makes (record here { way = Down }) stop l.write_queue.messages l
  makes-at Up true stop l short = treats-make (unwrap_or stop (to_treat l)) 0 l short
  makes-at Up false stop l short = of l.read_queue.messages
    where
      up : Spot
      up = record here { way = Up }

      of : (ms : List (Message ℕ)) → let t = input_begins plain up stop 0 ms l in made_of t.acted.gone ≤ most_made t.bytes
      of [] = omega arith
      of (m ∷ rest) = at (is_data m.kind)
        where
          begun : Discipline ℕ
          begun = record l { read_queue = left_with rest l.read_queue; in_work = Some m }

          at : (treated : Bool) → let t = cond {A = Serving ℕ (Discipline ℕ)} treated (treats plain up (unwrap_or stop (length (cells_of m))) 0 begun) (passes plain up Up m rest l) in made_of t.acted.gone ≤ most_made t.bytes
          at true = treats-make (unwrap_or stop (length (cells_of m))) 0 begun (record { line = short.line; echo = short.echo })
          at false = omega arith

-- What a call makes, by how many bytes it treats.
pub serves-makes : (here : Spot) (again : Bool) (stop : Option ℕ) (l : Discipline ℕ) → IsShort l → let t = ldterm_serves plain here 0 again stop l in made_of t.acted.gone ≤ most_made t.bytes
serves-makes here again stop l short = makes-at here here.way again stop l short
