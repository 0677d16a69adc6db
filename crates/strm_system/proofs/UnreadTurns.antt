-- No turn lets bytes go to a reader, nor do a push, a pop, a close and a flush.
use Rattle.std.proofs.Common.{ℕ, zero, suc, ◌≡◌, ◌+◌, ◌-◌, ◌*◌, Bool, true, false, cond, List, [], ◌∷◌, ◌++◌, length, drop, refl, ap}
use Rattle.std.specs.Prelude.{not, ◌&&◌, take, Option, None, Some, unwrap_or}
use Rattle.strm_types.specs.declared.answers.Turn.{Turn}
use Rattle.strm_types.specs.declared.answers.Turn.TheVariants.{Blocked}
use Rattle.strm_types.specs.declared.flushing.FlushAsked.{FlushAsked}
use Rattle.strm_types.specs.declared.keys.Key.{Key}
use Rattle.strm_types.specs.declared.keys.Key.TheVariants.{Stop, Start, Intr, Quit, Susp, Ignored, Eof, Erase, Kill, Werase, Reprint, Lnext, Delimiter, Ordinary}
use Rattle.strm_types.specs.declared.limits.TheConstants.{HOPS}
use Rattle.strm_types.specs.declared.modes.ReadMode.{ReadMode}
use Rattle.strm_types.specs.declared.names.Dir.{Dir}
use Rattle.strm_types.specs.declared.names.Place.{Place}
use Rattle.strm_types.specs.declared.names.Place.TheVariants as places
use Rattle.strm_types.specs.declared.names.QueueName.{QueueName}
use Rattle.strm_types.specs.declared.names.Side.{Side}
use Rattle.strm_types.specs.declared.names.Side.TheVariants.{Master, Slave}
use Rattle.strm_types.specs.declared.names.Way.{Way}
use Rattle.strm_types.specs.declared.names.Way.TheVariants.{Up, Down}
use Rattle.strm_types.specs.declared.output.Given.{Given}
use Rattle.strm_types.specs.declared.output.Given.TheVariants.{Byte, Ended, Nothing, Spaces}
use Rattle.strm_types.specs.declared.rules.Rule.{Rule}
use Rattle.strm_types.specs.declared.rules.Rule.TheVariants.{EraseKey, Erased, Killed, SignalKey, LineOver, Flushed, ModulePopped, EndClosed}
use Rattle.strm_types.specs.declared.spots.Asks.{Asks}
use Rattle.strm_types.specs.declared.spots.Asks.TheVariants as asked
use Rattle.strm_types.specs.declared.spots.Spot.{Spot}
use Rattle.strm_types.specs.declared.termios.Termios.{Termios}
use Rattle.strm_types.specs.Cells.{Cells, cells_made}
use Rattle.strm_laws.proofs.NoOwn.{none as no_own}
use Rattle.strm_laws.specs.Behaviours.{own_by}
use Rattle.strm_laws.specs.Closes.{and_then, closed_at, driver_emptied, head_emptied, stream_emptied}
use Rattle.strm_types.specs.Deliver.{Acted, Fate, carried, in_turn}
use Rattle.strm_types.specs.Emptied.{cells_gone, of_all}
use Rattle.strm_types.specs.Input.{begins_next, cells_left, input_begins, is_data, made_of, next_stage, passes, stage_at, stages, stages_done, then_on, to_treat, treats, with_left}
use Rattle.strm_types.specs.Keys.{restarts}
use Rattle.strm_types.specs.LdtermServes.{ldterm_serves}
use Rattle.strm_types.specs.Ldterms.{Discipline, Stage, Between, Begun, Answered}
use Rattle.strm_types.specs.Lines.{ErasesByte, ErasesWord, edited, has_room}
use Rattle.strm_types.specs.Message.{Message, cells_of}
use Rattle.strm_types.specs.ModuleQueues.{at_place}
use Rattle.strm_laws.specs.ModuleTurns.{Calls, again_at, asked_turn, bytes_at, calls, made_below, module_called, module_turned, moved_on, moved_within, place_named, turned_named, turned_there, waits_there}
use Rattle.strm_types.specs.Modules.{act_among}
use Rattle.strm_types.specs.Names.{direction_at, is_open, other, without}
use Rattle.strm_types.specs.Options.{mode_message}
use Rattle.strm_types.specs.Output.{made_for, post, posts, told_for}
use Rattle.strm_types.specs.OutputTurns.{output_dir, output_serves, posted, unchanged}
use Rattle.strm_laws.specs.Past.{has_room_past}
use Rattle.strm_types.specs.Owns.{Own}
use Rattle.strm_types.specs.OwnStands.{own_served, own_serves}
use Rattle.strm_laws.specs.Pushes.{all_taken, head_above, mode_behind, mode_on_push, mode_put, modules_emptied, popped, pushed_named, top_on, top_taken, with_modules}
use Rattle.strm_laws.specs.Puts.{put_in}
use Rattle.strm_types.specs.Queue.{is_full, is_none_left, left_with}
use Rattle.strm_types.specs.Service.{cleared, line_gone, queues_cleared}
use Rattle.strm_laws.specs.Stacked.{Module, OfLdterm, OfOwn, Standing, module_asks, module_line, module_name, module_rests, module_serves, without_kind_line, kind_line}
use Rattle.strm_laws.specs.State.{State, stream}
use Rattle.strm_types.specs.Termios.{icanon, imaxbel, noflsh, opost}
use Rattle.strm_laws.specs.TurnOutcomes.{TurnOutcome, stayed_put}
use Rattle.strm_laws.specs.Turns.{driver_serves, is_stopped_across, turned, turned_at, up_across, with_driver}
use Rattle.strm_types.specs.Typing.{added, both_ways, begins, echo_dir, echo_grows, echo_lost, echo_stands, echoed, is_blank_cell, lost, sigint, signals, sigquit, sigtstp, is_lnext, strikes, stroke_at, up_alone}
use Rattle.strm_types.specs.Standings.{way_queue, stood, QueuePair}
use Rattle.strm_types.specs.LdtermStands.{disciplined}
use Rattle.strm_laws.proofs.TurnHolds.{any-holds}
use Rattle.strm_system.proofs.Unread.{Unread, is_read, reads, at-head, delivered-unread, either, line-unread, none-both, sent-unread, only_in}

-- what ldterm does with a byte
module _ {C : Type 0} (dir : Dir) (cells : Cells C) (here : Spot) where
  abbrev None_read : List (Fate C) → Type 0
  None_read told = reads dir told ≡ 0

  lost-unread : (rule : Rule) (xs : List C) → is_read rule ≡ false → None_read (lost cells here rule xs)
  lost-unread rule xs apart = line-unread dir here.side rule xs apart

  edits-unread : (left : List C) (rule : Rule) (c : C) (l : Discipline C) → is_read rule ≡ false → None_read (lost cells here rule (drop (length left) l.line) ++ lost cells here EraseKey (c ∷ []))
  edits-unread left rule c l apart = none-both dir (lost cells here rule (drop (length left) l.line)) (lost cells here EraseKey (c ∷ [])) (lost-unread rule (drop (length left) l.line) apart) (lost-unread EraseKey (c ∷ []) refl)

  signals-unread : (asked : FlushAsked) (signal : ℕ) (c : C) (l : Discipline C) → Unread dir (signals cells here asked signal c l)
  signals-unread asked signal c l = either dir (noflsh l.termios) _ _ refl (none-both dir (lost cells here Flushed l.line) (lost cells here SignalKey (c ∷ [])) (lost-unread Flushed l.line refl) refl)

  added-unread : (c : C) (l : Discipline C) → Unread dir (added cells here c l)
  added-unread c l = either dir (not (icanon l.termios)) _ _ refl (either dir (has_room l.line) _ _ refl (either dir (imaxbel l.termios) _ _ refl (lost-unread LineOver (l.line ++ c ∷ []) refl)))

  strikes-unread : (key : Key) (c : C) (l : Discipline C) → Unread dir (strikes cells here key c l)
  strikes-unread Stop c l = refl
  strikes-unread Start c l = refl
  strikes-unread Intr c l = signals-unread both_ways sigint c l
  strikes-unread Quit c l = signals-unread both_ways sigquit c l
  strikes-unread Susp c l = signals-unread up_alone sigtstp c l
  strikes-unread Ignored c l = refl
  strikes-unread Eof c l = refl
  strikes-unread Erase c l = edits-unread (edited (is_blank_cell cells here) ErasesByte l.line) Erased c l refl
  strikes-unread Werase c l = edits-unread (edited (is_blank_cell cells here) ErasesWord l.line) Erased c l refl
  strikes-unread Kill c l = edits-unread [] Killed c l refl
  strikes-unread Reprint c l = refl
  strikes-unread Lnext c l = refl
  strikes-unread Delimiter c l = refl
  strikes-unread Ordinary c l = added-unread c l

  begins-unread : (c : C) (l : Discipline C) → Unread dir (begins cells here c l)
  begins-unread c l = either dir (l.stopped && restarts l.termios (stroke_at cells here c l)) _ _ refl refl

  next-begins : (xs : List C) (l : Discipline C) → Unread dir (begins_next cells here xs l)
  next-begins [] l = refl
  next-begins (c ∷ rest) l = begins-unread c (with_left rest l)

  echoed-unread : (made : ℕ) (echo : List ℕ) (l : Discipline C) → Unread dir (echoed cells here made echo l)
  echoed-unread made [] l = refl
  echoed-unread made (b ∷ bytes) l = at (is_full 0 l.write_queue) l.echoing
    where
      new : List C
      new = cells_made cells (echo_dir cells here) made (b ∷ bytes)

      at : (full echoing : Bool) → Unread dir (cond full (echo_lost cells here new l) (cond echoing (echo_grows cells here new l) (echo_stands cells here new l)))
      at true echoing = refl
      at false true = refl
      at false false = refl

  next-unread : (made : ℕ) (l : Discipline C) → Unread dir (next_stage cells here made l)
  next-unread made l = at l.stage
    where
      at : (stage : Stage C) → Unread dir (stage_at cells here stage made l)
      at Between = next-begins (cells_left l) l
      at (Begun started c) = strikes-unread (stroke_at cells here c l).key (cells.mapped (stroke_at cells here c l).byte c) (record l { after_lnext = is_lnext (stroke_at cells here c l).key })
      at (Answered echo) = echoed-unread made echo _

  then-unread : (made : ℕ) (t : Acted C (Discipline C)) (next : ℕ → Discipline C → Acted C (Discipline C)) → Unread dir t → Unread dir (next (made + made_of t.gone) t.state) → Unread dir (then_on made t next)
  then-unread made t next first second = at (is_none_left t.sent)
    where
      at : (none : Bool) → (let u = next (made + made_of t.gone) t.state in Unread dir (cond none (record { state = u.state; notes = t.notes ++ u.notes; sent = u.sent; gone = t.gone ++ u.gone }) t))
      at true = none-both dir t.gone (next (made + made_of t.gone) t.state).gone first second
      at false = first

  stages-unread : (n made : ℕ) (l : Discipline C) → Unread dir (stages cells here n made l)
  stages-unread zero made l = refl
  stages-unread (suc more) made l =
      let t = next_stage cells here made l in
      then-unread made t (stages cells here more) (next-unread made l) (stages-unread more (made + made_of t.gone) t.state)

  input-unread : (stop : Option ℕ) (made : ℕ) (ms : List (Message C)) (l : Discipline C) → Unread dir (input_begins cells here stop made ms l).acted
  input-unread stop made [] l = refl
  input-unread stop made (m ∷ rest) l = at (is_data m.kind)
    where
      at : (treated : Bool) → Unread dir (cond treated (treats cells here (unwrap_or stop (length (cells_of m))) made (record l { read_queue = left_with rest l.read_queue; in_work = Some m })) (passes cells here Up m rest l)).acted
      at true =
          let begun : Discipline C = record l { read_queue = left_with rest l.read_queue; in_work = Some m } in
          stages-unread (3 * unwrap_or stop (length (cells_of m)) - stages_done begun.stage) made begun
      at false = refl

  -- and with output
  told-unread : (given : Given) (made : ℕ) (c : C) → None_read (told_for cells (output_dir cells here) given made c)
  told-unread (Byte b) made c = refl
  told-unread Ended made c = refl
  told-unread (Spaces columns) made c = refl
  told-unread Nothing made c = refl

  posts-unread : (made : ℕ) (t : Termios) (column : ℕ) (xs : List C) → None_read (posts cells (output_dir cells here) made t column xs).told
  posts-unread made t column [] = refl
  posts-unread made t column (c ∷ rest) =
      let first = post t column (cells.byte c) in
      none-both dir (told_for cells (output_dir cells here) first.given made c) _ (told-unread first.given made c) (posts-unread (made + made_for first.given) t first.column rest)

  posted-unread : (stop : Option ℕ) (made : ℕ) (xs : List C) (m : Message C) (l : Discipline C) → None_read (posted cells here stop made xs m l).told
  posted-unread stop made [] m l = refl
  posted-unread stop made (c ∷ rest) m l = posts-unread made l.termios l.column (take (unwrap_or stop (length (c ∷ rest))) (c ∷ rest))

  output-unread : (stop : Option ℕ) (made : ℕ) (ms : List (Message C)) (l : Discipline C) → Unread dir (output_serves cells here stop made ms l).acted
  output-unread stop made [] l = refl
  output-unread stop made (m ∷ rest) l = at (is_data m.kind && opost l.termios)
    where
      at : (out : Bool) → None_read (cond out (posted cells here stop made (cells_of m) m l) (unchanged m l)).told
      at true = posted-unread stop made (cells_of m) m l
      at false = refl

-- a turn
module _ {C : Type 0} (dir : Dir) (cells : Cells C) where
  serves-at : (way : Way) (here : Spot) (again : Bool) (made : ℕ) (stop : Option ℕ) (l : Discipline C) → Unread dir (ldterm_serves cells (record here { way = way }) made again stop l).acted
  serves-at Down here again made stop l = output-unread dir cells (record here { way = Down }) stop made l.write_queue.messages l
  serves-at Up here false made stop l = input-unread dir cells (record here { way = Up }) stop made l.read_queue.messages l
  serves-at Up here true made stop l = stages-unread dir cells (record here { way = Up }) (3 * unwrap_or stop (to_treat l) - stages_done l.stage) made l

  -- A module of a user's own does with what it takes off a queue what it does with what comes.
  own-unread : (here : Spot) (o : Own) (queues : Option (QueuePair C)) → Unread dir (own_serves (own_by no_own cells) here (record { part = o; queues = queues })).acted
  own-unread here o None = refl
  own-unread here o (Some pair) = at (way_queue here.way pair).messages
    where
      at : (ms : List (Message C)) → Unread dir (own_served (own_by no_own cells) here (record { part = o; queues = Some pair }) pair ms).acted
      at [] = refl
      at (m ∷ rest) = refl

  serves-unread : (here : Spot) (again : Bool) (made : ℕ) (stop : Option ℕ) (q : Standing C) → Unread dir (module_serves no_own cells here made again stop q).acted
  serves-unread here again made stop q = by q.part
    where
      by : (part : Module C) → Unread dir (module_serves no_own cells here made again stop (stood part q.queues)).acted
      by (OfLdterm l) = serves-at here.way here again made stop (disciplined l q.queues)
      by (OfOwn o) = own-unread here o q.queues
      by other = refl

  acts-unread : (here : Spot) (made : ℕ) (again : Bool) (left : ℕ) (i : ℕ) (ps : List (Standing C)) → Unread dir (act_among (λ q. (module_serves no_own cells here made again (Some left) q).acted) i ps)
  acts-unread here made again left i [] = refl
  acts-unread here made again left zero (q ∷ ps) = serves-unread here again made (Some left) q
  acts-unread here made again left (suc i) (q ∷ ps) = acts-unread here made again left i ps

  module _ (here : Spot) where
    calls-unread : (n : ℕ) (again : Bool) (left : ℕ) (s : State C) → reads dir (calls no_own cells here n again left s).gone ≡ 0
    calls-unread zero again left s = refl
    calls-unread (suc more) again left s =
        let ps = (stream here.side s).modules in
        let made = made_below here.side s in
        let t = module_called no_own cells here again left s in
        let u = in_turn (carried (put_in no_own cells) HOPS) t.sent t.state in
        let less = left - bytes_at no_own cells here made again left ps in
        let v = calls no_own cells here more true less u.state in
        let out = none-both dir t.gone u.gone (acts-unread here made again left (here.at - 1) ps) (sent-unread dir cells t.sent t.state) in
        either-calls (again_at no_own cells here made again left ps) _ _ (none-both dir (t.gone ++ u.gone) v.gone out (calls-unread more true less u.state)) out
      where
        either-calls : (b : Bool) (one another : Calls C) → reads dir one.gone ≡ 0 → reads dir another.gone ≡ 0 → reads dir (cond b one another).gone ≡ 0
        either-calls true one another first second = first
        either-calls false one another first second = second

    abbrev Quiet : TurnOutcome C → Type 0
    Quiet t = reads dir t.gone ≡ 0

    either-turns : (b : Bool) (one another : TurnOutcome C) → Quiet one → Quiet another → Quiet (cond b one another)
    either-turns true one another first second = first
    either-turns false one another first second = second

    moved-unread : (name : QueueName) (bytes : ℕ) (s : State C) → Quiet (moved_on no_own cells here name bytes s)
    moved-unread name bytes s =
        let t = calls no_own cells here (3 * bytes + 1) false bytes s in
        either-turns t.ended _ (stayed_put Blocked s) (calls-unread (3 * bytes + 1) false bytes s) refl

    asked-unread : (asks : Asks) (name : QueueName) (turn : Turn) (s : State C) → Quiet (asked_turn no_own cells here asks name turn s)
    asked-unread asked.Empty name turn s = refl
    asked-unread asked.Held name turn s = refl
    asked-unread asked.Free name turn s = moved-unread name _ s
    asked-unread (asked.Room band) name turn s =
        either-turns (has_room_past here.side here.way here.at band.0 s) (moved_within no_own cells here name turn s) (waits_there band.0 here s) (moved-unread name _ s) refl

    there-unread : (name : QueueName) (turn : Turn) (s : State C) → Quiet (turned_there no_own cells here name turn s)
    there-unread name turn s =
        let ps = (stream here.side s).modules in
        let asks = at_place (module_asks no_own cells here.way) asked.Empty here.at ps in
        either-turns (at_place module_rests false here.at ps) (asked_turn no_own cells here asks name turn s) (stayed_put Blocked s) (asked-unread asks name turn s) refl

  module-turn : (name : QueueName) (turn : Turn) (s : State C) → reads dir (module_turned no_own cells name turn s).gone ≡ 0
  module-turn name turn s = named (place_named name.place (stream name.side s).modules)
    where
      named : (o : Option ℕ) → reads dir (turned_named no_own cells name turn s o).gone ≡ 0
      named None = refl
      named (Some at) = there-unread (record { side = name.side; at = at; way = name.way }) name turn s

  driver-turn : (side : Side) (ms : List (Message C)) (s : State C) → reads dir (driver_serves no_own cells side ms s).gone ≡ 0
  driver-turn side [] s = refl
  driver-turn side (m ∷ rest) s =
      any-holds (λ (t : TurnOutcome C). reads dir t.gone ≡ 0) (is_open (stream (other side) s).opened) (is_stopped_across side m s) _ _ _ refl refl
      (let from = with_driver side (left_with rest (stream side s).driver.queue) s in delivered-unread dir cells (up_across side from) m from)

  pub turn-unread : (name : QueueName) (turn : Turn) (s : State C) → reads dir (turned no_own cells name turn s).gone ≡ 0
  turn-unread name turn s = at name.place (record s { enabled = without name s.enabled })
    where
      at : (place : Place) (t : State C) → reads dir (turned_at no_own cells place name turn t).gone ≡ 0
      at places.Driver t = driver-turn name.side (stream name.side t).driver.queue.messages t
      at places.Head t = refl
      at (places.Module owner) t = module-turn name turn t

-- a push, a pop and a close
module _ {C : Type 0} (dir : Dir) (cells : Cells C) where
  mode-unread : (side : Side) (mode : Option ReadMode) (s : State C) → reads dir (mode_put side mode s).gone ≡ 0
  mode-unread side None s = refl
  mode-unread side (Some mode) s = at-head dir cells side (head_above side) (mode_message mode false) s

  pub push-unread : (side : Side) (q : Option (Standing C)) (s : State C) → reads dir (pushed_named side q s).gone ≡ 0
  push-unread side None s = refl
  push-unread side (Some q) s = mode-unread side (mode_on_push (module_name q)) (with_modules side (q ∷ (stream side s).modules) s)

  queues-unread : (side : Side) (rule : Rule) (way : Way) (queues : Option (QueuePair C)) → is_read rule ≡ false → reads dir (queues_cleared side rule way queues).gone ≡ 0
  queues-unread side rule way None other = refl
  queues-unread side rule way (Some pair) other =
      ap (λ b. cond b (only_in dir (direction_at way side) (length (cells_gone of_all (way_queue way pair).messages))) 0 + 0) other

  clears-unread : (side : Side) (rule : Rule) (q : Standing C) → is_read rule ≡ false → reads dir (cleared kind_line without_kind_line side rule q).gone ≡ 0
  clears-unread side rule q other =
      let above = queues_cleared side rule Up q.queues in
      let line = line_gone side rule (module_line q) in
      let below = queues_cleared side rule Down above.state in
      none-both dir above.gone (line ++ below.gone) (queues-unread side rule Up q.queues other)
      (none-both dir line below.gone (line-unread dir side rule (module_line q) other) (queues-unread side rule Down above.state other))

  top-popped : (side : Side) (ps : List (Standing C)) (s : State C) → reads dir (top_taken ModulePopped side ps s).gone ≡ 0
  top-popped side [] s = refl
  top-popped side (q ∷ ps) s = clears-unread side ModulePopped q refl

  top-closed : (side : Side) (ps : List (Standing C)) (s : State C) → reads dir (top_taken EndClosed side ps s).gone ≡ 0
  top-closed side [] s = refl
  top-closed side (q ∷ ps) s = clears-unread side EndClosed q refl

  all-closed : (side : Side) (ps : List (Standing C)) (s : State C) → reads dir (all_taken EndClosed side ps s).gone ≡ 0
  all-closed side [] s = refl
  all-closed side (q ∷ ps) s =
      let t = top_taken EndClosed side (q ∷ ps) s in
      none-both dir t.gone (all_taken EndClosed side ps t.state).gone (top-closed side (q ∷ ps) s) (all-closed side ps t.state)

  pub pop-unread : (side : Side) (s : State C) → reads dir (popped side s).gone ≡ 0
  pop-unread side s =
      let t = top_taken ModulePopped side (stream side s).modules s in
      let u = mode_put side (mode_behind (top_on side s)) t.state in
      none-both dir t.gone u.gone (top-popped side (stream side s).modules s) (mode-unread side (mode_behind (top_on side s)) t.state)

  emptied-unread : (side : Side) (s : State C) → reads dir (stream_emptied side s).gone ≡ 0
  emptied-unread side s =
      let t = head_emptied EndClosed of_all side s in
      none-both dir t.gone (modules_emptied EndClosed side t.state).gone refl (all-closed side (stream side t.state).modules t.state)

  pub close-unread : (side : Side) (s : State C) → reads dir (closed_at side s).gone ≡ 0
  close-unread Slave s = emptied-unread Slave s
  close-unread Master s =
      let heads = stream_emptied Master s in
      let one = and_then heads (driver_emptied EndClosed of_all Master) in
      none-both dir one.gone (driver_emptied EndClosed of_all Slave one.state).gone
      (none-both dir heads.gone (driver_emptied EndClosed of_all Master heads.state).gone (emptied-unread Master s) refl) refl
