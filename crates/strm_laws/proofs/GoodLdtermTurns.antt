-- A call of ldterm's service procedures leaves it good, and what it sends is good (ldterm(7M); termio(7I)).
use Rattle.strm_laws.proofs.Prelude.{ℕ, zero, suc, ◌≡◌, ◌≤◌, ◌+◌, ◌-◌, ◌*◌, Bool, true, false, cond, List, [], ◌∷◌, ◌++◌, length, take, drop, map}
use Rattle.strm_laws.proofs.Prelude.{refl, sym, ap, ◌∙◌, arith, nat_tests, false≢true, length-take, ◌&&◌, not, nat_lt, Option, None, Some, option_map}
use Rattle.strm_laws.proofs.Prelude.{unwrap_or, posts-low, Ordered-put_back}
use Rattle.strm_laws.specs.Prelude.{FlushAsked, Key, LINE_MAX, MsgKind, Data, Way, Up, Down, COLUMN_MAX, LineFull, LineOver, Flushed, SignalKey, Spot}
use Rattle.strm_laws.specs.Prelude.{Cells, cells_made, Acted, Parcel, onward, flush_bytes, flush_message, back_on, begins_next, cells_left, finished}
use Rattle.strm_laws.specs.Prelude.{input_begins, is_data, left_of, made_of, next_stage, passes, stage_at, stages, stages_done, then_on, to_treat}
use Rattle.strm_laws.specs.Prelude.{treats, with_left, restarts, is_body_kind, is_control_kind, ldterm_serves, Discipline, Stage, Between, Begun}
use Rattle.strm_laws.specs.Prelude.{Answered, queue_at, sends, waits_there, ErasesByte, ErasesWord, Types, edited, has_room, without_end}
use Rattle.strm_laws.specs.Prelude.{without_last, without_word, Message, cells_of, data_message, rank_of, posts, Outgoing, outgoing, output_dir}
use Rattle.strm_laws.specs.Prelude.{output_serves, posted, unchanged, with_given, IsOrdered, Queue, is_full, is_none_left, left_with, put_back}
use Rattle.strm_laws.specs.Prelude.{icanon, imaxbel, noflsh, opost, added, bare, begins, both_ways, dropped, echo_dir, echo_grows, echo_lost}
use Rattle.strm_laws.specs.Prelude.{echo_stands, echoed, gathered_up, grown, is_blank_cell, is_lnext, lost, sigint, signals, sigquit, sigtstp}
use Rattle.strm_laws.specs.Prelude.{strikes, stroke_at, struck, up_alone}
use Rattle.std.proofs.lemmas.List.{length-append}
use Rattle.std.specs.List.{AllByRecursion}
use Rattle.strm_types.specs.declared.keys.Key.TheVariants as keys
use Rattle.strm_types.specs.declared.kinds.MsgKind.TheVariants as kinds
use Rattle.strm_laws.specs.GoodMessages.{AreGood, GoodMessage, is_part_kind}
use Rattle.strm_laws.specs.Restorable.{GoodQueue, IsWork, StandsOn, goes_out}
use Rattle.strm_laws.proofs.GoodDeliveries.{all-join}
use Rattle.strm_laws.proofs.GoodHeads.{data-good, flush-good, signal-good, start-good, stop-good}
use Rattle.strm_laws.proofs.GoodLdterms.{GoodAtLdterm, GoodDiscipline, either-ldterm, quiet-good, stands_at, queue-good, with-queue-good}
use Rattle.strm_laws.proofs.GoodQueues.{all-put_back, put-good}
use Rattle.strm_laws.proofs.QueueOrder.{grown-order}

-- an edit that takes bytes leaves a line no longer
module _ {C : Type 0} where
  end-fewer : (test : C → Bool) (line : List C) → length (without_end test line) ≤ length line
  end-fewer test [] = omega arith
  end-fewer test (c ∷ line) = at (is_none_left (without_end test line) && test c) (end-fewer test line)
    where
      at : (taken : Bool) → length (without_end test line) ≤ length line → length (cond {A = List C} taken [] (c ∷ without_end test line)) ≤ length (c ∷ line)
      at true fewer = omega arith
      at false fewer = omega arith

  last-fewer : (line : List C) → length (without_last line) ≤ length line
  last-fewer line = omega (arith, length-take (length line - 1) line)

  word-fewer : (blank : C → Bool) (line : List C) → length (without_word blank line) ≤ length line
  word-fewer blank line =
      let word = end-fewer (λ c. not (blank c)) (without_end blank line) in
      let blanks = end-fewer blank line in
      omega arith

  typed-few : (blank : C → Bool) (c : C) (line : List C) → length line ≤ LINE_MAX → length (edited blank (Types c) line) ≤ LINE_MAX
  typed-few blank c line few = at (has_room line) refl
    where
      below : (a b : ℕ) → nat_lt a b ≡ true → suc a ≤ b
      below a b is = grind (arith, nat_tests)

      at : (room : Bool) → has_room line ≡ room → length (cond {A = List C} room (line ++ c ∷ []) line) ≤ LINE_MAX
      at true is = let room : suc (length line) ≤ LINE_MAX = below (length line) LINE_MAX is in omega (arith, length-append line (c ∷ []))
      at false is = few

-- M_DATA, with other cells

pub data-kind : (kind : MsgKind) → is_data kind ≡ true → kind ≡ Data
data-kind Data is = refl
data-kind _ is = absurd (false≢true is)

data-controls : is_control_kind Data ≡ false
unfolding is_control_kind
data-controls = refl

data-parts : is_part_kind Data ≡ true
unfolding is_control_kind is_body_kind
data-parts = refl

module _ {C : Type 0} where
  data-left : (m : Message C) (cells : List C) → is_data m.kind ≡ true → GoodMessage m → GoodMessage (record m { control = None; body = Some cells })
  data-left m cells is good =
      let same = data-kind m.kind is in
      record {
        control = sym (ap (λ kind. is_control_kind kind) same ∙ data-controls);
        body = λ is. refl;
        bare = λ none. absurd (false≢true (sym none ∙ ap (λ kind. is_part_kind kind) same ∙ data-parts));
        plain = good.plain;
        band = good.band;
        high = good.high;
        header = good.header;
        options = good.options;
      }

  stands-left : (stands : MsgKind → Bool) (m : Message C) (cells : List C) → is_data m.kind ≡ true → StandsOn stands m → StandsOn stands (left_of cells m)
  stands-left stands m cells is fits = record { good = data-left m cells is fits.good; kind = fits.kind }

  -- what is left of a message goes back
  back-good : (stands : MsgKind → Bool) (m : Message C) (q : Queue C) → StandsOn stands m → GoodQueue stands q → GoodQueue stands (back_on (Some m) q)
  back-good stands m q fits good = at (is_none_left (cells_of m))
    where
      at : (none : Bool) → GoodQueue stands (cond none q (record q { messages = put_back m q.messages }))
      at true = good
      at false = record { messages = all-put_back (λ m. StandsOn stands m) m q.messages fits good.messages; order = Ordered-put_back rank_of m q.messages good.order; marks = good.marks }

module _ {C : Type 0} (cells : Cells C) (here : Spot) where
  -- what typing changes of ldterm
  typed : (l : Discipline C) (stopped lnext : Bool) (line gathered : List C) (stage : Stage C) → length line ≤ LINE_MAX → GoodDiscipline l
      → GoodDiscipline (record l { stopped = stopped; after_lnext = lnext; line = line; gathered = gathered; stage = stage })
  typed l stopped lnext line gathered stage few good = record { termios = good.termios; column = good.column; line = few; read_queue = good.read_queue; write_queue = good.write_queue; work = good.work }

  gathered-good : (gathered : List C) → AreGood GoodMessage (gathered_up cells here gathered)
  gathered-good [] = tt
  gathered-good (c ∷ more) = (data-good (c ∷ more), tt)

  signals-good : (asked : FlushAsked) (signal : ℕ) (c : C) (l : Discipline C) → GoodDiscipline l → GoodAtLdterm (signals cells here asked signal c l)
  signals-good asked signal c l good = at (noflsh l.termios)
    where
      key : Parcel C
      key = onward Up here (bare kinds.Pcsig (signal ∷ []))

      at : (kept : Bool) → GoodAtLdterm (cond {A = Acted C (Discipline C)} kept
          (record { state = record l { gathered = [] }; notes = []; sent = gathered_up cells here l.gathered ++ key ∷ []; gone = lost cells here SignalKey (c ∷ []) })
          (record { state = record l { gathered = []; line = [] }; notes = []; sent = gathered_up cells here l.gathered ++ onward Up here (flush_message (flush_bytes asked)) ∷ key ∷ []; gone = lost cells here Flushed l.line ++ lost cells here SignalKey (c ∷ []) }))
      at true = record {
        state = typed l l.stopped l.after_lnext l.line [] l.stage good.line good;
        sent = all-join (λ q. GoodMessage q.message) (gathered_up cells here l.gathered) (key ∷ []) (gathered-good l.gathered) (signal-good (signal ∷ []), tt);
      }
      at false = record {
        state = typed l l.stopped l.after_lnext [] [] l.stage (omega arith) good;
        sent = all-join (λ q. GoodMessage q.message) (gathered_up cells here l.gathered) (onward Up here (flush_message (flush_bytes asked)) ∷ key ∷ []) (gathered-good l.gathered) (flush-good (flush_bytes asked), (signal-good (signal ∷ []), tt));
      }

  added-good : (c : C) (l : Discipline C) → GoodDiscipline l → GoodAtLdterm (added cells here c l)
  added-good c l good = at (icanon l.termios) (has_room l.line) (imaxbel l.termios)
    where
      at : (canonical room bell : Bool) →
          GoodAtLdterm (cond (not canonical) (sends [] (record l { gathered = l.gathered ++ c ∷ [] }))
          (cond room (sends [] (record l { line = edited (is_blank_cell cells here) (Types c) l.line }))
          (cond bell (dropped cells here LineFull c l) (record (sends [] (record l { line = [] })) { gone = lost cells here LineOver (l.line ++ c ∷ []) }))))
      at false room bell = record { state = typed l l.stopped l.after_lnext l.line (l.gathered ++ c ∷ []) l.stage good.line good; sent = tt }
      at true true bell = record { state = typed l l.stopped l.after_lnext (edited (is_blank_cell cells here) (Types c) l.line) l.gathered l.stage (typed-few (is_blank_cell cells here) c l.line good.line) good; sent = tt }
      at true false true = record { state = good; sent = tt }
      at true false false = record { state = typed l l.stopped l.after_lnext [] l.gathered l.stage (omega arith) good; sent = tt }

  stops-sent : (stopped : Bool) (l : Discipline C) → AreGood {C = C} GoodMessage (cond stopped [] (onward Down here (bare kinds.Stop []) ∷ []))
  stops-sent true l = tt
  stops-sent false l = (stop-good, tt)

  -- a line that an edit leaves, or that goes up
  edited-good : (line : List C) (l : Discipline C) → length line ≤ length l.line → GoodDiscipline l → GoodDiscipline (record l { line = line })
  edited-good line l fewer good = typed l l.stopped l.after_lnext line l.gathered l.stage (omega (arith, fewer, good.line)) good

  sent-good : (line : List C) (l : Discipline C) → GoodDiscipline l → GoodAtLdterm (sends (onward Up here (data_message line) ∷ []) (record l { line = [] }))
  sent-good line l good = record { state = typed l l.stopped l.after_lnext [] l.gathered l.stage (omega arith) good; sent = (data-good line, tt) }

  strikes-good : (key : Key) (c : C) (l : Discipline C) → GoodDiscipline l → GoodAtLdterm (strikes cells here key c l)
  strikes-good keys.Stop c l good = record { state = typed l true l.after_lnext l.line l.gathered l.stage good.line good; sent = stops-sent l.stopped l }
  strikes-good keys.Start c l good = record { state = good; sent = tt }
  strikes-good keys.Intr c l good = signals-good both_ways sigint c l good
  strikes-good keys.Quit c l good = signals-good both_ways sigquit c l good
  strikes-good keys.Susp c l good = signals-good up_alone sigtstp c l good
  strikes-good keys.Ignored c l good = record { state = good; sent = tt }
  strikes-good keys.Eof c l good = let t = sent-good l.line l good in record { state = t.state; sent = t.sent }
  strikes-good keys.Erase c l good = record { state = edited-good (edited (is_blank_cell cells here) ErasesByte l.line) l (last-fewer l.line) good; sent = tt }
  strikes-good keys.Werase c l good = record { state = edited-good (edited (is_blank_cell cells here) ErasesWord l.line) l (word-fewer (is_blank_cell cells here) l.line) good; sent = tt }
  strikes-good keys.Kill c l good = record { state = edited-good [] l (omega arith) good; sent = tt }
  strikes-good keys.Reprint c l good = record { state = good; sent = tt }
  strikes-good keys.Lnext c l good = record { state = good; sent = tt }
  strikes-good keys.Delimiter c l good = sent-good (l.line ++ c ∷ []) l good
  strikes-good keys.Ordinary c l good = added-good c l good

  begins-good : (c : C) (l : Discipline C) → GoodDiscipline l → GoodAtLdterm (begins cells here c l)
  begins-good c l good = either-ldterm (l.stopped && restarts l.termios (stroke_at cells here c l)) _ _
      (record { state = typed l false l.after_lnext l.line l.gathered (Begun true c) good.line good; sent = (start-good, tt) })
      (record { state = typed l l.stopped l.after_lnext l.line l.gathered (Begun false c) good.line good; sent = tt })

  left-good : (rest : List C) (l : Discipline C) → GoodDiscipline l → GoodDiscipline (with_left rest l)
  left-good rest l good = record { termios = good.termios; column = good.column; line = good.line; read_queue = good.read_queue; write_queue = good.write_queue; work = at l.in_work good.work }
    where
      at : (o : Option (Message C)) → IsWork o → IsWork (option_map (left_of rest) o)
      at None is = tt
      at (Some m) is = stands-left is_data m rest is.kind is

  struck-good : (started : Bool) (c : C) (l : Discipline C) → GoodDiscipline l → GoodAtLdterm (struck cells here started c l)
  struck-good started c l good =
      let key = (stroke_at cells here c l).key in
      let byte = cells.mapped (stroke_at cells here c l).byte c in
      let begun : Discipline C = record l { after_lnext = is_lnext key } in
      let t = strikes-good key byte begun (typed l l.stopped (is_lnext key) l.line l.gathered l.stage good.line good) in
      record { state = record { termios = t.state.termios; column = t.state.column; line = t.state.line; read_queue = t.state.read_queue; write_queue = t.state.write_queue; work = t.state.work }; sent = t.sent }

  -- the echo is M_DATA
  grown-good : (new : List C) (ms : List (Message C)) → AllByRecursion (λ m. StandsOn goes_out m) ms → AllByRecursion (λ m. StandsOn goes_out m) (grown cells here new ms)
  unfolding data_message
  grown-good new [] all = tt
  grown-good new (m ∷ []) all = (record { good = data-good (cells_of m ++ new); kind = refl }, tt)
  grown-good new (m ∷ n ∷ ms) all = (all.0, grown-good new (n ∷ ms) all.1)

  echo-stands : (new : List C) → StandsOn goes_out (data_message new)
  unfolding data_message
  echo-stands new = record { good = data-good new; kind = refl }

  echoed-good : (made : ℕ) (echo : List ℕ) (l : Discipline C) → GoodDiscipline l → GoodAtLdterm (echoed cells here made echo l)
  echoed-good made [] l good = quiet-good l good
  echoed-good made (b ∷ bytes) l good =
      let new = cells_made cells (echo_dir cells here) made (b ∷ bytes) in
      either-ldterm (is_full 0 l.write_queue) (echo_lost cells here new l) _ (record { state = good; sent = tt })
      (either-ldterm l.echoing (echo_grows cells here new l) (echo_stands cells here new l)
      (record {
        state = record { termios = good.termios; column = good.column; line = good.line; read_queue = good.read_queue; write_queue = record { messages = grown-good new l.write_queue.messages good.write_queue.messages; order = grown-order cells here new l.write_queue.messages good.write_queue.order; marks = good.write_queue.marks }; work = good.work };
        sent = tt;
      })
      (record {
        state = record { termios = good.termios; column = good.column; line = good.line; read_queue = good.read_queue; write_queue = put-good goes_out (data_message new) l.write_queue (echo-stands new) good.write_queue; work = good.work };
        sent = tt;
      }))

  pub next-good : (made : ℕ) (l : Discipline C) → GoodDiscipline l → GoodAtLdterm (next_stage cells here made l)
  next-good made l good = at l.stage
    where
      next : (xs : List C) → GoodAtLdterm (begins_next cells here xs l)
      next [] = quiet-good l good
      next (c ∷ rest) = begins-good c (with_left rest l) (left-good rest l good)

      at : (stage : Stage C) → GoodAtLdterm (stage_at cells here stage made l)
      at Between = next (cells_left l)
      at (Begun started c) = struck-good started c l good
      at (Answered echo) = echoed-good made echo (record l { stage = Between }) (typed l l.stopped l.after_lnext l.line l.gathered Between good.line good)

  finished-good : (l : Discipline C) → GoodDiscipline l → GoodAtLdterm (finished cells here l)
  finished-good l good = record {
    state = record { termios = good.termios; column = good.column; line = good.line; read_queue = at l.in_work good.work; write_queue = good.write_queue; work = tt };
    sent = gathered-good l.gathered;
  }
    where
      of-data : (kind : MsgKind) → is_data kind ≡ true → waits_there kind ≡ true
      of-data Data is = refl
      of-data _ is = absurd (false≢true is)

      at : (o : Option (Message C)) → IsWork o → GoodQueue waits_there (back_on o l.read_queue)
      at None is = good.read_queue
      at (Some m) is = back-good waits_there m l.read_queue (record { good = is.good; kind = of-data m.kind is.kind }) good.read_queue

  then-good : (made : ℕ) (t : Acted C (Discipline C)) (next : ℕ → Discipline C → Acted C (Discipline C)) → GoodAtLdterm t → GoodAtLdterm (next (made + made_of t.gone) t.state) → GoodAtLdterm (then_on made t next)
  then-good made t next first second = at (is_none_left t.sent)
    where
      at : (none : Bool) → (let u = next (made + made_of t.gone) t.state in GoodAtLdterm (cond {A = Acted C (Discipline C)} none (record { state = u.state; notes = t.notes ++ u.notes; sent = u.sent; gone = t.gone ++ u.gone }) t))
      at true = record { state = second.state; sent = second.sent }
      at false = first

  stages-good : (n made : ℕ) (l : Discipline C) → GoodDiscipline l → GoodAtLdterm (stages cells here n made l)
  stages-good zero made l good = finished-good l good
  stages-good (suc more) made l good =
      let t = next_stage cells here made l in
      let first = next-good made l good in
      then-good made t (stages cells here more) first (stages-good more (made + made_of t.gone) t.state first.state)

  -- a message that passes whole
  passes-good : (way : Way) (m : Message C) (rest : List (Message C)) (l : Discipline C) → GoodMessage m → AllByRecursion (λ m. StandsOn (stands_at way) m) rest → IsOrdered rest → GoodDiscipline l → GoodAtLdterm (passes cells here way m rest l).acted
  passes-good way m rest l fits all order good = record {
    state = with-queue-good way (left_with rest (queue_at way l)) l (record { messages = all; order = order; marks = (queue-good way l good).marks }) good;
    sent = (fits, tt);
  }

  input-good : (stop : Option ℕ) (made : ℕ) (ms : List (Message C)) (l : Discipline C) → AllByRecursion (λ m. StandsOn waits_there m) ms → IsOrdered ms → GoodDiscipline l → GoodAtLdterm (input_begins cells here stop made ms l).acted
  input-good stop made [] l all order good = quiet-good l good
  input-good stop made (m ∷ rest) l all order good = at (is_data m.kind) refl
    where
      at : (treated : Bool) → is_data m.kind ≡ treated → GoodAtLdterm (cond treated (treats cells here (unwrap_or stop (length (cells_of m))) made (record l { read_queue = left_with rest l.read_queue; in_work = Some m })) (passes cells here Up m rest l)).acted
      at true is =
          let begun : Discipline C = record l { read_queue = left_with rest l.read_queue; in_work = Some m } in
          stages-good (3 * unwrap_or stop (length (cells_of m)) - stages_done begun.stage) made begun
          (record { termios = good.termios; column = good.column; line = good.line; read_queue = record { messages = all.1; order = order.1; marks = good.read_queue.marks }; write_queue = good.write_queue; work = record { good = all.0.good; kind = is } })
      at false is = passes-good Up m rest l all.0.good all.1 order.1 good

  -- output: what goes down of a message, what is left of it, and the column
  record GoodOutgoing (t : Outgoing C) : Type 0 where
    messages : AllByRecursion (λ m. GoodMessage m) t.messages
    left : (q : Queue C) → GoodQueue goes_out q → GoodQueue goes_out (back_on t.left q)
    column : t.column ≤ COLUMN_MAX

  unchanged-good : (m : Message C) (l : Discipline C) → GoodMessage m → GoodDiscipline l → GoodOutgoing (unchanged m l)
  unchanged-good m l fits good = record { messages = (fits, tt); left = λ q is. is; column = good.column }

  posted-good : (stop : Option ℕ) (made : ℕ) (xs : List C) (m : Message C) (l : Discipline C) → is_data m.kind ≡ true → StandsOn goes_out m → GoodDiscipline l → GoodOutgoing (posted cells here stop made xs m l)
  posted-good stop made [] m l is fits good = unchanged-good m l fits.good good
  posted-good stop made (c ∷ rest) m l is fits good =
      let most = unwrap_or stop (length (c ∷ rest)) in
      record {
        messages = given (posts cells (output_dir cells here) made l.termios l.column (take most (c ∷ rest))).given;
        left = λ q good. back-good goes_out (left_of (drop most (c ∷ rest)) m) q (stands-left goes_out m (drop most (c ∷ rest)) is fits) good;
        column = posts-low cells (output_dir cells here) made l.termios l.column (take most (c ∷ rest)) good.column;
      }
    where
      given : (xs : List C) → AllByRecursion (λ m. GoodMessage m) (with_given xs m)
      given [] = tt
      given (x ∷ xs) = (data-left m (x ∷ xs) is fits.good, tt)

  outgoing-good : (stop : Option ℕ) (made : ℕ) (m : Message C) (l : Discipline C) → StandsOn goes_out m → GoodDiscipline l → GoodOutgoing (outgoing cells here stop made m l)
  outgoing-good stop made m l fits good = at (is_data m.kind) refl (opost l.termios)
    where
      at : (taken : Bool) → is_data m.kind ≡ taken → (posts : Bool) → GoodOutgoing (cond (taken && posts) (posted cells here stop made (cells_of m) m l) (unchanged m l))
      at true is true = posted-good stop made (cells_of m) m l is fits good
      at true is false = unchanged-good m l fits.good good
      at false is posts = unchanged-good m l fits.good good

  down-good : (ms : List (Message C)) → AllByRecursion (λ m. GoodMessage m) ms → AreGood GoodMessage (map (onward Down here) ms)
  down-good [] all = tt
  down-good (m ∷ ms) all = (all.0, down-good ms all.1)

  output-good : (stop : Option ℕ) (made : ℕ) (ms : List (Message C)) (l : Discipline C) → AllByRecursion (λ m. StandsOn goes_out m) ms → IsOrdered ms → GoodDiscipline l → GoodAtLdterm (output_serves cells here stop made ms l).acted
  output-good stop made [] l all order good = quiet-good l good
  output-good stop made (m ∷ rest) l all order good =
      let t = outgoing cells here stop made m l in
      let out = outgoing-good stop made m l all.0 good in
      record {
        state = record { termios = good.termios; column = out.column; line = good.line; read_queue = good.read_queue; write_queue = out.left (left_with rest l.write_queue) (record { messages = all.1; order = order.1; marks = good.write_queue.marks }); work = good.work };
        sent = down-good t.messages out.messages;
      }

module _ {C : Type 0} (cells : Cells C) where
  serves-at : (way : Way) (here : Spot) (again : Bool) (made : ℕ) (stop : Option ℕ) (l : Discipline C) → GoodDiscipline l → GoodAtLdterm (ldterm_serves cells (record here { way = way }) made again stop l).acted
  serves-at Down here again made stop l good = output-good cells (record here { way = Down }) stop made l.write_queue.messages l good.write_queue.messages good.write_queue.order good
  serves-at Up here false made stop l good = input-good cells (record here { way = Up }) stop made l.read_queue.messages l good.read_queue.messages good.read_queue.order good
  serves-at Up here true made stop l good = stages-good cells (record here { way = Up }) (3 * unwrap_or stop (to_treat l) - stages_done l.stage) made l good

  pub serves-good : (here : Spot) (made : ℕ) (again : Bool) (stop : Option ℕ) (l : Discipline C) → GoodDiscipline l → GoodAtLdterm (ldterm_serves cells here made again stop l).acted
  serves-good here made again stop l good = serves-at here.way here again made stop l good
