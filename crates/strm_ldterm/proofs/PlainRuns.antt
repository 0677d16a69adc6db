-- Plain bytes that are treated at once are treated one after the other.
use Rattle.strm_ldterm.proofs.Prelude.{ℕ, zero, suc, ◌≡◌, ◌≤◌, ◌<◌, ◌+◌, ◌*◌, ◌%◌, ◌^◌, Bool, true, false, cond, List, [], ◌∷◌, ◌++◌, length, drop}
use Rattle.strm_ldterm.proofs.Prelude.{take, refl, sym, ap, subst, ◌∙◌, arith, append-nil, append_assoc, length-append, length-take, take-append-drop}
use Rattle.strm_ldterm.proofs.Prelude.{false≢true, nat_tests, sum_by-cons, not, ◌&&◌, ◌||◌, ◌==◌, Option, None, Some, option_map}
use Rattle.strm_ldterm.specs.Prelude.{Ordinary, Stroke, LINE_MAX, Dir, Down, Fates, Note, Enable, Spot, Termios, plain, Comes, tallied, echo_of}
use Rattle.strm_ldterm.specs.Prelude.{is_control, shown_control, tab, begins_next, cells_left, left_of, next_stage, with_left, carriage_return}
use Rattle.strm_ldterm.specs.Prelude.{lowered, newline, stripped, stroke_of, taken_as, Discipline, Between, Begun, sends, has_room, Message, band_of}
use Rattle.strm_ldterm.specs.Prelude.{cells_of, data_message, is_high_priority, rank_of, size_of, count_of, flow_of, is_full, is_none_left}
use Rattle.strm_ldterm.specs.Prelude.{put_enables, made_more, echo, icanon, imaxbel, added, echo_dir, echo_grows, echo_stands, echoed, grown}
use Rattle.std.specs.List.{AllByRecursion, list_any}
use Rattle.strm_types.specs.declared.names.Dir.TheVariants.{MasterToSlave, SlaveToMaster}
use Rattle.strm_types.specs.Echo.{echo_byte, typed_echo}
use Rattle.strm_types.specs.Queue.{put}
use Rattle.strm_types.specs.Termios.{echoctl, echonl}
use Rattle.strm_ldterm.specs.FreeBefore.{blocks_grown, echo_size, last_size}
use Rattle.strm_ldterm.specs.PlainRuns.{has_keys, is_plain, run_done, run_echoed, turns_ends, typed_run}
use Rattle.strm_ldterm.specs.Stands.{EndsPlain}
use Rattle.strm_ldterm.specs.Turns.{ahead, one_after}
use Rattle.strm_ldterm.proofs.EchoStands.{data-enables, echoed-room, grown-last}
use Rattle.strm_ldterm.proofs.FreeBefore.{all-front, grown-none, grown-two, last-size}
use Rattle.strm_ldterm.proofs.Grows.{cells-data}
use Rattle.strm_ldterm.proofs.Last.{count-last, data-rank, zero-last}
use Rattle.strm_ldterm.proofs.PlainBytes.{no-line-end, taken_as-plain}
use Rattle.strm_ldterm.proofs.Strikes.{added-raw, added-room, told-append}
use Rattle.strm_ldterm.proofs.Struck.{struck-echoed}
use Rattle.strm_ldterm.proofs.Turning.{Acts, ahead-more, ahead-two}

and-left : (x y : Bool) → (x && y) ≡ true → x ≡ true
and-left true y e = refl
and-left false y e = e

and-right : (x y : Bool) → (x && y) ≡ true → y ≡ true
and-right true y e = e
and-right false y e = absurd (false≢true e)

not-true : (x : Bool) → not x ≡ true → x ≡ false
not-true true e = sym e
not-true false e = refl

-- A byte is echoed as itself where no control byte is echoed, or not at all where there is no echo; a newline is no line end then.
shown-plain : (loud control ends always lines : Bool) (b : ℕ) (shown : List ℕ) → (loud && control) ≡ false → (ends ≡ true → control ≡ true) → (lines && ends) ≡ false → (control ≡ false → shown ≡ b ∷ [])
    → cond loud (b ∷ []) [] ≡ cond (ends && true) (cond (loud || (always && lines)) (newline ∷ []) []) (cond loud shown [])
shown-plain true true ends always lines b shown none low free is = absurd (false≢true (sym none))
shown-plain true false true always lines b shown none low free is = absurd (false≢true (low refl))
shown-plain true false false always lines b shown none low free is = sym (is refl)
shown-plain false control true always true b shown none low free is = absurd (false≢true (sym free))
shown-plain false control true true false b shown none low free is = refl
shown-plain false control true false false b shown none low free is = refl
shown-plain false control false always lines b shown none low free is = refl

-- a plain byte is taken as itself
module _ (t : Termios) (b : ℕ) (is : is_plain t b ≡ true) where
  abbrev hit : Bool
  hit = list_any (λ c. c == b) t.control

  abbrev end : Bool
  end = b == newline || b == carriage_return

  abbrev same-byte : Bool
  same-byte = lowered t (stripped t b) == b

  behind : (not (turns_ends t && end) && (not (has_keys t && hit) && same-byte)) ≡ true
  behind = and-right (not (echo t && is_control b)) (not (turns_ends t && end) && (not (has_keys t && hit) && same-byte)) is

  others : (not (has_keys t && hit) && same-byte) ≡ true
  others = and-right (not (turns_ends t && end)) (not (has_keys t && hit) && same-byte) behind

  quiet : (echo t && is_control b) ≡ false
  quiet = not-true (echo t && is_control b) (and-left (not (echo t && is_control b)) (not (turns_ends t && end) && (not (has_keys t && hit) && same-byte)) is)

  ends : (turns_ends t && end) ≡ false
  ends = not-true (turns_ends t && end) (and-left (not (turns_ends t && end)) (not (has_keys t && hit) && same-byte) behind)

  keys : (has_keys t && hit) ≡ false
  keys = not-true (has_keys t && hit) (and-left (not (has_keys t && hit)) same-byte others)

  same : lowered t (stripped t b) ≡ b
  same = (let e = and-right (not (has_keys t && hit)) same-byte others in grind (arith, nat_tests))

  plain-stroke : record { key = Ordinary; byte = b; literal = false } ≡ stroke_of t false b
  plain-stroke = sym (taken_as-plain t b keys ends) ∙ ap (λ c. taken_as false t c) (sym same)

  ends-low : (b == newline) ≡ true → is_control b ≡ true
  ends-low e = (let n : b ≡ newline = grind (arith, nat_tests) in ap is_control n)

  plain-echo : (before after : List ℕ) → (icanon t && not (has_room before)) ≡ false → cond (echo t) (b ∷ []) [] ≡ echo_of t before after (record { key = Ordinary; byte = b; literal = false })
  plain-echo before after room =
      shown-plain (echo t) (is_control b) (b == newline) (echonl t) (icanon t) b (echo_byte t b) quiet ends-low
      (no-line-end t b keys ends) (λ printed. ap (λ c. cond (c && (not (b == tab) && echoctl t)) (94 ∷ shown_control b ∷ []) (b ∷ [])) printed)
      ∙ sym (ap (λ full. cond full (cond (imaxbel t) (7 ∷ []) []) (typed_echo t (record { key = Ordinary; byte = b; literal = false }))) room)

-- What holds before a run that is treated at once.
pub record Runs (lines echoes : Bool) (run rest : List ℕ) (p : Discipline ℕ) : Type 0 where
  pub canonical : icanon p.termios ≡ lines
  pub under : echo p.termios ≡ echoes
  pub between : p.stage ≡ Between
  pub running : p.stopped ≡ false
  pub free : p.after_lnext ≡ false
  pub front : cells_left p ≡ run ++ rest
  pub all : AllByRecursion (λ b. is_plain p.termios b ≡ true) run
  pub line : lines ≡ true → length p.line + length run ≤ LINE_MAX
  pub room : echoes ≡ true → count_of 0 p.write_queue.messages + length run ≤ (flow_of 0 p.write_queue).high
  pub last : p.echoing ≡ true → EndsPlain p.write_queue.messages

module _ (here : Spot) where
  -- what a run does, with nothing hidden behind a mode: in canonical mode or not, and under ECHO or not
  abbrev typed_as : Bool → List ℕ → Discipline ℕ → Discipline ℕ
  typed_as lines run p = record p { line = cond lines (p.line ++ run) p.line; gathered = cond lines p.gathered (p.gathered ++ run) }

  abbrev noted_as : Bool → Bool → List ℕ → Discipline ℕ → List Note
  noted_as echoes grows run p = cond echoes (cond grows [] (cond (put_enables (data_message run) p.write_queue) (Enable Down ∷ []) [])) []

  abbrev stands_as : Bool → Bool → List ℕ → List (Message ℕ) → List (Message ℕ)
  stands_as echoes grows run ms = cond echoes (cond grows (grown plain here run ms) (put (data_message run) ms)) ms

  abbrev echoed_as : Bool → List ℕ → Discipline ℕ → Acts
  echoed_as echoes run p = record {
    state = record p { write_queue = record p.write_queue { messages = stands_as echoes p.echoing run p.write_queue.messages }; echoing = cond echoes true p.echoing };
    notes = noted_as echoes p.echoing run p;
    sent = [];
    gone = cond echoes (Comes (echo_dir plain here) run ∷ []) [];
  }

  abbrev pub done_as : Bool → Bool → List ℕ → Discipline ℕ → Acts
  done_as lines echoes run p = echoed_as echoes run (typed_as lines run (with_left (drop (length run) (cells_left p)) p))

  typed-as : (lines : Bool) (run : List ℕ) (p : Discipline ℕ) → icanon p.termios ≡ lines → typed_run run p ≡ typed_as lines run p
  typed-as lines run p is = ap (λ v. cond {A = Discipline ℕ} v (record p { line = p.line ++ run }) (record p { gathered = p.gathered ++ run })) is ∙ at lines
    where
      at : (v : Bool) → cond v (record p { line = p.line ++ run }) (record p { gathered = p.gathered ++ run }) ≡ typed_as v run p
      at true = refl
      at false = refl

  echoed-as : (echoes : Bool) (run : List ℕ) (p : Discipline ℕ) → echo p.termios ≡ echoes → run_echoed here run p ≡ echoed_as echoes run p
  echoed-as echoes run p is = ap (λ v. cond {A = Acts} v (cond p.echoing (echo_grows plain here run p) (echo_stands plain here run p)) (sends [] p)) is ∙ at echoes
    where
      grows : (v : Bool) → cond {A = Acts} v (echo_grows plain here run (record p { echoing = v })) (echo_stands plain here run (record p { echoing = v })) ≡ echoed_as true run (record p { echoing = v })
      grows true = refl
      grows false = refl

      at : (v : Bool) → cond {A = Acts} v (cond p.echoing (echo_grows plain here run p) (echo_stands plain here run p)) (sends [] p) ≡ echoed_as v run p
      at true = grows p.echoing
      at false = refl

  pub done-as : (lines echoes : Bool) (run : List ℕ) (p : Discipline ℕ) → icanon p.termios ≡ lines → echo p.termios ≡ echoes → run_done here run p ≡ done_as lines echoes run p
  done-as lines echoes run p canonical under =
      let q = with_left (drop (length run) (cells_left p)) p in
      ap (run_echoed here run) (typed-as lines run q canonical) ∙ echoed-as echoes run (typed_as lines run q) under

  -- one byte of it
  module _ (lines echoes : Bool) (c : ℕ) (more rest : List ℕ) (p : Discipline ℕ) (r : Runs lines echoes (c ∷ more) rest p) where
    -- with what is known of it written out
    abbrev ready : Discipline ℕ
    ready = record p { stopped = false; after_lnext = false; stage = Between }

    ready-is : p ≡ ready
    ready-is =
        ap (λ v. record p { stopped = v }) r.running
        ∙ ap (λ v. record p { stopped = false; after_lnext = v }) r.free
        ∙ ap (λ st. record p { stopped = false; after_lnext = false; stage = st }) r.between

    abbrev begun : Discipline ℕ
    begun = record (with_left (more ++ rest) ready) { stage = Begun false c }

    begins : next_stage plain here 0 ready ≡ sends [] begun
    begins = ap (λ cells. begins_next plain here cells ready) r.front

    abbrev typed : Discipline ℕ
    typed = typed_as lines (c ∷ []) (with_left (more ++ rest) ready)

    has-room : (v : Bool) → lines ≡ v → (v && not (has_room p.line)) ≡ false
    has-room false is = refl
    has-room true is = (let few = r.line is in let room : has_room p.line ≡ true = grind (arith, nat_tests) in ap not room)

    added-as : (v : Bool) → lines ≡ v → added plain here c begun ≡ sends [] (typed_as v (c ∷ []) begun)
    added-as false is = added-raw here c begun (r.canonical ∙ is)
    added-as true is =
        let few = r.line is in
        let room : has_room p.line ≡ true = grind (arith, nat_tests) in
        added-room here c begun (r.canonical ∙ is) room
        ∙ ap (λ v. sends [] (record begun { line = cond v (p.line ++ c ∷ []) p.line })) room

    abbrev echo_bytes : List ℕ
    echo_bytes = cond echoes (c ∷ []) []

    not-full : echoes ≡ true → is_full 0 p.write_queue ≡ false
    not-full is = (let few = r.room is in grind (arith, nat_tests))

    echo-as : (v : Bool) → echoes ≡ v → echoed plain here 0 (cond v (c ∷ []) []) typed ≡ cond {A = Acts} v (cond p.echoing (echo_grows plain here (c ∷ []) typed) (echo_stands plain here (c ∷ []) typed)) (sends [] typed)
    echo-as false is = refl
    echo-as true is = echoed-room here typed (c ∷ []) (λ none. omega (arith, none)) (not-full is)

    struck-as : ahead here 2 begun ≡ echoed plain here 0 echo_bytes typed
    struck-as =
        let stroke : Stroke = record { key = Ordinary; byte = c; literal = false } in
        let t = added plain here c begun in
        let is = added-as lines refl in
        let shown : echo_bytes ≡ echo_of p.termios p.line t.state.line stroke =
        ap (λ v. cond v (c ∷ []) []) (sym r.under) ∙ plain-echo p.termios c r.all.0 p.line t.state.line (ap (λ v. v && not (has_room p.line)) r.canonical ∙ has-room lines refl) in
        ahead-two here begun
        ∙ sym (struck-echoed here false c begun stroke [] echo_bytes (plain-stroke p.termios c r.all.0) refl (ap (λ (u : Acts). is_none_left u.sent) is) shown)
        ∙ ap (λ (u : Acts). one_after (record u { state = record u.state { stage = Between }; notes = [] }) (echoed plain here 0 echo_bytes)) is

    pub one-byte : ahead here 3 p ≡ done_as lines echoes (c ∷ []) p
    one-byte =
        ap (ahead here 3) ready-is
        ∙ ap (λ u. one_after u (ahead here 2)) begins
        ∙ struck-as
        ∙ echo-as echoes refl
        ∙ sym (ap (λ v. cond {A = Acts} v (cond p.echoing (echo_grows plain here (c ∷ []) typed) (echo_stands plain here (c ∷ []) typed)) (sends [] typed)) r.under)
        ∙ echoed-as echoes (c ∷ []) typed r.under
        ∙ ap (λ cells. echoed_as echoes (c ∷ []) (typed_as lines (c ∷ []) (with_left (drop 1 cells) ready))) (sym r.front)
        ∙ ap (done_as lines echoes (c ∷ [])) (sym ready-is)

  -- What is left of the message in work once a first byte, and then others, are taken off it.
  left-cells : (work : Option (Message ℕ)) (p : Discipline ℕ) (c : ℕ) (xs ys : List ℕ) → cells_left (record p { in_work = work }) ≡ c ∷ xs → cells_left (record p { in_work = option_map (left_of ys) work }) ≡ ys
  unfolding cells_of
  left-cells None p c xs ys is = absurd (let e = ap length is in omega arith)
  left-cells (Some m) p c xs ys is = refl

  left-twice : (work : Option (Message ℕ)) (xs ys : List ℕ) → option_map (left_of ys) (option_map (left_of xs) work) ≡ option_map (left_of ys) work
  left-twice None xs ys = refl
  left-twice (Some m) xs ys = refl

  -- a message of data of these bytes
  data-size : (bytes : List ℕ) → count_of 0 (data_message bytes ∷ []) ≡ length bytes
  unfolding band_of size_of data_message is_high_priority cells_of
  data-size bytes = omega (arith, sum_by-cons (λ (m : Message ℕ). cond {A = ℕ} (band_of m == 0) (size_of m) 0) (data_message bytes) [])

  put-data : (bytes : List ℕ) (ms : List (Message ℕ)) → put (data_message bytes) ms ≡ ms ++ data_message bytes ∷ []
  put-data bytes ms = zero-last rank_of (data_message bytes) ms (data-rank bytes)

  grown-twice : (xs ys : List ℕ) (ms : List (Message ℕ)) → grown plain here ys (grown plain here xs ms) ≡ grown plain here (xs ++ ys) ms
  grown-twice xs ys [] = refl
  grown-twice xs ys (m ∷ []) = ap (λ cells. data_message (cells ++ ys) ∷ []) (cells-data (cells_of m ++ xs)) ∙ ap (λ cells. data_message cells ∷ []) (append_assoc (cells_of m) xs ys)
  grown-twice xs ys (m ∷ n ∷ ms) = behind (grown plain here xs (n ∷ ms)) (some (n ∷ ms) (omega arith)) ∙ ap (λ l. m ∷ l) (grown-twice xs ys (n ∷ ms))
    where
      some : (l : List (Message ℕ)) → 0 < length l → 0 < length (grown plain here xs l)
      some [] e = absurd (omega arith)
      some (a ∷ []) e = omega arith
      some (a ∷ b ∷ l) e = omega arith

      behind : (l : List (Message ℕ)) → 0 < length l → grown plain here ys (m ∷ l) ≡ m ∷ grown plain here ys l
      behind [] e = absurd (omega arith)
      behind (a ∷ l) e = refl

  grown-put : (xs ys : List ℕ) (ms : List (Message ℕ)) → grown plain here ys (put (data_message xs) ms) ≡ put (data_message (xs ++ ys)) ms
  grown-put xs ys ms =
      ap (grown plain here ys) (put-data xs ms)
      ∙ grown-last here ys ms (data_message xs)
      ∙ ap (λ cells. ms ++ data_message (cells ++ ys) ∷ []) (cells-data xs)
      ∙ sym (put-data (xs ++ ys) ms)

  -- counts of what was made, one after the other
  wraps : (a b n : ℕ) → ((a + b) % 2 ^ 64 + n) % 2 ^ 64 ≡ (a + (b + n)) % 2 ^ 64
  wraps a b n = omega arith

  made-twice : (d : Dir) (a b : ℕ) (f : Fates) → made_more d b (made_more d a f) ≡ made_more d (a + b) f
  made-twice MasterToSlave a b f = ap (λ n. record f { made_from_master = n }) (wraps f.made_from_master a b)
  made-twice SlaveToMaster a b f = ap (λ n. record f { made_from_slave = n }) (wraps f.made_from_slave a b)

  -- the same but for how often it was told what was made
  pub record SameDone (t u : Acts) : Type 0 where
    pub state : t.state ≡ u.state
    pub notes : t.notes ≡ u.notes
    pub sent : t.sent ≡ u.sent
    pub told : (f : Fates) → tallied t.gone f ≡ tallied u.gone f

  -- a byte and then more of them
  module _ (lines echoes : Bool) (c : ℕ) (more rest : List ℕ) (p : Discipline ℕ) (r : Runs lines echoes (c ∷ more) rest p) where
    abbrev first : Acts
    first = done_as lines echoes (c ∷ []) p

    lines-join : (v : Bool) (old : List ℕ) → cond v (cond v (old ++ c ∷ []) old ++ more) (cond v (old ++ c ∷ []) old) ≡ cond v (old ++ c ∷ more) old
    lines-join true old = append_assoc old (c ∷ []) more
    lines-join false old = refl

    gathers-join : (v : Bool) (old : List ℕ) → cond v (cond v old (old ++ c ∷ [])) (cond v old (old ++ c ∷ []) ++ more) ≡ cond v old (old ++ c ∷ more)
    gathers-join true old = refl
    gathers-join false old = append_assoc old (c ∷ []) more

    stands-join : (v grows : Bool) (ms : List (Message ℕ)) → stands_as v (cond v true grows) more (stands_as v grows (c ∷ []) ms) ≡ stands_as v grows (c ∷ more) ms
    stands-join true true ms = grown-twice (c ∷ []) more ms
    stands-join true false ms = grown-put (c ∷ []) more ms
    stands-join false grows ms = refl

    grows-join : (v grows : Bool) → cond v true (cond v true grows) ≡ cond v true grows
    grows-join true grows = refl
    grows-join false grows = refl

    left-join : option_map (left_of (drop (length more) (cells_left first.state))) first.state.in_work ≡ option_map (left_of (drop (length (c ∷ more)) (cells_left p))) p.in_work
    left-join =
        ap (λ cells. option_map (left_of (drop (length more) cells)) first.state.in_work) (left-cells p.in_work p c (more ++ rest) (drop 1 (cells_left p)) r.front)
        ∙ left-twice p.in_work (drop 1 (cells_left p)) (drop (length more) (drop 1 (cells_left p)))
        ∙ ap (λ cells. option_map (left_of cells) p.in_work) (ap (λ cells. drop (length more) (drop 1 cells)) r.front ∙ sym (ap (drop (length (c ∷ more))) r.front))

    notes-join : (v grows : Bool) → noted_as v grows (c ∷ []) p ++ noted_as v (cond v true grows) more first.state ≡ noted_as v grows (c ∷ more) p
    notes-join true true = refl
    notes-join true false =
        append-nil (noted_as true false (c ∷ []) p)
        ∙ ap (λ v. cond {A = List Note} v (Enable Down ∷ []) []) (data-enables (c ∷ []) p.write_queue ∙ sym (data-enables (c ∷ more) p.write_queue))
    notes-join false grows = refl

    told-join : (v : Bool) (f : Fates) → tallied (cond v (Comes (echo_dir plain here) (c ∷ []) ∷ []) [] ++ cond v (Comes (echo_dir plain here) more ∷ []) []) f ≡ tallied (cond v (Comes (echo_dir plain here) (c ∷ more) ∷ []) []) f
    told-join true f = made-twice (echo_dir plain here) 1 (length more) f ∙ ap (λ n. made_more (echo_dir plain here) n f) (omega arith)
    told-join false f = refl

    all-join : (work work' : Option (Message ℕ)) (l l' g g' : List ℕ) (ms ms' : List (Message ℕ)) (v v' : Bool) → work ≡ work' → l ≡ l' → g ≡ g' → ms ≡ ms' → v ≡ v'
        → record p { in_work = work; line = l; gathered = g; write_queue = record p.write_queue { messages = ms }; echoing = v } ≡ record p { in_work = work'; line = l'; gathered = g'; write_queue = record p.write_queue { messages = ms' }; echoing = v' }
    all-join work work' l l' g g' ms ms' v v' a b d e f = rw (a, b, d, e, f) refl

    state-join : (done_as lines echoes more first.state).state ≡ (done_as lines echoes (c ∷ more) p).state
    state-join = all-join _ _ _ _ _ _ _ _ _ _ left-join (lines-join lines p.line) (gathers-join lines p.gathered) (stands-join echoes p.echoing p.write_queue.messages) (grows-join echoes p.echoing)

    -- what holds behind the first byte
    counts-next : (v grows : Bool) → echoes ≡ v → p.echoing ≡ grows → v ≡ true → count_of 0 (stands_as v grows (c ∷ []) p.write_queue.messages) ≡ count_of 0 p.write_queue.messages + 1
    counts-next false grows is g v = absurd (false≢true v)
    counts-next true true is g v =
        let l = r.last g in
        let ms = p.write_queue.messages in
        let then : grown plain here (c ∷ []) ms ≡ l.before ++ data_message (l.cells ++ c ∷ []) ∷ [] =
        ap (grown plain here (c ∷ [])) l.is ∙ grown-last here (c ∷ []) l.before (data_message l.cells) ∙ ap (λ cells. l.before ++ data_message (cells ++ c ∷ []) ∷ []) (cells-data l.cells) in
        let a = ap (count_of 0) then ∙ count-last 0 l.before (data_message (l.cells ++ c ∷ []) ∷ []) in
        let b = ap (count_of 0) l.is ∙ count-last 0 l.before (data_message l.cells ∷ []) in
        let d = data-size (l.cells ++ c ∷ []) in
        let e = data-size l.cells in
        let f = length-append l.cells (c ∷ []) in
        omega arith
    counts-next true false is g v =
        let ms = p.write_queue.messages in
        let a = ap (count_of 0) (put-data (c ∷ []) ms) ∙ count-last 0 ms (data_message (c ∷ []) ∷ []) in
        let d = data-size (c ∷ []) in
        omega arith

    last-next : (v grows : Bool) → p.echoing ≡ grows → cond v true grows ≡ true → EndsPlain (stands_as v grows (c ∷ []) p.write_queue.messages)
    last-next false grows g is = r.last (g ∙ is)
    last-next true true g is =
        let l = r.last g in
        record {
          before = l.before;
          cells = l.cells ++ c ∷ [];
          is = ap (grown plain here (c ∷ [])) l.is ∙ grown-last here (c ∷ []) l.before (data_message l.cells) ∙ ap (λ cells. l.before ++ data_message (cells ++ c ∷ []) ∷ []) (cells-data l.cells);
        }
    last-next true false g is = record { before = p.write_queue.messages; cells = c ∷ []; is = put-data (c ∷ []) p.write_queue.messages }

    line-next : (v : Bool) → lines ≡ v → v ≡ true → length (cond v (p.line ++ c ∷ []) p.line) + length more ≤ LINE_MAX
    line-next false is v = absurd (false≢true v)
    line-next true is v = (let few = r.line is in let l = length-append p.line (c ∷ []) in omega arith)

    next-runs : Runs lines echoes more rest first.state
    next-runs = record {
      canonical = r.canonical;
      under = r.under;
      between = r.between;
      running = r.running;
      free = r.free;
      front = left-cells p.in_work p c (more ++ rest) (drop 1 (cells_left p)) r.front ∙ ap (drop 1) r.front;
      all = r.all.1;
      line = λ v. line-next lines refl v;
      room = λ v. (let n = counts-next echoes p.echoing refl refl v in let few = r.room v in omega arith);
      last = λ v. last-next echoes p.echoing refl v;
    }

    pub runs-on : SameDone (ahead here (3 * length more) first.state) (done_as lines echoes more first.state) → SameDone (ahead here (3 * length (c ∷ more)) p) (done_as lines echoes (c ∷ more) p)
    runs-on s =
        let u = ahead here (3 * length more) first.state in
        let joined : Acts = record { state = u.state; notes = first.notes ++ u.notes; sent = u.sent; gone = first.gone ++ u.gone } in
        let is : ahead here (3 * length (c ∷ more)) p ≡ joined =
        ap (λ n. ahead here n p) (let e : 3 * length (c ∷ more) ≡ 3 + 3 * length more = omega arith in e)
        ∙ ahead-more here 3 (3 * length more) p
        ∙ ap (λ t. one_after t (ahead here (3 * length more))) (one-byte lines echoes c more rest p r) in
        record {
          state = ap (λ (t : Acts). t.state) is ∙ s.state ∙ state-join;
          notes = ap (λ (t : Acts). t.notes) is ∙ ap (λ ns. first.notes ++ ns) s.notes ∙ notes-join echoes p.echoing;
          sent = ap (λ (t : Acts). t.sent) is ∙ s.sent;
          told = λ f. ap (λ (t : Acts). tallied t.gone f) is ∙ told-append first.gone u.gone f ∙ s.told (tallied first.gone f) ∙ sym (told-append first.gone (done_as lines echoes more first.state).gone f) ∙ told-join echoes f;
        }

  same-done : (t u : Acts) → t ≡ u → SameDone t u
  same-done t u is = record { state = ap (λ (a : Acts). a.state) is; notes = ap (λ (a : Acts). a.notes) is; sent = ap (λ (a : Acts). a.sent) is; told = λ f. ap (λ (a : Acts). tallied a.gone f) is }

  pub runs-done : (lines echoes : Bool) (run rest : List ℕ) (p : Discipline ℕ) → 0 < length run → Runs lines echoes run rest p → SameDone (ahead here (3 * length run) p) (done_as lines echoes run p)
  runs-done lines echoes [] rest p some r = absurd (omega arith)
  runs-done lines echoes (c ∷ []) rest p some r = same-done (ahead here 3 p) (done_as lines echoes (c ∷ []) p) (one-byte lines echoes c [] rest p r)
  runs-done lines echoes (c ∷ d ∷ more) rest p some r =
      runs-on lines echoes c (d ∷ more) rest p r (runs-done lines echoes (d ∷ more) rest (done_as lines echoes (c ∷ []) p).state (omega arith) (next-runs lines echoes c (d ∷ more) rest p r))

  -- So many bytes at its front are a run too.
  pub front-runs : (lines echoes : Bool) (run rest : List ℕ) (p : Discipline ℕ) (n : ℕ) → Runs lines echoes run rest p → n ≤ length run → Runs lines echoes (take n run) (drop n run ++ rest) p
  front-runs lines echoes run rest p n r few = record {
    canonical = r.canonical;
    under = r.under;
    between = r.between;
    running = r.running;
    free = r.free;
    front = r.front ∙ ap (λ xs. xs ++ rest) (sym (take-append-drop n run)) ∙ append_assoc (take n run) (drop n run) rest;
    all = all-front (λ b. is_plain p.termios b ≡ true) n run r.all;
    line = λ v. (let l = r.line v in omega (arith, l, few, length-take n run));
    room = λ v. (let l = r.room v in omega (arith, l, few, length-take n run));
    last = r.last;
  }

  -- what it adds to what is gathered, and to the echo
  gathers-more : (lines : Bool) (old run : List ℕ) → length (cond lines old (old ++ run)) ≤ length old + length run
  gathers-more true old run = omega arith
  gathers-more false old run = let l = length-append old run in omega arith

  echoes-more : (v grows : Bool) (run : List ℕ) (ms : List (Message ℕ)) → (grows ≡ true → EndsPlain ms) → cond (cond v true grows) (last_size (stands_as v grows run ms)) 0 ≤ cond grows (last_size ms) 0 + length run
  echoes-more false grows run ms last = omega arith
  echoes-more true true run ms last =
      let l = last refl in
      let then : grown plain here run ms ≡ l.before ++ data_message (l.cells ++ run) ∷ [] =
      ap (grown plain here run) l.is ∙ grown-last here run l.before (data_message l.cells) ∙ ap (λ cells. l.before ++ data_message (cells ++ run) ∷ []) (cells-data l.cells) in
      let a = ap last_size then ∙ last-size l.before (data_message (l.cells ++ run)) ∙ ap length (cells-data (l.cells ++ run)) ∙ length-append l.cells run in
      let b = ap last_size l.is ∙ last-size l.before (data_message l.cells) ∙ ap length (cells-data l.cells) in
      omega (arith, a, b)
  echoes-more true false run ms last =
      let a = ap last_size (put-data run ms) ∙ last-size ms (data_message run) ∙ ap length (cells-data run) in
      omega (arith, a)

  -- So many bytes of a run take two blocks at most.
  pub run-blocks : (lines echoes : Bool) (run rest : List ℕ) (p : Discipline ℕ) (n : ℕ) → Runs lines echoes run rest p → length run ≤ 256 → n ≤ length run → blocks_grown p (ahead here (3 * n) p).state ≤ 2
  run-blocks lines echoes run rest p zero r few within = omega (arith, grown-none p)
  run-blocks lines echoes run rest p (suc n) r few within =
      let front = take (suc n) run in
      let long : length front ≡ suc n = omega (arith, length-take (suc n) run, within) in
      let done = runs-done lines echoes front (drop (suc n) run ++ rest) p (omega arith) (front-runs lines echoes run rest p (suc n) r within) in
      let q = (done_as lines echoes front p).state in
      let gathered : length q.gathered ≤ length p.gathered + 256 = omega (arith, gathers-more lines p.gathered front, long, few, within) in
      let echo : echo_size q ≤ echo_size p + 256 = omega (arith, echoes-more echoes p.echoing front p.write_queue.messages r.last, long, few, within) in
      subst (λ k. blocks_grown p (ahead here (3 * k) p).state ≤ 2) long (subst (λ (w : Discipline ℕ). blocks_grown p w ≤ 2) (sym done.state) (grown-two p q gathered echo))
