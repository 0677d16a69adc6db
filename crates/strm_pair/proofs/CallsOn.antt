-- The calls of a turn of a module's queue, one after the other, up to the one that asks for no other.
use Rattle.strm_pair.proofs.Prelude.{ℕ, zero, suc, ◌≡◌, ◌≤◌, ◌<◌, ◌+◌, ◌-◌, Bool, true, false, cond, List, [], ◌∷◌, ◌++◌, length, map, refl, sym, ap}
use Rattle.strm_pair.proofs.Prelude.{subst, ◌∙◌, arith, ◌&&◌, ◌==◌, not, nat_lt, slice_index_or, None, Some, Option, is_some, false≢true, nat_tests}
use Rattle.strm_pair.proofs.Prelude.{length-take, FullFirst, UnderWay, index-map, module-ends, module-goes, under_way, range-spare, kept-ahead}
use Rattle.strm_pair.proofs.Prelude.{tallied-append}
use Rattle.strm_pair.specs.Prelude.{Moved, STOP_BLOCKS, Driver, QueueName, Side, Way, Up, Down, Fates, Spot, plain, Fate, tallied, input_begins}
use Rattle.strm_pair.specs.Prelude.{is_data, passes, stages, stages_done, treats, Message, cells_of, size_of, Outgoing, output_serves, posted}
use Rattle.strm_pair.specs.Prelude.{unchanged, first_size, left_with, Serving, opost, AreIdle, disciplined, Discipline, module_turn_ended}
use Rattle.strm_pair.specs.Prelude.{module_turned, moved_on, IsKeptAhead, in_range, spare, IsAtRest, KindRests, Module, OfLdterm, Standing}
use Rattle.strm_pair.specs.Prelude.{module_serves, State, stream, Begins, Ends, bytes_left, stood, asks_on, discipline_of, led, module_at, treated}
use Rattle.strm_pair.specs.Prelude.{none_there, TurnOutcome, StoreValue, least_free, stop_at, stands_of, Behaviour, OfOwn}
use Rattle.std.proofs.Common.{◌*◌}
use Rattle.std.specs.Bool.{OnTrue}
use Rattle.std.specs.List.{AllByRecursion}
use Rattle.strm_types.specs.Input.{to_treat}
use Rattle.strm_types.specs.Ldterms.{Stage, Between, Begun, Answered, new_ldterm}
use Rattle.strm_types.specs.Standings.{QueuePair}
use Rattle.strm_laws.specs.Behaviours.{own_by}
use Rattle.strm_laws.specs.TurnCalls.{Stopped}
use Rattle.strm_laws.proofs.ModuleTurnCalls.{Reached, led-at, led-length, moves-within, reached-last, reached-next}
use Rattle.strm_pair.specs.AnyModules.{HasAsNamed, turn_cost}
use Rattle.strm_pair.specs.declared.service_calls.Call.{Call}
use Rattle.strm_pair.specs.ModuleServed.{LeavesFew, MayBook, StopsFew, TellsAs, TreatsAs, call_cost, call_units, stop_in}
use Rattle.strm_pair.specs.ModuleTurned.{MayMove}
use Rattle.strm_pair.proofs.OwnCalls.{own-whole}
use Rattle.strm_pair.proofs.StopsFew.{led-same, led-stands}

-- What calls that go on have led to so far: so many bytes were treated, by so many calls, each of which came a stage further.
pub record GoOn (K : Behaviour) (here : Spot) (bytes : ℕ) (s0 st : State ℕ) (f f' : Fates) : Type 0 where
  pub gone : List (Fate ℕ)
  pub reached : Reached here s0 K true bytes gone st
  pub tells : f' ≡ tallied gone f
  pub count : ℕ
  pub few : count ≤ 3 * bytes + stages_done (discipline_of (module_at here st)).stage
  pub some : 0 < count
  pub left : spare s0 ≤ spare st + (3 * bytes + 33 * count)
  pub all : bytes_left here.way false (discipline_of (module_at here s0)) ≤ bytes + bytes_left here.way true (discipline_of (module_at here st))
  pub opened : (side : Side) → (stream side st).opened ≡ (stream side s0).opened
  pub stands : stands_of st ≡ stands_of s0

-- They go on, or the turn is at its end.
abbrev pub Along : (K : Behaviour) → Bool → Spot → ℕ → State ℕ → State ℕ → Fates → Fates → Type 0
Along K true here bytes s0 st f f' = GoOn K here bytes s0 st f f'
Along K false here bytes s0 st f f' = TreatsAs K here bytes s0 st f f'

-- how many stages of bytes are still to come at most
abbrev pub still_to_come : Bool → Spot → State ℕ → ℕ
still_to_come true here s = suc (3 * bytes_left here.way true (discipline_of (module_at here s)) - stages_done (discipline_of (module_at here s)).stage)
still_to_come false here s = 0

done-few : (stage : Stage ℕ) → stages_done stage ≤ 2
done-few Between = omega arith
done-few (Begun started c) = omega arith
done-few (Answered echo) = omega arith

begun-few : (stage : Stage ℕ) (l : Discipline ℕ) → stages_done stage ≤ 3 * to_treat (record l { stage = stage })
begun-few Between l = omega arith
begun-few (Begun started c) l = omega arith
begun-few (Answered echo) l = omega arith

-- of M_DATA that stands first on a module's queues each byte is a cell, and it has queues where those of its name have
abbrev pub Full : Standing ℕ → Type 0
Full p = FullFirst (discipline_of p).read_queue.messages × FullFirst (discipline_of p).write_queue.messages × HasAsNamed p

-- What holds of the calls so far: what they treated and what is left are the message, as it was, no side was opened or closed, and the same
-- modules stand there.
pub record Since (here : Spot) (again : Bool) (bytes : ℕ) (s0 s : State ℕ) : Type 0 where
  pub all : bytes_left here.way false (discipline_of (module_at here s0)) ≤ bytes + bytes_left here.way again (discipline_of (module_at here s))
  pub full : again ≡ false → Full (module_at here s)
  pub opened : (side : Side) → (stream side s).opened ≡ (stream side s0).opened
  pub stands : stands_of s ≡ stands_of s0

module _ (here : Spot) where
  none-in : (call : Call) → call.stopped ≡ false → stop_in call ≡ None
  none-in call goes = ap (λ b. stop_at b call.bytes) goes

  not-stopped : (stopped : Bool) (more : Bool) → OnTrue stopped (more ≡ false) → more ≡ true → stopped ≡ false
  not-stopped true more over works = absurd (false≢true (sym over ∙ works))
  not-stopped false more over works = refl

  -- A call that goes on comes a stage further at least, and leaves less.
  record Further (again : Bool) (call : Call) (s st : State ℕ) : Type 0 where
    pub stop : stop_in call ≡ None
    pub treat : bytes_left here.way true (discipline_of (module_at here st)) + call.bytes ≤ bytes_left here.way again (discipline_of (module_at here s))
    pub done : suc (stages_done (discipline_of (module_at here s)).stage) ≤ stages_done (discipline_of (module_at here st)).stage + 3 * call.bytes
    pub begun : stages_done (discipline_of (module_at here st)).stage ≤ 3 * bytes_left here.way true (discipline_of (module_at here st))
    pub all : (again ≡ false → Full (module_at here s)) → bytes_left here.way again (discipline_of (module_at here s)) ≤ bytes_left here.way true (discipline_of (module_at here st)) + call.bytes

  further : (K : Behaviour) (again : Bool) (call : Call) (s st : State ℕ) → TellsAs K here again call s → st ≡ (led K here again (stop_in call) s).state → here.at - 1 < length (stream here.side s).modules
      → Begins here.way again (discipline_of (module_at here s)) → call.again ≡ true → Further again call s st
  further K again call s st tells state low begins works =
      let none = none-in call (not-stopped call.stopped call.again tells.over works) in
      let i = here.at - 1 in
      let ps = (stream here.side s).modules in
      let l = module_at here s in
      let t = module_serves K plain here 0 again None l in
      let asks = ap (λ o. asks_on here K again o ps) (sym none) ∙ sym tells.asks ∙ works in
      let more : t.again ≡ true = sym (index-map none_there (λ p. (module_serves K plain here 0 again None p).again) false i ps low) ∙ asks in
      let bytes : call.bytes ≡ t.bytes = tells.bytes ∙ ap (λ o. treated here K again o ps) none ∙ index-map none_there (λ p. (module_serves K plain here 0 again None p).bytes) 0 i ps low in
      let g = module-goes here again K l begins more in
      let at = ap (λ v. under_way (module_at here v)) (state ∙ ap (λ o. (led K here again o s).state) none) ∙ led-at here K again None s low in
      let stage = ap (λ (x : UnderWay). stages_done x.stage) at in
      let left = ap (λ w. bytes_left w true (discipline_of (module_at here st))) g.up ∙ ap (λ (x : UnderWay). bytes_left Up true (record (discipline_of (module_at here st)) { stage = x.stage; in_work = x.in_work })) at in
      record { stop = none; treat = omega (arith, g.treat, bytes, left); all = λ full. omega (arith, g.all (λ first. (full first).0), bytes, left); done = omega (arith, g.done, bytes, stage); begun = subst (λ w. stages_done (discipline_of (module_at here st)).stage ≤ 3 * bytes_left w true (discipline_of (module_at here st))) (sym g.up) (begun-few (discipline_of (module_at here st)).stage (discipline_of (module_at here st))) }

  -- where a call stopped
  stopped-at : (K : Behaviour) (stopped : Bool) (again : Bool) (bytes : ℕ) (s : State ℕ) → bytes ≡ treated here K again (stop_at stopped bytes) (stream here.side s).modules → OnTrue stopped (Ends here.way again (discipline_of (module_at here s)) bytes)
      → Stopped here K again s (stop_at stopped bytes)
  stopped-at K true again bytes s is ends = (is, ends)
  stopped-at K false again bytes s is ends = tt

  module _ (K : Behaviour) (s0 : State ℕ) (again : Bool) (bytes : ℕ) (gone : List (Fate ℕ)) (s st : State ℕ) (r : Reached here s0 K again bytes gone s) (call : Call) (tells : TellsAs K here again call s)
      (state : st ≡ (led K here again (stop_in call) s).state) (f f' f'' : Fates) (was : f' ≡ tallied gone f) (told : f'' ≡ tallied (led K here again (stop_in call) s).gone f') (falls : spare s ≤ spare st + call_units call.bytes) where
    any_name : QueueName
    any_name = record { side = here.side; place = Driver; way = here.way }

    told-on : f'' ≡ tallied (gone ++ (led K here again (stop_in call) s).gone) f
    told-on = told ∙ ap (tallied (led K here again (stop_in call) s).gone) was ∙ sym (tallied-append gone (led K here again (stop_in call) s).gone f)

    -- the turn goes on
    goes-on : (count : ℕ) → count ≤ 3 * bytes + stages_done (discipline_of (module_at here s)).stage → spare s0 ≤ spare s + (3 * bytes + 33 * count) → Since here again bytes s0 s
        → call.again ≡ true → GoOn K here (bytes + call.bytes) s0 st f f''
    goes-on count few held since works =
        let on = further K again call s st tells state r.inside r.begins works in
        let ps = (stream here.side s).modules in
        let asks = ap (λ o. asks_on here K again o ps) (sym on.stop) ∙ sym tells.asks ∙ works in
        let next = reached-next here s0 K again bytes gone s r asks in
        let same = tells.bytes ∙ ap (λ o. treated here K again o ps) on.stop in
        let gone_is : gone ++ (led K here again None s).gone ≡ gone ++ (led K here again (stop_in call) s).gone = ap (λ o. gone ++ (led K here again o s).gone) (sym on.stop) in
        let state_is : (led K here again None s).state ≡ st = ap (λ o. (led K here again o s).state) (sym on.stop) ∙ sym state in
        let at = subst (λ n. Reached here s0 K true (bytes + n) (gone ++ (led K here again None s).gone) (led K here again None s).state) (sym same)
        next in
        let there = subst (λ v. Reached here s0 K true (bytes + call.bytes) (gone ++ (led K here again None s).gone) v) state_is at in
        record {
          gone = gone ++ (led K here again (stop_in call) s).gone;
          reached = subst (λ told. Reached here s0 K true (bytes + call.bytes) told st) gone_is there;
          tells = told-on;
          count = suc count;
          few = omega (arith, few, on.done);
          some = omega arith;
          left = omega (arith, held, falls);
          all = omega (arith, since.all, on.all since.full);
          opened = λ side. ap (λ v. (stream side v).opened) state ∙ (led-same K here again (stop_in call) s).opened side ∙ since.opened side;
          stands = ap stands_of state ∙ led-stands K here again (stop_in call) s ∙ since.stands;
        }

    -- or it is at its end
    ends-there : (count : ℕ) → count ≤ 3 * bytes + stages_done (discipline_of (module_at here s)).stage → spare s0 ≤ spare s + (3 * bytes + 33 * count)
        → (bytes + call.bytes ≡ 0 → bytes_left here.way false (discipline_of (module_at here s0)) ≡ 0) → call.again ≡ false → TreatsAs K here (bytes + call.bytes) s0 st f f''
    ends-there count few held went over =
        let ps = (stream here.side s).modules in
        let stop = stop_in call in
        let last = λ (name : QueueName). reached-last here s0 K name again bytes gone s r stop (sym tells.asks ∙ over) (stopped-at K call.stopped again call.bytes s tells.bytes tells.ends) in
        let same : bytes + treated here K again stop ps ≡ bytes + call.bytes = ap (λ n. bytes + n) (sym tells.bytes) in
        let all = gone ++ (led K here again stop s).gone in
        let to : QueueName → ℕ → State ℕ → TurnOutcome ℕ = λ name n v. record { turn = Moved n; state = module_turn_ended name here (not (n == 0)) v; gone = all } in
        record {
          gone = all;
          within = omega (arith, (last any_name).0, same);
          some = went;
          stands =
              subst (λ v. here.at - 1 < length (stream here.side v).modules) (sym state) (omega (arith, r.inside, led-length here K again stop s));
          moves = λ name. ap (λ n. moved_on K plain here name n s0) (sym same) ∙ (last name).1 ∙ ap (λ n. to name n (led K here again stop s).state) same ∙ ap (to name (bytes + call.bytes)) (sym state);
          tells = told-on;
          left = omega (arith, held, falls, few, done-few (discipline_of (module_at here s)).stage);
        }

    pub along : (count : ℕ) → count ≤ 3 * bytes + stages_done (discipline_of (module_at here s)).stage → spare s0 ≤ spare s + (3 * bytes + 33 * count) → Since here again bytes s0 s
        → (call.again ≡ false → bytes + call.bytes ≡ 0 → bytes_left here.way false (discipline_of (module_at here s0)) ≡ 0)
        → (more : Bool) → call.again ≡ more → Along K more here (bytes + call.bytes) s0 st f f''
    along count few held since went true is = goes-on count few held since is
    along count few held since went false is = ends-there count few held (went is) is

    pub comes-closer : (more : Bool) → call.again ≡ more → still_to_come more here st < suc (3 * bytes_left here.way again (discipline_of (module_at here s)) - stages_done (discipline_of (module_at here s)).stage)
    comes-closer true works =
        let on = further K again call s st tells state r.inside r.begins works in
        omega (arith, on.treat, on.done, on.begun)
    comes-closer false over = omega arith

-- a turn treats a byte where its message has one
module _ (here : Spot) where
  input-whole : (ms : List (Message ℕ)) (l : Discipline ℕ) → FullFirst ms → let t = input_begins plain (record here { way = Up }) None 0 ms l in t.again ≡ false → first_size ms ≤ t.bytes
  input-whole [] l full over = omega arith
  input-whole (m ∷ rest) l full over = at (is_data m.kind) refl over
    where
      up : Spot
      up = record here { way = Up }

      begun : Discipline ℕ
      begun = record l { read_queue = left_with rest l.read_queue; in_work = Some m }

      at : (typed : Bool) → is_data m.kind ≡ typed → (cond {A = Serving ℕ (Discipline ℕ)} typed (treats plain up (length (cells_of m)) 0 begun) (passes plain up Up m rest l)).again ≡ false
          → size_of m ≤ (cond {A = Serving ℕ (Discipline ℕ)} typed (treats plain up (length (cells_of m)) 0 begun) (passes plain up Up m rest l)).bytes
      at true is over =
          let t = stages plain up (3 * length (cells_of m) - stages_done l.stage) 0 begun in
          let bytes = ap (λ again. cond {A = ℕ} again (to_treat begun - to_treat t.state) (length (cells_of m))) over in
          let whole = full is in
          omega (arith, bytes, whole)
      at false is over = omega arith

  both-first : (a b : Bool) → (a && b) ≡ true → a ≡ true
  both-first true b is = refl
  both-first false b is = absurd (false≢true is)

  output-whole : (ms : List (Message ℕ)) (l : Discipline ℕ) → FullFirst ms → first_size ms ≤ (output_serves plain (record here { way = Down }) None 0 ms l).bytes
  output-whole [] l full = omega arith
  output-whole (m ∷ rest) l full = at (is_data m.kind && opost l.termios) refl (cells_of m) refl
    where
      at : (treated : Bool) → (is_data m.kind && opost l.termios) ≡ treated → (xs : List ℕ) → cells_of m ≡ xs
          → size_of m ≤ (cond {A = Outgoing ℕ} treated (posted plain (record here { way = Down }) None 0 xs m l) (unchanged m l)).bytes
      at false is xs long = omega arith
      at true is [] long = omega arith
      at true is (x ∷ xs) long = let whole = full (both-first (is_data m.kind) (opost l.termios) is) in let size = ap length long in omega (arith, whole, size, length-take (length xs) xs)

  -- one without a turn of its own has nothing left
  none-left : (way : Way) (again : Bool) (queues : Option (QueuePair ℕ)) → is_some queues ≡ false → bytes_left way again (disciplined new_ldterm queues) ≤ 0
  none-left way again (Some pair) none = absurd (false≢true (sym none))
  none-left Up false None none = omega arith
  none-left Up true None none = omega arith
  none-left Down false None none = omega arith
  none-left Down true None none = omega arith

  whole-at : (K : Behaviour) (way : Way) (again : Bool) (p : Standing ℕ) → Full p → let t = module_serves K plain (record here { way = way }) 0 again None p in t.again ≡ false → bytes_left way again (discipline_of p) ≤ t.bytes
  whole-at K way again p full over = by way again p.part full over
    where
      by : (way : Way) (again : Bool) (part : Module ℕ) → let q = stood part p.queues in Full q → let t = module_serves K plain (record here { way = way }) 0 again None q in t.again ≡ false
          → bytes_left way again (discipline_of q) ≤ t.bytes
      by Up false (OfLdterm l) full over = let d = disciplined l p.queues in input-whole d.read_queue.messages d full.0 over
      by Up true (OfLdterm l) full over =
          let d = disciplined l p.queues in
          let t = stages plain (record here { way = Up }) (3 * to_treat d - stages_done d.stage) 0 d in
          let bytes = ap (λ again. cond {A = ℕ} again (to_treat d - to_treat t.state) (to_treat d)) over in
          omega (arith, bytes)
      by Down false (OfLdterm l) full over = let d = disciplined l p.queues in output-whole d.write_queue.messages d full.1
      by Down true (OfLdterm l) full over = let d = disciplined l p.queues in output-whole d.write_queue.messages d full.1
      by way again (OfOwn o) full over = own-whole (own_by K plain) here way again o p.queues
      by way again other full over = none-left way again p.queues full.2

  -- a last call that didn't stop treats all that was left
  module _ (K : Behaviour) (again : Bool) (call : Call) (s : State ℕ) (tells : TellsAs K here again call s) (low : here.at - 1 < length (stream here.side s).modules) (full : Full (module_at here s)) (over : call.again ≡ false) where
    went-all : call.stopped ≡ false → bytes_left here.way again (discipline_of (module_at here s)) ≤ call.bytes
    went-all goes =
        let on = none-in here call goes in
        let i = here.at - 1 in
        let ps = (stream here.side s).modules in
        let ended = sym (index-map none_there (λ p. (module_serves K plain here 0 again None p).again) false i ps low) ∙ ap (λ o. asks_on here K again o ps) (sym on) ∙ sym tells.asks ∙ over in
        let bytes = sym (index-map none_there (λ p. (module_serves K plain here 0 again None p).bytes) 0 i ps low) ∙ ap (λ o. treated here K again o ps) (sym on) ∙ sym tells.bytes in
        omega (arith, whole-at K here.way again (module_at here s) full ended, bytes)

    -- so one that left some stopped, and few blocks are free behind it
    leaves-few : (bytes : ℕ) (s0 : State ℕ) (t : StoreValue) → Since here again bytes s0 s → LeavesFew here again call s t → StopsFew here (bytes + call.bytes) s0 t
    leaves-few bytes s0 t since few = at call.stopped refl few
      where
        at : (stopped : Bool) → call.stopped ≡ stopped → OnTrue stopped (call.bytes < bytes_left here.way again (discipline_of (module_at here s)) → IsKeptAhead here.way here.side s → least_free t < STOP_BLOCKS)
            → StopsFew here (bytes + call.bytes) s0 t
        at true is few = λ less ahead. few (omega (arith, since.all, less)) (kept-ahead here.way here.side s0 s since.opened since.stands ahead)
        at false is few = λ less ahead. absurd (let all = went-all is in omega (arith, all, since.all, less))

  -- a first call that is the last one
  module _ (K : Behaviour) (call : Call) (s : State ℕ) (tells : TellsAs K here false call s) (low : here.at - 1 < length (stream here.side s).modules) (full : Full (module_at here s)) (over : call.again ≡ false) (none : call.bytes ≡ 0) where
    went-whole : call.stopped ≡ false → bytes_left here.way false (discipline_of (module_at here s)) ≡ 0
    went-whole goes = let all = went-all K false call s tells low full over goes in omega (arith, all, none)

    stopped-some : (stopped : Bool) (A : Type 0) → A → OnTrue stopped (A → 0 < call.bytes) → stopped ≡ true → 0 < call.bytes
    stopped-some true A many some is = some many
    stopped-some false A many some is = absurd (false≢true is)

    pub first-went : (A : Type 0) → A → OnTrue call.stopped (A → 0 < call.bytes) → bytes_left here.way false (discipline_of (module_at here s)) ≡ 0
    first-went A many some = at call.stopped refl
      where
        at : (stopped : Bool) → call.stopped ≡ stopped → bytes_left here.way false (discipline_of (module_at here s)) ≡ 0
        at true is = let went = stopped-some call.stopped A many some is in absurd (omega (arith, went, none))
        at false is = went-whole is

  -- the last call treats what has begun
  last-done : (K : Behaviour) (again : Bool) (call : Call) (s : State ℕ) → TellsAs K here again call s → here.at - 1 < length (stream here.side s).modules → Begins here.way again (discipline_of (module_at here s)) → call.again ≡ false
      → stages_done (discipline_of (module_at here s)).stage ≤ 3 * call.bytes
  last-done K again call s tells low begins over = at call.stopped refl tells.ends
    where
      at : (stopped : Bool) → call.stopped ≡ stopped → OnTrue stopped (Ends here.way again (discipline_of (module_at here s)) call.bytes) → stages_done (discipline_of (module_at here s)).stage ≤ 3 * call.bytes
      at true is ends = ends.done
      at false is ends =
          let on = none-in here call is in
          let i = here.at - 1 in
          let qs = (stream here.side s).modules in
          let ended = sym (index-map none_there (λ p. (module_serves K plain here 0 again None p).again) false i qs low) ∙ ap (λ o. asks_on here K again o qs) (sym on) ∙ sym tells.asks ∙ over in
          let bytes = tells.bytes ∙ ap (λ o. treated here K again o qs) on ∙ index-map none_there (λ p. (module_serves K plain here 0 again None p).bytes) 0 i qs low in
          let e = (module-ends here again K (module_at here s) begins ended).0.done in
          omega (arith, e, bytes)

  -- and so calls behind the first one treat a byte
  pub later-went : (K : Behaviour) (bytes : ℕ) (s0 s : State ℕ) (f f' : Fates) (call : Call) → GoOn K here bytes s0 s f f' → TellsAs K here true call s → call.again ≡ false → bytes + call.bytes ≡ 0
      → bytes_left here.way false (discipline_of (module_at here s0)) ≡ 0
  later-went K bytes s0 s f f' call on tells over none =
      let done = last-done K true call s tells on.reached.inside on.reached.begins over in
      absurd (let few = on.few in let some = on.some in omega (arith, few, some, done, none))

-- few blocks are free where the turn is at its end
abbrev pub FewAt : Bool → Spot → ℕ → State ℕ → StoreValue → Type 0
FewAt true here bytes s0 t = Unit {0}
FewAt false here bytes s0 t = StopsFew here bytes s0 t

pub few-along : (K : Behaviour) (here : Spot) (again : Bool) (call : Call) (s : State ℕ) → TellsAs K here again call s → here.at - 1 < length (stream here.side s).modules → Full (module_at here s)
    → (bytes : ℕ) (s0 : State ℕ) (t : StoreValue) → Since here again bytes s0 s → LeavesFew here again call s t → (more : Bool) → call.again ≡ more → FewAt more here (bytes + call.bytes) s0 t
few-along K here again call s tells low full bytes s0 t since few true is = tt
few-along K here again call s tells low full bytes s0 t since few false is = leaves-few here K again call s tells low full is bytes s0 t since few

-- what a first call begins with
module _ (here : Spot) where
  rest-at : (i : ℕ) (ps : List (Standing ℕ)) → AllByRecursion (λ p. IsAtRest p) ps → i < length ps → IsAtRest (slice_index_or ps i none_there)
  rest-at i [] rest low = absurd (omega (arith, low))
  rest-at zero (p ∷ ps) rest low = rest.0
  rest-at (suc i) (p ∷ ps) rest low = rest-at i ps rest.1 (omega (arith, low))

  begins-rested : (way : Way) (p : Standing ℕ) → IsAtRest p → Begins way false (discipline_of p)
  begins-rested way p rest = by way p.part rest
    where
      by : (way : Way) (part : Module ℕ) → KindRests part → Begins way false (discipline_of (stood part p.queues))
      by Up (OfLdterm l) rest = rest
      by Down (OfLdterm l) rest = rest
      by Up other rest = (refl, refl, refl, refl)
      by Down other rest = (refl, refl, refl, refl)

  pub first-begins : (s : State ℕ) → AreIdle s → here.at - 1 < length (stream here.side s).modules → Begins here.way false (discipline_of (module_at here s))
  first-begins s idle low = begins-rested here.way (module_at here s) (rest-at (here.at - 1) (stream here.side s).modules (idle here.side) low)

  one-first : (way : Way) (p : Standing ℕ) → turn_cost (record here { way = way }) false p ≤ 25
  one-first Up p = omega arith
  one-first Down p = omega arith

  first-among : (i : ℕ) (ps : List (Standing ℕ)) → slice_index_or (map (turn_cost here false) ps) i 0 ≤ 25
  first-among i [] = omega arith
  first-among zero (p ∷ ps) = one-first here.way p
  first-among (suc i) (p ∷ ps) = first-among i ps

  pub first-cost : (s : State ℕ) → call_cost here false s ≤ 25
  first-cost s = first-among (here.at - 1) (stream here.side s).modules

  -- the books have room for what a turn makes of one message
  pub first-books : (s : State ℕ) → in_range s ≡ true → bytes_left here.way false (discipline_of (module_at here s)) ≤ 16777216 → MayBook here false s
  first-books s room few = omega (arith, range-spare s room, few)

  pub next-books : (K : Behaviour) (bytes : ℕ) (s0 s : State ℕ) (f f' : Fates) → in_range s0 ≡ true → bytes_left here.way false (discipline_of (module_at here s0)) ≤ 16777216 → GoOn K here bytes s0 s f f' → MayBook here true s
  next-books K bytes s0 s f f' room few on = omega (arith, range-spare s0 room, few, on.reached.within, on.few, on.left, done-few (discipline_of (module_at here s)).stage)

-- a turn whose calls treated so many bytes
pub turned-by : (K : Behaviour) (name : QueueName) (here : Spot) (bytes : ℕ) (old s0 st : State ℕ) (f f' : Fates) → MayMove K old s0 name here → (treats : TreatsAs K here bytes s0 st f f')
    → module_turned K plain name (Moved bytes) old ≡ record { turn = Moved bytes; state = module_turn_ended name here (not (bytes == 0)) st; gone = treats.gone }
turned-by K name here bytes old s0 st f f' may treats =
    let within = subst (λ v. bytes ≤ bytes_left here.way false (discipline_of (module_at here v))) may.stays treats.within in
    let some = subst (λ v. bytes ≡ 0 → bytes_left here.way false (discipline_of (module_at here v)) ≡ 0) may.stays treats.some in
    may.moves (Moved bytes) ∙ moves-within here K name bytes old (omega (arith, may.inside, may.within)) within some ∙ ap (λ v. moved_on K plain here name bytes v) (sym may.stays) ∙ treats.moves name

-- bytes were taken where some were treated
pub some-taken : (bytes : ℕ) → nat_lt 0 bytes ≡ not (bytes == 0)
some-taken zero = refl
some-taken (suc bytes) = grind (arith, nat_tests)
