-- A turn of a module's queue call by call, as it is made over plain bytes: each call goes as far as it may, and the last one perhaps stops
-- before that. What all of them treated is how far the turn went.
use Rattle.strm_laws.proofs.Prelude.{ℕ, zero, suc, ◌≡◌, ◌≤◌, ◌<◌, ◌+◌, ◌-◌, ◌*◌, Bool, true, false, cond, List, [], ◌∷◌, ◌++◌, length, map, refl, sym}
use Rattle.strm_laws.proofs.Prelude.{ap, subst, ◌∙◌, arith, ◌==◌, not, max, min, slice_index_or, Option, None, Some, is_some, append_assoc}
use Rattle.strm_laws.proofs.Prelude.{length-map, carried-holds, in_turn-holds, get-set-same}
use Rattle.strm_laws.specs.Prelude.{Moved, Blocked, HOPS, QueueName, Side, Way, Up, Down, Spot, with_made, plain, Acted, Fate, Goes, Comes, Parcel}
use Rattle.strm_laws.specs.Prelude.{carried, in_turn, stages_done, to_treat, Stage, Message, at_place, messages_at, act_among, put_among, Serving}
use Rattle.strm_laws.specs.Prelude.{Begins, Ends, bytes_left, first_size}
use Rattle.strm_laws.specs.Behaviours.{Behaviour}
use Rattle.strm_laws.specs.ModuleTurns.{Calls, again_at, bytes_at, call_at, calls, made_below, module_turn_ended, moved_on, moved_within}
use Rattle.strm_laws.specs.Puts.{booked, module_acted, put_in}
use Rattle.strm_laws.specs.Stacked.{Standing, module_puts, module_serves}
use Rattle.strm_laws.specs.State.{State, book, stream, with_book, with_stream, Stream}
use Rattle.strm_laws.specs.TurnCalls.{Stopped, asks_on, called, discipline_of, ldterm_of, led, module_at, none_there, treated}
use Rattle.strm_laws.specs.TurnOutcomes.{TurnOutcome, stayed_put}
use Rattle.strm_laws.proofs.LdtermStops.{GoesOn}
use Rattle.strm_laws.proofs.ModulesHold.{OnBoth, puts-good}
use Rattle.strm_laws.proofs.StandingLdterms.{stands-at}
use Rattle.strm_laws.proofs.LawfulKinds.{calls-plainly, puts-plainly}

-- one of several, and what is said of it
module _ {P : Type 0} (d : P) where
  pub index-map : {A : Type 0} (f : P → A) (e : A) (i : ℕ) (ps : List P) → i < length ps → slice_index_or (map f ps) i e ≡ f (slice_index_or ps i d)
  index-map f e i [] low = absurd (omega (arith, low))
  index-map f e zero (p ∷ ps) low = refl
  index-map f e (suc i) (p ∷ ps) low = index-map f e i ps (omega (arith, low))

  pub act-alike : (f g : P → Acted ℕ P) (i : ℕ) (ps : List P)
      → f (slice_index_or ps i d) ≡ g (slice_index_or ps i d) → act_among f i ps ≡ act_among g i ps
  act-alike f g i [] same = refl
  act-alike f g zero (p ∷ ps) same = ap (λ (t : Acted ℕ P). record { state = t.state ∷ ps; notes = t.notes; sent = t.sent; gone = t.gone }) same
  act-alike f g (suc i) (p ∷ ps) same = ap (λ (t : Acted ℕ (List P)). record { state = p ∷ t.state; notes = t.notes; sent = t.sent; gone = t.gone }) (act-alike f g i ps same)

  act-index : (f : P → Acted ℕ P) (i : ℕ) (ps : List P) → i < length ps → slice_index_or (act_among f i ps).state i d ≡ (f (slice_index_or ps i d)).state
  act-index f i [] low = absurd (omega (arith, low))
  act-index f zero (p ∷ ps) low = refl
  act-index f (suc i) (p ∷ ps) low = act-index f i ps (omega (arith, low))

act-length : {P : Type 0} (f : P → Acted ℕ P) (i : ℕ) (ps : List P) → length (act_among f i ps).state ≡ length ps
act-length f i [] = refl
act-length f zero (p ∷ ps) = refl
act-length f (suc i) (p ∷ ps) = ap suc (act-length f i ps)

-- what stays of a module where something is put at it
pub record UnderWay : Type 0 where
  pub stage : Stage ℕ
  pub in_work : Option (Message ℕ)

abbrev pub under_way : Standing ℕ → UnderWay
under_way p = let l = discipline_of p in record { stage = l.stage; in_work = l.in_work }

-- what is known of calls of ldterm's service procedure is so of any module's
module _ (here : Spot) (again : Bool) where
  pub module-goes : (K : Behaviour) (p : Standing ℕ) → Begins here.way again (discipline_of p) → let t = module_serves K plain here 0 again None p in
      t.again ≡ true → GoesOn here.way again (discipline_of p) t.bytes (discipline_of t.acted.state)
  module-goes K p begins works = (calls-plainly K p).goes here again begins works

  pub module-ends : (K : Behaviour) (p : Standing ℕ) → Begins here.way again (discipline_of p) → let t = module_serves K plain here 0 again None p in
      t.again ≡ false → Ends here.way again (discipline_of p) t.bytes × ((made : ℕ) → module_serves K plain here made again (Some t.bytes) p ≡ t)
  module-ends K p begins over = (calls-plainly K p).ends here again begins over

ways : (a b : Stage ℕ) (c d : Option (Message ℕ)) → a ≡ b → c ≡ d → (let x : UnderWay = record { stage = a; in_work = c } in let y : UnderWay = record { stage = b; in_work = d } in x ≡ y)
ways a b c d same work = ap (λ (x : Stage ℕ). let v : UnderWay = record { stage = x; in_work = c } in v) same ∙ ap (λ (x : Option (Message ℕ)). let v : UnderWay = record { stage = b; in_work = x } in v) work

put-stays : (K : Behaviour) (made j : ℕ) (to : Spot) (m : Message ℕ) (ps : List (Standing ℕ)) → map under_way (put_among (module_puts K plain made) j to m ps).state ≡ map under_way ps
put-stays K made j to m [] = refl
put-stays K made zero to m (l ∷ ls) =
    let stays = (puts-plainly K l).put_stays made to m in
    ap (λ x. x ∷ map under_way ls) (ways _ _ _ _ stays.0 stays.1)
put-stays K made (suc j) to m (l ∷ ls) = ap (λ xs. under_way l ∷ xs) (put-stays K made j to m ls)

-- so it does in deliveries
pub sent-stays : (K : Behaviour) (sent : List (Parcel ℕ)) (s : State ℕ) (side : Side) → map under_way (stream side (in_turn (carried (put_in K plain) HOPS) sent s).state).modules ≡ map under_way (stream side s).modules
sent-stays K sent s = in_turn-holds (OnBoth Good) (carried (put_in K plain) HOPS) (carried-holds (OnBoth Good) (put_in K plain) (puts-good Good K plain (λ side made i to m ps same. put-stays K made i to m ps ∙ same)) HOPS) sent s (λ side. refl)
  where
    Good : Side → List (Standing ℕ) → Type 0
    Good side ps = map under_way ps ≡ map under_way (stream side s).modules

-- the modules stay where cells are booked as made
booked-stays : (side : Side) (told : List (Fate ℕ)) (s : State ℕ) → (stream side (booked told s)).modules ≡ (stream side s).modules
booked-stays side [] s = refl
booked-stays side (Goes dir rule cells ∷ told) s = booked-stays side told s
booked-stays side (Comes dir cells ∷ told) s = booked-stays side told (with_book dir (with_made (length cells) (book dir s)) s)

with-modules : (side : Side) (ps : List (Standing ℕ)) (s : State ℕ) → (stream side (with_stream side (record (stream side s) { modules = ps }) s)).modules ≡ ps
with-modules side ps s = ap (λ (t : Stream ℕ). t.modules) (get-set-same side (record (stream side s) { modules = ps }) s.ends)

module _ (here : Spot) where
  acted-modules : (t : Acted ℕ (List (Standing ℕ))) (s : State ℕ) → (stream here.side (module_acted here t s).state).modules ≡ t.state
  acted-modules t s = booked-stays here.side t.gone (module_acted here (record t { gone = [] }) s).state ∙ with-modules here.side t.state s

  module _ (K : Behaviour) (again : Bool) (stop : Option ℕ) where
    -- the module behind it
    pub led-under-way : (s : State ℕ) → map under_way (stream here.side (led K here again stop s).state).modules ≡ map under_way (called here K again stop (stream here.side s).modules).state
    led-under-way s =
        let t = module_acted here (called here K again stop (stream here.side s).modules) s in
        sent-stays K t.sent t.state here.side ∙ ap (λ ps. map under_way ps) (acted-modules (called here K again stop (stream here.side s).modules) s)

    pub led-length : (s : State ℕ) → length (stream here.side (led K here again stop s).state).modules ≡ length (stream here.side s).modules
    led-length s =
        let ps = (stream here.side s).modules in
        let same = ap length (led-under-way s) in
        let before = length-map (stream here.side (led K here again stop s).state).modules under_way in
        let behind = length-map (called here K again stop ps).state under_way in
        sym before ∙ same ∙ behind ∙ act-length (λ p. (module_serves K plain here 0 again stop p).acted) (here.at - 1) ps

    pub led-at : (s : State ℕ) → here.at - 1 < length (stream here.side s).modules → under_way (module_at here (led K here again stop s).state) ≡ under_way (module_serves K plain here 0 again stop (module_at here s)).acted.state
    led-at s low =
        let ps = (stream here.side s).modules in
        let qs = (stream here.side (led K here again stop s).state).modules in
        let i = here.at - 1 in
        let acts : Standing ℕ → Acted ℕ (Standing ℕ) = λ p. (module_serves K plain here 0 again stop p).acted in
        let none = under_way none_there in
        let same = led-length s in
        let long = act-length acts i ps in
        sym (index-map none_there under_way none i qs (omega (arith, low, same)))
        ∙ ap (λ xs. slice_index_or xs i none) (led-under-way s)
        ∙ index-map none_there under_way none i (called here K again stop ps).state (omega (arith, low, long))
        ∙ ap under_way (act-index none_there acts i ps low)

  -- the calls behind some that have led to this
  abbrev pub behind : List (Fate ℕ) → ℕ → Calls ℕ → Calls ℕ
  behind gone bytes v = record { state = v.state; gone = gone ++ v.gone; bytes = bytes + v.bytes; ended = v.ended }

  -- a call and those that follow it
  abbrev next_of : Behaviour → ℕ → ℕ → Acted ℕ (List (Standing ℕ)) → ℕ → Bool → State ℕ → Calls ℕ
  next_of K more left t bytes again s =
      let w = module_acted here t s in
      let u = in_turn (carried (put_in K plain) HOPS) w.sent w.state in
      let v = calls K plain here more true (left - bytes) u.state in
      cond {A = Calls ℕ} again (record { state = v.state; gone = w.gone ++ u.gone ++ v.gone; bytes = bytes + v.bytes; ended = v.ended }) (record { state = u.state; gone = w.gone ++ u.gone; bytes = bytes; ended = true })

  next-same : (K : Behaviour) (more left : ℕ) (s : State ℕ) (t t' : Acted ℕ (List (Standing ℕ))) (b b' : ℕ) (g g' : Bool) → t ≡ t' → b ≡ b' → g ≡ g' → next_of K more left t b g s ≡ next_of K more left t' b' g' s
  next-same K more left s t t' b b' g g' acts bytes asks = ap (λ x. next_of K more left x b g s) acts ∙ ap (λ x. next_of K more left t' x g s) bytes ∙ ap (λ x. next_of K more left t' b' x s) asks

  -- a call within a limit is as one without it, where the module does alike
  call-same : (K : Behaviour) (more left : ℕ) (again : Bool) (stop : Option ℕ) (s : State ℕ) → here.at - 1 < length (stream here.side s).modules
      → ((made : ℕ) → module_serves K plain here made again (Some left) (module_at here s) ≡ module_serves K plain here 0 again stop (module_at here s))
      → let ps = (stream here.side s).modules in calls K plain here (suc more) again left s ≡ next_of K more left (called here K again stop ps) (treated here K again stop ps) (asks_on here K again stop ps) s
  call-same K more left again stop s low alike =
      let ps = (stream here.side s).modules in
      let i = here.at - 1 in
      let made = made_below here.side s in
      let f : Standing ℕ → Serving ℕ (Standing ℕ) = λ p. module_serves K plain here made again (Some left) p in
      let g : Standing ℕ → Serving ℕ (Standing ℕ) = λ p. module_serves K plain here 0 again stop p in
      next-same K more left s (call_at K plain here made again left ps) (called here K again stop ps) (bytes_at K plain here made again left ps) (treated here K again stop ps) (again_at K plain here made again left ps) (asks_on here K again stop ps)
      (act-alike none_there (λ p. (f p).acted) (λ p. (g p).acted) i ps (ap (λ (t : Serving ℕ (Standing ℕ)). t.acted) (alike made)))
      (index-map none_there (λ p. (f p).bytes) 0 i ps low ∙ ap (λ (t : Serving ℕ (Standing ℕ)). t.bytes) (alike made) ∙ sym (index-map none_there (λ p. (g p).bytes) 0 i ps low))
      (index-map none_there (λ p. (f p).again) false i ps low ∙ ap (λ (t : Serving ℕ (Standing ℕ)). t.again) (alike made) ∙ sym (index-map none_there (λ p. (g p).again) false i ps low))

  module _ (s0 : State ℕ) where
    -- What the calls of a turn have led to so far, of which the next one is the first (false) or not: whatever the bytes are that the rest
    -- of the turn treats, those of it that has begun among them, the turn's calls are these and then those of the rest.
    pub record Reached (K : Behaviour) (again : Bool) (bytes : ℕ) (gone : List (Fate ℕ)) (s : State ℕ) : Type 0 where
      pub made : ℕ
      pub inside : here.at - 1 < length (stream here.side s).modules
      pub begins : Begins here.way again (discipline_of (module_at here s))
      pub few : made ≤ 3 * bytes + stages_done (discipline_of (module_at here s)).stage
      pub within : bytes + bytes_left here.way again (discipline_of (module_at here s)) ≤ bytes_left here.way false (discipline_of (module_at here s0))
      pub goes : (left more : ℕ) → stages_done (discipline_of (module_at here s)).stage ≤ 3 * left → calls K plain here (made + more) false (bytes + left) s0 ≡ behind gone bytes (calls K plain here more again left s)

    none-behind : (v : Calls ℕ) → behind [] 0 v ≡ v
    none-behind v = ap (λ (n : ℕ). record { state = v.state; gone = v.gone; bytes = n; ended = v.ended }) (let e : 0 + v.bytes ≡ v.bytes = omega arith in e)

    pub reached-first : (K : Behaviour) → here.at - 1 < length (stream here.side s0).modules → Begins here.way false (discipline_of (module_at here s0)) → Reached K false 0 [] s0
    reached-first K low begins = record {
      made = 0;
      inside = low;
      begins = begins;
      few = omega arith;
      within = omega arith;
      goes = λ left more fits.
          ap (λ n. calls K plain here n false (0 + left) s0) (let e : 0 + more ≡ more = omega arith in e)
          ∙ ap (λ n. calls K plain here more false n s0) (let e : 0 + left ≡ left = omega arith in e)
          ∙ sym (none-behind (calls K plain here more false left s0));
    }

    both-behind : (gone first second : List (Fate ℕ)) (bytes more : ℕ) (v : Calls ℕ)
        → behind gone bytes (record { state = v.state; gone = first ++ second ++ v.gone; bytes = more + v.bytes; ended = v.ended }) ≡ behind (gone ++ (first ++ second)) (bytes + more) v
    both-behind gone first second bytes more v =
        ap (λ (all : List (Fate ℕ)). record { state = v.state; gone = all; bytes = bytes + (more + v.bytes); ended = v.ended })
        (sym (append_assoc gone (first ++ second) v.gone))
        ∙ ap (λ (n : ℕ). record { state = v.state; gone = (gone ++ (first ++ second)) ++ v.gone; bytes = n; ended = v.ended }) (let e : bytes + (more + v.bytes) ≡ bytes + more + v.bytes = omega arith in e)

    -- one more call, which asks for another one
    pub reached-next : (K : Behaviour) (again : Bool) (bytes : ℕ) (gone : List (Fate ℕ)) (s : State ℕ) → Reached K again bytes gone s → let ps = (stream here.side s).modules in
        asks_on here K again None ps ≡ true → Reached K true (bytes + treated here K again None ps) (gone ++ (led K here again None s).gone) (led K here again None s).state
    reached-next K again bytes gone s r asks =
        record {
          made = suc r.made;
          inside = omega (arith, r.inside, led-length K again None s);
          begins = subst (λ w. Begins w true (discipline_of q)) (sym g.up) (ap (λ (x : UnderWay). is_some x.in_work) at ∙ g.work);
          few = omega (arith, r.few, g.done, bytes_is, done);
          within = omega (arith, r.within, g.treat, bytes_is, left_is);
          goes = goes;
        }
      where
        ps : List (Standing ℕ)
        ps = (stream here.side s).modules

        l : Standing ℕ
        l = module_at here s

        t : Serving ℕ (Standing ℕ)
        t = module_serves K plain here 0 again None l

        q : Standing ℕ
        q = module_at here (led K here again None s).state

        b : ℕ
        b = treated here K again None ps

        works : t.again ≡ true
        works = sym (index-map none_there (λ p. (module_serves K plain here 0 again None p).again) false (here.at - 1) ps r.inside) ∙ asks

        bytes_is : b ≡ t.bytes
        bytes_is = index-map none_there (λ p. (module_serves K plain here 0 again None p).bytes) 0 (here.at - 1) ps r.inside

        g : GoesOn here.way again (discipline_of l) t.bytes (discipline_of t.acted.state)
        g = module-goes here again K l r.begins works

        at : under_way q ≡ under_way t.acted.state
        at = led-at K again None s r.inside

        done : stages_done (discipline_of q).stage ≡ stages_done (discipline_of t.acted.state).stage
        done = ap (λ (x : UnderWay). stages_done x.stage) at

        left_is : bytes_left here.way true (discipline_of q) ≡ to_treat (discipline_of t.acted.state)
        left_is = ap (λ w. bytes_left w true (discipline_of q)) g.up ∙ ap (λ (x : UnderWay). to_treat (record (discipline_of q) { stage = x.stage; in_work = x.in_work })) at

        goes : (left more : ℕ) → stages_done (discipline_of q).stage ≤ 3 * left → calls K plain here (suc r.made + more) false (bytes + b + left) s0 ≡ behind (gone ++ (led K here again None s).gone) (bytes + b) (calls K plain here more true left (led K here again None s).state)
        goes left more fits =
            let w = module_acted here (called here K again None ps) s in
            let u = in_turn (carried (put_in K plain) HOPS) w.sent w.state in
            let v = calls K plain here more true left u.state in
            ap (λ n. calls K plain here n false (bytes + b + left) s0) (let e : suc r.made + more ≡ r.made + suc more = omega arith in e)
            ∙ ap (λ n. calls K plain here (r.made + suc more) false n s0) (let e : bytes + b + left ≡ bytes + (b + left) = omega arith in e)
            ∙ r.goes (b + left) (suc more) (omega (arith, g.done, bytes_is, done, fits))
            ∙ ap (behind gone bytes) (call-same K more (b + left) again None s r.inside
            (λ made. (calls-plainly K l).alike here again works (b + left) made (omega (arith, bytes_is, done, fits))))
            ∙ ap (λ x. behind gone bytes (next_of K more (b + left) (called here K again None ps) b x s)) asks
            ∙ ap (λ n. let v = calls K plain here more true n u.state in behind gone bytes (record { state = v.state; gone = w.gone ++ u.gone ++ v.gone; bytes = b + v.bytes; ended = v.ended })) (let e : b + left - b ≡ left = omega arith in e)
            ∙ both-behind gone w.gone u.gone bytes b v

    -- the last call
    module _ (K : Behaviour) (name : QueueName) (again : Bool) (bytes : ℕ) (gone : List (Fate ℕ)) (s : State ℕ)
        (r : Reached K again bytes gone s)
      where
        -- how far the turn goes by it
        abbrev all : Option ℕ → ℕ
        all stop = bytes + treated here K again stop (stream here.side s).modules

        abbrev ended : Option ℕ → TurnOutcome ℕ
        ended stop = record { turn = Moved (all stop); state = module_turn_ended name here (not (all stop == 0)) (led K here again stop s).state; gone = gone ++ (led K here again stop s).gone }

        -- it is the same within what it treated
        abbrev IsLast : Option ℕ → Type 0
        IsLast stop =
            let b = treated here K again stop (stream here.side s).modules in
            Ends here.way again (discipline_of (module_at here s)) b × ((made : ℕ) → module_serves K plain here made again (Some b) (module_at here s) ≡ module_serves K plain here 0 again stop (module_at here s))

        last-is : (stop : Option ℕ) → asks_on here K again stop (stream here.side s).modules ≡ false → Stopped here K again s stop → IsLast stop
        last-is None over _ =
            let ps = (stream here.side s).modules in
            let l = module_at here s in
            let i = here.at - 1 in
            let over : (module_serves K plain here 0 again None l).again ≡ false = sym (index-map none_there (λ p. (module_serves K plain here 0 again None p).again) false i ps r.inside) ∙ over in
            let bytes_is = index-map none_there (λ p. (module_serves K plain here 0 again None p).bytes) 0 i ps r.inside in
            let e = module-ends here again K l r.begins over in
            (record { treat = let a = e.0.treat in omega (arith, bytes_is); done = let a = e.0.done in omega (arith, bytes_is) }, λ made. ap (λ n. module_serves K plain here made again (Some n) l) bytes_is ∙ e.1 made)
        last-is (Some n) over is =
            let l = module_at here s in (
              subst (λ b. Ends here.way again (discipline_of l) b) is.0 is.1,
              λ made. ap (λ b. module_serves K plain here made again (Some b) l) (sym is.0) ∙ (calls-plainly K l).call_same here again (Some n) made,
            )

        last-moves : (stop : Option ℕ) → asks_on here K again stop (stream here.side s).modules ≡ false → IsLast stop → moved_on K plain here name (all stop) s0 ≡ ended stop
        last-moves stop over is =
            let ps = (stream here.side s).modules in
            let b = treated here K again stop ps in
            let more = 3 * (bytes + b) - r.made in
            let w = module_acted here (called here K again stop ps) s in
            let u = in_turn (carried (put_in K plain) HOPS) w.sent w.state in
            ap (λ (t : Calls ℕ). cond {A = TurnOutcome ℕ} t.ended (record { turn = Moved t.bytes; state = module_turn_ended name here (not (t.bytes == 0)) t.state; gone = t.gone }) (stayed_put Blocked s0))
            (ap (λ n. calls K plain here n false (bytes + b) s0) (let few = r.few in let done = is.0.done in let e : 3 * (bytes + b) + 1 ≡ r.made + suc more = omega (arith, few, done) in e)
            ∙ r.goes b (suc more) is.0.done
            ∙ ap (behind gone bytes) (call-same K more b again stop s r.inside is.1)
            ∙ ap (λ x. behind gone bytes (next_of K more b (called here K again stop ps) b x s)) over)

        -- The turn went so far, and led to that.
        pub reached-last : (stop : Option ℕ) → asks_on here K again stop (stream here.side s).modules ≡ false → Stopped here K again s stop
            → (all stop ≤ bytes_left here.way false (discipline_of (module_at here s0))) × (moved_on K plain here name (all stop) s0 ≡ ended stop)
        reached-last stop over stopped =
            let is = last-is stop over stopped in
            (let treat = is.0.treat in omega (arith, r.within, treat), last-moves stop over is)

  pub whole : (way : Way) (p : Standing ℕ) → bytes_left way false (discipline_of p) ≡ first_size (messages_at way p)
  whole Up p = ap (λ ms. first_size ms) (stands-at Up (ldterm_of p.part) p.queues)
  whole Down p = ap (λ ms. first_size ms) (stands-at Down (ldterm_of p.part) p.queues)

  -- how many bytes the first message has
  pub first-left : (s : State ℕ) → here.at - 1 < length (stream here.side s).modules
      → at_place (λ p. first_size (messages_at here.way p)) 0 here.at (stream here.side s).modules ≡ bytes_left here.way false (discipline_of (module_at here s))
  first-left s low =
      index-map none_there (λ p. first_size (messages_at here.way p)) 0 (here.at - 1) (stream here.side s).modules low ∙ sym (whole here.way (module_at here s))

  -- so many bytes of a message, and one at least where it has one
  one-at-least : (bytes size : ℕ) → bytes ≤ size → (bytes ≡ 0 → size ≡ 0) → min (max 1 bytes) size ≡ bytes
  one-at-least zero size within some = let none = some refl in omega (arith, none)
  one-at-least (suc bytes) size within some = omega (arith, within)

  -- and no further than to the end of the first message, of which a byte was treated where it has one
  pub moves-within : (K : Behaviour) (name : QueueName) (bytes : ℕ) (s : State ℕ) → here.at - 1 < length (stream here.side s).modules → bytes ≤ bytes_left here.way false (discipline_of (module_at here s))
      → (bytes ≡ 0 → bytes_left here.way false (discipline_of (module_at here s)) ≡ 0) → moved_within K plain here name (Moved bytes) s ≡ moved_on K plain here name bytes s
  moves-within K name bytes s low within some =
      let ps = (stream here.side s).modules in
      let first = first-left s low in
      ap (λ n. moved_on K plain here name n s) (one-at-least bytes (at_place (λ p. first_size (messages_at here.way p)) 0 here.at ps) (omega (arith, first, within)) (λ none. (let e = some none in omega (arith, first, e))))
