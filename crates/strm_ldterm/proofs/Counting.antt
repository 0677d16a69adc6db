-- What stages of a turn on plain bytes do to what is left to treat and to what is noted.
use Rattle.strm_ldterm.proofs.Prelude.{ℕ, zero, suc, ◌≡◌, ◌≤◌, ◌<◌, ◌+◌, ◌*◌, Bool, true, false, cond, List, [], ◌∷◌, ◌++◌, length, refl, sym, ap}
use Rattle.strm_ldterm.proofs.Prelude.{◌∙◌, arith, false≢true, not, ◌&&◌, Option, None, Some, is_some, strikes-stay}
use Rattle.strm_ldterm.specs.Prelude.{Note, Enable, Down, Spot, plain, cells_made, begins_next, cells_left, next_stage, stage_at, stages_done}
use Rattle.strm_ldterm.specs.Prelude.{to_treat, with_left, restarts, onward, Discipline, Stage, Between, Begun, Answered, sends, Message, cells_of}
use Rattle.strm_ldterm.specs.Prelude.{is_none_left, is_full, put_enables, bare, begins, echoed, echo_dir, echo_grows, echo_lost, echo_stands}
use Rattle.strm_ldterm.specs.Prelude.{is_lnext, stroke_at, strikes, struck, wakes, data_message}
use Rattle.std.proofs.lemmas.List.{length-append}
use Rattle.strm_types.specs.declared.kinds.MsgKind.TheVariants as kinds
use Rattle.strm_ldterm.specs.Turns.{ahead, notes_left}
use Rattle.strm_ldterm.proofs.Turning.{Acts}

-- A stage leaves as much to treat as it has to, and tells of no more than it may.
pub record Counts (n : ℕ) (p : Discipline ℕ) (t : Acts) : Type 0 where
  pub work : is_some t.state.in_work ≡ is_some p.in_work
  pub left : 3 * to_treat t.state + (stages_done p.stage + n) ≡ 3 * to_treat p + stages_done t.state.stage
  pub few : length t.notes ≤ notes_left p
  pub more : is_none_left t.sent ≡ true → length t.notes + notes_left t.state ≤ notes_left p

abbrev of_stage : Discipline ℕ → Stage ℕ → Discipline ℕ
of_stage p stage = record p { stage = stage }

module _ (here : Spot) where
  -- a byte that is taken off the message in work
  left-one : (p : Discipline ℕ) (c : ℕ) (rest : List ℕ) → cells_left p ≡ c ∷ rest → (length (cells_left (with_left rest p)) ≡ length rest) × (is_some (with_left rest p).in_work ≡ is_some p.in_work)
  unfolding cells_of
  left-one p c rest is = at p.in_work is
    where
      at : (work : Option (Message ℕ)) → cells_left (record p { in_work = work }) ≡ c ∷ rest
          → (length (cells_left (with_left rest (record p { in_work = work }))) ≡ length rest) × (is_some (with_left rest (record p { in_work = work })).in_work ≡ is_some work)
      at None is = absurd (let none = ap length is in omega arith)
      at (Some m) is = (refl, refl)

  begins-counts : (p : Discipline ℕ) (c : ℕ) (rest : List ℕ) → p.stage ≡ Between → cells_left p ≡ c ∷ rest → Counts 1 p (begins plain here c (with_left rest p))
  begins-counts p c rest between is = at (p.stopped && restarts p.termios (stroke_at plain here c (with_left rest p)))
    where
      total : to_treat p ≡ length (c ∷ rest)
      total = (let n : length (cells_left p) + 0 ≡ length (c ∷ rest) = (let e = ap length is in omega arith) in ap (λ (s : Stage ℕ). to_treat (of_stage p s)) between ∙ n)

      none : stages_done p.stage ≡ 0
      none = ap stages_done between

      may : notes_left p ≡ notes_left (of_stage p Between)
      may = ap (λ (s : Stage ℕ). notes_left (of_stage p s)) between

      one : (length (cells_left (with_left rest p)) ≡ length rest) × (is_some (with_left rest p).in_work ≡ is_some p.in_work)
      one = left-one p c rest is

      at : (starts : Bool) → Counts 1 p (cond starts
          (sends (onward Down here (bare kinds.Start []) ∷ []) (record (with_left rest p) { stopped = false; stage = Begun true c }))
          (sends [] (record (with_left rest p) { stage = Begun false c })))
      at true = record { work = one.1; left = (let e = one.0 in let t = total in let z = none in omega arith); few = omega arith; more = λ e. absurd (false≢true e) }
      at false = record { work = one.1; left = (let e = one.0 in let t = total in let z = none in omega arith); few = omega arith; more = λ e. (let m = may in omega arith) }

  wakes-few : (started : Bool) (c : ℕ) (p : Discipline ℕ) → length (wakes plain here started p) + notes_left (of_stage p (Answered [])) ≤ notes_left (of_stage p (Begun started c))
  wakes-few true c p = at (not (is_none_left p.write_queue.messages))
    where
      at : (some : Bool) → length (cond {A = List Note} some (Enable Down ∷ []) []) + notes_left (of_stage p (Answered [])) ≤ notes_left (of_stage p (Begun true c))
      at true = omega arith
      at false = omega arith
  wakes-few false c p = omega arith

  struck-counts : (p : Discipline ℕ) (started : Bool) (c : ℕ) → p.stage ≡ Begun started c → Counts 1 p (struck plain here started c p)
  struck-counts p started c begun =
      let stroke = stroke_at plain here c p in
      let q = record p { after_lnext = is_lnext stroke.key } in
      let stays = strikes-stay plain here (λ (l : Discipline ℕ). (l.in_work ≡ p.in_work) × (l.echoing ≡ p.echoing)) (λ l stopped line gathered holds. holds) stroke.key (plain.mapped stroke.byte c) q (refl, refl) in
      let t = strikes plain here stroke.key (plain.mapped stroke.byte c) q in
      let same : length (cells_left t.state) ≡ length (cells_left p) = ap (λ (w : Option (Message ℕ)). length (cells_left (record p { in_work = w }))) stays.0 in
      let total : to_treat p ≡ length (cells_left p) + 1 = ap (λ (s : Stage ℕ). to_treat (of_stage p s)) begun in
      let one : stages_done p.stage ≡ 1 = ap stages_done begun in
      let may : notes_left p ≡ notes_left (of_stage p (Begun started c)) = ap (λ (s : Stage ℕ). notes_left (of_stage p s)) begun in
      let wake = wakes-few started c p in
      let left : notes_left (of_stage t.state (Answered [])) ≡ notes_left (of_stage p (Answered [])) = ap (λ (v : Bool). notes_left (record (of_stage p (Answered [])) { echoing = v })) stays.1 in
      record { work = ap is_some stays.0; left = omega arith; few = omega arith; more = λ e. omega arith }

  echoed-counts : (p : Discipline ℕ) (echo : List ℕ) → p.stage ≡ Answered echo → Counts 1 p (echoed plain here 0 echo (of_stage p Between))
  echoed-counts p echo answered = by echo
    where
      total : to_treat p ≡ length (cells_left p) + 1
      total = ap (λ (s : Stage ℕ). to_treat (of_stage p s)) answered

      two : stages_done p.stage ≡ 2
      two = ap stages_done answered

      may : notes_left p ≡ notes_left (of_stage p Between)
      may = ap (λ (s : Stage ℕ). notes_left (of_stage p s)) answered

      at : (new : List ℕ) (full echoing : Bool) → p.echoing ≡ echoing → Counts 1 p (cond full (echo_lost plain here new (of_stage p Between)) (cond echoing (echo_grows plain here new (of_stage p Between)) (echo_stands plain here new (of_stage p Between))))
      at new true echoing is = record { work = refl; left = (let t = total in let z = two in omega arith); few = omega arith; more = λ e. (let m = may in omega arith) }
      at new false true is = record { work = refl; left = (let t = total in let z = two in omega arith); few = omega arith; more = λ e. (let m = may in omega arith) }
      at new false false is =
          stands (put_enables (data_message new) p.write_queue)
        where
          able : notes_left (of_stage p Between) ≡ 1
          able = ap (λ (v : Bool). notes_left (record (of_stage p Between) { echoing = v })) is

          stands : (enables : Bool) → Counts 1 p (record (echo_stands plain here new (of_stage p Between)) { notes = cond {A = List Note} enables (Enable Down ∷ []) [] })
          stands true = record { work = refl; left = (let t = total in let z = two in omega arith); few = (let m = may in let a = able in omega arith); more = λ e. (let m = may in let a = able in omega arith) }
          stands false = record { work = refl; left = (let t = total in let z = two in omega arith); few = omega arith; more = λ e. (let m = may in let a = able in omega arith) }

      by : (bytes : List ℕ) → Counts 1 p (echoed plain here 0 bytes (of_stage p Between))
      by [] = record { work = refl; left = (let t = total in let z = two in omega arith); few = omega arith; more = λ e. (let m = may in omega arith) }
      by (b ∷ bytes) = at (cells_made plain (echo_dir plain here) 0 (b ∷ bytes)) (is_full 0 p.write_queue) p.echoing refl

  next-counts : (p : Discipline ℕ) → 0 < to_treat p → Counts 1 p (next_stage plain here 0 p)
  next-counts p some = at p.stage refl
    where
      left : (cells : List ℕ) → p.stage ≡ Between → cells_left p ≡ cells → Counts 1 p (begins_next plain here cells p)
      left [] between is = absurd (let t : to_treat p ≡ length (cells_left p) + 0 = ap (λ (s : Stage ℕ). to_treat (of_stage p s)) between in let e = ap length is in omega arith)
      left (c ∷ rest) between is = begins-counts p c rest between is

      at : (stage : Stage ℕ) → p.stage ≡ stage → Counts 1 p (stage_at plain here stage 0 p)
      at Between is = left (cells_left p) is refl
      at (Begun started c) is = struck-counts p started c is
      at (Answered echo) is = echoed-counts p echo is

  -- so many stages, of those that are left
  pub record Reaches (n : ℕ) (p : Discipline ℕ) (t : Acts) : Type 0 where
    pub count : ℕ
    pub within : count ≤ n
    pub some : is_none_left t.sent ≡ false → 0 < count
    pub all : is_none_left t.sent ≡ true → count ≡ n
    pub counts : Counts count p t

  counts-joined : (k : ℕ) (p : Discipline ℕ) (t u : Acts) → is_none_left t.sent ≡ true → Counts 1 p t → Counts k t.state u
      → Counts (suc k) p (record { state = u.state; notes = t.notes ++ u.notes; sent = u.sent; gone = t.gone ++ u.gone })
  counts-joined k p t u none c d =
      let l = length-append t.notes u.notes in
      let e = c.left in
      let f = d.left in
      let m = c.more none in
      let g = d.few in
      record { work = d.work ∙ c.work; left = omega arith; few = omega arith; more = λ is. (let h = d.more is in omega arith) }

  abbrev one : Discipline ℕ → Acts
  one p = next_stage plain here 0 p

  reaches-more : (n : ℕ) (p : Discipline ℕ) → Counts 1 p (one p) → Reaches n (one p).state (ahead here n (one p).state) → Reaches (suc n) p (ahead here (suc n) p)
  reaches-more n p c later = at (is_none_left (one p).sent) refl
    where
      at : (none : Bool) → is_none_left (one p).sent ≡ none
          → Reaches (suc n) p (cond {A = Acts} none (let t = one p in let u = ahead here n t.state in record { state = u.state; notes = t.notes ++ u.notes; sent = u.sent; gone = t.gone ++ u.gone }) (one p))
      at true none = record {
        count = suc later.count;
        within = (let w = later.within in omega arith);
        some = λ e. omega arith;
        all = λ e. (let a = later.all e in omega arith);
        counts = counts-joined later.count p (one p) (ahead here n (one p).state) none c later.counts;
      }
      at false some = record { count = 1; within = omega arith; some = λ e. omega arith; all = λ e. absurd (false≢true (sym some ∙ e)); counts = c }

  pub ahead-reaches : (n : ℕ) (p : Discipline ℕ) → n + stages_done p.stage ≤ 3 * to_treat p → Reaches n p (ahead here n p)
  ahead-reaches zero p room = record { count = 0; within = omega arith; some = λ e. absurd (false≢true (sym e)); all = λ e. refl; counts = record { work = refl; left = omega arith; few = omega arith; more = λ e. omega arith } }
  ahead-reaches (suc n) p room =
      let c = next-counts p (omega arith) in
      let e = c.left in
      reaches-more n p c (ahead-reaches n (one p).state (omega arith))
