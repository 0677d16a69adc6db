-- A call of ldterm's service procedure that asks for another one has done no more stages of bytes than it might: what has begun is among
-- the bytes that the turn may still treat.
use Rattle.strm_laws.proofs.Prelude.{ℕ, zero, suc, ◌≡◌, ◌≤◌, ◌+◌, ◌-◌, ◌*◌, Bool, true, false, cond, List, [], ◌∷◌, ◌++◌, length, refl, sym, ap}
use Rattle.strm_laws.proofs.Prelude.{subst, arith, ◌&&◌, Option, None, Some, is_some, false≢true, strikes-stay}
use Rattle.strm_laws.specs.Prelude.{Way, Up, Down, Spot, Cells, cells_made, Acted, onward, begins_next, cells_left, is_data, left_of, made_of}
use Rattle.strm_laws.specs.Prelude.{next_stage, stage_at, stages, stages_done, then_on, to_treat, treats, input_begins, passes, restarts}
use Rattle.strm_laws.specs.Prelude.{ldterm_serves, Discipline, Stage, Between, Begun, Answered, sends, Message, cells_of, is_full, is_none_left}
use Rattle.strm_laws.specs.Prelude.{left_with, bare, begins, echo_dir, echoed, echo_grows, echo_lost, echo_stands, is_lnext, stroke_at, struck}
use Rattle.strm_types.specs.declared.kinds.MsgKind.TheVariants as kinds
use Rattle.strm_laws.specs.LdtermWeights.{MayServe}

module _ {C : Type 0} (cells : Cells C) (here : Spot) where
  -- from one to another by so many stages at most
  record Fell (n : ℕ) (l q : Discipline C) : Type 0 where
    pub less : to_treat q ≤ to_treat l
    pub done : stages_done q.stage + 3 * (to_treat l - to_treat q) ≤ n + stages_done l.stage

  fell-both : (n : ℕ) (l q r : Discipline C) → Fell 1 l q → Fell n q r → Fell (suc n) l r
  fell-both n l q r first second = record { less = omega (arith, first.less, second.less); done = omega (arith, first.less, second.less, first.done, second.done) }

  -- a byte begins, where one is left
  begins-fell : (c : C) (rest : List C) (m : Message C) (l : Discipline C) → cells_of m ≡ c ∷ rest
      → Fell 1 (record l { stage = Between; in_work = Some m }) (begins cells here c (record l { stage = Between; in_work = Some (left_of rest m) })).state
  unfolding cells_of
  begins-fell c rest m l is = at (l.stopped && restarts l.termios (stroke_at cells here c l))
    where
      at : (starts : Bool) → Fell 1 (record l { stage = Between; in_work = Some m })
          (cond starts (sends (onward Down here (bare kinds.Start []) ∷ []) (record l { stopped = false; stage = Begun true c; in_work = Some (left_of rest m) })) (sends [] (record l { stage = Begun false c; in_work = Some (left_of rest m) }))).state
      at true = let size = ap length is in record { less = omega arith; done = omega arith }
      at false = let size = ap length is in record { less = omega arith; done = omega arith }

  stays-there : (l : Discipline C) → Fell 1 l l
  stays-there l = record { less = omega arith; done = omega arith }

  between-fell : (l : Discipline C) (o : Option (Message C)) → let p : Discipline C = record l { stage = Between; in_work = o } in Fell 1 p (begins_next cells here (cells_left p) p).state
  between-fell l None = stays-there (record l { stage = Between; in_work = None })
  between-fell l (Some m) = left (cells_of m) refl
    where
      left : (xs : List C) → cells_of m ≡ xs → let p : Discipline C = record l { stage = Between; in_work = Some m } in Fell 1 p (begins_next cells here xs p).state
      left [] is = stays-there (record l { stage = Between; in_work = Some m })
      left (c ∷ rest) is = begins-fell c rest m l is

  -- where the message in work is the same
  left-same : (p q : Discipline C) → p.in_work ≡ q.in_work → length (cells_left p) ≡ length (cells_left q)
  left-same p q is = ap (λ (o : Option (Message C)). length (cells_left (record p { in_work = o }))) is

  -- what has begun does what its key does
  struck-fell : (started : Bool) (c : C) (l : Discipline C) → Fell 1 (record l { stage = Begun started c }) (struck cells here started c (record l { stage = Begun started c })).state
  struck-fell started c l =
      let p : Discipline C = record l { stage = Begun started c } in
      let q = (struck cells here started c p).state in
      let stroke = stroke_at cells here c p in
      let same = strikes-stay cells here (λ (x : Discipline C). x.in_work ≡ l.in_work) (λ x stopped line gathered holds. holds) stroke.key (cells.mapped stroke.byte c) (record p { after_lnext = is_lnext stroke.key }) refl in
      let size = left-same q p same in
      record { less = omega arith; done = omega arith }

  -- and is echoed
  echoed-fell : (made : ℕ) (echo : List ℕ) (l : Discipline C) → Fell 1 (record l { stage = Answered echo }) (echoed cells here made echo (record l { stage = Between })).state
  echoed-fell made [] l = record { less = omega arith; done = omega arith }
  echoed-fell made (b ∷ bytes) l = at (is_full 0 l.write_queue) l.echoing
    where
      new : List C
      new = cells_made cells (echo_dir cells here) made (b ∷ bytes)

      at : (full echoing : Bool) → Fell 1 (record l { stage = Answered (b ∷ bytes) })
          (cond full (echo_lost cells here new (record l { stage = Between })) (cond echoing (echo_grows cells here new (record l { stage = Between })) (echo_stands cells here new (record l { stage = Between })))).state
      at true echoing = record { less = omega arith; done = omega arith }
      at false true = record { less = omega arith; done = omega arith }
      at false false = record { less = omega arith; done = omega arith }

  next-fell : (made : ℕ) (l : Discipline C) → Fell 1 l (next_stage cells here made l).state
  next-fell made l = at l.stage l.in_work
    where
      at : (stage : Stage C) (o : Option (Message C)) → let p : Discipline C = record l { stage = stage; in_work = o } in Fell 1 p (stage_at cells here stage made p).state
      at Between o = between-fell l o
      at (Begun started c) o = struck-fell started c (record l { in_work = o })
      at (Answered echo) o = echoed-fell made echo (record l { in_work = o })

  -- stages, up to the first one that sends something; at the turn's end nothing is in work
  abbrev Works : ℕ → Discipline C → Acted C (Discipline C) → Type 0
  Works n l t = is_some t.state.in_work ≡ true → Fell n l t.state

  then-fell : (n made : ℕ) (l : Discipline C) (t : Acted C (Discipline C)) (next : ℕ → Discipline C → Acted C (Discipline C)) → Fell 1 l t.state → Works n t.state (next (made + made_of t.gone) t.state) → Works (suc n) l (then_on made t next)
  then-fell n made l t next first second = at (is_none_left t.sent)
    where
      at : (none : Bool) → (let u = next (made + made_of t.gone) t.state in Works (suc n) l (cond {A = Acted C (Discipline C)} none (record { state = u.state; notes = t.notes ++ u.notes; sent = u.sent; gone = t.gone ++ u.gone }) t))
      at true = λ works. let u = next (made + made_of t.gone) t.state in fell-both n l t.state u.state first (second works)
      at false = λ works. record { less = first.less; done = let d = first.done in omega arith }

  stages-fell : (n made : ℕ) (l : Discipline C) → Works n l (stages cells here n made l)
  stages-fell zero made l = λ works. absurd (false≢true works)
  stages-fell (suc more) made l =
      let t = next_stage cells here made l in
      then-fell more made l t (stages cells here more) (next-fell made l) (stages-fell more (made + made_of t.gone) t.state)

  -- a call that treats so many bytes at most: how many it did, and what that leaves
  treats-leaves : (bytes made : ℕ) (l : Discipline C) → stages_done l.stage ≤ 3 * bytes → let t = treats cells here bytes made l in
      t.again ≡ true → stages_done t.acted.state.stage ≤ 3 * (bytes - t.bytes)
  treats-leaves bytes made l begun works =
      let u = stages cells here (3 * bytes - stages_done l.stage) made l in
      let fell = stages-fell (3 * bytes - stages_done l.stage) made l works in
      let treated = ap (λ again. cond again (to_treat l - to_treat u.state) bytes) works in
      subst (λ n. stages_done u.state.stage ≤ 3 * (bytes - n)) (sym treated) (omega (arith, fell.less, fell.done, begun))

module _ {C : Type 0} (cells : Cells C) where
  serves-leaves-at : (way : Way) (here : Spot) (again : Bool) (made left : ℕ) (l : Discipline C) → MayServe way again (Some left) l → let t = ldterm_serves cells (record here { way = way }) made again (Some left) l in
      t.again ≡ true → MayServe way true (Some (left - t.bytes)) t.acted.state
  serves-leaves-at Down here again made left l may works = tt
  serves-leaves-at Up here true made left l may works = treats-leaves cells (record here { way = Up }) left made l may works
  serves-leaves-at Up here false made left l may works = begun l.read_queue.messages works
    where
      begun : (ms : List (Message C)) → let t = input_begins cells (record here { way = Up }) (Some left) made ms l in t.again ≡ true → stages_done t.acted.state.stage ≤ 3 * (left - t.bytes)
      begun [] works = absurd (false≢true works)
      begun (m ∷ rest) works = at (is_data m.kind) works
        where
          at : (treated : Bool) → let t = cond treated (treats cells (record here { way = Up }) left made (record l { read_queue = left_with rest l.read_queue; in_work = Some m })) (passes cells (record here { way = Up }) Up m rest l) in
              t.again ≡ true → stages_done t.acted.state.stage ≤ 3 * (left - t.bytes)
          at true works =
              let p : Discipline C = record l { read_queue = left_with rest l.read_queue; in_work = Some m } in
              let none = ap stages_done may.1 in
              treats-leaves cells (record here { way = Up }) left made p (omega (arith, none)) works
          at false works = absurd (false≢true works)

  -- a call that asks for another one leaves it what it may serve
  pub serves-leaves : (here : Spot) (made : ℕ) (again : Bool) (left : ℕ) (l : Discipline C) → MayServe here.way again (Some left) l → let t = ldterm_serves cells here made again (Some left) l in
      t.again ≡ true → MayServe here.way true (Some (left - t.bytes)) t.acted.state
  serves-leaves here made again left l may works = serves-leaves-at here.way here again made left l may works
