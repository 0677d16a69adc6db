-- Over plain bytes a stage of ldterm says nothing of how many were made before, and stages that end with a message in work are so many that
-- more would change nothing.
use Rattle.std.proofs.Common.{ℕ, zero, suc, ◌≡◌, ◌≤◌, ◌<◌, ◌+◌, ◌-◌, ◌*◌, Bool, true, false, cond, List, [], ◌∷◌, ◌++◌, length, refl, sym, ap, subst, ◌∙◌, arith}
use Rattle.std.proofs.lemmas.Bool.{false≢true}
use Rattle.std.specs.Prelude.{◌&&◌, Option, None, Some, is_some}
use Rattle.strm_types.specs.declared.kinds.MsgKind.TheVariants as kinds
use Rattle.strm_types.specs.declared.names.Way.TheVariants.{Down}
use Rattle.strm_types.specs.declared.spots.Spot.{Spot}
use Rattle.strm_types.specs.Cells.{cells_made, plain}
use Rattle.strm_types.specs.Deliver.{Acted, onward}
use Rattle.strm_types.specs.Input.{begins_next, cells_left, left_of, made_of, next_stage, stage_at, stages, stages_done, then_on, to_treat}
use Rattle.strm_types.specs.Keys.{restarts}
use Rattle.strm_types.specs.Ldterms.{is_between, Discipline, Stage, Between, Begun, Answered, sends}
use Rattle.strm_types.specs.Message.{Message, cells_of}
use Rattle.strm_types.specs.Queue.{is_full, is_none_left}
use Rattle.strm_types.specs.Typing.{bare, begins, echo_dir, echo_grows, echo_lost, echo_stands, echoed, is_lnext, stroke_at, struck}
use Rattle.strm_types.proofs.StrikesStay.{strikes-stay}
use Rattle.strm_types.proofs.MadeCells.{made-same}

module _ (here : Spot) where
  echoed-same : (a b : ℕ) (echo : List ℕ) (l : Discipline ℕ) → echoed plain here a echo l ≡ echoed plain here b echo l
  echoed-same a b [] l = refl
  echoed-same a b (x ∷ xs) l =
      ap (λ (new : List ℕ). cond (is_full 0 l.write_queue) (echo_lost plain here new l) (cond l.echoing (echo_grows plain here new l) (echo_stands plain here new l)))
      (made-same (echo_dir plain here) a b (x ∷ xs))

  stage-same : (a b : ℕ) (stage : Stage ℕ) (l : Discipline ℕ) → stage_at plain here stage a l ≡ stage_at plain here stage b l
  stage-same a b Between l = refl
  stage-same a b (Begun started c) l = refl
  stage-same a b (Answered echo) l = echoed-same a b echo (record l { stage = Between })

  pub next-same : (a b : ℕ) (l : Discipline ℕ) → next_stage plain here a l ≡ next_stage plain here b l
  next-same a b l = stage-same a b l.stage l

  -- no byte has begun, and none is left of the message in work
  abbrev at_end : Discipline ℕ → Bool
  at_end l = is_between l.stage && is_none_left (cells_left l)

  end-stays : (made : ℕ) (l : Discipline ℕ) → at_end l ≡ true → next_stage plain here made l ≡ sends [] l
  end-stays made l over = at l.stage (cells_left l) over refl
    where
      at : (stage : Stage ℕ) (xs : List ℕ) → (is_between stage && is_none_left xs) ≡ true → cells_left l ≡ xs → stage_at plain here stage made l ≡ sends [] l
      at Between [] over is = ap (λ xs. begins_next plain here xs l) is
      at Between (c ∷ rest) over is = absurd (false≢true over)
      at (Begun started c) xs over is = absurd (false≢true over)
      at (Answered echo) xs over is = absurd (false≢true over)

  -- so no stage follows, and the turn ends
  ends : (n made : ℕ) (l : Discipline ℕ) → at_end l ≡ true → is_some (stages plain here n made l).state.in_work ≡ false
  ends zero made l over = refl
  ends (suc n) made l over =
      subst (λ (t : Acted ℕ (Discipline ℕ)). is_some (then_on made t (stages plain here n)).state.in_work ≡ false) (sym (end-stays made l over)) (ends n (made + 0) l over)

  -- from one to another by a stage
  record Rises (l q : Discipline ℕ) : Type 0 where
    pub less : to_treat q ≤ to_treat l
    pub done : suc (stages_done l.stage) ≤ stages_done q.stage + 3 * (to_treat l - to_treat q)

  begins-rises : (c : ℕ) (rest : List ℕ) (m : Message ℕ) (l : Discipline ℕ) → cells_of m ≡ c ∷ rest
      → Rises (record l { stage = Between; in_work = Some m }) (begins plain here c (record l { stage = Between; in_work = Some (left_of rest m) })).state
  unfolding cells_of
  begins-rises c rest m l is = at (l.stopped && restarts l.termios (stroke_at plain here c l))
    where
      at : (starts : Bool) → Rises (record l { stage = Between; in_work = Some m })
          (cond starts (sends (onward Down here (bare kinds.Start []) ∷ []) (record l { stopped = false; stage = Begun true c; in_work = Some (left_of rest m) })) (sends [] (record l { stage = Begun false c; in_work = Some (left_of rest m) }))).state
      at true = let size = ap length is in record { less = omega arith; done = omega arith }
      at false = let size = ap length is in record { less = omega arith; done = omega arith }

  between-rises : (l : Discipline ℕ) (o : Option (Message ℕ)) → let p : Discipline ℕ = record l { stage = Between; in_work = o } in at_end p ≡ false → Rises p (begins_next plain here (cells_left p) p).state
  between-rises l None some = absurd (false≢true (sym some))
  between-rises l (Some m) some = left (cells_of m) refl some
    where
      left : (xs : List ℕ) → cells_of m ≡ xs → is_none_left xs ≡ false → let p : Discipline ℕ = record l { stage = Between; in_work = Some m } in Rises p (begins_next plain here xs p).state
      left [] is some = absurd (false≢true (sym some))
      left (c ∷ rest) is some = begins-rises c rest m l is

  left-same : (p q : Discipline ℕ) → p.in_work ≡ q.in_work → length (cells_left p) ≡ length (cells_left q)
  left-same p q is = ap (λ (o : Option (Message ℕ)). length (cells_left (record p { in_work = o }))) is

  struck-rises : (started : Bool) (c : ℕ) (l : Discipline ℕ) → Rises (record l { stage = Begun started c }) (struck plain here started c (record l { stage = Begun started c })).state
  struck-rises started c l =
      let p : Discipline ℕ = record l { stage = Begun started c } in
      let q = (struck plain here started c p).state in
      let stroke = stroke_at plain here c p in
      let same = strikes-stay plain here (λ (x : Discipline ℕ). x.in_work ≡ l.in_work) (λ x stopped line gathered holds. holds) stroke.key (plain.mapped stroke.byte c) (record p { after_lnext = is_lnext stroke.key }) refl in
      let size = left-same q p same in
      record { less = omega arith; done = omega arith }

  echoed-rises : (made : ℕ) (echo : List ℕ) (l : Discipline ℕ) → Rises (record l { stage = Answered echo }) (echoed plain here made echo (record l { stage = Between })).state
  echoed-rises made [] l = record { less = omega arith; done = omega arith }
  echoed-rises made (b ∷ bytes) l = at (is_full 0 l.write_queue) l.echoing
    where
      new : List ℕ
      new = cells_made plain (echo_dir plain here) made (b ∷ bytes)

      at : (full echoing : Bool) → Rises (record l { stage = Answered (b ∷ bytes) })
          (cond full (echo_lost plain here new (record l { stage = Between })) (cond echoing (echo_grows plain here new (record l { stage = Between })) (echo_stands plain here new (record l { stage = Between })))).state
      at true echoing = record { less = omega arith; done = omega arith }
      at false true = record { less = omega arith; done = omega arith }
      at false false = record { less = omega arith; done = omega arith }

  next-rises : (made : ℕ) (l : Discipline ℕ) → at_end l ≡ false → Rises l (next_stage plain here made l).state
  next-rises made l some = at l.stage l.in_work some
    where
      at : (stage : Stage ℕ) (o : Option (Message ℕ)) → let p : Discipline ℕ = record l { stage = stage; in_work = o } in at_end p ≡ false → Rises p (stage_at plain here stage made p).state
      at Between o some = between-rises l o some
      at (Begun started c) o some = struck-rises started c (record l { in_work = o })
      at (Answered echo) o some = echoed-rises made echo (record l { in_work = o })

  -- Stages up to one that sends something: so many that more would change nothing.
  pub record Works (l : Discipline ℕ) (t : Acted ℕ (Discipline ℕ)) : Type 0 where
    pub steps : ℕ
    pub some : 0 < steps
    pub less : to_treat t.state ≤ to_treat l
    pub done : steps + stages_done l.stage ≤ stages_done t.state.stage + 3 * (to_treat l - to_treat t.state)
    pub same : (k made : ℕ) → steps ≤ k → stages plain here k made l ≡ t

  abbrev join : Acted ℕ (Discipline ℕ) → Acted ℕ (Discipline ℕ) → Acted ℕ (Discipline ℕ)
  join t u = record { state = u.state; notes = t.notes ++ u.notes; sent = u.sent; gone = t.gone ++ u.gone }

  pub stages-work : (n made : ℕ) (l : Discipline ℕ) → is_some (stages plain here n made l).state.in_work ≡ true → Works l (stages plain here n made l)
  stages-work zero made l works = absurd (false≢true works)
  stages-work (suc n) made l works = at (is_none_left t.sent) refl works (stages-work n (made + made_of t.gone) t.state)
    where
      t : Acted ℕ (Discipline ℕ)
      t = next_stage plain here made l

      goes : (over : Bool) → at_end l ≡ over → at_end l ≡ false
      goes true is = absurd (false≢true (sym (ends (suc n) made l is) ∙ works))
      goes false is = is

      up : Rises l t.state
      up = next-rises made l (goes (at_end l) refl)

      first : (k other : ℕ) → stages plain here (suc k) other l ≡ cond {A = Acted ℕ (Discipline ℕ)} (is_none_left t.sent) (join t (stages plain here k (other + made_of t.gone) t.state)) t
      first k other = ap (λ (t : Acted ℕ (Discipline ℕ)). then_on other t (stages plain here k)) (next-same other made l)

      at : (none : Bool) → is_none_left t.sent ≡ none → let u = stages plain here n (made + made_of t.gone) t.state in
          is_some (cond {A = Acted ℕ (Discipline ℕ)} none (join t u) t).state.in_work ≡ true → (is_some u.state.in_work ≡ true → Works t.state u) → Works l (cond {A = Acted ℕ (Discipline ℕ)} none (join t u) t)
      at true none works behind = record {
        steps = suc w.steps;
        some = omega arith;
        less = let a = up.less in let b = w.less in omega arith;
        done = let a = up.less in let b = w.less in let c = up.done in let d = w.done in omega arith;
        same = same;
      }
        where
          u : Acted ℕ (Discipline ℕ)
          u = stages plain here n (made + made_of t.gone) t.state

          w : Works t.state u
          w = behind works

          same : (k other : ℕ) → suc w.steps ≤ k → stages plain here k other l ≡ join t u
          same zero other more = absurd (omega (arith, more))
          same (suc k) other more =
              first k other
              ∙ ap (λ b. cond {A = Acted ℕ (Discipline ℕ)} b (join t (stages plain here k (other + made_of t.gone) t.state)) t) none
              ∙ ap (join t) (w.same k (other + made_of t.gone) (omega (arith, more)))
      at false none works behind = record {
        steps = 1;
        some = omega arith;
        less = up.less;
        done = let c = up.done in omega arith;
        same = same;
      }
        where
          same : (k other : ℕ) → 1 ≤ k → stages plain here k other l ≡ t
          same zero other more = absurd (omega (arith, more))
          same (suc k) other more = first k other ∙ ap (λ b. cond {A = Acted ℕ (Discipline ℕ)} b (join t (stages plain here k (other + made_of t.gone) t.state)) t) none
