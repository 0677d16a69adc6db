-- What a call of ldterm's service procedure sends takes no more blocks than are left beside the rest of the byte.
use Rattle.strm_ldterm.proofs.Prelude.{ℕ, zero, suc, ◌≡◌, ◌≤◌, ◌+◌, ◌-◌, ◌*◌, Bool, true, false, cond, List, [], ◌∷◌, ◌++◌, refl, sym, ap, ◌∙◌, arith}
use Rattle.strm_ldterm.proofs.Prelude.{false≢true, ◌&&◌, Option, None, Some, is_some, option_map, most-few, none-few, one-few, strikes-stay}
use Rattle.strm_ldterm.specs.Prelude.{Way, Up, Down, Spot, cells_made, plain, cost_of, most, shape_of, Acted, Parcel, toward, onward, begins_next}
use Rattle.strm_ldterm.specs.Prelude.{cells_left, left_of, made_of, next_stage, stage_at, stages, with_left, restarts, Discipline, Stage, Between}
use Rattle.strm_ldterm.specs.Prelude.{Begun, Answered, sends, Message, data_message, is_full, is_none_left, bare, echo_dir, echoed, echo_grows}
use Rattle.strm_ldterm.specs.Prelude.{echo_lost, echo_stands, gathered_up, is_lnext, stroke_at, struck}
use Rattle.strm_types.specs.declared.kinds.MsgKind.TheVariants as kinds
use Rattle.strm_types.proofs.CostsOf.{more-few}
use Rattle.strm_ldterm.specs.Turns.{leaves, needs}
use Rattle.strm_ldterm.proofs.Onward.{struck-sends}

module _ (here : Spot) where
  abbrev pub Acts : Type 0
  Acts = Acted ℕ (Discipline ℕ)

  abbrev Costs : ℕ → List (Parcel ℕ) → Type 0
  Costs n ps = cost_of most ps ≤ 8 * n

  few-none : (n : ℕ) → Costs n []
  few-none n = none-few ℕ most (8 * n)

  few-more : (way : Way) (m : Message ℕ) (n : ℕ) (ps : List (Parcel ℕ)) → Costs n ps → Costs (suc n) (onward way here m ∷ ps)
  few-more way m n ps few = more-few {C = ℕ} most (8 * suc n) (toward way here) m ps (omega (arith, most-few (record { to = toward way here; shape = shape_of m }), few))

  -- output that is started: an M_START goes down
  start-cost : cost_of most (onward {C = ℕ} Down here (bare kinds.Start []) ∷ []) ≤ 3
  start-cost = one-few {C = ℕ} most 3 (toward Down here) (bare kinds.Start []) (omega arith)

  -- the message in work stays one
  pub next-works : (made : ℕ) (p : Discipline ℕ) → is_some (next_stage plain here made p).state.in_work ≡ is_some p.in_work
  next-works made p = at p.stage
    where
      less : (rest : List ℕ) (work : Option (Message ℕ)) → is_some (option_map (left_of rest) work) ≡ is_some work
      less rest None = refl
      less rest (Some m) = refl

      starts : (c : ℕ) (rest : List ℕ) (begins : Bool) → is_some (cond {A = Acts} begins
          (sends (onward Down here (bare kinds.Start []) ∷ []) (record (with_left rest p) { stopped = false; stage = Begun true c }))
          (sends [] (record (with_left rest p) { stage = Begun false c }))).state.in_work ≡ is_some p.in_work
      starts c rest true = less rest p.in_work
      starts c rest false = less rest p.in_work

      left : (cs : List ℕ) → is_some (begins_next plain here cs p).state.in_work ≡ is_some p.in_work
      left [] = refl
      left (c ∷ rest) = starts c rest (p.stopped && restarts p.termios (stroke_at plain here c (with_left rest p)))

      echo : (bytes : List ℕ) → is_some (echoed plain here made bytes (record p { stage = Between })).state.in_work ≡ is_some p.in_work
      echo [] = refl
      echo (b ∷ bytes) = by (is_full 0 p.write_queue) p.echoing
        where
          new : List ℕ
          new = cells_made plain (echo_dir plain here) made (b ∷ bytes)

          q : Discipline ℕ
          q = record p { stage = Between }

          by : (full echoing : Bool) → is_some (cond full (echo_lost plain here new q) (cond echoing (echo_grows plain here new q) (echo_stands plain here new q))).state.in_work ≡ is_some p.in_work
          by true echoing = refl
          by false true = refl
          by false false = refl

      at : (stage : Stage ℕ) → is_some (stage_at plain here stage made p).state.in_work ≡ is_some p.in_work
      at Between = left (cells_left p)
      at (Begun started c) =
          let stroke = stroke_at plain here c p in
          ap is_some (strikes-stay plain here (λ (l : Discipline ℕ). l.in_work ≡ p.in_work) (λ l stopped line gathered same. same) stroke.key (plain.mapped stroke.byte c) (record p { after_lnext = is_lnext stroke.key }) refl)
      at (Answered bytes) = echo bytes

  -- a stage that has sent something leaves enough for the rest of its byte, beside what is sent
  abbrev pub Leaves : Acts → Type 0
  Leaves t = cost_of most t.sent + needs t.state.stage ≤ leaves t.state.stage

  next-leaves : (made : ℕ) (p : Discipline ℕ) → is_none_left (next_stage plain here made p).sent ≡ false → Leaves (next_stage plain here made p)
  next-leaves made p = at p.stage
    where
      starts : (c : ℕ) (q : Discipline ℕ) (begins : Bool) →
          (let t = cond {A = Acts} begins (sends (onward Down here (bare kinds.Start []) ∷ []) (record q { stopped = false; stage = Begun true c })) (sends [] (record q { stage = Begun false c })) in
          is_none_left t.sent ≡ false → Leaves t)
      starts c q true sent = let few = start-cost in omega (arith, few)
      starts c q false sent = absurd (false≢true (sym sent))

      left : (cs : List ℕ) → is_none_left (begins_next plain here cs p).sent ≡ false → Leaves (begins_next plain here cs p)
      left [] sent = absurd (false≢true (sym sent))
      left (c ∷ rest) sent = starts c (with_left rest p) (p.stopped && restarts p.termios (stroke_at plain here c (with_left rest p))) sent

      echo : (bytes : List ℕ) → is_none_left (echoed plain here made bytes (record p { stage = Between })).sent ≡ false → Leaves (echoed plain here made bytes (record p { stage = Between }))
      echo [] sent = absurd (false≢true (sym sent))
      echo (b ∷ bytes) sent = by (is_full 0 p.write_queue) p.echoing sent
        where
          new : List ℕ
          new = cells_made plain (echo_dir plain here) made (b ∷ bytes)

          q : Discipline ℕ
          q = record p { stage = Between }

          by : (full echoing : Bool) → (let t = cond full (echo_lost plain here new q) (cond echoing (echo_grows plain here new q) (echo_stands plain here new q)) in is_none_left t.sent ≡ false → Leaves t)
          by true echoing sent = absurd (false≢true (sym sent))
          by false true sent = absurd (false≢true (sym sent))
          by false false sent = absurd (false≢true (sym sent))

      at : (stage : Stage ℕ) → is_none_left (stage_at plain here stage made p).sent ≡ false → Leaves (stage_at plain here stage made p)
      at Between sent = left (cells_left p) sent
      at (Begun started c) sent = let few : Costs 3 (struck plain here started c p).sent = struck-sends plain here Costs few-none few-more started c p in omega (arith, few)
      at (Answered bytes) sent = echo bytes sent

  -- What a call sends that is called again leaves enough for the rest of the byte. At the end of a turn it takes one at most: it is M_DATA on
  -- its way up, which may become a packet.
  pub record Spares (t : Acts) : Type 0 where
    pub more : is_some t.state.in_work ≡ true → Leaves t
    pub over : is_some t.state.in_work ≡ false → cost_of most t.sent ≤ 1

  gathered-few : (gathered : List ℕ) → cost_of most (gathered_up plain here gathered) ≤ 1
  unfolding data_message
  gathered-few [] = none-few ℕ most 1
  gathered-few (c ∷ rest) = one-few {C = ℕ} most 1 (toward Up here) (data_message (c ∷ rest)) (omega arith)

  step-spares : (n made : ℕ) (p : Discipline ℕ) → (let t = next_stage plain here made p in
      is_some t.state.in_work ≡ true → Spares (stages plain here n (made + made_of t.gone) t.state) → Spares (stages plain here (suc n) made p))
  step-spares n made p still spares = by (is_none_left t.sent) refl
    where
      t : Acts
      t = next_stage plain here made p

      rest : Acts
      rest = stages plain here n (made + made_of t.gone) t.state

      by : (quiet : Bool) → is_none_left t.sent ≡ quiet → Spares (cond {A = Acts} quiet (record { state = rest.state; notes = t.notes ++ rest.notes; sent = rest.sent; gone = t.gone ++ rest.gone }) t)
      by true quiet = record { more = spares.more; over = spares.over }
      by false sent = record { more = λ e. next-leaves made p sent; over = λ e. absurd (false≢true (sym e ∙ still)) }

  pub stages-spare : (n made : ℕ) (p : Discipline ℕ) → is_some p.in_work ≡ true → Spares (stages plain here n made p)
  stages-spare zero made p work = record { more = λ e. absurd (false≢true e); over = λ e. gathered-few p.gathered }
  stages-spare (suc n) made p work =
      let t = next_stage plain here made p in
      let still = next-works made p ∙ work in
      step-spares n made p still (stages-spare n (made + made_of t.gone) t.state still)
