-- The stages of a turn of ldterm lose no cell and make none that they don't tell, and the turn's echo stays on the write queue.
use Rattle.strm_laws.proofs.Prelude.{ℕ, zero, suc, ◌≡◌, ◌≤◌, ◌+◌, ◌-◌, ◌*◌, ◌⊎◌, inl, inr, Bool, true, false, cond, List, [], ◌∷◌, ◌++◌, length, refl}
use Rattle.strm_laws.proofs.Prelude.{sym, ap, ◌∙◌, arith, ◌&&◌, Option, None, Some, count_by, unwrap_or, nat_le, option_map, false≢true, strikes-stay}
use Rattle.strm_laws.proofs.Prelude.{count-join, weight-put_back, weight-take, weight-whole}
use Rattle.strm_laws.specs.Prelude.{Up, Down, Spot, Dir, direction_at, Cells, cells_made, Acted, Parcel, toward, onward, back_on, begins_next}
use Rattle.strm_laws.specs.Prelude.{cells_left, finished, is_data, left_of, made_of, next_stage, stage_at, stages, stages_done, then_on, treats}
use Rattle.strm_laws.specs.Prelude.{input_begins, passes, restarts, Discipline, Stage, Between, Begun, Answered, sends, Message, cells_of}
use Rattle.strm_laws.specs.Prelude.{data_message, weight_of, Queue, is_full, is_none_left, left_with, put, put_back, weight, rank_of, bare, begins}
use Rattle.strm_laws.specs.Prelude.{echo_dir, echoed, echo_grows, echo_lost, echo_stands, grown, is_lnext, stroke_at, struck}
use Rattle.strm_types.specs.declared.kinds.MsgKind.TheVariants as kinds
use Rattle.strm_laws.specs.LdtermWeights.{weight_in_work, weight_begun, weight_beside, ldterm_weight, ActedKeeps, IgnoresMapping, EchoStands}
use Rattle.strm_laws.specs.Places.{weight_sent, direction_to}
use Rattle.strm_laws.proofs.DeliveryKeeps.{gone-append, made-append}
use Rattle.strm_laws.proofs.LdtermKeeps.{weight-bare, strikes-keep, echo-keeps, gathered-keeps, onward-weighs}

module _ {C : Type 0} (cells : Cells C) (here : Spot) where
  -- the turn's echo stays through a stage

  begins-echo : (c : C) (l : Discipline C) → EchoStands l → EchoStands (begins cells here c l).state
  begins-echo c l stands = at (l.stopped && restarts l.termios (stroke_at cells here c l))
    where
      at : (starts : Bool) → EchoStands (cond starts (sends (onward Down here (bare kinds.Start []) ∷ []) (record l { stopped = false; stage = Begun true c })) (sends [] (record l { stage = Begun false c }))).state
      at true = stands
      at false = stands

  next-begins-echo : (left : List C) (l : Discipline C) → EchoStands l → EchoStands (begins_next cells here left l).state
  next-begins-echo [] l stands = stands
  next-begins-echo (c ∷ rest) l stands = begins-echo c (record l { in_work = option_map (left_of rest) l.in_work }) stands

  grown-stands : (new : List C) (ms : List (Message C)) → is_none_left ms ≡ false → is_none_left (grown cells here new ms) ≡ false
  grown-stands new [] stands = stands
  grown-stands new (m ∷ []) stands = refl
  grown-stands new (m ∷ n ∷ ms) stands = refl

  put-stands : (m : Message C) (ms : List (Message C)) → is_none_left (put m ms) ≡ false
  put-stands m [] = refl
  put-stands m (first ∷ rest) = at (nat_le (rank_of m) (rank_of first))
    where
      at : (behind : Bool) → is_none_left (cond behind (first ∷ put m rest) (m ∷ first ∷ rest)) ≡ false
      at true = refl
      at false = refl

  echoed-echo : (made : ℕ) (echo : List ℕ) (l : Discipline C) → EchoStands l → EchoStands (echoed cells here made echo l).state
  echoed-echo made [] l stands = stands
  echoed-echo made (b ∷ bytes) l stands = at (is_full 0 l.write_queue) l.echoing stands
    where
      at : (full echoing : Bool) → (echoing ≡ true → is_none_left l.write_queue.messages ≡ false) →
          (let new = cells_made cells (echo_dir cells here) made (b ∷ bytes) in
          EchoStands (cond full (echo_lost cells here new (record l { echoing = echoing })) (cond echoing (echo_grows cells here new (record l { echoing = echoing })) (echo_stands cells here new (record l { echoing = echoing })))).state)
      at true echoing stands = stands
      at false true stands = λ is. grown-stands (cells_made cells (echo_dir cells here) made (b ∷ bytes)) l.write_queue.messages (stands refl)
      at false false stands = λ is. put-stands (data_message (cells_made cells (echo_dir cells here) made (b ∷ bytes))) l.write_queue.messages

  pub next-echo : (made : ℕ) (l : Discipline C) → EchoStands l → EchoStands (next_stage cells here made l).state
  next-echo made l stands = at l.stage
    where
      at : (stage : Stage C) → EchoStands (stage_at cells here stage made l).state
      at Between = next-begins-echo (cells_left l) l stands
      at (Begun started c) = strikes-stay cells here (λ p. EchoStands p) (λ p stopped line gathered holds. holds) (stroke_at cells here c l).key _ (record l { after_lnext = is_lnext (stroke_at cells here c l).key }) stands
      at (Answered echo) = echoed-echo made echo (record l { stage = Between }) stands

  -- A turn comes to its end between two bytes: for a message that is used up it stays there, and else each third stage comes there.
  abbrev Comes3 : ℕ → Discipline C → Type 0
  Comes3 n l = ((l.stage ≡ Between) × (cells_left l ≡ [])) ⊎ ((k : ℕ) × (n + stages_done l.stage ≡ 3 * k))

  begins-comes : (n k : ℕ) (c : C) (l : Discipline C) → suc n ≡ 3 * k → Comes3 n (begins cells here c l).state
  begins-comes n k c l is = at (l.stopped && restarts l.termios (stroke_at cells here c l))
    where
      at : (starts : Bool) → Comes3 n (cond starts (sends (onward Down here (bare kinds.Start []) ∷ []) (record l { stopped = false; stage = Begun true c })) (sends [] (record l { stage = Begun false c }))).state
      at true = inr (k, omega arith)
      at false = inr (k, omega arith)

  between-comes : (n made : ℕ) (l : Discipline C) → Comes3 (suc n) (record l { stage = Between }) → Comes3 n (begins_next cells here (cells_left l) (record l { stage = Between })).state
  between-comes n made l ready = work l.in_work ready
    where
      left : (m : Message C) (xs : List C) → cells_of m ≡ xs → Comes3 (suc n) (record l { stage = Between; in_work = Some m }) → Comes3 n (begins_next cells here xs (record l { stage = Between; in_work = Some m })).state
      left m [] is ready = inl (refl, is)
      left m (c ∷ rest) is ready = elim ready [
        | inl idle ↦ absurd (cc (sym is, idle.1))
        | inr comes ↦ begins-comes n comes.0 c (record l { stage = Between; in_work = Some (left_of rest m) }) (let e = comes.1 in omega arith)
      ]

      work : (in_work : Option (Message C)) → Comes3 (suc n) (record l { stage = Between; in_work = in_work }) →
          Comes3 n (begins_next cells here (cells_left (record l { in_work = in_work })) (record l { stage = Between; in_work = in_work })).state
      work None ready = inl (refl, refl)
      work (Some m) ready = left m (cells_of m) refl ready

  echoed-comes : (n k made : ℕ) (echo : List ℕ) (l : Discipline C) → suc n + 2 ≡ 3 * k → Comes3 n (echoed cells here made echo (record l { stage = Between })).state
  echoed-comes n k made [] l is = inr (k - 1, omega arith)
  echoed-comes n k made (b ∷ bytes) l is = at (is_full 0 l.write_queue) l.echoing
    where
      at : (full echoing : Bool) → (let new = cells_made cells (echo_dir cells here) made (b ∷ bytes) in
          Comes3 n (cond full (echo_lost cells here new (record l { stage = Between })) (cond echoing (echo_grows cells here new (record l { stage = Between })) (echo_stands cells here new (record l { stage = Between })))).state)
      at true echoing = inr (k - 1, omega arith)
      at false true = inr (k - 1, omega arith)
      at false false = inr (k - 1, omega arith)

  next-comes : (n made : ℕ) (l : Discipline C) → Comes3 (suc n) l → Comes3 n (next_stage cells here made l).state
  next-comes n made l ready = at l.stage ready
    where
      at : (stage : Stage C) → Comes3 (suc n) (record l { stage = stage }) → Comes3 n (next_stage cells here made (record l { stage = stage })).state
      at Between ready = between-comes n made l ready
      at (Begun started c) ready = elim ready [ inl idle ↦ absurd (cc (idle.0)) | inr comes ↦ inr (comes.0, let e = comes.1 in omega arith) ]
      at (Answered echo) ready = elim ready [ inl idle ↦ absurd (cc (idle.0)) | inr comes ↦ echoed-comes n comes.0 made echo l (let e = comes.1 in omega arith) ]

-- what is left of a message goes back with its cells
module _ {C : Type 0} (p : C → Bool) where
  pub back-weighs : (left : Option (Message C)) (q : Queue C) → weight p (back_on left q).messages ≡ weight p q.messages + weight_in_work p left
  back-weighs None q = omega arith
  back-weighs (Some m) q = at (cells_of m) refl
    where
      at : (xs : List C) → cells_of m ≡ xs → weight p (cond (is_none_left xs) q (record q { messages = put_back m q.messages })).messages ≡ weight p q.messages + weight_of p m
      at [] is = omega (arith, sym (weight-whole p m) ∙ ap (λ ys. count_by p ys) is)
      at (c ∷ rest) is = omega (arith, weight-put_back p m q.messages)

module _ {C : Type 0} (p : Dir → C → Bool) (cells : Cells C) (here : Spot) (ignores : IgnoresMapping cells p) where
  abbrev up : C → Bool
  up = p (direction_at Up here.side)

  weight-left : (m : Message C) (c : C) (rest : List C) → cells_of m ≡ c ∷ rest → weight_of up m ≡ count_by up (c ∷ []) + weight_of up (left_of rest m)
  unfolding weight_of cells_of
  weight-left m c rest is = ap (λ xs. count_by up xs) is ∙ count-join up (c ∷ []) rest

  begins-keeps : (c : C) (l : Discipline C) → ActedKeeps p here.side (begins cells here c l) (weight_beside p here.side l + count_by up (c ∷ []))
  begins-keeps c l = at (l.stopped && restarts l.termios (stroke_at cells here c l))
    where
      at : (starts : Bool) → ActedKeeps p here.side (cond starts (sends (onward Down here (bare kinds.Start []) ∷ []) (record l { stopped = false; stage = Begun true c })) (sends [] (record l { stage = Begun false c }))) (weight_beside p here.side l + count_by up (c ∷ []))
      at true = omega (arith, weight-bare (p (direction_to (toward Down here))) kinds.Start [])
      at false = omega arith

  between-keeps : (l : Discipline C) → ActedKeeps p here.side (begins_next cells here (cells_left l) (record l { stage = Between })) (weight_beside p here.side l)
  between-keeps l = work l.in_work
    where
      left : (m : Message C) (xs : List C) → cells_of m ≡ xs → ActedKeeps p here.side (begins_next cells here xs (record l { stage = Between; in_work = Some m })) (weight_beside p here.side (record l { in_work = Some m }))
      left m [] is = omega arith
      left m (c ∷ rest) is = omega (arith, begins-keeps c (record l { stage = Between; in_work = Some (left_of rest m) }), weight-left m c rest is)

      work : (in_work : Option (Message C)) → ActedKeeps p here.side (begins_next cells here (cells_left (record l { in_work = in_work })) (record l { stage = Between; in_work = in_work })) (weight_beside p here.side (record l { in_work = in_work }))
      work None = omega arith
      work (Some m) = left m (cells_of m) refl

  struck-keeps : (started : Bool) (c : C) (l : Discipline C) → ActedKeeps p here.side (struck cells here started c l) (weight_beside p here.side l + count_by up (c ∷ []))
  struck-keeps started c l =
      let stroke = stroke_at cells here c l in
      let same : count_by up (cells.mapped stroke.byte c ∷ []) ≡ count_by up (c ∷ []) = ap (λ b. 0 + cond b 1 0) (ignores (direction_at Up here.side) stroke.byte c) in
      omega (arith, strikes-keep p cells here stroke.key (cells.mapped stroke.byte c) (record l { after_lnext = is_lnext stroke.key }))

  echoed-keeps : (made : ℕ) (echo : List ℕ) (l : Discipline C) → EchoStands l → ActedKeeps p here.side (echoed cells here made echo l) (ldterm_weight p here.side l)
  echoed-keeps made [] l stands = omega arith
  echoed-keeps made (b ∷ bytes) l stands = echo-keeps p cells here (cells_made cells (echo_dir cells here) made (b ∷ bytes)) l stands

  pub next-keeps : (made : ℕ) (l : Discipline C) → EchoStands l → ActedKeeps p here.side (next_stage cells here made l) (ldterm_weight p here.side l)
  next-keeps made l stands = at l.stage
    where
      at : (stage : Stage C) → ActedKeeps p here.side (next_stage cells here made (record l { stage = stage })) (ldterm_weight p here.side (record l { stage = stage }))
      at Between = omega (arith, between-keeps l)
      at (Begun started c) = omega (arith, struck-keeps started c (record l { stage = Begun started c }))
      at (Answered echo) = echoed-keeps made echo (record l { stage = Between }) stands

  none-sent : (ps : List (Parcel C)) → is_none_left ps ≡ true → weight_sent p ps ≡ 0
  none-sent [] is = refl
  none-sent (q ∷ ps) is = absurd (false≢true is)

  then-keeps : (made n : ℕ) (t : Acted C (Discipline C)) (next : ℕ → Discipline C → Acted C (Discipline C)) → ActedKeeps p here.side t n →
      ActedKeeps p here.side (next (made + made_of t.gone) t.state) (ldterm_weight p here.side t.state) → ActedKeeps p here.side (then_on made t next) n
  then-keeps made n t next first second = at (is_none_left t.sent) refl
    where
      at : (none : Bool) → is_none_left t.sent ≡ none → (let u = next (made + made_of t.gone) t.state in
          ActedKeeps p here.side (cond none (record { state = u.state; notes = t.notes ++ u.notes; sent = u.sent; gone = t.gone ++ u.gone }) t) n)
      at true none =
          let u = next (made + made_of t.gone) t.state in
          omega (arith, none-sent t.sent none, gone-append p t.gone u.gone, made-append p t.gone u.gone)
      at false none = first

  ended-between : (stage : Stage C) (k : ℕ) → 0 + stages_done stage ≡ 3 * k → weight_begun p here.side stage ≡ 0
  ended-between Between k is = refl
  ended-between (Begun started c) k is = absurd (omega arith)
  ended-between (Answered echo) k is = refl

  finished-keeps : (l : Discipline C) → Comes3 cells here 0 l → ActedKeeps p here.side (finished cells here l) (ldterm_weight p here.side l)
  finished-keeps l ready =
      let between : weight_begun p here.side l.stage ≡ 0 = elim ready [ inl idle ↦ ap (λ s. weight_begun p here.side s) idle.0 | inr comes ↦ ended-between l.stage comes.0 comes.1 ] in
      omega (arith, gathered-keeps p cells here l.gathered, back-weighs up l.in_work l.read_queue)

  pub stages-comes-keep : (n made : ℕ) (l : Discipline C) → EchoStands l → Comes3 cells here n l → ActedKeeps p here.side (stages cells here n made l) (ldterm_weight p here.side l)
  stages-comes-keep zero made l stands ready = finished-keeps l ready
  stages-comes-keep (suc more) made l stands ready =
      let t = next_stage cells here made l in
      then-keeps made (ldterm_weight p here.side l) t (stages cells here more) (next-keeps made l stands)
      (stages-comes-keep more (made + made_of t.gone) t.state (next-echo cells here made l stands) (next-comes cells here more made l ready))

  pub stages-keep : (n k made : ℕ) (l : Discipline C) → EchoStands l → n + stages_done l.stage ≡ 3 * k → ActedKeeps p here.side (stages cells here n made l) (ldterm_weight p here.side l)
  stages-keep n k made l stands is = stages-comes-keep n made l stands (inr (k, is))

  pub treats-keep : (bytes made : ℕ) (l : Discipline C) → EchoStands l → stages_done l.stage ≤ 3 * bytes → ActedKeeps p here.side (treats cells here bytes made l).acted (ldterm_weight p here.side l)
  treats-keep bytes made l stands low = stages-keep (3 * bytes - stages_done l.stage) bytes made l stands (omega arith)

  pub input-keeps : (made : ℕ) (stop : Option ℕ) (l : Discipline C) → EchoStands l → (l.in_work ≡ None) × (l.stage ≡ Between) → ActedKeeps p here.side (input_begins cells here stop made l.read_queue.messages l).acted (ldterm_weight p here.side l)
  input-keeps made stop l stands may = at l.read_queue.messages
    where
      nothing : weight_in_work up l.in_work ≡ 0
      nothing = ap (λ w. weight_in_work up w) may.0

      between : stages_done l.stage ≡ 0
      between = ap (λ s. stages_done s) may.1

      at : (ms : List (Message C)) → (let held : Discipline C = record l { read_queue = record l.read_queue { messages = ms } } in ActedKeeps p here.side (input_begins cells here stop made ms held).acted (ldterm_weight p here.side held))
      at [] = omega arith
      at (m ∷ rest) = by (is_data m.kind)
        where
          by : (treated : Bool) → (let held : Discipline C = record l { read_queue = record l.read_queue { messages = m ∷ rest } } in
              ActedKeeps p here.side (cond treated (treats cells here (unwrap_or stop (length (cells_of m))) made (record held { read_queue = left_with rest held.read_queue; in_work = Some m })) (passes cells here Up m rest held)).acted (ldterm_weight p here.side held))
          by true =
              let held : Discipline C = record l { read_queue = record l.read_queue { messages = m ∷ rest } } in
              let begun : Discipline C = record held { read_queue = left_with rest held.read_queue; in_work = Some m } in
              omega (arith, nothing, weight-take up m rest, treats-keep (unwrap_or stop (length (cells_of m))) made begun stands (omega (arith, between)))
          by false = omega (arith, weight-take up m rest, onward-weighs p Up here m)
