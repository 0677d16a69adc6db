-- Forgetting the origins of cells commutes with turns of ldterm.
use Rattle.strm_laws.proofs.Prelude.{ℕ, zero, suc, ◌≡◌, ◌+◌, ◌-◌, ◌*◌, Bool, true, false, cond, List, [], ◌∷◌, ◌++◌, length, map, refl, sym, ap, ◌∙◌}
use Rattle.strm_laws.proofs.Prelude.{Option, None, Some, option_map, is_some, unwrap_or, length-map, map-append}
use Rattle.strm_laws.specs.Prelude.{Way, Up, Down, Spot, Cells, AreCells, plain, Acted, Fate, Goes, Comes, back_on, begins_next, cells_left, finished}
use Rattle.strm_laws.specs.Prelude.{input_begins, is_data, left_of, made_of, next_stage, passes, stage_at, stages, stages_done, then_on, to_treat}
use Rattle.strm_laws.specs.Prelude.{treats, with_left, Discipline, Stage, Between, Begun, Answered, Message, cells_of, map_message, map_fate}
use Rattle.strm_laws.specs.Prelude.{map_parcel, Queue, is_none_left, left_with, map_messages, map_queue, put_back, Serving, begins}
use Rattle.strm_laws.specs.LdtermOrigins.{map_ldterm, map_serving, map_stage}
use Rattle.strm_laws.proofs.Forgetting.{cells-forget, kind-forgets, none-forgets, put_back-forgets, size-forgets}
use Rattle.strm_laws.proofs.LdtermPutForgets.{image}
use Rattle.strm_laws.proofs.LdtermTypingForgets.{begins-forget, echoed-forgets, gathered-forget, struck-forgets}

-- what is told of two things, of which the first one sends nothing
abbrev joined_made : {E : Type 0} → Acted E (Discipline E) → Acted E (Discipline E) → Acted E (Discipline E)
joined_made t u = record { state = u.state; notes = t.notes ++ u.notes; sent = u.sent; gone = t.gone ++ u.gone }

module _ {C D : Type 0} (f : C → D) where
  pub left_of-forgets : (rest : List C) (m : Message C) → left_of (map f rest) (map_message f m) ≡ map_message f (left_of rest m)
  unfolding map_message
  left_of-forgets rest m = refl

  with_left-forgets : (rest : List C) (l : Discipline C) → with_left (map f rest) (map_ldterm f l) ≡ map_ldterm f (with_left rest l)
  with_left-forgets rest l = ap (λ work. record (map_ldterm f l) { in_work = work }) (at l.in_work)
    where
      at : (work : Option (Message C)) → option_map (left_of (map f rest)) (option_map (map_message f) work) ≡ option_map (map_message f) (option_map (left_of rest) work)
      at None = refl
      at (Some m) = ap (λ n. Some n) (left_of-forgets rest m)

  left-forget : (l : Discipline C) → cells_left (map_ldterm f l) ≡ map f (cells_left l)
  left-forget l = at l.in_work
    where
      at : (work : Option (Message C)) → cells_left (map_ldterm f (record l { in_work = work })) ≡ map f (cells_left (record l { in_work = work }))
      at None = refl
      at (Some m) = cells-forget f m

  pub to_treat-forgets : (l : Discipline C) → to_treat (map_ldterm f l) ≡ to_treat l
  to_treat-forgets l = at l.stage
    where
      lengths : length (cells_left (map_ldterm f l)) ≡ length (cells_left l)
      lengths = ap length (left-forget l) ∙ length-map (cells_left l) f

      at : (stage : Stage C) → to_treat (map_ldterm f (record l { stage = stage })) ≡ to_treat (record l { stage = stage })
      at Between = ap (λ n. n + 0) lengths
      at (Begun started c) = ap (λ n. n + 1) lengths
      at (Answered echo) = ap (λ n. n + 1) lengths

  done-forgets : (stage : Stage C) → stages_done (map_stage f stage) ≡ stages_done stage
  done-forgets Between = refl
  done-forgets (Begun started c) = refl
  done-forgets (Answered echo) = refl

  made_of-forgets : (told : List (Fate C)) → made_of (map (map_fate f) told) ≡ made_of told
  made_of-forgets [] = refl
  made_of-forgets (Comes dir cells ∷ told) = ap (λ n. n + made_of (map (map_fate f) told)) (length-map cells f) ∙ ap (λ n. length cells + n) (made_of-forgets told)
  made_of-forgets (Goes dir rule cells ∷ told) = made_of-forgets told

  then_on-forgets : (made : ℕ) (t : Acted C (Discipline C)) (next : ℕ → Discipline C → Acted C (Discipline C)) (next' : ℕ → Discipline D → Acted D (Discipline D)) →
      ((n : ℕ) → next' n (map_ldterm f t.state) ≡ image f (next n t.state)) → then_on made (image f t) next' ≡ image f (then_on made t next)
  then_on-forgets made t next next' agree =
      rw (none-forgets f (map_parcel f) t.sent, made_of-forgets t.gone, agree (made + made_of t.gone)) (at (is_none_left t.sent))
    where
      at : (none : Bool) → (let u = next (made + made_of t.gone) t.state in
          cond none (joined_made (image f t) (image f u)) (image f t) ≡ image f (cond none (joined_made t u) t))
      at true = let u = next (made + made_of t.gone) t.state in
          ap (λ gone. record (joined_made (image f t) (image f u)) { gone = gone }) (sym (map-append (map_fate f) t.gone u.gone))
      at false = refl

  pub back_on-forgets : (work : Option (Message C)) (q : Queue C) → back_on (option_map (map_message f) work) (map_queue f q) ≡ map_queue f (back_on work q)
  back_on-forgets None q = refl
  back_on-forgets (Some m) q =
      rw (cells-forget f m, none-forgets f f (cells_of m)) (at (is_none_left (cells_of m)))
    where
      at : (none : Bool) → cond none (map_queue f q) (record (map_queue f q) { messages = put_back (map_message f m) (map_messages f q.messages) }) ≡ map_queue f (cond none q (record q { messages = put_back m q.messages }))
      at true = refl
      at false = ap (λ ms. record (map_queue f q) { messages = ms }) (sym (put_back-forgets f m q.messages))

module _ {C : Type 0} (cells : Cells C) (are : AreCells cells) where
  abbrev f : C → ℕ
  f = cells.byte

  abbrev of_serving : Serving C (Discipline C) → Serving ℕ (Discipline ℕ)
  of_serving t = map_serving f (map_ldterm f) t

  module _ (here : Spot) where
    next-begins-forgets : (left : List C) (l : Discipline C) → begins_next plain here (map f left) (map_ldterm f l) ≡ image f (begins_next cells here left l)
    next-begins-forgets [] l = refl
    next-begins-forgets (c ∷ rest) l = ap (λ p. begins plain here (f c) p) (with_left-forgets f rest l) ∙ begins-forget cells are here c (with_left rest l)

    next-forgets : (made : ℕ) (l : Discipline C) → next_stage plain here made (map_ldterm f l) ≡ image f (next_stage cells here made l)
    next-forgets made l = at l.stage
      where
        at : (stage : Stage C) → stage_at plain here (map_stage f stage) made (map_ldterm f l) ≡ image f (stage_at cells here stage made l)
        at Between = ap (λ left. begins_next plain here left (map_ldterm f l)) (left-forget f l) ∙ next-begins-forgets (cells_left l) l
        at (Begun started c) = struck-forgets cells are here started c l
        at (Answered echo) = echoed-forgets cells are here made echo (record l { stage = Between })

    finished-forgets : (l : Discipline C) → finished plain here (map_ldterm f l) ≡ image f (finished cells here l)
    finished-forgets l =
        rw (gathered-forget cells are here l.gathered, back_on-forgets f l.in_work l.read_queue) refl

    stages-forget : (n made : ℕ) (l : Discipline C) → stages plain here n made (map_ldterm f l) ≡ image f (stages cells here n made l)
    stages-forget zero made l = finished-forgets l
    stages-forget (suc more) made l =
        ap (λ t. then_on made t (stages plain here more)) (next-forgets made l)
        ∙ then_on-forgets f made (next_stage cells here made l) (stages cells here more) (stages plain here more) (λ n. stages-forget more n (next_stage cells here made l).state)

    work-forgets : (work : Option (Message C)) → is_some (option_map (map_message f) work) ≡ is_some work
    work-forgets None = refl
    work-forgets (Some m) = refl

    pub treats-forget : (bytes made : ℕ) (l : Discipline C) → treats plain here bytes made (map_ldterm f l) ≡ of_serving (treats cells here bytes made l)
    treats-forget bytes made l =
        let t = stages cells here (3 * bytes - stages_done l.stage) made l in
        rw (done-forgets f l.stage, stages-forget (3 * bytes - stages_done l.stage) made l, work-forgets t.state.in_work, to_treat-forgets f l, to_treat-forgets f t.state) refl

    passes-forget : (way : Way) (m : Message C) (rest : List (Message C)) (l : Discipline C) → passes plain here way (map_message f m) (map_messages f rest) (map_ldterm f l) ≡ of_serving (passes cells here way m rest l)
    passes-forget Up m rest l = ap (λ n. record { acted = image f (passes cells here Up m rest l).acted; bytes = n; again = false }) (size-forgets f m)
    passes-forget Down m rest l = ap (λ n. record { acted = image f (passes cells here Down m rest l).acted; bytes = n; again = false }) (size-forgets f m)

    pub input-forgets : (made : ℕ) (stop : Option ℕ) (ms : List (Message C)) (l : Discipline C) → input_begins plain here stop made (map_messages f ms) (map_ldterm f l) ≡ of_serving (input_begins cells here stop made ms l)
    input-forgets made stop [] l = refl
    input-forgets made stop (m ∷ rest) l =
        let begun : Discipline C = record l { read_queue = left_with rest l.read_queue; in_work = Some m } in
        ap (λ kind. cond (is_data kind) (treats plain here (unwrap_or stop (length (cells_of (map_message f m)))) made (map_ldterm f begun)) (passes plain here Up (map_message f m) (map_messages f rest) (map_ldterm f l))) (kind-forgets f m)
        ∙ ap (λ n. cond (is_data m.kind) (treats plain here (unwrap_or stop n) made (map_ldterm f begun)) (passes plain here Up (map_message f m) (map_messages f rest) (map_ldterm f l))) (ap length (cells-forget f m) ∙ length-map (cells_of m) f)
        ∙ at (is_data m.kind)
      where
        at : (treated : Bool) → (let begun : Discipline C = record l { read_queue = left_with rest l.read_queue; in_work = Some m } in
            cond treated (treats plain here (unwrap_or stop (length (cells_of m))) made (map_ldterm f begun)) (passes plain here Up (map_message f m) (map_messages f rest) (map_ldterm f l))
            ≡ of_serving (cond treated (treats cells here (unwrap_or stop (length (cells_of m))) made begun) (passes cells here Up m rest l)))
        at true = treats-forget (unwrap_or stop (length (cells_of m))) made (record l { read_queue = left_with rest l.read_queue; in_work = Some m })
        at false = passes-forget Up m rest l
