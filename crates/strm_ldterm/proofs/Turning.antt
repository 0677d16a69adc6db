-- Stages of a turn on plain bytes, one after the other.
use Rattle.strm_ldterm.proofs.Prelude.{ℕ, zero, suc, ◌≡◌, ◌+◌, Bool, true, false, cond, List, [], ◌∷◌, ◌++◌, refl, sym, ap, ◌∙◌, arith, append-nil}
use Rattle.strm_ldterm.proofs.Prelude.{append_assoc, false≢true}
use Rattle.strm_ldterm.specs.Prelude.{Dir, Spot, plain, cells_made, Acted, next_stage, stage_at, stages, then_on, made_of, Discipline, Stage, Between}
use Rattle.strm_ldterm.specs.Prelude.{Begun, Answered, sends, is_none_left, is_full, echoed, echo_dir, echo_grows, echo_lost, echo_stands}
use Rattle.strm_ldterm.specs.Turns.{ahead, one_after}

abbrev pub Acts : Type 0
Acts = Acted ℕ (Discipline ℕ)

-- cells that are made are the bytes themselves
pub made-plain : (dir : Dir) (n : ℕ) (bytes : List ℕ) → cells_made plain dir n bytes ≡ bytes
made-plain dir n [] = refl
made-plain dir n (b ∷ bytes) = ap (λ rest. b ∷ rest) (made-plain dir (suc n) bytes)

abbrev both : Acts → Acts → Acts
both t u = record { state = u.state; notes = t.notes ++ u.notes; sent = u.sent; gone = t.gone ++ u.gone }

-- the rest may be told with what is the same behind the first
pub after-same : (t : Acts) (f g : Discipline ℕ → Acts) → f t.state ≡ g t.state → one_after t f ≡ one_after t g
after-same t f g same = ap (λ u. cond {A = Acts} (is_none_left t.sent) (both t u) t) same

pub after-assoc : (t : Acts) (f g : Discipline ℕ → Acts) → one_after (one_after t f) g ≡ one_after t (λ p. one_after (f p) g)
after-assoc t f g = outer (is_none_left t.sent) refl
  where
    joined : (u v : Acts) → both (both t u) v ≡ both t (both u v)
    joined u v =
        ap (λ notes. record { state = v.state; notes = notes; sent = v.sent; gone = (t.gone ++ u.gone) ++ v.gone }) (append_assoc t.notes u.notes v.notes)
        ∙ ap (λ gone. record { state = v.state; notes = t.notes ++ (u.notes ++ v.notes); sent = v.sent; gone = gone }) (append_assoc t.gone u.gone v.gone)

    inner : (u : Acts) (none : Bool) → cond none (both (both t u) (g u.state)) (both t u) ≡ both t (cond {A = Acts} none (both u (g u.state)) u)
    inner u true = joined u (g u.state)
    inner u false = refl

    outer : (none : Bool) → is_none_left t.sent ≡ none → one_after (cond {A = Acts} none (both t (f t.state)) t) g ≡ cond {A = Acts} none (both t (one_after (f t.state) g)) t
    outer true is = inner (f t.state) (is_none_left (f t.state).sent)
    outer false is = ap (λ v. cond {A = Acts} v (both t (g t.state)) t) is

module _ (here : Spot) where
  -- the end of a turn after so many stages
  abbrev pub ends : ℕ → Discipline ℕ → Acts
  ends n p = stages plain here n 0 p

  -- how many cells were made before is of no matter to plain bytes
  next-any : (made : ℕ) (p : Discipline ℕ) → next_stage plain here made p ≡ next_stage plain here 0 p
  next-any made p = at p.stage
    where
      echoed-any : (echo : List ℕ) (q : Discipline ℕ) → echoed plain here made echo q ≡ echoed plain here 0 echo q
      echoed-any [] q = refl
      echoed-any (b ∷ bytes) q =
          ap (λ new. cond {A = Acts} (is_full 0 q.write_queue) (echo_lost plain here new q) (cond q.echoing (echo_grows plain here new q) (echo_stands plain here new q)))
          (made-plain (echo_dir plain here) made (b ∷ bytes) ∙ sym (made-plain (echo_dir plain here) 0 (b ∷ bytes)))

      at : (stage : Stage ℕ) → stage_at plain here stage made p ≡ stage_at plain here stage 0 p
      at Between = refl
      at (Begun started c) = refl
      at (Answered echo) = echoed-any echo (record p { stage = Between })

  pub stages-any : (n made : ℕ) (p : Discipline ℕ) → stages plain here n made p ≡ ends n p
  stages-any zero made p = refl
  stages-any (suc n) made p =
      let t = next_stage plain here 0 p in
      ap (λ u. then_on made u (stages plain here n)) (next-any made p)
      ∙ ap (λ u. cond {A = Acts} (is_none_left t.sent) (both t u) t) (stages-any n (made + made_of t.gone) t.state ∙ sym (stages-any n (0 + made_of t.gone) t.state))

  stages-step : (n : ℕ) (p : Discipline ℕ) → ends (suc n) p ≡ one_after (next_stage plain here 0 p) (ends n)
  stages-step n p = let t = next_stage plain here 0 p in ap (λ u. cond {A = Acts} (is_none_left t.sent) (both t u) t) (stages-any n (0 + made_of t.gone) t.state)

  -- several stages and then more of them
  pub ahead-more : (n k : ℕ) (p : Discipline ℕ) → ahead here (n + k) p ≡ one_after (ahead here n p) (ahead here k)
  ahead-more zero k p = let none : 0 + k ≡ k = omega arith in ap (λ m. ahead here m p) none
  ahead-more (suc n) k p =
      let t = next_stage plain here 0 p in
      let one : suc n + k ≡ suc (n + k) = omega arith in
      ap (λ m. ahead here m p) one
      ∙ after-same t (ahead here (n + k)) (λ q. one_after (ahead here n q) (ahead here k)) (ahead-more n k t.state)
      ∙ sym (after-assoc t (ahead here n) (ahead here k))

  pub ends-more : (n k : ℕ) (p : Discipline ℕ) → ends (n + k) p ≡ one_after (ahead here n p) (ends k)
  ends-more zero k p = let none : 0 + k ≡ k = omega arith in ap (λ m. ends m p) none
  ends-more (suc n) k p =
      let t = next_stage plain here 0 p in
      let one : suc n + k ≡ suc (n + k) = omega arith in
      ap (λ m. ends m p) one
      ∙ stages-step (n + k) p
      ∙ after-same t (ends (n + k)) (λ q. one_after (ahead here n q) (ends k)) (ends-more n k t.state)
      ∙ sym (after-assoc t (ahead here n) (ends k))

  -- one stage, and two
  pub ahead-one : (p : Discipline ℕ) → ahead here 1 p ≡ next_stage plain here 0 p
  ahead-one p = at (next_stage plain here 0 p)
    where
      joined : (t : Acts) (none : Bool) → is_none_left t.sent ≡ none → cond {A = Acts} none (both t (sends [] t.state)) t ≡ t
      joined t true is =
          ap (λ notes. record { state = t.state; notes = notes; sent = []; gone = t.gone ++ [] }) (append-nil t.notes)
          ∙ ap (λ gone. record { state = t.state; notes = t.notes; sent = []; gone = gone }) (append-nil t.gone)
          ∙ ap (λ sent. record { state = t.state; notes = t.notes; sent = sent; gone = t.gone }) (empty t.sent is)
        where
          empty : {A : Type 0} (xs : List A) → is_none_left xs ≡ true → [] ≡ xs
          empty [] is = refl
          empty (x ∷ xs) is = absurd (false≢true is)
      joined t false is = refl

      at : (t : Acts) → one_after t (sends []) ≡ t
      at t = joined t (is_none_left t.sent) refl

  pub ahead-two : (p : Discipline ℕ) → ahead here 2 p ≡ one_after (next_stage plain here 0 p) (next_stage plain here 0)
  ahead-two p = let t = next_stage plain here 0 p in after-same t (ahead here 1) (next_stage plain here 0) (ahead-one t.state)
