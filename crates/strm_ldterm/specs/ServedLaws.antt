-- Behind a call of a service procedure nothing of a turn is under way, or it is called again; and a put or a line that is gone leave it
-- so.
use Rattle.std.proofs.Common.{ℕ, zero, suc, ◌≡◌, ◌+◌, ◌-◌, ◌*◌, Bool, true, false, cond, List, [], ◌∷◌, ◌++◌, length, refl, sym, ap, subst, ◌∙◌}
use Rattle.std.proofs.lemmas.Bool.{false≢true}
use Rattle.std.specs.Prelude.{Option, None, Some, is_some, ◌&&◌, option_map, unwrap_or}
use Rattle.strm_types.specs.declared.kinds.MsgKind.TheVariants as kinds
use Rattle.strm_ldterm.specs.Prelude.{Way, Up, Down, Spot, Cells, cells_made, Acted, onward, begins_next, cells_left, input_begins, is_data, left_of}
use Rattle.strm_ldterm.specs.Prelude.{made_of, next_stage, passes, stage_at, stages, stages_done, then_on, to_treat, treats, with_left, restarts}
use Rattle.strm_ldterm.specs.Prelude.{ldterm_puts, ldterm_serves, Discipline, Ldterm, Stage, Between, Begun, Answered, sends, Message, cells_of}
use Rattle.strm_ldterm.specs.Prelude.{output_serves, is_full, is_none_left, left_with, bare, begins, echo_dir, echo_grows, echo_lost, echo_stands}
use Rattle.strm_ldterm.specs.Prelude.{echoed, is_lnext, stroke_at, struck}
use Rattle.strm_types.specs.Ldterms.{IsIdle, lineless}
use Rattle.strm_types.proofs.LdtermPutStays.{Stays, idle-stays, puts-stay}
use Rattle.strm_types.proofs.StrikesStay.{strikes-stay}
use Rattle.strm_ldterm.specs.Served.{IsServed, MayBeServed}

module _ {C : Type 0} where
  served-stays : (way : Way) (again : Bool) (p q : Discipline C) → Stays p q → IsServed way again p → IsServed way again q
  served-stays Up true p q same is = ap is_some same.work ∙ is
  served-stays Up false p q same is = idle-stays p q same is
  served-stays Down true p q same is = idle-stays p q same is
  served-stays Down false p q same is = idle-stays p q same is

  -- a put
  pub puts-served : (here : Spot) (m : Message C) (way : Way) (again : Bool) (p : Discipline C) → IsServed way again p → IsServed way again (ldterm_puts here m p).state
  puts-served here m way again p is = served-stays way again p (ldterm_puts here m p).state (puts-stay here m p) is

  -- a line that is gone
  pub line-served : (way : Way) (again : Bool) (l : Ldterm C) → MayBeServed way again l → MayBeServed way again (lineless l)
  line-served Up true l is = is
  line-served Up false l is = is
  line-served Down true l is = is
  line-served Down false l is = is

  -- what it says of a call that is one more in its turn, and of another one
  pub again-works : (way : Way) (again : Bool) (p : Discipline C) → way ≡ Up → again ≡ true → IsServed way again p → is_some p.in_work ≡ true
  again-works Up true p up more is = is
  again-works Up false p up more is = absurd (false≢true more)
  again-works Down again p up more is = absurd (cc up)

  -- a turn of either queue may begin where none is under way
  pub either-served : (way at : Way) (l : Ldterm C) → MayBeServed way false l → MayBeServed at false l
  either-served Up Up l is = is
  either-served Up Down l is = is
  either-served Down Up l is = is
  either-served Down Down l is = is

  -- no call of a turn of the write queue is one more in it
  pub down-idle : (way : Way) (again : Bool) (p : Discipline C) → way ≡ Down → IsServed way again p → IsIdle p
  down-idle Down true p down is = is
  down-idle Down false p down is = is
  down-idle Up again p down is = absurd (cc down)

  pub first-idle : (way : Way) (again : Bool) (p : Discipline C) → again ≡ false → IsServed way again p → IsIdle p
  first-idle Up false p first is = is
  first-idle Up true p first is = absurd (false≢true (sym first))
  first-idle Down false p first is = is
  first-idle Down true p first is = absurd (false≢true (sym first))

module _ {C : Type 0} (cells : Cells C) (here : Spot) where
  -- a message in work stays one through each stage of a byte
  begins-work : (c : C) (l : Discipline C) → is_some (begins cells here c l).state.in_work ≡ is_some l.in_work
  begins-work c l = at (l.stopped && restarts l.termios (stroke_at cells here c l))
    where
      at : (starts : Bool) → is_some (cond starts (sends (onward Down here (bare kinds.Start []) ∷ []) (record l { stopped = false; stage = Begun true c })) (sends [] (record l { stage = Begun false c }))).state.in_work ≡ is_some l.in_work
      at true = refl
      at false = refl

  left-work : (rest : List C) (o : Option (Message C)) → is_some (option_map (left_of rest) o) ≡ is_some o
  left-work rest None = refl
  left-work rest (Some m) = refl

  pub between-work : (xs : List C) (l : Discipline C) → is_some (begins_next cells here xs l).state.in_work ≡ is_some l.in_work
  between-work [] l = refl
  between-work (c ∷ rest) l = begins-work c (with_left rest l) ∙ left-work rest l.in_work

  pub struck-work : (started : Bool) (c : C) (l : Discipline C) → is_some (struck cells here started c l).state.in_work ≡ is_some l.in_work
  struck-work started c l =
      let stroke = stroke_at cells here c l in
      ap is_some (strikes-stay cells here (λ p. p.in_work ≡ l.in_work) (λ p stopped line gathered holds. holds) stroke.key (cells.mapped stroke.byte c) (record l { after_lnext = is_lnext stroke.key }) refl)

  echoed-work : (made : ℕ) (echo : List ℕ) (l : Discipline C) → is_some (echoed cells here made echo l).state.in_work ≡ is_some l.in_work
  echoed-work made [] l = refl
  echoed-work made (b ∷ bytes) l = at (is_full 0 l.write_queue) l.echoing
    where
      at : (full echoing : Bool) → (let new = cells_made cells (echo_dir cells here) made (b ∷ bytes) in
          is_some (cond full (echo_lost cells here new l) (cond echoing (echo_grows cells here new l) (echo_stands cells here new l))).state.in_work ≡ is_some l.in_work)
      at true echoing = refl
      at false true = refl
      at false false = refl

  next-work : (made : ℕ) (l : Discipline C) → is_some (next_stage cells here made l).state.in_work ≡ is_some l.in_work
  next-work made l = at l.stage
    where
      at : (stage : Stage C) → is_some (stage_at cells here stage made l).state.in_work ≡ is_some l.in_work
      at Between = between-work (cells_left l) l
      at (Begun started c) = struck-work started c l
      at (Answered echo) = echoed-work made echo (record l { stage = Between })

  -- up to the end of the turn, or to what is sent before
  then-served : (made : ℕ) (t : Acted C (Discipline C)) (next : ℕ → Discipline C → Acted C (Discipline C)) → is_some t.state.in_work ≡ true → (let u = next (made + made_of t.gone) t.state in IsServed Up (is_some u.state.in_work) u.state)
      → (let u = then_on made t next in IsServed Up (is_some u.state.in_work) u.state)
  then-served made t next work rest = at (is_none_left t.sent)
    where
      at : (none : Bool) → (let u = next (made + made_of t.gone) t.state in
          let v = cond {A = Acted C (Discipline C)} none (record { state = u.state; notes = t.notes ++ u.notes; sent = u.sent; gone = t.gone ++ u.gone }) t in IsServed Up (is_some v.state.in_work) v.state)
      at true = rest
      at false = subst (λ b. IsServed Up b t.state) (sym work) work

  stages-served : (n made : ℕ) (l : Discipline C) → is_some l.in_work ≡ true → (let u = stages cells here n made l in IsServed Up (is_some u.state.in_work) u.state)
  stages-served zero made l work = (refl, refl, refl, refl)
  stages-served (suc more) made l work =
      let t = next_stage cells here made l in
      let still = next-work made l ∙ work in
      then-served made t (stages cells here more) still (stages-served more (made + made_of t.gone) t.state still)

  output-served : (made : ℕ) (stop : Option ℕ) (ms : List (Message C)) (l : Discipline C) → IsIdle l → (let t = output_serves cells here stop made ms l in IsServed Down t.again t.acted.state)
  output-served made stop [] l idle = idle
  output-served made stop (m ∷ rest) l idle = idle

  input-served : (made : ℕ) (stop : Option ℕ) (ms : List (Message C)) (l : Discipline C) → IsIdle l → (let t = input_begins cells here stop made ms l in IsServed Up t.again t.acted.state)
  input-served made stop [] l idle = idle
  input-served made stop (m ∷ rest) l idle = at (is_data m.kind)
    where
      at : (treated : Bool) → (let t = cond treated (treats cells here (unwrap_or stop (length (cells_of m))) made (record l { read_queue = left_with rest l.read_queue; in_work = Some m })) (passes cells here Up m rest l) in
          IsServed Up t.again t.acted.state)
      at true = stages-served (3 * unwrap_or stop (length (cells_of m)) - stages_done l.stage) made (record l { read_queue = left_with rest l.read_queue; in_work = Some m }) refl
      at false = idle

module _ {C : Type 0} (cells : Cells C) where
  serves-at : (way : Way) (here : Spot) (made : ℕ) (again : Bool) (stop : Option ℕ) (l : Discipline C) → IsServed way again l → (let t = ldterm_serves cells (record here { way = way }) made again stop l in IsServed way t.again t.acted.state)
  serves-at Down here made true stop l is = output-served cells (record here { way = Down }) made stop l.write_queue.messages l is
  serves-at Down here made false stop l is = output-served cells (record here { way = Down }) made stop l.write_queue.messages l is
  serves-at Up here made false stop l is = input-served cells (record here { way = Up }) made stop l.read_queue.messages l is
  serves-at Up here made true stop l is = stages-served cells (record here { way = Up }) (3 * unwrap_or stop (to_treat l) - stages_done l.stage) made l is

  -- a call, wherever it stops
  pub serves-served : (here : Spot) (made : ℕ) (again : Bool) (stop : Option ℕ) (l : Discipline C) → IsServed here.way again l → (let t = ldterm_serves cells here made again stop l in IsServed here.way t.again t.acted.state)
  serves-served here made again stop l is = serves-at here.way here made again stop l is
