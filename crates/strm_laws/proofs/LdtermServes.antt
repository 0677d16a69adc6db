-- A call of ldterm's service procedure loses no cell and makes none that it doesn't tell, and is the same where origins are forgotten. Where it is
-- ready for the call, the turn goes on behind it, or nothing of one is under way.
use Rattle.strm_laws.proofs.Prelude.{ℕ, ◌≡◌, Bool, true, false, ap, ◌∙◌, ◌≤◌, ◌-◌, ◌*◌, cond, List, [], ◌∷◌, refl, sym, subst, Option, unwrap_or}
use Rattle.strm_laws.proofs.Prelude.{None, Some, is_some, false≢true, idle-stays, puts-stay}
use Rattle.strm_laws.specs.Prelude.{Dir, Way, Up, Down, Spot, AreCells, Cells, plain, to_treat, treats, input_begins, is_data, passes, stages_done}
use Rattle.strm_laws.specs.Prelude.{ldterm_puts, ldterm_serves, Discipline, IsIdle, Message, output_serves, left_with, Serving}
use Rattle.strm_laws.specs.LdtermOrigins.{map_ldterm, map_serving}
use Rattle.strm_laws.specs.LdtermTurns.{IsItsTurn, IsOrderly}
use Rattle.strm_laws.specs.LdtermWeights.{ActedKeeps, EchoStands, IgnoresMapping, MayServe, ldterm_weight}
use Rattle.strm_laws.proofs.LdtermOrderly.{orderly-echo, puts-orderly, serves-orderly}
use Rattle.strm_laws.proofs.LdtermProgress.{serves-leaves}
use Rattle.strm_laws.proofs.LdtermServesForgets.{input-forgets, to_treat-forgets, treats-forget}
use Rattle.strm_laws.proofs.LdtermStages.{input-keeps, treats-keep}
use Rattle.strm_laws.proofs.OutputServes.{output-forgets, output-keeps}

module _ {C : Type 0} (p : Dir → C → Bool) (cells : Cells C) (ignores : IgnoresMapping cells p) where
  kept-at : (way : Way) (here : Spot) (again : Bool) (made : ℕ) (stop : Option ℕ) (l : Discipline C) → EchoStands l → MayServe way again stop l →
      ActedKeeps p here.side (ldterm_serves cells (record here { way = way }) made again stop l).acted (ldterm_weight p here.side l)
  kept-at Down here again made stop l stands may = output-keeps p cells ignores (record here { way = Down }) stop made l
  kept-at Up here false made stop l stands may = input-keeps p cells (record here { way = Up }) ignores made stop l stands may
  kept-at Up here true made stop l stands may = treats-keep p cells (record here { way = Up }) ignores (unwrap_or stop (to_treat l)) made l stands may

  pub serves-keep : (here : Spot) (made : ℕ) (again : Bool) (stop : Option ℕ) (l : Discipline C) → EchoStands l → MayServe here.way again stop l →
      ActedKeeps p here.side (ldterm_serves cells here made again stop l).acted (ldterm_weight p here.side l)
  serves-keep here made again stop l stands may = kept-at here.way here again made stop l stands may

module _ {C : Type 0} (cells : Cells C) (are : AreCells cells) where
  abbrev f : C → ℕ
  f = cells.byte

  abbrev of_serving : Serving C (Discipline C) → Serving ℕ (Discipline ℕ)
  of_serving t = map_serving f (map_ldterm f) t

  forgets-at : (way : Way) (here : Spot) (again : Bool) (made : ℕ) (stop : Option ℕ) (l : Discipline C) →
      ldterm_serves plain (record here { way = way }) made again stop (map_ldterm f l) ≡ of_serving (ldterm_serves cells (record here { way = way }) made again stop l)
  forgets-at Down here again made stop l = output-forgets cells are (record here { way = Down }) stop made l.write_queue.messages l
  forgets-at Up here false made stop l = input-forgets cells are (record here { way = Up }) made stop l.read_queue.messages l
  forgets-at Up here true made stop l =
      ap (λ n. treats plain (record here { way = Up }) (unwrap_or stop n) made (map_ldterm f l)) (to_treat-forgets f l)
      ∙ treats-forget cells are (record here { way = Up }) (unwrap_or stop (to_treat l)) made l

  pub serves-forget : (here : Spot) (made : ℕ) (again : Bool) (stop : Option ℕ) (l : Discipline C) → ldterm_serves plain here made again stop (map_ldterm f l) ≡ of_serving (ldterm_serves cells here made again stop l)
  serves-forget here made again stop l = forgets-at here.way here again made stop l

-- What a call wants, by its way, where so many bytes are left of the turn: nothing of a turn is under way, or the turn of the
-- read queue goes on, and what has begun is among these bytes.
abbrev pub IsReady : {C : Type 0} → Bool → Way → ℕ → Discipline C → Type 0
IsReady true Up left l = IsOrderly l × (stages_done l.stage ≤ 3 * left)
IsReady true Down left l = IsIdle l
IsReady false way left l = IsIdle l

module _ {C : Type 0} where
  idle-orderly : (l : Discipline C) → IsIdle l → IsOrderly l
  idle-orderly l idle = record { echo = λ e. absurd (false≢true (sym idle.2 ∙ e)); idle = λ none. (idle.3, idle.1, idle.2) }

  ready-orderly : (again : Bool) (way : Way) (left : ℕ) (l : Discipline C) → IsReady again way left l → IsOrderly l
  ready-orderly true Up left l ready = ready.0
  ready-orderly true Down left l ready = idle-orderly l ready
  ready-orderly false way left l ready = idle-orderly l ready

  ready-may : (again : Bool) (way : Way) (left : ℕ) (l : Discipline C) → IsReady again way left l → MayServe way again (Some left) l
  ready-may true Up left l ready = ready.1
  ready-may false Up left l ready = (ready.0, ready.3)
  ready-may again Down left l ready = tt

  ready-turn : (again : Bool) (way : Way) (left : ℕ) (l : Discipline C) → IsReady again way left l → IsItsTurn way again l
  ready-turn true Up left l ready = tt
  ready-turn false Up left l ready = ready.0
  ready-turn true Down left l ready = ready.0
  ready-turn false Down left l ready = ready.0

  down-idle : (again : Bool) (left : ℕ) (l : Discipline C) → IsReady again Down left l → IsIdle l
  down-idle true left l ready = ready
  down-idle false left l ready = ready

  -- a put leaves it so
  pub puts-ready : (again : Bool) (way : Way) (left : ℕ) (here : Spot) (m : Message C) (l : Discipline C) → IsReady again way left l
      → IsReady again way left (ldterm_puts here m l).state
  puts-ready true Up left here m l ready =
      (puts-orderly here m l ready.0, subst (λ stage. stages_done stage ≤ 3 * left) (sym (puts-stay here m l).stage) ready.1)
  puts-ready true Down left here m l ready = idle-stays l (ldterm_puts here m l).state (puts-stay here m l) ready
  puts-ready false way left here m l ready = idle-stays l (ldterm_puts here m l).state (puts-stay here m l) ready

  none-of : (o : Option (Message C)) → is_some o ≡ false → o ≡ None
  none-of None is = refl
  none-of (Some m) is = absurd (false≢true (sym is))

module _ {C : Type 0} (cells : Cells C) where
  output-idle : (here : Spot) (stop : Option ℕ) (made : ℕ) (ms : List (Message C)) (l : Discipline C) → IsIdle l
      → IsIdle (output_serves cells here stop made ms l).acted.state
  output-idle here stop made [] l idle = idle
  output-idle here stop made (m ∷ rest) l idle = idle

  -- a call that wants no other one leaves no message in work
  input-ends : (here : Spot) (made left : ℕ) (ms : List (Message C)) (l : Discipline C) → l.in_work ≡ None
      → let t = input_begins cells here (Some left) made ms l in t.again ≡ false → t.acted.state.in_work ≡ None
  input-ends here made left [] l none over = none
  input-ends here made left (m ∷ rest) l none over = at (is_data m.kind) over
    where
      begun : Discipline C
      begun = record l { read_queue = left_with rest l.read_queue; in_work = Some m }

      at : (treated : Bool) → let t = cond treated (treats cells here left made begun) (passes cells here Up m rest l) in
          t.again ≡ false → t.acted.state.in_work ≡ None
      at true over = none-of (treats cells here left made begun).acted.state.in_work over
      at false over = none

  up-ends : (here : Spot) (again : Bool) (made left : ℕ) (l : Discipline C) → IsReady again Up left l
      → let t = ldterm_serves cells (record here { way = Up }) made again (Some left) l in t.again ≡ false → t.acted.state.in_work ≡ None
  up-ends here true made left l ready over = none-of (treats cells (record here { way = Up }) left made l).acted.state.in_work over
  up-ends here false made left l ready over = input-ends (record here { way = Up }) made left l.read_queue.messages l ready.0 over

  pub rests-at : (way : Way) (here : Spot) (again : Bool) (made left : ℕ) (l : Discipline C) → IsReady again way left l
      → let t = ldterm_serves cells (record here { way = way }) made again (Some left) l in t.again ≡ false → IsIdle t.acted.state
  rests-at Down here again made left l ready over =
      output-idle (record here { way = Down }) (Some left) made l.write_queue.messages l (down-idle again left l ready)
  rests-at Up here again made left l ready over =
      let up : Spot = record here { way = Up } in
      let none = up-ends here again made left l ready over in
      let orderly = serves-orderly cells up made again (Some left) l (ready-orderly again Up left l ready) (ready-turn again Up left l ready) in
      let rest = orderly.idle none in
      (none, rest.1, rest.2, rest.0)

  pub goes-at : (way : Way) (here : Spot) (again : Bool) (made left : ℕ) (l : Discipline C) → IsReady again way left l
      → let t = ldterm_serves cells (record here { way = way }) made again (Some left) l in
      t.again ≡ true → IsReady true way (left - t.bytes) t.acted.state
  goes-at Down here again made left l ready works =
      output-idle (record here { way = Down }) (Some left) made l.write_queue.messages l (down-idle again left l ready)
  goes-at Up here again made left l ready works =
      let up : Spot = record here { way = Up } in (
        serves-orderly cells up made again (Some left) l (ready-orderly again Up left l ready) (ready-turn again Up left l ready),
        serves-leaves cells up made again left l (ready-may again Up left l ready) works,
      )

  pub keeps-at : (p : Dir → C → Bool) → IgnoresMapping cells p → (here : Spot) (again : Bool) (made left : ℕ) (l : Discipline C)
      → IsReady again here.way left l
      → ActedKeeps p here.side (ldterm_serves cells here made again (Some left) l).acted (ldterm_weight p here.side l)
  keeps-at p ignores here again made left l ready =
      serves-keep p cells ignores here made again (Some left) l (orderly-echo l (ready-orderly again here.way left l ready))
      (ready-may again here.way left l ready)
