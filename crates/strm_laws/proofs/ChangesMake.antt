-- Neither a push nor a pop, a close, a read or a get makes a cell.
use Rattle.strm_laws.proofs.Prelude.{ℕ, ◌≡◌, Bool, true, false, cond, List, [], ◌∷◌, ◌++◌, refl, arith, Option, None, Some}
use Rattle.strm_laws.specs.Prelude.{ControlMode, ReadMode, Wanted, Dir, Side, Master, Slave, Rule, EndClosed, ModulePopped, Fate, of_all, get_gone}
use Rattle.strm_laws.specs.Prelude.{gets_none, Message, mode_message, read_gone, takes_none}
use Rattle.strm_laws.specs.Closes.{and_then, closed_at, driver_emptied, head_emptied, stream_emptied}
use Rattle.strm_laws.specs.Places.{weight_made}
use Rattle.strm_laws.specs.Pushes.{all_taken, head_above, modules_emptied, mode_behind, mode_on_push, mode_put, popped, pushed_named, top_on, top_taken, with_modules}
use Rattle.strm_laws.specs.Stacked.{Standing, module_name}
use Rattle.strm_laws.specs.State.{State, stream}
use Rattle.strm_laws.proofs.DeliveryKeeps.{made-append}
use Rattle.strm_laws.proofs.PushKeeps.{clears-make-none}
use Rattle.strm_laws.proofs.PutsBook.{head-none}

module _ {C : Type 0} (p : Dir → C → Bool) where
  -- nothing is told as made
  abbrev None-made : List (Fate C) → Type 0
  None-made told = weight_made p told ≡ 0

  both-none : (one two : List (Fate C)) → None-made one → None-made two → None-made (one ++ two)
  both-none one two first second = omega (arith, made-append p one two, first, second)

  either-none : (b : Bool) (one another : List (Fate C)) → None-made one → None-made another → None-made (cond b one another)
  either-none true one another first second = first
  either-none false one another first second = second

  -- a push, a pop and a close
  mode-none : (side : Side) (mode : Option ReadMode) (s : State C) → None-made (mode_put side mode s).gone
  mode-none side None s = refl
  mode-none side (Some mode) s = head-none p side (head_above side) (mode_message mode false) s

  pub push-none : (side : Side) (q : Option (Standing C)) (s : State C) → None-made (pushed_named side q s).gone
  push-none side None s = refl
  push-none side (Some q) s = mode-none side (mode_on_push (module_name q)) (with_modules side (q ∷ (stream side s).modules) s)

  top-none : (rule : Rule) (side : Side) (ps : List (Standing C)) (s : State C) → None-made (top_taken rule side ps s).gone
  top-none rule side [] s = refl
  top-none rule side (q ∷ ps) s = clears-make-none p side rule q

  all-none : (rule : Rule) (side : Side) (ps : List (Standing C)) (s : State C) → None-made (all_taken rule side ps s).gone
  all-none rule side [] s = refl
  all-none rule side (q ∷ ps) s =
      let t = top_taken rule side (q ∷ ps) s in
      both-none t.gone (all_taken rule side ps t.state).gone (top-none rule side (q ∷ ps) s) (all-none rule side ps t.state)

  pub pop-none : (side : Side) (s : State C) → None-made (popped side s).gone
  pop-none side s =
      let t = top_taken ModulePopped side (stream side s).modules s in
      let u = mode_put side (mode_behind (top_on side s)) t.state in
      both-none t.gone u.gone (top-none ModulePopped side (stream side s).modules s) (mode-none side (mode_behind (top_on side s)) t.state)

  emptied-none : (side : Side) (s : State C) → None-made (stream_emptied side s).gone
  emptied-none side s =
      let t = head_emptied EndClosed of_all side s in
      both-none t.gone (modules_emptied EndClosed side t.state).gone refl (all-none EndClosed side (stream side t.state).modules t.state)

  pub close-none : (side : Side) (s : State C) → None-made (closed_at side s).gone
  close-none Slave s = emptied-none Slave s
  close-none Master s =
      let heads = stream_emptied Master s in
      let one = and_then heads (driver_emptied EndClosed of_all Master) in
      both-none one.gone (driver_emptied EndClosed of_all Slave one.state).gone
      (both-none heads.gone (driver_emptied EndClosed of_all Master heads.state).gone (emptied-none Master s) refl) refl

  -- nor do a read and a get
  pub read-none : (dir : Dir) (read : ReadMode) (control : ControlMode) (n : ℕ) (ms : List (Message C)) → None-made (read_gone dir read control n ms)
  read-none dir read control n ms = either-none (takes_none control n ms) [] _ refl refl

  pub get-none : (dir : Dir) (wanted : Wanted) (cmax dmax : ℕ) (ms : List (Message C)) → None-made (get_gone dir wanted cmax dmax ms)
  get-none dir wanted cmax dmax ms = either-none (gets_none wanted ms) [] _ refl refl
