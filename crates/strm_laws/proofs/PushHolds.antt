-- What holds of a pair whatever modules stand on a side, or whichever of a kind, holds behind a push and a pop.
use Rattle.strm_laws.proofs.Prelude.{Bool, true, false, List, [], ◌∷◌, Option, None, Some}
use Rattle.strm_laws.specs.Prelude.{ReadMode, QueueName, Side, Up, Rule, ModulePopped, Message, has_queues, without_module, place_of, mode_message}
use Rattle.strm_laws.specs.Earlier.{before_at}
use Rattle.strm_laws.specs.Pushes.{all_taken, below_top, enable_waiting, head_above, ioctl_dropped, let_come, mode_behind, mode_on_push, mode_put, modules_emptied, popped, pushed, pushed_named, taken_off, top_on, top_taken, with_modules}
use Rattle.strm_laws.specs.Puts.{earlier_at, noted, put_at_head}
use Rattle.strm_laws.specs.Stacked.{Standing, module_name}
use Rattle.strm_laws.specs.State.{State, stream}
use Rattle.strm_laws.proofs.PushForgets.{clears}

-- It holds where other queues are enabled, where other modules of a kind stand on the side, behind what comes to its head, and where an ioctl ends with
-- what is let go; and
-- those on the side are of that kind, and so are those below the one on top.
pub record Survives {C : Type 0} (side : Side) (Holds : State C → Type 0) (Good : List (Standing C) → Type 0) : Type 0 where
  pub named : (names : List QueueName) (s : State C) → Holds s → Holds (record s { enabled = names })
  pub apart : (ps : List (Standing C)) (s : State C) → Good ps → Holds s → Holds (with_modules side ps s)
  pub given : (mode : ReadMode) (s : State C) → Holds s → Holds (put_at_head side (head_above side) (mode_message mode false) s).state
  pub good : (s : State C) → Holds s → Good (stream side s).modules
  pub dropped : (ms : List (Message C)) (s : State C) → Holds s → Holds (ioctl_dropped side ms s)
  pub below : (p : Standing C) (ps : List (Standing C)) → Good (p ∷ ps) → Good ps

module _ {C : Type 0} (side : Side) (Holds : State C → Type 0) (Good : List (Standing C) → Type 0) (survives : Survives side Holds Good) where
  mode_put-holds : (mode : Option ReadMode) (s : State C) → Holds s → Holds (mode_put side mode s).state
  mode_put-holds None s holds = holds
  mode_put-holds (Some mode) s holds = survives.given mode s holds

  let_come-holds : (reads : Bool) (s : State C) → Holds s → Holds (let_come reads side s)
  let_come-holds false s holds = holds
  let_come-holds true s holds = survives.named (enable_waiting (before_at side Up 1 s) s) s holds

  -- a push
  pub pushed-holds : (p : Standing C) (s : State C) → Good (p ∷ (stream side s).modules) → Holds s → Holds (pushed side p s).state
  pushed-holds p s good holds =
      let on = with_modules side (p ∷ (stream side s).modules) s in
      let mode = mode_on_push (module_name p) in
      let_come-holds (has_queues p) (mode_put side mode on).state (mode_put-holds mode on (survives.apart (p ∷ (stream side s).modules) s good holds))

  pub push-holds : (p : Option (Standing C)) (s : State C) → ((q : Standing C) → Good (q ∷ (stream side s).modules)) → Holds s → Holds (pushed_named side p s).state
  push-holds None s good holds = holds
  push-holds (Some p) s good holds = pushed-holds p s (good p) holds

  -- the module on top, and all of them
  top_taken-holds : (rule : Rule) (ps : List (Standing C)) (s : State C) → Good ps → Holds s → Holds (top_taken rule side ps s).state
  top_taken-holds rule [] s good holds = holds
  top_taken-holds rule (p ∷ ps) s good holds =
      survives.named (without_module side (module_name p) (noted side (place_of (module_name p)) (earlier_at side 1 s) (clears side rule p).notes s.enabled)) (with_modules side ps s)
      (survives.apart ps s (survives.below p ps good) holds)

  all_taken-holds : (rule : Rule) (ps : List (Standing C)) (s : State C) → Good ps → Holds s → Holds (all_taken rule side ps s).state
  all_taken-holds rule [] s good holds = holds
  all_taken-holds rule (p ∷ ps) s good holds =
      all_taken-holds rule ps (top_taken rule side (p ∷ ps) s).state (survives.below p ps good) (top_taken-holds rule (p ∷ ps) s good holds)

  pub modules_emptied-holds : (rule : Rule) (s : State C) → Holds s → Holds (modules_emptied rule side s).state
  modules_emptied-holds rule s holds = all_taken-holds rule (stream side s).modules s (survives.good s holds) holds

  -- a pop
  pub pop-holds : (s : State C) → Holds s → Holds (popped side s).state
  pop-holds s holds =
      let ps = (stream side s).modules in
      survives.dropped (below_top ps) (taken_off side s).state
      (mode_put-holds (mode_behind (top_on side s)) (top_taken ModulePopped side ps s).state (top_taken-holds ModulePopped ps s (survives.good s holds) holds))
