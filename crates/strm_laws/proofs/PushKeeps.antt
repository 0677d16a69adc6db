-- No push and no pop loses a byte, or makes one: what a module has that is taken off goes by a rule.
use Rattle.strm_laws.proofs.Prelude.{ℕ, ◌≡◌, ◌+◌, Bool, true, false, cond, List, [], ◌∷◌, ◌++◌, refl, ap, arith, Option, None, Some, count_by}
use Rattle.strm_laws.proofs.Prelude.{sum_by-cons}
use Rattle.strm_laws.specs.Prelude.{ReadMode, ModuleName, Side, Master, Slave, Way, Up, Down, Rule, ModulePopped, Dir, Carried, Took, of_all}
use Rattle.strm_laws.specs.Prelude.{cells_gone, Message, QueuePair, has_queues, direction_at, is_open, mode_message, Queue, weight, line_gone}
use Rattle.strm_laws.specs.Prelude.{queues_cleared}
use Rattle.std.specs.List.{AllByRecursion}
use Rattle.strm_laws.specs.Behaviours.{Behaviour}
use Rattle.strm_laws.specs.Kept.{state_weight}
use Rattle.strm_laws.specs.Places.{weight_gone, weight_made, weight_sent}
use Rattle.strm_laws.specs.Pushes.{all_taken, below_top, head_above, ioctl_dropped, let_come, mode_behind, mode_on_push, mode_put, module_named, modules_emptied, named_by, popped, pushed, pushed_named, taken_off, top_on, top_taken, with_modules}
use Rattle.strm_laws.specs.Puts.{put_at_head}
use Rattle.strm_laws.specs.Stacked.{Standing, IsAtRest, module_line, module_name, module_weight, modules_weight, queues_weight}
use Rattle.strm_laws.specs.State.{State, stream}
use Rattle.strm_laws.proofs.PutsKeep.{head-keeps}
use Rattle.strm_laws.proofs.DeliveryKeeps.{gone-append, made-append}
use Rattle.strm_laws.proofs.EmptiedKeeps.{behind-all, behind-keeps}
use Rattle.strm_laws.proofs.LdtermKeeps.{lost-gone, lost-made}
use Rattle.strm_laws.proofs.PushForgets.{clears}
use Rattle.strm_laws.proofs.PutWeights.{weight-mode}
use Rattle.strm_laws.proofs.LawfulKinds.{lawful, named-each, new}

module _ {C : Type 0} (p : Dir → C → Bool) where
  -- what a pair comes to that had so many cells
  abbrev Keeps : Carried C (State C) → ℕ → Type 0
  Keeps t n = state_weight p t.state + weight_gone p t.gone ≡ n + weight_made p t.gone

  -- a module of which nothing of a turn is under way lets go all that it has, and makes nothing
  all-goes : (t : C → Bool) (q : Queue C) → count_by t (cells_gone of_all q.messages) ≡ weight t q.messages
  all-goes t q = omega (arith, behind-keeps t of_all q, behind-all t q)

  queues-go : (side : Side) (rule : Rule) (queues : Option (QueuePair C)) → let t = queues_cleared side rule Up queues in
      weight_gone p t.gone + weight_gone p (queues_cleared side rule Down t.state).gone ≡ queues_weight p side queues
  queues-go side rule None = refl
  queues-go side rule (Some pair) = omega (arith, all-goes (p (direction_at Up side)) pair.read, all-goes (p (direction_at Down side)) pair.write)

  queues-make-none : (side : Side) (rule : Rule) (way : Way) (queues : Option (QueuePair C)) → weight_made p (queues_cleared side rule way queues).gone ≡ 0
  queues-make-none side rule way None = refl
  queues-make-none side rule way (Some pair) = refl

  clears-keeps : (side : Side) (rule : Rule) (q : Standing C) → IsAtRest q → weight_gone p (clears side rule q).gone ≡ module_weight p side q
  clears-keeps side rule q idle =
      let above = queues_cleared side rule Up q.queues in
      let line = line_gone side rule (module_line q) in
      let below = queues_cleared side rule Down above.state in
      omega (
        arith,
        (lawful q).weighs p side idle,
        lost-gone p side rule (module_line q),
        queues-go side rule q.queues,
        gone-append p line below.gone,
        gone-append p above.gone (line ++ below.gone),
      )

  pub clears-make-none : (side : Side) (rule : Rule) (q : Standing C) → weight_made p (clears side rule q).gone ≡ 0
  clears-make-none side rule q =
      let above = queues_cleared side rule Up q.queues in
      let line = line_gone side rule (module_line q) in
      let below = queues_cleared side rule Down above.state in
      omega (
        arith,
        lost-made p side rule (module_line q),
        queues-make-none side rule Up q.queues,
        queues-make-none side rule Down above.state,
        made-append p line below.gone,
        made-append p above.gone (line ++ below.gone),
      )

  -- a pair with other modules on a side
  modules-weigh : (side : Side) (ps : List (Standing C)) (s : State C) → state_weight p (with_modules side ps s) + modules_weight p side (stream side s).modules ≡ state_weight p s + modules_weight p side ps
  modules-weigh Master ps s = omega arith
  modules-weigh Slave ps s = omega arith

  -- the module on top, and all of them
  pub top_taken-keeps : (rule : Rule) (side : Side) (ps : List (Standing C)) (s : State C) → (stream side s).modules ≡ ps → AllByRecursion (λ l. IsAtRest l) ps → Keeps (top_taken rule side ps s) (state_weight p s)
  top_taken-keeps rule side [] s are idle = refl
  top_taken-keeps rule side (l ∷ ls) s are idle =
      let there = ap (λ ps. modules_weight p side ps) are in
      let cons = sum_by-cons (module_weight p side) l ls in
      let goes = clears-keeps side rule l idle.0 in
      let makes = clears-make-none side rule l in
      let apart = modules-weigh side ls s in
      omega arith

  taken-are : (rule : Rule) (side : Side) (l : Standing C) (ls : List (Standing C)) (s : State C) → (stream side (top_taken rule side (l ∷ ls) s).state).modules ≡ ls
  taken-are rule Master l ls s = refl
  taken-are rule Slave l ls s = refl

  all_taken-keeps : (rule : Rule) (side : Side) (ps : List (Standing C)) (s : State C) → (stream side s).modules ≡ ps → AllByRecursion (λ l. IsAtRest l) ps → Keeps (all_taken rule side ps s) (state_weight p s)
  all_taken-keeps rule side [] s are idle = refl
  all_taken-keeps rule side (l ∷ ls) s are idle =
      let t = top_taken rule side (l ∷ ls) s in
      let u = all_taken rule side ls t.state in
      let first = top_taken-keeps rule side (l ∷ ls) s are idle in
      let rest = all_taken-keeps rule side ls t.state (taken-are rule side l ls s) idle.1 in
      let gone = gone-append p t.gone u.gone in
      let made = made-append p t.gone u.gone in
      omega arith

  pub modules_emptied-keeps : (rule : Rule) (side : Side) (s : State C) → AllByRecursion (λ l. IsAtRest l) (stream side s).modules → Keeps (modules_emptied rule side s) (state_weight p s)
  modules_emptied-keeps rule side s idle = all_taken-keeps rule side (stream side s).modules s refl idle

  -- the head's read mode
  mode_put-keeps : (side : Side) (mode : Option ReadMode) (s : State C) → Keeps (mode_put side mode s) (state_weight p s)
  mode_put-keeps side None s = refl
  mode_put-keeps side (Some mode) s = omega (arith, head-keeps p side (head_above side) (mode_message mode false) s, quiet, weight-mode (p (direction_at Up side)) mode false)
    where
      none-sent : (b : Bool) (one another : Took C (State C)) → one.sent ≡ [] → another.sent ≡ [] → weight_sent p (cond b one another).sent ≡ 0
      none-sent true one another first second = ap (λ ps. weight_sent p ps) first
      none-sent false one another first second = ap (λ ps. weight_sent p ps) second

      -- a head sends nothing of it
      quiet : weight_sent p (put_at_head side (head_above side) (mode_message mode false) s).sent ≡ 0
      quiet = none-sent (is_open (stream side s).opened) _ _ refl refl

  -- a push
  come-keeps : (reads : Bool) (side : Side) (s : State C) → state_weight p (let_come reads side s) ≡ state_weight p s
  come-keeps false side s = refl
  come-keeps true side s = refl

  pushed-keeps : (side : Side) (l : Standing C) (s : State C) → Keeps (pushed side l s) (state_weight p s + module_weight p side l)
  pushed-keeps side l s =
      let on = with_modules side (l ∷ (stream side s).modules) s in
      let told = mode_put side (mode_on_push (module_name l)) on in
      let comes = come-keeps (has_queues l) side told.state in
      let first = mode_put-keeps side (mode_on_push (module_name l)) on in
      let cons = sum_by-cons (module_weight p side) l (stream side s).modules in
      let apart = modules-weigh side (l ∷ (stream side s).modules) s in
      omega arith

  pub push-keeps : (K : Behaviour) (side : Side) (name : Option ModuleName) (s : State C)
      → Keeps (pushed_named side (named_by K name) s) (state_weight p s)
  push-keeps K side None s = refl
  push-keeps K side (Some name) s = named-each K name (λ o. Keeps (pushed_named side o s) (state_weight p s)) refl
      (λ known. omega (arith, (new K name).weighs p side, pushed-keeps side (module_named K name) s))

  -- a pop
  off-keeps : (side : Side) (s : State C) → AllByRecursion (λ l. IsAtRest l) (stream side s).modules → Keeps (taken_off side s) (state_weight p s)
  off-keeps side s idle =
      let ps = (stream side s).modules in
      let t = top_taken ModulePopped side ps s in
      let u = mode_put side (mode_behind (top_on side s)) t.state in
      let first = top_taken-keeps ModulePopped side ps s refl idle in
      let rest = mode_put-keeps side (mode_behind (top_on side s)) t.state in
      let gone = gone-append p t.gone u.gone in
      let made = made-append p t.gone u.gone in
      omega arith

  -- no byte stands in the slot of an ioctl
  dropped-keeps : (side : Side) (ms : List (Message C)) (s : State C) → state_weight p (ioctl_dropped side ms s) ≡ state_weight p s
  dropped-keeps Master ms s = refl
  dropped-keeps Slave ms s = refl

  pub pop-keeps : (side : Side) (s : State C) → AllByRecursion (λ l. IsAtRest l) (stream side s).modules → Keeps (popped side s) (state_weight p s)
  pop-keeps side s idle = omega (arith, off-keeps side s idle, dropped-keeps side (below_top (stream side s).modules) (taken_off side s).state)
