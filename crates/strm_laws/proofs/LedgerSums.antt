-- The numbers of a ledger: what stands in a direction is on its queues and in its lines, and the counts by rule are of all that has gone.
use Rattle.strm_laws.proofs.Prelude.{ℕ, ◌≡◌, ◌<◌, ◌+◌, Bool, true, false, List, [], ◌∷◌, ◌++◌, length, refl, sym, ap, ◌∙◌, arith, Option, None, Some}
use Rattle.strm_laws.proofs.Prelude.{count_by, sum_by, slice_index_or, sum_by-cons, weight-take}
use Rattle.strm_laws.specs.Prelude.{Dir, MasterToSlave, SlaveToMaster, Side, Master, Slave, Up, Down, Fates, Rule, RULES, Cells, plain, Fate, Goes}
use Rattle.strm_laws.specs.Prelude.{Comes, counted_with, tallied, PlainEntry, Message, cells_of, weight_of, direction_at, weight, QueuePair}
use Rattle.strm_laws.specs.Prelude.{messages_on, fates_of}
use Rattle.std.proofs.Common.{◌%◌, ◌^◌}
use Rattle.std.specs.List.{AllByRecursion}
use Rattle.std.proofs.lemmas.List.Sums.{get_or-le-sum_by, sum_by-set}
use Rattle.std.proofs.lemmas.List.{length-set}
use Rattle.strm_types.specs.declared.rules.Rule.TheVariants as rules
use Rattle.strm_laws.specs.Based.{cells_in, held_by}
use Rattle.strm_laws.specs.Behaviours.{Behaviour}
use Rattle.strm_laws.specs.Kept.{AreIdle, NothingUnread, gone, state_weight, told_by}
use Rattle.strm_laws.specs.Ledgers.{Balanced, all_gone, inline, queued}
use Rattle.strm_laws.specs.Places.{weight_gone}
use Rattle.strm_types.specs.Rules.{counted_more, made_more, number_of, told_more}
use Rattle.strm_laws.specs.Stacked.{Standing, IsAtRest, module_line, module_weight, modules_weight, queues_weight}
use Rattle.strm_laws.specs.State.{State, book}
use Rattle.strm_laws.specs.Step.{IsLegal, after, replay}
use Rattle.strm_laws.proofs.Based.{all-counted, held-there, none-counted}
use Rattle.strm_laws.proofs.JournalPlaces.{balanced, of_dir}
use Rattle.strm_laws.proofs.StepsIdle.{idle-behind}
use Rattle.strm_laws.proofs.LawfulKinds.{lawful}

-- what stands in a direction
module _ {C : Type 0} where
  abbrev all : C → Bool
  all c = true

  abbrev none : C → Bool
  none c = false

  none-of : (m : Message C) → weight_of none m ≡ 0
  unfolding weight_of
  none-of m = none-counted (cells_of m)

  none-weighs : (ms : List (Message C)) → weight none ms ≡ 0
  none-weighs [] = refl
  none-weighs (m ∷ ms) = omega (arith, weight-take none m ms, none-of m, none-weighs ms)

  -- what a module has on its queues, by what is tested of what comes up and of what goes down
  queues-down : (p : Dir → C → Bool) (side : Side) → p (direction_at Up side) ≡ none → p (direction_at Down side) ≡ all → (queues : Option (QueuePair C))
      → queues_weight p side queues ≡ cells_in (messages_on Down queues)
  queues-down p side up down None = refl
  queues-down p side up down (Some pair) =
      omega (arith, ap (λ t. weight t pair.read.messages) up ∙ none-weighs pair.read.messages, ap (λ t. weight t pair.write.messages) down)

  queues-up : (p : Dir → C → Bool) (side : Side) → p (direction_at Up side) ≡ all → p (direction_at Down side) ≡ none → (queues : Option (QueuePair C))
      → queues_weight p side queues ≡ cells_in (messages_on Up queues)
  queues-up p side up down None = refl
  queues-up p side up down (Some pair) =
      omega (arith, ap (λ t. weight t pair.read.messages) up, ap (λ t. weight t pair.write.messages) down ∙ none-weighs pair.write.messages)

  modules-down : (p : Dir → C → Bool) (side : Side) → p (direction_at Up side) ≡ none → p (direction_at Down side) ≡ all → (ps : List (Standing C)) → AllByRecursion (λ q. IsAtRest q) ps
      → modules_weight p side ps ≡ sum_by (held_by Down) ps
  modules-down p side up down [] idle = refl
  modules-down p side up down (q ∷ ps) idle =
      omega (
        arith,
        sum_by-cons (module_weight p side) q ps,
        sum_by-cons (held_by Down) q ps,
        modules-down p side up down ps idle.1,
        (lawful q).weighs p side idle.0,
        ap (λ t. count_by t (module_line q)) up ∙ none-counted (module_line q),
        queues-down p side up down q.queues,
      )

  modules-up : (p : Dir → C → Bool) (side : Side) → p (direction_at Up side) ≡ all → p (direction_at Down side) ≡ none → (ps : List (Standing C)) → AllByRecursion (λ q. IsAtRest q) ps
      → modules_weight p side ps ≡ sum_by (held_by Up) ps
  modules-up p side up down [] idle = refl
  modules-up p side up down (q ∷ ps) idle =
      omega (
        arith,
        sum_by-cons (module_weight p side) q ps,
        sum_by-cons (held_by Up) q ps,
        modules-up p side up down ps idle.1,
        (lawful q).weighs p side idle.0,
        ap (λ t. count_by t (module_line q)) up ∙ all-counted (module_line q),
        queues-up p side up down q.queues,
      )

  pub stands-there : (dir : Dir) (s : State C) → AreIdle s → state_weight (of_dir dir) s ≡ queued dir s + inline dir s
  stands-there MasterToSlave s idle =
      omega (
        arith,
        held-there MasterToSlave s,
        modules-down (of_dir MasterToSlave) Master refl refl s.ends.master.modules (idle Master),
        modules-up (of_dir MasterToSlave) Slave refl refl s.ends.slave.modules (idle Slave),
        none-weighs s.ends.master.head.queue.messages,
        none-weighs s.ends.slave.driver.queue.messages,
      )
  stands-there SlaveToMaster s idle =
      omega (
        arith,
        held-there SlaveToMaster s,
        modules-down (of_dir SlaveToMaster) Slave refl refl s.ends.slave.modules (idle Slave),
        modules-up (of_dir SlaveToMaster) Master refl refl s.ends.master.modules (idle Master),
        none-weighs s.ends.slave.head.queue.messages,
        none-weighs s.ends.master.driver.queue.messages,
      )

-- what has gone in a direction
number-within : (rule : Rule) → number_of rule < RULES
number-within rules.Read = omega arith
number-within rules.Igncr = omega arith
number-within rules.EraseKey = omega arith
number-within rules.Erased = omega arith
number-within rules.Killed = omega arith
number-within rules.EofKey = omega arith
number-within rules.SignalKey = omega arith
number-within rules.FlowKey = omega arith
number-within rules.LnextKey = omega arith
number-within rules.ReprintKey = omega arith
number-within rules.LineFull = omega arith
number-within rules.LineOver = omega arith
number-within rules.Flushed = omega arith
number-within rules.RestDiscarded = omega arith
number-within rules.ControlDropped = omega arith
number-within rules.Doubled = omega arith
number-within rules.ModulePopped = omega arith
number-within rules.EndClosed = omega arith
number-within rules.Replaced = omega arith
number-within rules.Onocr = omega arith
number-within rules.EchoFull = omega arith

-- the sum of counts
abbrev pub sum_of : List ℕ → ℕ
sum_of counts = sum_by (λ n. n) counts

-- a count for each rule
abbrev Sized : Dir → Fates → Type 0
Sized dir f = length (fates_of dir f) ≡ RULES

counts-more : (rule : Rule) (n : ℕ) (counts : List ℕ) → length counts ≡ RULES → sum_of counts + n < 2 ^ 64 → sum_of (counted_more rule n counts) ≡ sum_of counts + n
counts-more rule n counts long low =
    let i = number_of rule in
    let within : i < length counts = omega (arith, number-within rule, long) in
    let old = slice_index_or counts i 0 in
    let small = get_or-le-sum_by (λ (k : ℕ). k) counts i 0 within in
    let fits : (old + n) % 2 ^ 64 ≡ old + n = omega (arith, small, low) in
    omega (arith, sum_by-set (λ (k : ℕ). k) counts i ((old + n) % 2 ^ 64) 0 within, fits)

stays : (dir other : Dir) (n : ℕ) (f : Fates) → fates_of dir (made_more other n f) ≡ fates_of dir f
stays MasterToSlave MasterToSlave n f = refl
stays MasterToSlave SlaveToMaster n f = refl
stays SlaveToMaster MasterToSlave n f = refl
stays SlaveToMaster SlaveToMaster n f = refl

sized-more : (dir other : Dir) (rule : Rule) (n : ℕ) (f : Fates) → Sized dir f → Sized dir (told_more other rule n f)
sized-more MasterToSlave MasterToSlave rule n f sized = length-set f.from_master (number_of rule) _ ∙ sized
sized-more MasterToSlave SlaveToMaster rule n f sized = sized
sized-more SlaveToMaster MasterToSlave rule n f sized = sized
sized-more SlaveToMaster SlaveToMaster rule n f sized = length-set f.from_slave (number_of rule) _ ∙ sized

sized-made : (dir other : Dir) (n : ℕ) (f : Fates) → Sized dir f → Sized dir (made_more other n f)
sized-made dir other n f sized = ap (λ counts. length counts) (stays dir other n f) ∙ sized

module _ {C : Type 0} where
  tallied-append : (xs ys : List (Fate C)) (f : Fates) → tallied (xs ++ ys) f ≡ tallied ys (tallied xs f)
  tallied-append [] ys f = refl
  tallied-append (x ∷ xs) ys f = tallied-append xs ys (counted_with x f)

  tells-all : (K : Behaviour) (cells : Cells C) (s : State C) (entries : List PlainEntry) (f : Fates) → told_by K cells s entries f ≡ tallied (all_gone K cells s entries) f
  tells-all K cells s [] f = refl
  tells-all K cells s (entry ∷ entries) f =
      tells-all K cells (after K cells s entry) entries (tallied (gone K cells s entry) f) ∙ sym (tallied-append (gone K cells s entry) (all_gone K cells (after K cells s entry) entries) f)

  sized-on : (dir : Dir) (told : List (Fate C)) (f : Fates) → Sized dir f → Sized dir (tallied told f)
  sized-on dir [] f sized = sized
  sized-on dir (Comes other xs ∷ told) f sized = sized-on dir told (made_more other (length xs) f) (sized-made dir other (length xs) f sized)
  sized-on dir (Goes other rule xs ∷ told) f sized = sized-on dir told (told_more other rule (length xs) f) (sized-more dir other rule (length xs) f sized)

  -- the counts of a direction behind what is told once
  goes-on : (dir other : Dir) (rule : Rule) (xs : List C) (f : Fates) → Sized dir f → sum_of (fates_of dir f) + count_by (of_dir dir other) xs < 2 ^ 64
      → sum_of (fates_of dir (told_more other rule (length xs) f)) ≡ sum_of (fates_of dir f) + count_by (of_dir dir other) xs
  goes-on MasterToSlave MasterToSlave rule xs f sized low = let e = counts-more rule (length xs) f.from_master sized (omega (arith, low, all-counted xs)) in omega (arith, e, all-counted xs)
  goes-on MasterToSlave SlaveToMaster rule xs f sized low = omega (arith, none-counted xs)
  goes-on SlaveToMaster MasterToSlave rule xs f sized low = omega (arith, none-counted xs)
  goes-on SlaveToMaster SlaveToMaster rule xs f sized low = let e = counts-more rule (length xs) f.from_slave sized (omega (arith, low, all-counted xs)) in omega (arith, e, all-counted xs)

  sums-on : (dir : Dir) (told : List (Fate C)) (f : Fates) → Sized dir f → sum_of (fates_of dir f) + weight_gone (of_dir dir) told < 2 ^ 64
      → sum_of (fates_of dir (tallied told f)) ≡ sum_of (fates_of dir f) + weight_gone (of_dir dir) told
  sums-on dir [] f sized low = omega arith
  sums-on dir (Comes other xs ∷ told) f sized low =
      let e = ap (λ counts. sum_of counts) (stays dir other (length xs) f) in
      omega (arith, e, sums-on dir told (made_more other (length xs) f) (sized-made dir other (length xs) f sized) (omega (arith, e, low)))
  sums-on dir (Goes other rule xs ∷ told) f sized low =
      let e = goes-on dir other rule xs f sized (omega (arith, low)) in
      omega (arith, e, sums-on dir told (told_more other rule (length xs) f) (sized-more dir other rule (length xs) f sized) (omega (arith, e, low)))

-- The numbers of a ledger agree behind a journal where they do at its base, as long as no count goes round.
pub agrees : (K : Behaviour) (dir : Dir) (base : State ℕ) (fates : Fates) (entries : List PlainEntry) → NothingUnread base → AreIdle base → IsLegal K plain base entries → Balanced dir base fates
    → let s = replay K plain base entries in (book dir s).written + (book dir s).made < 2 ^ 64 → Balanced dir s (told_by K plain base entries fates)
agrees K dir base fates entries unread idle legal before low =
    let s = replay K plain base entries in
    let gone = all_gone K plain base entries in
    let balance = balanced plain K dir base unread idle entries legal in
    let first = stands-there dir base idle in
    let last = stands-there dir s (idle-behind K plain base entries idle legal) in
    let told = tells-all K plain base entries fates in
    let sums = sums-on dir gone fates before.rules (omega (arith, balance, first, before.agree, low)) in
    record {
      rules = ap (λ f. length (fates_of dir f)) told ∙ sized-on dir gone fates before.rules;
      agree = omega (arith, balance, first, before.agree, last, sums, ap (λ f. sum_of (fates_of dir f)) told);
    }
