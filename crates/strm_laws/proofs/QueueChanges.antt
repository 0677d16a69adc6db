-- A change of a module's queue begins no turn, and where it leaves the messages that stand there, it loses no cell.
use Rattle.strm_laws.proofs.Prelude.{ℕ, zero, suc, ◌≡◌, Bool, List, [], ◌∷◌, refl, ap, arith, ◌+◌, sum_by-cons, Option, None, Some, option_map}
use Rattle.strm_laws.specs.Prelude.{Side, Way, Up, Down, Dir, direction_at, Message, queue_changed, QueuePair, pair_changed, change_among, Queue}
use Rattle.strm_laws.specs.Prelude.{weight}
use Rattle.strm_laws.specs.Stacked.{Standing, module_weight, modules_weight, queues_weight, kind_weight}
use Rattle.strm_laws.proofs.ModulesIdle.{AllIdle}

module _ {C : Type 0} (change : Queue C → Queue C) where
  -- the queue of a way changes so
  abbrev changed : Way → Standing C → Standing C
  changed way l = queue_changed way change l

  pub changes-idle : (way : Way) (i : ℕ) (ps : List (Standing C)) → AllIdle ps → AllIdle (change_among (changed way) i ps)
  changes-idle way i [] idle = tt
  changes-idle way zero (l ∷ ls) idle = idle
  changes-idle way (suc i) (l ∷ ls) idle = (idle.0, changes-idle way i ls idle.1)

  module _ (p : Dir → C → Bool) (side : Side) (same : (q : Queue C) → (change q).messages ≡ q.messages) where
    queues-keep : (way : Way) (queues : Option (QueuePair C)) → queues_weight p side (option_map (pair_changed way change) queues) ≡ queues_weight p side queues
    queues-keep way None = refl
    queues-keep Up (Some pair) = let messages = ap (λ (ms : List (Message C)). weight (p (direction_at Up side)) ms) (same pair.read) in omega arith
    queues-keep Down (Some pair) = let messages = ap (λ (ms : List (Message C)). weight (p (direction_at Down side)) ms) (same pair.write) in omega arith

    changed-keeps : (way : Way) (l : Standing C) → module_weight p side (changed way l) ≡ module_weight p side l
    changed-keeps way l = ap (λ n. kind_weight p side l.part + n) (queues-keep way l.queues)

    pub changes-keep : (way : Way) (i : ℕ) (ps : List (Standing C)) → modules_weight p side (change_among (changed way) i ps) ≡ modules_weight p side ps
    changes-keep way i [] = refl
    changes-keep way zero (l ∷ ls) = omega (arith, changed-keeps way l, sum_by-cons (module_weight p side) l ls, sum_by-cons (module_weight p side) (changed way l) ls)
    changes-keep way (suc i) (l ∷ ls) =
        let qs = change_among (changed way) i ls in
        omega (arith, changes-keep way i ls, sum_by-cons (module_weight p side) l ls, sum_by-cons (module_weight p side) l qs)
