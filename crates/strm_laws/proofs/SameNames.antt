-- Modules have the names by which they were made, and keep them behind each put, each call of a service procedure and each change of a queue.
use Rattle.strm_laws.proofs.Prelude.{ℕ, zero, suc, ◌≡◌, ◌-◌, Bool, List, [], ◌∷◌, map, refl, ap, Option, None, Some}
use Rattle.strm_laws.specs.Prelude.{Way, Spot, Cells, Acted, Message, place_past, waits_at, with_waiting, queue_changed, act_among, change_among}
use Rattle.strm_laws.specs.Prelude.{put_among, ModuleName, Queue}
use Rattle.strm_types.specs.declared.names.ModuleName.TheVariants as names
use Rattle.strm_types.specs.ModuleQueues.{waits_past}
use Rattle.strm_laws.specs.Behaviours.{Behaviour}
use Rattle.strm_laws.specs.Pushes.{kind_named}
use Rattle.strm_laws.specs.Stacked.{Standing, kind_name, module_name, module_puts, module_serves}
use Rattle.strm_laws.proofs.LawfulKinds.{calls-lawfully, puts-lawfully}

-- a module has the name by which it was made
pub kind-is : (C : Type 0) (K : Behaviour) (name : ModuleName) → kind_name (kind_named {C = C} K name) ≡ name
kind-is C K names.Ldterm = refl
kind-is C K names.Ptem = refl
kind-is C K names.Pckt = refl
kind-is C K (names.Own n) = refl

module _ {C : Type 0} where
  -- where one module acts, or changes, and keeps its name, all keep theirs
  module _ (change : Standing C → Standing C) (same : (p : Standing C) → module_name (change p) ≡ module_name p) where
    change-names : (i : ℕ) (ps : List (Standing C)) → map module_name (change_among change i ps) ≡ map module_name ps
    change-names i [] = refl
    change-names zero (p ∷ ps) = ap (λ n. n ∷ map module_name ps) (same p)
    change-names (suc i) (p ∷ ps) = ap (λ ns. module_name p ∷ ns) (change-names i ps)

  module _ (acts : Standing C → Acted C (Standing C)) (same : (p : Standing C) → module_name (acts p).state ≡ module_name p) where
    act-names : (i : ℕ) (ps : List (Standing C)) → map module_name (act_among acts i ps).state ≡ map module_name ps
    act-names i [] = refl
    act-names zero (p ∷ ps) = ap (λ n. n ∷ map module_name ps) (same p)
    act-names (suc i) (p ∷ ps) = ap (λ ns. module_name p ∷ ns) (act-names i ps)

  -- a put, and a call of a service procedure
  pub keep-names : (K : Behaviour) (cells : Cells C) (made i : ℕ) (here : Spot) (m : Message C) (ps : List (Standing C))
      → map module_name (put_among (module_puts K cells made) i here m ps).state ≡ map module_name ps
  keep-names K cells made i here m ps = act-names (module_puts K cells made here m) (λ p. (puts-lawfully K p cells made here m).name) i ps

  pub serve-names : (K : Behaviour) (cells : Cells C) (here : Spot) (made : ℕ) (again : Bool) (stop : Option ℕ) (i : ℕ) (ps : List (Standing C))
      → map module_name (act_among (λ p. (module_serves K cells here made again stop p).acted) i ps).state ≡ map module_name ps
  serve-names K cells here made again stop i ps =
      act-names (λ p. (module_serves K cells here made again stop p).acted) (λ p. (calls-lawfully K p cells here made again).name stop) i ps

  -- a queue of one changes, or a writer waits at one
  pub queue-names : (way : Way) (change : Queue C → Queue C) (i : ℕ) (ps : List (Standing C))
      → map module_name (change_among (queue_changed way change) i ps) ≡ map module_name ps
  queue-names way change i ps = change-names (queue_changed way change) (λ p. refl) i ps

  pub waits-names : (way : Way) (band at : ℕ) (ps : List (Standing C)) → map module_name (waits_past way band at ps) ≡ map module_name ps
  waits-names way band at ps = by (place_past way at ps)
    where
      by : (place : Option ℕ) → map module_name (waits_at way band ps place) ≡ map module_name ps
      by None = refl
      by (Some place) = queue-names way (with_waiting band) (place - 1) ps
