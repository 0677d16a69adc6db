-- A put at one of the modules of a stream: it loses no cell, makes none but those that it tells, and does the same where the origins of cells are forgotten.
use Rattle.strm_laws.proofs.Prelude.{ℕ, zero, suc, ◌≡◌, ◌<◌, ◌+◌, Bool, List, [], ◌∷◌, length, map, refl, ap, arith, sum_by-cons}
use Rattle.strm_laws.specs.Prelude.{Dir, Spot, AreCells, Cells, plain, Acted, map_message, Message, weight_of, act_among, put_among, direction_at}
use Rattle.strm_laws.specs.Prelude.{map_acted}
use Rattle.strm_laws.specs.Behaviours.{Behaviour, MayTestOwn}
use Rattle.strm_laws.specs.Places.{weight_gone, weight_made, weight_sent}
use Rattle.strm_laws.specs.Stacked.{map_module, module_puts, module_weight, modules_weight, Standing}
use Rattle.strm_laws.proofs.LawfulKinds.{puts-lawfully}

module _ {C : Type 0} (K : Behaviour) (p : Dir → C → Bool) (cells : Cells C) (tests : MayTestOwn K cells p) (made : ℕ) where
  -- a put at one of several modules
  pub among-keeps : (i : ℕ) (here : Spot) (m : Message C) (ps : List (Standing C)) → i < length ps
      → let t = put_among (module_puts K cells made) i here m ps in
      modules_weight p here.side t.state + (weight_sent p t.sent + weight_gone p t.gone)
      ≡ modules_weight p here.side ps + weight_of (p (direction_at here.way here.side)) m + weight_made p t.gone
  among-keeps i here m [] within = absurd (omega arith)
  among-keeps zero here m (l ∷ ls) within =
      let weigh : Standing C → ℕ = module_weight p here.side in
      let t = module_puts K cells made here m l in
      omega (arith, (puts-lawfully K l cells made here m).once p tests, sum_by-cons weigh l ls, sum_by-cons weigh t.state ls)
  among-keeps (suc i) here m (l ∷ ls) within =
      let weigh : Standing C → ℕ = module_weight p here.side in
      let t = put_among (module_puts K cells made) i here m ls in
      omega (arith, among-keeps i here m ls (omega arith), sum_by-cons weigh l ls, sum_by-cons weigh l t.state)

-- where several modules act, one of them, and the origins of cells are forgotten
module _ {C D : Type 0} (f : C → D) (acts : Standing C → Acted C (Standing C)) (acts' : Standing D → Acted D (Standing D)) where
  pub acts-forget : ((p : Standing C) → acts' (map_module f p) ≡ map_acted f (map_module f) (acts p)) → (i : ℕ) (ps : List (Standing C))
      → act_among acts' i (map (map_module f) ps) ≡ map_acted f (map (map_module f)) (act_among acts i ps)
  acts-forget same i [] = refl
  acts-forget same zero (p ∷ ps) =
      ap (λ (t : Acted D (Standing D)). record { state = t.state ∷ map (map_module f) ps; notes = t.notes; sent = t.sent; gone = t.gone }) (same p)
  acts-forget same (suc i) (p ∷ ps) =
      ap (λ (t : Acted D (List (Standing D))). record { state = map_module f p ∷ t.state; notes = t.notes; sent = t.sent; gone = t.gone })
      (acts-forget same i ps)

pub among-forgets : {C : Type 0} (K : Behaviour) (cells : Cells C) → AreCells cells
    → (made i : ℕ) (here : Spot) (m : Message C) (ps : List (Standing C))
    → let f = cells.byte in
    put_among (module_puts K plain made) i here (map_message f m) (map (map_module f) ps)
    ≡ map_acted f (map (map_module f)) (put_among (module_puts K cells made) i here m ps)
among-forgets K cells are made i here m ps =
    acts-forget cells.byte (module_puts K cells made here m) (module_puts K plain made here (map_message cells.byte m))
    (λ p. (puts-lawfully K p cells made here m).forgets are) i ps
