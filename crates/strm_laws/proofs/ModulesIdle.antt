-- A put at a module begins no turn: one of which nothing of a turn is under way stays so, and with it all that comes of a put in a pair.
use Rattle.strm_laws.proofs.Prelude.{ℕ, zero, suc, List, [], ◌∷◌, PutHolds, carried-holds}
use Rattle.strm_laws.specs.Prelude.{HOPS, Side, Spot, Cells, Message, put_among}
use Rattle.std.specs.List.{AllByRecursion}
use Rattle.strm_laws.specs.Behaviours.{Behaviour}
use Rattle.strm_laws.specs.Kept.{AreIdle}
use Rattle.strm_laws.specs.Puts.{delivered, put_in}
use Rattle.strm_laws.specs.Stacked.{Standing, IsAtRest, module_puts}
use Rattle.strm_laws.specs.State.{State}
use Rattle.strm_laws.proofs.ModulesHold.{puts-good}
use Rattle.strm_laws.proofs.LawfulKinds.{puts-lawfully}

module _ {C : Type 0} where
  abbrev pub AllIdle : List (Standing C) → Type 0
  AllIdle ps = AllByRecursion (λ p. IsAtRest p) ps

  pub among-idle : (K : Behaviour) (cells : Cells C) (made i : ℕ) (here : Spot) (m : Message C) (ps : List (Standing C)) → AllIdle ps → AllIdle (put_among (module_puts K cells made) i here m ps).state
  among-idle K cells made i here m [] idle = tt
  among-idle K cells made zero here m (l ∷ ls) idle = ((puts-lawfully K l cells made here m).rests idle.0, idle.1)
  among-idle K cells made (suc i) here m (l ∷ ls) idle = (idle.0, among-idle K cells made i here m ls idle.1)

  abbrev AllOn : Side → List (Standing C) → Type 0
  AllOn side ps = AllIdle ps

  pub puts-rest : (K : Behaviour) (cells : Cells C) → PutHolds {C = C} AreIdle (put_in K cells)
  puts-rest K cells = puts-good AllOn K cells (λ side. among-idle K cells)

  pub delivered-idle : (K : Behaviour) (cells : Cells C) (to : Spot) (m : Message C) (s : State C) → AreIdle s
      → AreIdle (delivered K cells to m s).state
  delivered-idle K cells to m s idle = carried-holds AreIdle (put_in K cells) (puts-rest K cells) HOPS (record { to = to; message = m }) s idle
