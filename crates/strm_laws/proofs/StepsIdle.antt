-- Behind each step of a pair, and each legal journal, nothing of a turn is under way at any module, and so it is in a new one.
use Rattle.strm_laws.proofs.Prelude.{List, [], ◌∷◌, each-side}
use Rattle.strm_laws.specs.Prelude.{Side, Cells, PlainEntry}
use Rattle.strm_laws.specs.Behaviours.{Behaviour}
use Rattle.strm_laws.specs.Kept.{AreIdle}
use Rattle.strm_laws.specs.State.{State, Stream, opening}
use Rattle.strm_laws.specs.Step.{IsLegal, Step, after, replay}
use Rattle.strm_laws.proofs.TurnHolds.{Turns, turn-holds}
use Rattle.strm_laws.proofs.ModuleTurnKeeps.{module_turned-rests}
use Rattle.strm_laws.proofs.ModulesIdle.{AllIdle, delivered-idle}
use Rattle.strm_laws.proofs.Past.{waits-idle}
use Rattle.strm_laws.proofs.EachStream.{Changes, driver-each, step-each}
use Rattle.strm_laws.proofs.LawfulKinds.{new}

module _ {C : Type 0} where
  abbrev Idle : Side → Stream C → Type 0
  Idle side t = AllIdle t.modules

  changes : (K : Behaviour) → Changes Idle K AllIdle
  changes K = record {
    put = λ side here m t is idle. idle;
    queue = λ side q t so idle. idle;
    settings = λ side read control group hung_up t idle. idle;
    slot = λ side slot t fits idle. idle;
    handed = λ side t idle. idle;
    opened = λ side t idle. idle;
    anew = λ side opened t idle. idle;
    driver = λ side q t idle. idle;
    modules = λ side ps t good idle. good;
    good = λ side t idle. idle;
    below = λ p ps good. good.1;
    above = λ name ps known idle. ((new K name).rests, idle);
  }

  turns : (K : Behaviour) → Turns {C = C} K AreIdle
  turns K = record { drivers = driver-each Idle K AllIdle (changes K); named = λ names s idle. idle; given = delivered-idle K; waits = waits-idle; modules = module_turned-rests K }

  pub step-idle : (K : Behaviour) (cells : Cells C) (old new : State C) (entry : PlainEntry) → AreIdle old → Step K cells old entry new → AreIdle new
  step-idle K cells old new entry idle step = step-each Idle K AllIdle (changes K) cells (delivered-idle K cells) (turn-holds K AreIdle (turns K) cells) old new entry idle step

  pub idle-behind : (K : Behaviour) (cells : Cells C) (s : State C) (entries : List PlainEntry) → AreIdle s → IsLegal K cells s entries → AreIdle (replay K cells s entries)
  idle-behind K cells s [] idle legal = idle
  idle-behind K cells s (entry ∷ entries) idle legal = let next = after K cells s entry in idle-behind K cells next entries (step-idle K cells s next entry idle legal.0) legal.1

pub opening-idle : (C : Type 0) → AreIdle {C = C} opening
opening-idle C = each-side (Idle {C = C}) opening.ends tt tt
