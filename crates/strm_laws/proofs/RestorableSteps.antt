-- Each state of a legal journal is one that an image may hold.
use Rattle.strm_laws.proofs.Prelude.{List, [], ◌∷◌, refl, subst, arith}
use Rattle.strm_laws.specs.Prelude.{Called, Turned, Cells, PlainEntry}
use Rattle.strm_laws.specs.Behaviours.{Behaviour}
use Rattle.strm_laws.specs.Restorable.{AreWithinEntries, IsWithinEntry, Restorable}
use Rattle.strm_laws.specs.State.{State, opening}
use Rattle.strm_laws.specs.Step.{IsLegal, Step, after, replay}
use Rattle.strm_laws.specs.StackCosts.{stands_of}
use Rattle.strm_laws.specs.Turns.{turned}
use Rattle.strm_laws.proofs.EnabledCalls.{Named, call-named, named-of}
use Rattle.strm_laws.proofs.EnabledPuts.{turn-enabled}
use Rattle.strm_laws.proofs.GoodCalls.{call-streams, opening-good}
use Rattle.strm_laws.proofs.GoodStreams.{AreStreams}
use Rattle.strm_laws.proofs.GoodTurns.{turn-good}
use Rattle.strm_laws.proofs.StepsIdle.{opening-idle, step-idle}
use Rattle.strm_laws.proofs.Stopping.{of-allowed}
use Rattle.strm_laws.proofs.WithinSteps.{opening-within, step-within}

module _ {C : Type 0} where
  pub opening-restorable : Restorable {C = C} opening
  opening-restorable = let all = opening-good in record { streams = all.0; heads = opening-within; idle = opening-idle C; enabled = record { once = λ name. omega arith; there = tt }; numbered = all.1; last = all.2 }

  module _ (K : Behaviour) (cells : Cells C) where
    step-streams : (old new : State C) (entry : PlainEntry) → IsWithinEntry entry → AreStreams old → Step K cells old entry new → AreStreams new
    step-streams old new (Called caller asked answer) low all step =
        subst (λ s. AreStreams s) step.leads (of-allowed K cells caller asked old (λ outcome. AreStreams outcome.state) (λ signal. all) step.allowed (λ fits. call-streams cells K caller asked old low fits all))
    step-streams old new (Turned name turn) low all step = subst (λ s. AreStreams s) step.leads (turn-good cells K name turn old all)

    step-named : (old new : State C) (entry : PlainEntry) → Named old → Step K cells old entry new → Named new
    step-named old new (Called caller asked answer) are step =
        subst (λ s. Named s) step.leads (of-allowed K cells caller asked old (λ outcome. Named outcome.state) (λ signal. are) step.allowed (λ fits. call-named cells K caller asked old are))
    step-named old new (Turned name turn) are step =
        subst (λ s. Named s) step.leads (named-of (stands_of old) (turned K cells name turn old).state (turn-enabled (stands_of old) K cells name turn old (refl, are)))

    pub step-restorable : (old new : State C) (entry : PlainEntry) → IsWithinEntry entry → Restorable old → Step K cells old entry new
        → Restorable new
    step-restorable old new entry low was step =
        let all = step-streams old new entry low (was.streams, was.numbered, was.last) step in
        record { streams = all.0; heads = step-within K cells old new entry was.heads step; idle = step-idle K cells old new entry was.idle step; enabled = step-named old new entry was.enabled step; numbered = all.1; last = all.2 }

    -- and so by induction on the journal
    pub replay-restorable : (s : State C) (entries : List PlainEntry) → AreWithinEntries entries → Restorable s → IsLegal K cells s entries → Restorable (replay K cells s entries)
    replay-restorable s [] low is legal = is
    replay-restorable s (entry ∷ entries) low is legal =
        replay-restorable (after K cells s entry) entries low.1 (step-restorable s (after K cells s entry) entry low.0 is legal.0) legal.1
