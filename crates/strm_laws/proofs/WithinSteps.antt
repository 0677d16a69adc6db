-- What a head keeps for its caller stays bounded behind each step of a pair, and is so in a new one.
use Rattle.strm_laws.proofs.Prelude.{ℕ, List, arith, each-side}
use Rattle.strm_laws.specs.Prelude.{Side, Spot, Cells, PlainEntry, Message, new_head}
use Rattle.strm_laws.specs.Behaviours.{Behaviour}
use Rattle.strm_laws.specs.Calls.{ioctl_begun}
use Rattle.strm_laws.specs.Puts.{delivered}
use Rattle.strm_laws.specs.Stacked.{Standing}
use Rattle.strm_laws.specs.State.{State, Stream, opening}
use Rattle.strm_laws.specs.Step.{Step}
use Rattle.strm_laws.specs.Within.{AreWithin, IsWithin}
use Rattle.strm_laws.proofs.TurnHolds.{turn-holds}
use Rattle.strm_laws.proofs.PutParts.{delivered-holds}
use Rattle.strm_laws.proofs.WithinHeads.{put-within}
use Rattle.strm_laws.proofs.EachStream.{Changes, begun-each, each-stays, each-turns, step-each}

module _ {C : Type 0} where
  abbrev Within : Side → Stream C → Type 0
  Within side t = IsWithin t.head

  abbrev Any : List (Standing C) → Type 0
  Any ps = Unit {0}

  -- a new head keeps nothing
  new-within : IsWithin {C = C} new_head
  new-within = record { signals = record { once = λ n. omega arith; known = tt }; answer = omega arith }

  changes : (K : Behaviour) → Changes Within K Any
  changes K = record {
    put = λ side here m t is within. put-within here m t.head within;
    queue = λ side q t so within. record { signals = within.signals; answer = within.answer };
    settings = λ side read control group hung_up t within. record { signals = within.signals; answer = within.answer };
    slot = λ side slot t fits within. record { signals = within.signals; answer = fits within.answer };
    handed = λ side t within. record { signals = new-within.signals; answer = within.answer };
    opened = λ side t within. within;
    anew = λ side opened t within. new-within;
    driver = λ side q t within. within;
    modules = λ side ps t good within. within;
    good = λ side t within. tt;
    below = λ p ps good. tt;
    above = λ name ps known good. tt;
  }

  pub opening-within : AreWithin {C = C} opening
  opening-within = each-side Within opening.ends new-within new-within

  pub delivered-within : (K : Behaviour) (cells : Cells C) (to : Spot) (m : Message C) (s : State C) → AreWithin s
      → AreWithin (delivered K cells to m s).state
  delivered-within K cells to m s within = delivered-holds AreWithin K (each-stays Within K Any (changes K) (λ ps. tt)) cells to m s within

  pub begun-within : (K : Behaviour) (side : Side) (command : ℕ) (s : State C) → AreWithin s → AreWithin (ioctl_begun side command s)
  begun-within K side command s within = begun-each Within K Any (changes K) side command s within

  pub step-within : (K : Behaviour) (cells : Cells C) (old new : State C) (entry : PlainEntry) → AreWithin old → Step K cells old entry new
      → AreWithin new
  step-within K cells old new entry within step =
      step-each Within K Any (changes K) cells (delivered-within K cells) (turn-holds K AreWithin (each-turns Within K Any (changes K) (λ ps. tt)) cells) old new entry within step
