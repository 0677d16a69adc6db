-- A side that isn't open has nothing for its readers, from the opening on.
use Rattle.strm_laws.proofs.Prelude.{◌≡◌, false, List, [], ◌∷◌, refl, each-side}
use Rattle.strm_laws.specs.Prelude.{Turn, QueueName, Side, Spot, Cells, PlainEntry, Message, is_open}
use Rattle.strm_laws.specs.Behaviours.{Behaviour}
use Rattle.strm_laws.specs.Kept.{NothingUnread}
use Rattle.strm_laws.specs.Puts.{delivered}
use Rattle.strm_laws.specs.Stacked.{Standing}
use Rattle.strm_laws.specs.State.{State, Stream, opening}
use Rattle.strm_laws.specs.Step.{IsLegal, Step, after, replay}
use Rattle.strm_laws.specs.Turns.{turned}
use Rattle.strm_laws.proofs.EachStream.{Changes, each-stays, each-turns, step-each}
use Rattle.strm_laws.proofs.PutParts.{delivered-holds}
use Rattle.strm_laws.proofs.TurnHolds.{turn-holds}

module _ {C : Type 0} where
  abbrev Unread : Side → Stream C → Type 0
  Unread side t = is_open t.opened ≡ false → t.head.queue.messages ≡ []

  abbrev Any : List (Standing C) → Type 0
  Any ps = Unit {0}

  changes : (K : Behaviour) → Changes Unread K Any
  changes K = record {
    put = λ side here m t is none closed. absurd (cc);
    queue = λ side q t so none closed. so closed (none closed);
    settings = λ side read control group hung_up t none. none;
    slot = λ side slot t fits none. none;
    handed = λ side t none. none;
    opened = λ side t none closed. absurd (cc);
    anew = λ side opened t none closed. refl;
    driver = λ side q t none. none;
    modules = λ side ps t good none. none;
    good = λ side t none. tt;
    below = λ p ps good. tt;
    above = λ name ps known good. tt;
  }

  pub opening-unread : NothingUnread {C = C} opening
  opening-unread = each-side Unread opening.ends (λ closed. refl) (λ closed. refl)

  pub delivered-unread : (K : Behaviour) (cells : Cells C) (to : Spot) (m : Message C) (s : State C) → NothingUnread s
      → NothingUnread (delivered K cells to m s).state
  delivered-unread K cells to m s unread = delivered-holds NothingUnread K (each-stays Unread K Any (changes K) (λ ps. tt)) cells to m s unread

  pub turn-unread : (K : Behaviour) (cells : Cells C) (name : QueueName) (turn : Turn) (s : State C) → NothingUnread s → NothingUnread (turned K cells name turn s).state
  turn-unread K cells name turn s unread = turn-holds K NothingUnread (each-turns Unread K Any (changes K) (λ ps. tt)) cells name turn s unread

  pub step-unread : (K : Behaviour) (cells : Cells C) (old new : State C) (entry : PlainEntry) → NothingUnread old → Step K cells old entry new
      → NothingUnread new
  step-unread K cells old new entry unread step = step-each Unread K Any (changes K) cells (delivered-unread K cells) (turn-unread K cells) old new entry unread step

  pub unread-behind : (K : Behaviour) (cells : Cells C) (s : State C) (entries : List PlainEntry) → NothingUnread s → IsLegal K cells s entries → NothingUnread (replay K cells s entries)
  unread-behind K cells s [] unread legal = unread
  unread-behind K cells s (entry ∷ entries) unread legal = let next = after K cells s entry in unread-behind K cells next entries (step-unread K cells s next entry unread legal.0) legal.1
