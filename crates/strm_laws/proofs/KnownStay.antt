-- There are modules of all names on a new pair's streams, and so behind each delivery, turn and call, and each journal: puts and turns leave each
-- module its name, and a push adds none of a name that isn't known.
use Rattle.strm_laws.proofs.Prelude.{◌≡◌, ◌&&◌, true, List, [], ◌∷◌, map, refl, ap, subst, ◌∙◌, and_from, and_parts, each-side}
use Rattle.strm_laws.specs.Prelude.{Turn, Called, Turned, Caller, QueueName, Side, Master, Slave, Spot, Cells, Request, PlainEntry, Message}
use Rattle.strm_laws.specs.Behaviours.{Behaviour}
use Rattle.strm_laws.specs.Calls.{called}
use Rattle.strm_laws.specs.Known.{all_known, are_known}
use Rattle.strm_laws.specs.Pushes.{is_known}
use Rattle.strm_laws.specs.Puts.{delivered}
use Rattle.strm_laws.specs.StackCosts.{Stands, stands_of, stands_on}
use Rattle.strm_laws.specs.Stacked.{Standing, module_name}
use Rattle.strm_laws.specs.State.{State, Stream, opening, stream}
use Rattle.strm_laws.specs.Step.{Step, after, replay}
use Rattle.strm_laws.specs.Turns.{turned}
use Rattle.strm_laws.proofs.EachStream.{Changes, OfEach, called-each}
use Rattle.strm_laws.proofs.Replay.{after-step}
use Rattle.strm_laws.proofs.SameNames.{kind-is}
use Rattle.strm_laws.proofs.StackStays.{delivered-stands, turn-stands}

-- none stands on the streams of a new pair
pub opening-known : (C : Type 0) (K : Behaviour) → all_known {C = C} K opening ≡ true
opening-known C K = refl

module _ {C : Type 0} (K : Behaviour) where
  -- where the names stay, all stay known
  pub same-known : (s t : State C) → stands_of t ≡ stands_of s → all_known K s ≡ true → all_known K t ≡ true
  same-known s t same known = ap (λ (all : Stands). are_known K (stands_on Master all) && are_known K (stands_on Slave all)) same ∙ known

  -- modules of known names, on either side
  abbrev Are : List (Standing C) → Type 0
  Are ps = are_known K (map module_name ps) ≡ true

  abbrev On : Side → Stream C → Type 0
  On side t = Are t.modules

  each-on : (s : State C) → all_known K s ≡ true → OfEach On s
  each-on s known =
      let both = and_parts (are_known K (map module_name (stream Master s).modules)) (are_known K (map module_name (stream Slave s).modules)) known in
      each-side On s.ends both.0 both.1

  on-all : (s : State C) → OfEach On s → all_known K s ≡ true
  on-all s each = and_from _ _ (each Master) (each Slave)

  changes : Changes On K Are
  changes = record {
    put = λ side here m t is are. are;
    queue = λ side q t so are. are;
    settings = λ side read control group hung_up t are. are;
    slot = λ side slot t fits are. are;
    handed = λ side t are. are;
    opened = λ side t are. are;
    anew = λ side opened t are. are;
    driver = λ side q t are. are;
    modules = λ side ps t good are. good;
    good = λ side t are. are;
    below = λ p ps good. (and_parts (is_known K (module_name p)) (are_known K (map module_name ps)) good).1;
    above = λ name ps known good. and_from _ _ (ap (is_known K) (kind-is C K name) ∙ known) good;
  }

  module _ (cells : Cells C) where
    pub delivered-known : (to : Spot) (m : Message C) (s : State C) → all_known K s ≡ true → all_known K (delivered K cells to m s).state ≡ true
    delivered-known to m s known = same-known s (delivered K cells to m s).state (delivered-stands K cells to m s) known

    pub turn-known : (name : QueueName) (turn : Turn) (s : State C) → all_known K s ≡ true → all_known K (turned K cells name turn s).state ≡ true
    turn-known name turn s known = same-known s (turned K cells name turn s).state (turn-stands K cells name turn s) known

    delivered-on : (to : Spot) (m : Message C) (s : State C) → OfEach On s → OfEach On (delivered K cells to m s).state
    delivered-on to m s each = each-on (delivered K cells to m s).state (delivered-known to m s (on-all s each))

    -- whatever is called, refused or not
    pub called-known : (caller : Caller) (asked : Request) (s : State C) → all_known K s ≡ true
        → all_known K (called K cells caller asked s).state ≡ true
    called-known caller asked s known =
        on-all (called K cells caller asked s).state (called-each On K Are changes cells delivered-on caller asked s (each-on s known))

    -- so behind each entry, and each step
    pub after-known : (s : State C) (entry : PlainEntry) → all_known K s ≡ true → all_known K (after K cells s entry) ≡ true
    after-known s (Called caller asked answer) known = called-known caller asked s known
    after-known s (Turned name turn) known = turn-known name turn s known

    pub step-known : (old new : State C) (entry : PlainEntry) → all_known K old ≡ true → Step K cells old entry new → all_known K new ≡ true
    step-known old new entry known step =
        subst (λ s. all_known K s ≡ true) (after-step K cells old new entry step) (after-known old entry known)

    -- and by induction behind all entries of a journal
    pub replay-known : (s : State C) (entries : List PlainEntry) → all_known K s ≡ true → all_known K (replay K cells s entries) ≡ true
    replay-known s [] known = known
    replay-known s (entry ∷ entries) known = replay-known (after K cells s entry) entries (after-known s entry known)
