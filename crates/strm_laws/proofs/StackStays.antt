-- The modules that stand on the streams are the same behind each put, and so each message costs what it did; and so behind each delivery and turn.
use Rattle.strm_laws.proofs.Prelude.{ℕ, ◌≡◌, map, refl, ap, ◌∙◌, PutHolds}
use Rattle.strm_laws.specs.Prelude.{Turn, QueueName, Side, Master, Slave, Way, Up, Down, Spot, Cells, Message, with_waiting, is_open, Queue}
use Rattle.strm_laws.specs.Behaviours.{Behaviour}
use Rattle.strm_laws.specs.Puts.{delivered, put_at_head, put_in}
use Rattle.strm_laws.specs.StackCosts.{Stands, stands_of}
use Rattle.strm_laws.specs.Stacked.{module_name}
use Rattle.strm_laws.specs.State.{State, Stream, stream, with_driver_queue, with_head_queue, with_stream}
use Rattle.strm_laws.specs.Turns.{turned, with_driver}
use Rattle.strm_laws.proofs.PutParts.{Stays, delivered-holds, either-holds, puts-hold, waiting}
use Rattle.strm_laws.proofs.TurnHolds.{turn-holds, turns-stay}

module _ {C : Type 0} where
  -- a stream with modules of the same names
  pub same-names : (side : Side) (on : Stream C) (s : State C) → map module_name on.modules ≡ map module_name (stream side s).modules → stands_of (with_stream side on s) ≡ stands_of s
  same-names Master on s is = ap (λ names. record (stands_of s) { master = names }) is
  same-names Slave on s is = ap (λ names. record (stands_of s) { slave = names }) is

  module _ (all : Stands) where
    abbrev pub Stand : State C → Type 0
    Stand s = stands_of s ≡ all

    head-stands : (side : Side) (here : Spot) (m : Message C) (s : State C) → Stand s → Stand (put_at_head side here m s).state
    head-stands side here m s is =
        either-holds Stand (is_open (stream side s).opened) _ _ (same-names side (record (stream side s) { head = _ }) s refl ∙ is) is

    driver-stands : (side : Side) (q : Queue C) (s : State C) → Stand s → Stand (with_driver side q s)
    driver-stands side q s is = same-names side (with_driver_queue q (stream side s)) s refl ∙ is

    waiting-stands : (side : Side) (way : Way) (band : ℕ) (s : State C) → Stand s → Stand (waiting side way band s)
    waiting-stands side Up band s is =
        let t = stream side s in
        same-names side (with_head_queue (with_waiting band t.head.queue) t) s refl ∙ is
    waiting-stands side Down band s is = driver-stands side (with_waiting band (stream side s).driver.queue) s is

    stand-stays : Stays Stand
    stand-stays = record {
      head = head-stands;
      driver = λ side here m s is. driver-stands side _ s is;
      modules = λ side ps s same is. same-names side (record (stream side s) { modules = ps }) s same ∙ is;
      names = λ names s is. is;
      books = λ dir n s is. is;
      waits = waiting-stands;
    }

    pub puts-stand : (K : Behaviour) (cells : Cells C) → PutHolds Stand (put_in K cells)
    puts-stand K cells = puts-hold Stand K stand-stays cells

  module _ (K : Behaviour) (cells : Cells C) where
    pub delivered-stands : (to : Spot) (m : Message C) (s : State C) → stands_of (delivered K cells to m s).state ≡ stands_of s
    delivered-stands to m s = delivered-holds (Stand (stands_of s)) K (stand-stays (stands_of s)) cells to m s refl

    pub turn-stands : (name : QueueName) (turn : Turn) (s : State C) → stands_of (turned K cells name turn s).state ≡ stands_of s
    turn-stands name turn s =
        let all = stands_of s in
        turn-holds K (Stand all) (turns-stay K (Stand all) (driver-stands all) (stand-stays all)) cells name turn s refl
