-- What the put at a head, at a module and at a driver keeps, each put in a pair keeps, and with it each delivery.
use Rattle.strm_laws.proofs.Prelude.{ℕ, suc, ◌≡◌, ◌-◌, Bool, true, false, cond, List, [], ◌∷◌, length, map, ◌==◌, ◌&&◌, nat_le, slice_index_or, None}
use Rattle.strm_laws.proofs.Prelude.{PutHolds, carried-holds, in_turn-holds}
use Rattle.strm_laws.specs.Prelude.{HOPS, MODULES, Dir, QueueName, Side, Way, Up, Down, Spot, with_made, Cells, Acted, Fate, Goes, Comes, Parcel}
use Rattle.strm_laws.specs.Prelude.{Took, carried, in_turn, Message, with_waiting, put_among, is_bare_flush}
use Rattle.strm_laws.specs.Behaviours.{Behaviour}
use Rattle.strm_laws.specs.Earlier.{modules_on, places_of}
use Rattle.strm_laws.specs.Past.{end_queue, with_end_queue}
use Rattle.strm_laws.specs.Puts.{booked, delivered, earlier_at, made_above, module_acted, passed_up, put_at_driver, put_at_head, put_at_module, put_behind, put_below, put_in}
use Rattle.strm_laws.specs.Stacked.{Standing, module_name, module_puts}
use Rattle.strm_laws.specs.State.{State, book, stream, with_book, with_stream}
use Rattle.strm_laws.proofs.SameNames.{keep-names}

-- a writer of a band that waits at the end of a stream
abbrev pub waiting : {C : Type 0} → Side → Way → ℕ → State C → State C
waiting side way band s = with_stream side (let on = stream side s in with_end_queue way (with_waiting band (end_queue way on)) on) s

module _ {C : Type 0} (P : State C → Type 0) where
  -- it stays so whatever more is booked as made
  abbrev pub BookHolds : Type 0
  BookHolds = (dir : Dir) (n : ℕ) (s : State C) → P s → P (with_book dir (with_made n (book dir s)) s)

  pub booked-holds : BookHolds → (told : List (Fate C)) (s : State C) → P s → P (booked told s)
  booked-holds books [] s holds = holds
  booked-holds books (Goes dir rule cells ∷ told) s holds = booked-holds books told s holds
  booked-holds books (Comes dir cells ∷ told) s holds = booked-holds books told (with_book dir (with_made (length cells) (book dir s)) s) (books dir (length cells) s holds)

  -- and whichever queues are enabled
  abbrev pub NamesHold : Type 0
  NamesHold = (names : List QueueName) (s : State C) → P s → P (record s { enabled = names })

  pub acted-holds : NamesHold → BookHolds → (here : Spot) (t : Acted C (List (Standing C))) (s : State C) → P (with_stream here.side (record (stream here.side s) { modules = t.state }) s) → P (module_acted here t s).state
  acted-holds names books here t s holds =
      booked-holds books t.gone _ (names _ (with_stream here.side (record (stream here.side s) { modules = t.state }) s) holds)

  pub either-holds : (b : Bool) (one another : Took C (State C)) → P one.state → P another.state → P (cond b one another).state
  either-holds true one another first second = first
  either-holds false one another first second = second

  -- the puts at a head, at a module and at a driver
  pub record PutParts (K : Behaviour) (cells : Cells C) : Type 0 where
    pub head : (side : Side) (here : Spot) (m : Message C) (s : State C) → P s → P (put_at_head side here m s).state
    pub stack : (here : Spot) (m : Message C) (s : State C) → P s → P (put_at_module K cells here m s).state
    pub driver : (side : Side) (here : Spot) (m : Message C) (s : State C) → P s → P (put_at_driver side here m s).state

  module _ (K : Behaviour) (cells : Cells C) (parts : PutParts K cells) where
    behind-holds : (way : Way) (here : Spot) (m : Message C) (s : State C) → P s → P (put_behind way here m s).state
    behind-holds Down here m s holds = parts.driver here.side here m s holds
    behind-holds Up here m s holds = either-holds (is_bare_flush m && here.at == suc MODULES) (put_at_driver here.side here m s) (passed_up here m s) (parts.driver here.side here m s holds) holds

    below-holds : (way : Way) (here : Spot) (m : Message C) (s : State C) → P s → P (put_below K cells way here m s).state
    below-holds way here m s holds =
        either-holds (nat_le here.at (modules_on here.side s)) (put_at_module K cells here m s) (put_behind way here m s) (parts.stack here m s holds) (behind-holds way here m s holds)

    pub parts-hold : PutHolds P (put_in K cells)
    parts-hold here m s holds =
        either-holds (here.at == 0) (put_at_head here.side here m s) (put_below K cells here.way here m s) (parts.head here.side here m s holds) (below-holds here.way here m s holds)

  -- the same where it stays so whatever modules of the same names stand, and wherever a writer waits
  pub record Stays : Type 0 where
    pub head : (side : Side) (here : Spot) (m : Message C) (s : State C) → P s → P (put_at_head side here m s).state
    pub driver : (side : Side) (here : Spot) (m : Message C) (s : State C) → P s → P (put_at_driver side here m s).state
    pub modules : (side : Side) (ps : List (Standing C)) (s : State C) → map module_name ps ≡ map module_name (stream side s).modules → P s
        → P (with_stream side (record (stream side s) { modules = ps }) s)
    pub names : NamesHold
    pub books : BookHolds
    pub waits : (side : Side) (way : Way) (band : ℕ) (s : State C) → P s → P (waiting side way band s)

  module _ (K : Behaviour) (stays : Stays) (cells : Cells C) where
    stack-holds : (here : Spot) (m : Message C) (s : State C) → P s → P (put_at_module K cells here m s).state
    stack-holds here m s holds =
        let ps = (stream here.side s).modules in
        let made = made_above here.side s in
        let t = put_among (module_puts K cells made) (here.at - 1) here m ps in
        acted-holds stays.names stays.books here t s (stays.modules here.side t.state s (keep-names K cells made (here.at - 1) here m ps) holds)

    pub puts-hold : PutHolds P (put_in K cells)
    puts-hold = parts-hold K cells (record { head = stays.head; stack = stack-holds; driver = stays.driver })

    pub delivered-holds : (to : Spot) (m : Message C) (s : State C) → P s → P (delivered K cells to m s).state
    delivered-holds to m s holds = carried-holds P (put_in K cells) puts-hold HOPS (record { to = to; message = m }) s holds

    pub sent-holds : (ps : List (Parcel C)) (s : State C) → P s → P (in_turn (carried (put_in K cells) HOPS) ps s).state
    sent-holds ps s holds = in_turn-holds P (carried (put_in K cells) HOPS) (carried-holds P (put_in K cells) puts-hold HOPS) ps s holds
