-- A put at a head, at a driver, at ptem and at pckt adds no more moves than its message costs.
use Rattle.strm_laws.proofs.Prelude.{ℕ, suc, ◌≡◌, ◌≤◌, ◌+◌, ◌-◌, Bool, true, false, cond, List, [], ◌∷◌, ◌++◌, length, refl, ap, ◌∙◌, arith, ◌&&◌}
use Rattle.strm_laws.proofs.Prelude.{◌||◌, ◌==◌, not, sum_by, Option, None, Some, sum_by-cons, passed_made, puts-each as pckt-each, sum-put}
use Rattle.strm_laws.specs.Prelude.{FlushAsked, Ioc, MsgKind, Flush, Ioctl, Proto, Side, Way, Up, Down, Doubled, EndClosed, Across, Enable, Spot}
use Rattle.strm_laws.specs.Prelude.{ack_message, telling_message, Cells, Acted, Goes, Parcel, toward, onward, answered, bottom_across, crosses}
use Rattle.strm_laws.specs.Prelude.{driver_across, driver_put, freed, ioctl_put, own_flushed, put_across, put_down, reader_flush, taken_in, Choice}
use Rattle.strm_laws.specs.Prelude.{emptied, none_goes, of_data, queue_behind, stayed, asked_by, flush_bytes, flush_message, is_bare_flush, is_flush}
use Rattle.strm_laws.specs.Prelude.{read_flush, Head, head_put, is_doubled, nak_down, obeyed, passed_by, turned_round, waits_for_readers, nak_message}
use Rattle.strm_laws.specs.Prelude.{read_ioc, Message, cells_of, has_parts, direction_at, direction_from, is_master, other, is_flush_passed, packet}
use Rattle.strm_laws.specs.Prelude.{pckt_puts, Ptem, ptem_puts, signals_up, sigwinch, Queue, put_enables, put_on, relieved, same_winsize, rank_of}
use Rattle.strm_laws.specs.Rest.{echoes, moves_above, moves_across}
use Rattle.strm_laws.specs.StackCosts.{Stands}
use Rattle.strm_types.proofs.PtemPuts.{puts-each as ptem-each}
use Rattle.strm_laws.proofs.PtemPuts.{asked-ioctl}
use Rattle.strm_laws.proofs.RestCosts.{at_or_above, at_or_below, costs, down-falls, onward-falls, sinks_by, toll, toll_at}

-- a queue that is flushed has no more than it had
module _ {C : Type 0} (f : Message C → ℕ) where
  stayed-less : (chosen : Choice) (ms : List (Message C)) → sum_by f (stayed chosen ms) ≤ sum_by f ms
  stayed-less chosen [] = omega arith
  stayed-less chosen (m ∷ ms) = at (not (chosen m.kind m.band)) (stayed-less chosen ms)
    where
      at : (stays : Bool) → sum_by f (stayed chosen ms) ≤ sum_by f ms → sum_by f (cond stays (m ∷ stayed chosen ms) (stayed chosen ms)) ≤ sum_by f (m ∷ ms)
      at true ih = omega (arith, ih, sum_by-cons f m ms, sum_by-cons f m (stayed chosen ms))
      at false ih = omega (arith, ih, sum_by-cons f m ms)

  pub behind-less : (chosen : Choice) (q : Queue C) → sum_by f (queue_behind chosen q).messages ≤ sum_by f q.messages
  behind-less chosen q = at (none_goes chosen q)
    where
      at : (none : Bool) → sum_by f (cond none (emptied chosen q) (relieved (emptied chosen q))).messages ≤ sum_by f q.messages
      at true = stayed-less chosen q.messages
      at false = stayed-less chosen q.messages

module _ {C : Type 0} (all : Stands) (posts : Side → ℕ) where
  abbrev pub tolls : List (Parcel C) → ℕ
  tolls sent = costs (toll all posts) sent

  pub tolls-both : (ps qs : List (Parcel C)) → tolls (ps ++ qs) ≡ tolls ps + tolls qs
  tolls-both [] qs = omega arith
  tolls-both (p ∷ ps) qs = omega (arith, tolls-both ps qs)

-- what a head sends down of an M_FLUSH waits nowhere, and its answer to an M_IOCTL crosses
module _ (C : Type 0) (all : Stands) (posts : Side → ℕ) where
  round-none : (here : Spot) (asked : FlushAsked) → tolls {C = C} all posts (turned_round here asked) ≡ 0
  round-none here asked = at asked.for_write
    where
      at : (goes : Bool) → tolls {C = C} all posts (cond goes (record { to = toward Down here; message = flush_message (flush_bytes (record asked { for_read = false })) } ∷ []) []) ≡ 0
      at true = refl
      at false = refl

  nak-one : (here : Spot) (known : Option Ioc) → tolls {C = C} all posts (nak_down {C = C} here known) ≤ 1
  nak-one here None = omega arith
  nak-one here (Some ioc) = at (ioc.number == 0)
    where
      at : (b : Bool) → tolls {C = C} all posts (cond b [] (record { to = toward Down here; message = nak_message ioc } ∷ [])) ≤ 1
      at true = omega arith
      at false = omega arith

module _ {C : Type 0} (all : Stands) (posts : Side → ℕ) where
  -- at a head
  obeyed-few : (here : Spot) (kind : MsgKind) (bytes : List ℕ) (h : Head C) (n : ℕ) → tolls all posts (obeyed here kind bytes h).sent ≤ moves_above kind false n
  obeyed-few here Flush bytes h n = omega (arith, round-none C all posts here (asked_by bytes))
  obeyed-few here Ioctl bytes h n = nak-one C all posts here (read_ioc bytes)
  obeyed-few here kind bytes h n = omega arith

  pub head-few : (here : Spot) (m : Message C) (h : Head C) → tolls all posts (head_put here m h).sent ≤ moves_above m.kind false (length (cells_of m))
  head-few here m h = at (has_parts m)
    where
      doubled : (b : Bool) → tolls all posts (cond b (record (passed_by h) { gone = Goes (direction_at Up here.side) Doubled (cells_of m) ∷ [] }) (passed_by (record h { queue = put_on m h.queue }))).sent ≡ 0
      doubled true = refl
      doubled false = refl

      at : (parts : Bool) → tolls all posts (cond parts (waits_for_readers here m h) (obeyed here m.kind m.plain h)).sent ≤ moves_above m.kind false (length (cells_of m))
      at true = omega (arith, doubled (is_doubled m h.queue.messages))
      at false = obeyed-few here m.kind m.plain h (length (cells_of m))

  -- at a driver
  module _ (side : Side) (across : Across) (m : Message C) (q : Queue C) where
    abbrev crossing : Message C → ℕ
    crossing = moves_across (echoes all (other side))

    -- a put that adds so many at most
    abbrev Adds : Acted C (Queue C) → ℕ → Type 0
    Adds t n = sum_by crossing t.state.messages + tolls all posts t.sent ≤ sum_by crossing q.messages + n

    reads-none : (goes : Bool) (asked : FlushAsked) (to : Spot) → to.way ≡ Up → tolls {C = C} all posts (reader_flush goes asked to) ≡ 0
    reads-none true asked to up = up-none to.way up
      where
        up-none : (way : Way) → way ≡ Up → toll_at {C = C} all posts way to.side to.at (flush_message (read_flush asked.band)) + 0 ≡ 0
        up-none Up up = refl
        up-none Down up = refl
    reads-none false asked to up = refl

    taken-adds : Adds (taken_in side across m q) (crossing m)
    taken-adds = at across.ended
      where
        at : (ended : Bool) → Adds (cond ended (record (freed q) { gone = Goes (direction_from side) EndClosed (cells_of m) ∷ [] }) (record (freed (put_on m q)) { notes = cond (put_enables m q) (Enable Down ∷ []) [] })) (crossing m)
        at true = omega arith
        at false = omega (arith, sum-put rank_of crossing m q.messages)

    crossing-adds : (goes : Bool) → Adds (cond goes (taken_in side across m q) (freed q)) (crossing m)
    crossing-adds true = taken-adds
    crossing-adds false = omega arith

    ioctl-adds : (here : Spot) (known : Option Ioc) → Adds (ioctl_put side across here known m q) (crossing m)
    ioctl-adds here None = omega arith
    ioctl-adds here (Some ioc) = at (ioc.number == 0 || (is_master side && across.is_open))
      where
        at : (goes : Bool) → Adds (cond goes (taken_in side across m q) (answered here ioc q)) (crossing m)
        at true = taken-adds
        at false = omega arith

    flushed-adds : (asked : FlushAsked) (own : Bool) (ps : List (Parcel C)) → tolls all posts ps ≡ 0 → Adds (record (cond own (own_flushed side asked q) (freed q)) { sent = ps }) 0
    flushed-adds asked true ps none = omega (arith, none, behind-less crossing (of_data asked.band) q)
    flushed-adds asked false ps none = omega (arith, none)

    down-adds : (here : Spot) (kind : MsgKind) → m.kind ≡ kind → Adds (put_down side across here kind m q) (cond (is_flush kind && not (has_parts m)) 0 (crossing m))
    down-adds here Flush is =
        let asked = asked_by m.plain in
        let first : List (Parcel C) = reader_flush (asked.for_write && across.is_open) asked (bottom_across side across) in
        let second : List (Parcel C) = reader_flush asked.for_read asked (driver_across side across) in
        let none : tolls all posts (first ++ second) ≡ 0 = omega (arith, tolls-both all posts first second, reads-none (asked.for_write && across.is_open) asked (bottom_across side across) refl, reads-none asked.for_read asked (driver_across side across) refl) in
        omega (arith, flushed-adds asked asked.for_write (first ++ second) none)
    down-adds here Ioctl is = ioctl-adds here (read_ioc m.plain)
    down-adds here kind is = crossing-adds (crosses kind)

    pub came-down : (here : Spot) → Adds (driver_put side across (record here { way = Down }) m q) (cond (is_bare_flush m) 0 (crossing m))
    came-down here = at (has_parts m) refl
      where
        no-flush : (flush : Bool) → cond (flush && not true) 0 (crossing m) ≡ crossing m
        no-flush true = refl
        no-flush false = refl

        at : (parts : Bool) → has_parts m ≡ parts → Adds (cond parts (taken_in side across m q) (put_down side across (record here { way = Down }) m.kind m q)) (cond (is_flush m.kind && not (has_parts m)) 0 (crossing m))
        at true is =
            let whole = ap (λ (b : Bool). cond (is_flush m.kind && not b) 0 (crossing m)) is ∙ no-flush (is_flush m.kind) in
            omega (arith, taken-adds, whole)
        at false is = down-adds (record here { way = Down }) m.kind refl

    across-adds : (kind : MsgKind) → Adds (put_across side across kind m q) 0
    across-adds Flush = at (asked_by m.plain).for_read
      where
        at : (own : Bool) → Adds (cond own (record (own_flushed side (asked_by m.plain) q) { sent = reader_flush across.is_open (asked_by m.plain) (bottom_across side across) }) (freed q)) 0
        at true = flushed-adds (asked_by m.plain) true (reader_flush across.is_open (asked_by m.plain) (bottom_across side across)) (reads-none across.is_open (asked_by m.plain) (bottom_across side across) refl)
        at false = omega arith
    across-adds kind = omega arith

    pub came-across : (here : Spot) → has_parts m ≡ false → Adds (driver_put side across (record here { way = Up }) m q) 0
    came-across here none = at (has_parts m) none
      where
        at : (parts : Bool) → parts ≡ false → Adds (cond parts (taken_in side across m q) (put_across side across m.kind m q)) 0
        at true is = absurd (cc)
        at false is = across-adds m.kind

  -- at ptem: an M_IOCTL is answered, and what was set is told across
  module _ (here : Spot) (m : Message C) (l : Ptem) where
    abbrev Few : List (Parcel C) → Type 0
    Few sent = tolls all posts sent ≤ toll all posts here m

    -- what an M_IOCTL costs on its way
    asks-up : here.way ≡ Up → m.kind ≡ Ioctl → toll all posts here m ≡ 1
    asks-up way is = ap (λ (way : Way). toll_at all posts way here.side here.at m) way ∙ ap (λ (kind : MsgKind). moves_above kind (at_or_above (echoes all here.side) (posts here.side) here.at) (length (cells_of m))) is

    down_by : MsgKind → ℕ
    down_by kind = cond (is_flush kind && not (has_parts m)) 0 (sinks_by kind (at_or_below (echoes all here.side) (posts here.side) here.at) (length (cells_of m)) + suc (moves_above kind (echoes all (other here.side)) (length (cells_of m))))

    asks-down : here.way ≡ Down → m.kind ≡ Ioctl → toll all posts here m ≡ down_by Ioctl
    unfolding down_by
    asks-down way is = ap (λ (way : Way). toll_at all posts way here.side here.at m) way ∙ ap (λ (kind : MsgKind). down_by kind) is

    telling-none : (ioc : Ioc) (given : List ℕ) → length (cells_of (telling_message {C = C} ioc given)) ≡ 0
    unfolding cells_of
    telling-none ioc given = refl

    telling-least : (ioc : Ioc) (given : List ℕ) → toll_at all posts Down here.side here.at (telling_message {C = C} ioc given) ≤ down_by Ioctl
    unfolding down_by
    telling-least ioc given = at (at_or_below (echoes all here.side) (posts here.side) here.at) (length (cells_of (telling_message {C = C} ioc given))) (telling-none ioc given)
      where
        at : (b : Bool) (n : ℕ) → n ≡ 0 → sinks_by Ioctl b n + 2 ≤ sinks_by Ioctl b (length (cells_of m)) + 2
        at true n none = omega (arith, none)
        at false n none = omega arith

    tells-less : here.way ≡ Down → m.kind ≡ Ioctl → (ioc : Ioc) (given : List ℕ) → toll all posts (toward Down here) (telling_message {C = C} ioc given) ≤ toll all posts here m
    tells-less way is ioc given = omega (arith, asks-down way is, telling-least ioc given, down-falls all posts here.side (here.at + 1) here.at (telling_message {C = C} ioc given) (omega arith))

    pub ptem-few : Few (ptem_puts here m l).sent
    ptem-few = ptem-each here m l (λ t. Few t.sent) (omega (arith, onward-falls all posts here.way here m)) (λ is. (let asks = asked-ioctl m is in record {
      acked = λ way ioc given. omega arith;
      refused_above = λ way ioc. omega arith;
      set = λ way ioc given new. set (same_winsize l.window new.window) way asks ioc given;
      refused_below = λ way ioc. omega (arith, asks-up way asks);
      told = λ way ioc w. told (same_winsize l.window w) way asks ioc;
      signalled = λ way ioc signal. omega (arith, asks-up way asks);
    }))
      where
        set : (same : Bool) → here.way ≡ Down → m.kind ≡ Ioctl → (ioc : Ioc) (given : List ℕ) → Few (onward Up here (ack_message ioc given) ∷ (onward Down here (telling_message ioc given) ∷ cond same [] (signals_up here sigwinch ∷ [])))
        set true way is ioc given = omega (arith, tells-less way is ioc given)
        set false way is ioc given = omega (arith, tells-less way is ioc given)

        told : (same : Bool) → here.way ≡ Up → m.kind ≡ Ioctl → (ioc : Ioc) → Few (cond same [] (signals_up here sigwinch ∷ []) ++ onward Down here (ack_message ioc []) ∷ [])
        told true way is ioc = omega (arith, asks-up way is)
        told false way is ioc = omega (arith, asks-up way is)

  -- at pckt, which doesn't stand below an ldterm: no packet waits on the way up
  module _ (cells : Cells C) (made : ℕ) (here : Spot) (m : Message C) (clear : at_or_above (echoes all here.side) (posts here.side) (here.at - 1) ≡ false) where
    packet-none : toll all posts (toward Up here) (packet cells made here m) ≡ 0
    packet-none = ap (λ (ahead : Bool). moves_above Proto ahead (length (cells_of (packet cells made here m)))) clear

    passed-none : (goes : Bool) → tolls all posts (passed_made {E = C} here m.plain goes) ≡ 0
    passed-none true = refl
    passed-none false = refl

    pub pckt-few : tolls all posts (pckt_puts cells made here m).sent ≤ toll all posts here m
    pckt-few = pckt-each cells made here m (λ t. tolls all posts t.sent ≤ toll all posts here m) (omega (arith, onward-falls all posts here.way here m))
        (λ way is. omega (arith, packet-none, passed-none (is_flush_passed m.kind m.plain)))
