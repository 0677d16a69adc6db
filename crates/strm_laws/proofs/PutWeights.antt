-- What a put at a head or at a driver makes of the cells of its message.
use Rattle.strm_laws.proofs.Prelude.{ℕ, ◌≡◌, ◌+◌, Bool, true, false, cond, List, [], ◌∷◌, ◌++◌, refl, arith, ◌==◌, ◌&&◌, ◌||◌, Option, None, Some}
use Rattle.strm_laws.proofs.Prelude.{count_by, weight-put, weight-whole}
use Rattle.strm_laws.specs.Prelude.{FlushAsked, Ioc, MsgKind, Flush, Ioctl, Setopts, ReadMode, Marks, Side, Dir, Way, Up, Down, Doubled, EndClosed}
use Rattle.strm_laws.specs.Prelude.{Across, Enable, Spot, Acted, Parcel, toward, Goes, answered, bottom_across, crosses, driver_across, driver_put}
use Rattle.strm_laws.specs.Prelude.{freed, ioctl_put, own_flushed, put_across, put_down, reader_flush, taken_in, of_data, asked_by, flush_bytes}
use Rattle.strm_laws.specs.Prelude.{flush_message, read_flush, nak_message, read_ioc, head_flushed, head_put, is_doubled, obeyed, passed_by}
use Rattle.strm_laws.specs.Prelude.{turned_round, waits_for_readers, flush_up, nak_down, with_marks_given, Head, mode_message, options_in, Message}
use Rattle.strm_laws.specs.Prelude.{cells_of, has_parts, is_part, part, weight_of, direction_from, direction_at, is_master, Queue, put_on}
use Rattle.strm_laws.specs.Prelude.{put_enables, weight}
use Rattle.strm_laws.specs.Places.{direction_to, weight_sent, weight_gone, weight_made}
use Rattle.strm_laws.proofs.EmptiedKeeps.{behind-keeps}

-- an M_IOCNAK has no cells
weight-nak : {C : Type 0} (p : C → Bool) (ioc : Ioc) → weight_of p (nak_message ioc) ≡ 0
unfolding weight_of cells_of
weight-nak p ioc = refl

-- nor has an M_FLUSH
pub weight-flush : {C : Type 0} (p : C → Bool) (bytes : List ℕ) → weight_of p (flush_message bytes) ≡ 0
unfolding weight_of cells_of
weight-flush p bytes = refl

-- nor an M_SETOPTS
pub weight-mode : {C : Type 0} (p : C → Bool) (mode : ReadMode) (tostop : Bool) → weight_of p (mode_message mode tostop) ≡ 0
unfolding weight_of cells_of
weight-mode p mode tostop = refl

-- a message without parts has no cells
pub no-parts : {C : Type 0} (p : C → Bool) (m : Message C) → has_parts m ≡ false → weight_of p m ≡ 0
unfolding weight_of cells_of
no-parts {C} p m none = at m.control m.body none
  where
    at : (control body : Option (List C)) → (is_part control || is_part body) ≡ false → count_by p (part control ++ part body) ≡ 0
    at None None none = refl
    at None (Some cells) none = absurd (cc)
    at (Some cells) body none = absurd (cc)

module _ {C : Type 0} (p : Dir → C → Bool) where
  -- a put at a queue of a direction, or at a head on a side, that had so many cells with those of the message
  abbrev pub QueueKeeps : Side → Acted C (Queue C) → ℕ → Type 0
  QueueKeeps side t n = weight (p (direction_from side)) t.state.messages + (weight_sent p t.sent + weight_gone p t.gone) ≡ n + weight_made p t.gone

  abbrev pub HeadKeeps : Side → Acted C (Head C) → ℕ → Type 0
  HeadKeeps side t n = weight (p (direction_at Up side)) t.state.queue.messages + (weight_sent p t.sent + weight_gone p t.gone) ≡ n + weight_made p t.gone

  pub weight-both : (ps qs : List (Parcel C)) → weight_sent p (ps ++ qs) ≡ weight_sent p ps + weight_sent p qs
  weight-both [] qs = omega arith
  weight-both (x ∷ ps) qs = let ih = weight-both ps qs in omega arith

  -- at a driver
  weight-reads : (goes : Bool) (asked : FlushAsked) (to : Spot) → weight_sent p (reader_flush goes asked to) ≡ 0
  weight-reads true asked to = omega (arith, weight-flush (p (direction_to to)) (read_flush asked.band))
  weight-reads false asked to = refl

  taken_in-keeps : (side : Side) (across : Across) (m : Message C) (q : Queue C) → QueueKeeps side (taken_in side across m q) (weight (p (direction_from side)) q.messages + weight_of (p (direction_from side)) m)
  taken_in-keeps side across m q = at across.ended
    where
      at : (ended : Bool) → QueueKeeps side (cond ended (record (freed q) { gone = Goes (direction_from side) EndClosed (cells_of m) ∷ [] }) (record (freed (put_on m q)) { notes = cond (put_enables m q) (Enable Down ∷ []) [] })) (weight (p (direction_from side)) q.messages + weight_of (p (direction_from side)) m)
      at true = omega (arith, weight-whole (p (direction_from side)) m)
      at false = omega (arith, weight-put (p (direction_from side)) m q.messages)

  crossing-keeps : (side : Side) (across : Across) (m : Message C) (q : Queue C) (goes : Bool) → weight_of (p (direction_from side)) m ≡ 0 → QueueKeeps side (cond goes (taken_in side across m q) (freed q)) (weight (p (direction_from side)) q.messages + weight_of (p (direction_from side)) m)
  crossing-keeps side across m q true none = taken_in-keeps side across m q
  crossing-keeps side across m q false none = omega (arith, none)

  -- the own queue is flushed, or not, and messages without cells go on
  flushed-keeps : (side : Side) (asked : FlushAsked) (q : Queue C) (own : Bool) (ps : List (Parcel C)) → weight_sent p ps ≡ 0 → QueueKeeps side (record (cond own (own_flushed side asked q) (freed q)) { sent = ps }) (weight (p (direction_from side)) q.messages)
  flushed-keeps side asked q true ps none = omega (arith, none, behind-keeps (p (direction_from side)) (of_data asked.band) q)
  flushed-keeps side asked q false ps none = omega (arith, none)

  ioctl-keeps : (side : Side) (across : Across) (here : Spot) (known : Option Ioc) (m : Message C) (q : Queue C) → weight_of (p (direction_from side)) m ≡ 0 → QueueKeeps side (ioctl_put side across here known m q) (weight (p (direction_from side)) q.messages + weight_of (p (direction_from side)) m)
  ioctl-keeps side across here None m q none = omega (arith, none)
  ioctl-keeps side across here (Some ioc) m q none = at (ioc.number == 0 || (is_master side && across.is_open))
    where
      at : (crosses : Bool) → QueueKeeps side (cond crosses (taken_in side across m q) (answered here ioc q)) (weight (p (direction_from side)) q.messages + weight_of (p (direction_from side)) m)
      at true = taken_in-keeps side across m q
      at false = omega (arith, none, weight-nak (p (direction_to (toward Up here))) ioc)

  put_down-keeps : (side : Side) (across : Across) (here : Spot) (kind : MsgKind) (m : Message C) (q : Queue C) → weight_of (p (direction_from side)) m ≡ 0 → QueueKeeps side (put_down side across here kind m q) (weight (p (direction_from side)) q.messages + weight_of (p (direction_from side)) m)
  put_down-keeps side across here Flush m q none =
      let asked = asked_by m.plain in
      let across_flush = reader_flush (asked.for_write && across.is_open) asked (bottom_across side across) in
      let driver_flush = reader_flush asked.for_read asked (driver_across side across) in
      let sent : weight_sent p (across_flush ++ driver_flush) ≡ 0 = omega (arith, weight-both across_flush driver_flush, weight-reads (asked.for_write && across.is_open) asked (bottom_across side across), weight-reads asked.for_read asked (driver_across side across)) in
      omega (arith, none, flushed-keeps side asked q asked.for_write (across_flush ++ driver_flush) sent)
  put_down-keeps side across here Ioctl m q none = ioctl-keeps side across here (read_ioc m.plain) m q none
  put_down-keeps side across here kind m q none = crossing-keeps side across m q (crosses kind) none

  put_across-keeps : (side : Side) (across : Across) (kind : MsgKind) (m : Message C) (q : Queue C) → weight_of (p (direction_from side)) m ≡ 0 → QueueKeeps side (put_across side across kind m q) (weight (p (direction_from side)) q.messages + weight_of (p (direction_from side)) m)
  put_across-keeps side across Flush m q none = omega (arith, none, at (asked_by m.plain).for_read)
    where
      at : (own : Bool) → QueueKeeps side (cond own (record (own_flushed side (asked_by m.plain) q) { sent = reader_flush across.is_open (asked_by m.plain) (bottom_across side across) }) (freed q)) (weight (p (direction_from side)) q.messages)
      at true = flushed-keeps side (asked_by m.plain) q true (reader_flush across.is_open (asked_by m.plain) (bottom_across side across)) (weight-reads across.is_open (asked_by m.plain) (bottom_across side across))
      at false = omega arith
  put_across-keeps side across kind m q none = omega (arith, none)

  way-keeps : (way : Way) (side : Side) (across : Across) (here : Spot) (m : Message C) (q : Queue C) → QueueKeeps side (driver_put side across (record here { way = way }) m q) (weight (p (direction_from side)) q.messages + weight_of (p (direction_from side)) m)
  way-keeps Down side across here m q = at (has_parts m) refl
    where
      at : (parts : Bool) → has_parts m ≡ parts → QueueKeeps side (cond parts (taken_in side across m q) (put_down side across (record here { way = Down }) m.kind m q)) (weight (p (direction_from side)) q.messages + weight_of (p (direction_from side)) m)
      at true is = taken_in-keeps side across m q
      at false is = put_down-keeps side across (record here { way = Down }) m.kind m q (no-parts (p (direction_from side)) m is)
  way-keeps Up side across here m q = at (has_parts m) refl
    where
      at : (parts : Bool) → has_parts m ≡ parts → QueueKeeps side (cond parts (taken_in side across m q) (put_across side across m.kind m q)) (weight (p (direction_from side)) q.messages + weight_of (p (direction_from side)) m)
      at true is = taken_in-keeps side across m q
      at false is = put_across-keeps side across m.kind m q (no-parts (p (direction_from side)) m is)

  pub driver_put-keeps : (side : Side) (across : Across) (here : Spot) (m : Message C) (q : Queue C) → QueueKeeps side (driver_put side across here m q) (weight (p (direction_from side)) q.messages + weight_of (p (direction_from side)) m)
  driver_put-keeps side across here m q = way-keeps here.way side across here m q

  -- at a head
  waits-keeps : (here : Spot) (m : Message C) (h : Head C) → HeadKeeps here.side (waits_for_readers here m h) (weight (p (direction_at Up here.side)) h.queue.messages + weight_of (p (direction_at Up here.side)) m)
  waits-keeps here m h = at (is_doubled m h.queue.messages)
    where
      at : (doubled : Bool) → HeadKeeps here.side (cond doubled (record (passed_by h) { gone = Goes (direction_at Up here.side) Doubled (cells_of m) ∷ [] }) (passed_by (record h { queue = put_on m h.queue }))) (weight (p (direction_at Up here.side)) h.queue.messages + weight_of (p (direction_at Up here.side)) m)
      at true = omega (arith, weight-whole (p (direction_at Up here.side)) m)
      at false = omega (arith, weight-put (p (direction_at Up here.side)) m h.queue.messages)

  round-keeps : (here : Spot) (asked : FlushAsked) → weight_sent p (turned_round here asked) ≡ 0
  round-keeps here asked = at asked.for_write
    where
      at : (goes : Bool) → weight_sent p (cond goes (record { to = toward Down here; message = flush_message (flush_bytes (record asked { for_read = false })) } ∷ []) []) ≡ 0
      at true = omega (arith, weight-flush (p (direction_to (toward Down here))) (flush_bytes (record asked { for_read = false })))
      at false = refl

  flush-keeps : (here : Spot) (asked : FlushAsked) (h : Head C) → HeadKeeps here.side (flush_up here asked h) (weight (p (direction_at Up here.side)) h.queue.messages)
  flush-keeps here asked h = at asked.for_read
    where
      at : (own : Bool) → HeadKeeps here.side (record (cond own (head_flushed here asked h) (passed_by h)) { sent = turned_round here asked }) (weight (p (direction_at Up here.side)) h.queue.messages)
      at true = omega (arith, round-keeps here asked, behind-keeps (p (direction_at Up here.side)) (of_data asked.band) h.queue)
      at false = omega (arith, round-keeps here asked)

  nak-keeps : (here : Spot) (known : Option Ioc) → weight_sent p (nak_down {C = C} here known) ≡ 0
  nak-keeps here None = refl
  nak-keeps here (Some ioc) = at (ioc.number == 0)
    where
      at : (b : Bool) → weight_sent p (cond b [] (record { to = toward Down here; message = nak_message ioc } ∷ [])) ≡ 0
      at true = refl
      at false = omega (arith, weight-nak (p (direction_to (toward Down here))) ioc)

  marks-keep : (t : C → Bool) (given : Option Marks) (q : Queue C) → weight t (with_marks_given given q).messages ≡ weight t q.messages
  marks-keep t None q = refl
  marks-keep t (Some marks) q = refl

  obeyed-keeps : (here : Spot) (kind : MsgKind) (bytes : List ℕ) (h : Head C) → HeadKeeps here.side (obeyed here kind bytes h) (weight (p (direction_at Up here.side)) h.queue.messages)
  obeyed-keeps here Flush bytes h = flush-keeps here (asked_by bytes) h
  obeyed-keeps here Setopts bytes h = omega (arith, marks-keep (p (direction_at Up here.side)) (options_in bytes).marks h.queue)
  obeyed-keeps here Ioctl bytes h = omega (arith, nak-keeps here (read_ioc bytes))
  obeyed-keeps here kind bytes h = omega arith

  pub head_put-keeps : (here : Spot) (m : Message C) (h : Head C) → HeadKeeps here.side (head_put here m h) (weight (p (direction_at Up here.side)) h.queue.messages + weight_of (p (direction_at Up here.side)) m)
  head_put-keeps here m h = at (has_parts m) refl
    where
      at : (parts : Bool) → has_parts m ≡ parts → HeadKeeps here.side (cond parts (waits_for_readers here m h) (obeyed here m.kind m.plain h)) (weight (p (direction_at Up here.side)) h.queue.messages + weight_of (p (direction_at Up here.side)) m)
      at true is = waits-keeps here m h
      at false is = omega (arith, no-parts (p (direction_at Up here.side)) m is, obeyed-keeps here m.kind m.plain h)
