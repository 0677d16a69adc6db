-- No head and no driver makes a cell.
use Rattle.strm_laws.proofs.Prelude.{ℕ, ◌≡◌, Bool, true, false, cond, List, refl, ◌==◌, ◌&&◌, ◌||◌, Option, None, Some}
use Rattle.strm_laws.specs.Prelude.{FlushAsked, Ioc, MsgKind, Flush, Ioctl, Side, Way, Up, Down, Across, Spot, Dir, Acted, answered, crosses}
use Rattle.strm_laws.specs.Prelude.{driver_put, flush_down, freed, ioctl_put, own_flushed, put_across, put_down, taken_in, asked_by, head_flushed}
use Rattle.strm_laws.specs.Prelude.{head_put, is_doubled, obeyed, passed_by, Head, read_ioc, Message, has_parts, is_master, Queue}
use Rattle.strm_laws.specs.Places.{weight_made}

module _ {C : Type 0} (p : Dir → C → Bool) where
  abbrev MakesNone : {S : Type 0} → Acted C S → Type 0
  MakesNone t = weight_made p t.gone ≡ 0

  either : {S : Type 0} (b : Bool) (one another : Acted C S) → MakesNone one → MakesNone another → MakesNone (cond b one another)
  either true one another first second = first
  either false one another first second = second

  -- at a driver
  taken_in-none : (side : Side) (across : Across) (m : Message C) (q : Queue C) → MakesNone (taken_in side across m q)
  taken_in-none side across m q = either across.ended _ _ refl refl

  flush_down-none : (side : Side) (across : Across) (asked : FlushAsked) (q : Queue C) → MakesNone (flush_down side across asked q)
  flush_down-none side across asked q = either asked.for_write (own_flushed side asked q) (freed q) refl refl

  ioctl-none : (side : Side) (across : Across) (here : Spot) (known : Option Ioc) (m : Message C) (q : Queue C) → MakesNone (ioctl_put side across here known m q)
  ioctl-none side across here None m q = refl
  ioctl-none side across here (Some ioc) m q = either (ioc.number == 0 || (is_master side && across.is_open)) _ (answered here ioc q) (taken_in-none side across m q) refl

  put_down-none : (side : Side) (across : Across) (here : Spot) (kind : MsgKind) (m : Message C) (q : Queue C) → MakesNone (put_down side across here kind m q)
  put_down-none side across here Flush m q = flush_down-none side across (asked_by m.plain) q
  put_down-none side across here Ioctl m q = ioctl-none side across here (read_ioc m.plain) m q
  put_down-none side across here kind m q = either (crosses kind) _ (freed q) (taken_in-none side across m q) refl

  put_across-none : (side : Side) (across : Across) (kind : MsgKind) (m : Message C) (q : Queue C) → MakesNone (put_across side across kind m q)
  put_across-none side across Flush m q = either (asked_by m.plain).for_read _ (freed q) refl refl
  put_across-none side across kind m q = refl

  way-none : (way : Way) (side : Side) (across : Across) (here : Spot) (m : Message C) (q : Queue C) → MakesNone (driver_put side across (record here { way = way }) m q)
  way-none Down side across here m q = either (has_parts m) _ _ (taken_in-none side across m q) (put_down-none side across (record here { way = Down }) m.kind m q)
  way-none Up side across here m q = either (has_parts m) _ _ (taken_in-none side across m q) (put_across-none side across m.kind m q)

  pub driver_put-none : (side : Side) (across : Across) (here : Spot) (m : Message C) (q : Queue C) → MakesNone (driver_put side across here m q)
  driver_put-none side across here m q = way-none here.way side across here m q

  -- at a head
  obeyed-none : (here : Spot) (kind : MsgKind) (bytes : List ℕ) (h : Head C) → MakesNone (obeyed here kind bytes h)
  obeyed-none here Flush bytes h = either (asked_by bytes).for_read (head_flushed here (asked_by bytes) h) (passed_by h) refl refl
  obeyed-none here kind bytes h = refl

  pub head_put-none : (here : Spot) (m : Message C) (h : Head C) → MakesNone (head_put here m h)
  head_put-none here m h = either (has_parts m) _ _ (either (is_doubled m h.queue.messages) _ _ refl refl) (obeyed-none here m.kind m.plain h)
