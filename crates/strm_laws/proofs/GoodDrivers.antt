-- What is put at a driver leaves its queue good, and what it sends is good (ptm(7D), pts(7D)).
use Rattle.strm_laws.proofs.Prelude.{◌≡◌, Bool, true, false, cond, refl, ap, subst, ◌∙◌, false≢true, ◌==◌, ◌&&◌, ◌||◌, Option, None, Some}
use Rattle.strm_laws.specs.Prelude.{FlushAsked, Ioc, MsgKind, Data, Proto, Sig, Ctl, Ioctl, Setopts, Iocack, Iocnak, Pcproto, Pcsig, Flush, Hangup}
use Rattle.strm_laws.specs.Prelude.{Error, Side, Way, Up, Down, Across, Spot, is_ioctl, Acted, answered, bottom_across, crosses, driver_across}
use Rattle.strm_laws.specs.Prelude.{driver_put, flush_across, flush_down, freed, ioctl_put, own_flushed, put_across, put_down, reader_flush, taken_in}
use Rattle.strm_laws.specs.Prelude.{of_data, asked_by, read_flush, read_ioc, is_body_kind, is_control_kind, Message, has_parts, is_master, Queue}
use Rattle.strm_types.specs.declared.kinds.MsgKind.TheVariants.{Read, Stop, Start}
use Rattle.strm_laws.specs.GoodMessages.{AreGood, GoodMessage, is_part_kind}
use Rattle.strm_laws.specs.Restorable.{GoodQueue, StandsOn, stands_below}
use Rattle.strm_laws.proofs.GoodDeliveries.{all-join}
use Rattle.strm_laws.proofs.GoodHeads.{flush-good, nak-good, with-parts}
use Rattle.strm_laws.proofs.GoodQueues.{behind-good, put-good}

-- what has parts crosses
parts-cross : (kind : MsgKind) → is_part_kind kind ≡ true → stands_below kind ≡ true
unfolding is_control_kind is_body_kind crosses
parts-cross Data is = refl
parts-cross Proto is = refl
parts-cross Pcproto is = refl
parts-cross _ is = absurd (false≢true is)

crossing : (kind : MsgKind) → crosses kind ≡ true → stands_below kind ≡ true
crossing kind is = ap (λ b. b || is_ioctl kind) is

ioctl-below : stands_below Ioctl ≡ true
unfolding crosses
ioctl-below = refl

module _ {C : Type 0} where
  abbrev Below : Queue C → Type 0
  Below q = GoodQueue stands_below q

  -- what a driver does is good, and what it sends
  pub record GoodAtDriver (t : Acted C (Queue C)) : Type 0 where
    pub state : Below t.state
    pub sent : AreGood GoodMessage t.sent

  either-driver : (b : Bool) (one another : Acted C (Queue C)) → GoodAtDriver one → GoodAtDriver another → GoodAtDriver (cond b one another)
  either-driver true one another first second = first
  either-driver false one another first second = second

  freed-good : (q : Queue C) → Below q → GoodAtDriver (freed q)
  freed-good q good = record { state = good; sent = tt }

  taken-good : (side : Side) (across : Across) (m : Message C) (q : Queue C) → StandsOn stands_below m → Below q → GoodAtDriver (taken_in side across m q)
  taken-good side across m q fits good =
      either-driver across.ended _ _ (record { state = good; sent = tt }) (record { state = put-good stands_below m q fits good; sent = tt })

  reader-good : (goes : Bool) (asked : FlushAsked) (to : Spot) (q : Queue C) → AreGood {C = C} GoodMessage (reader_flush goes asked to)
  reader-good true asked to q = (flush-good (read_flush asked.band), tt)
  reader-good false asked to q = tt

  own-good : (side : Side) (asked : FlushAsked) (q : Queue C) → Below q → Below (own_flushed side asked q).state
  own-good side asked q good = behind-good stands_below (of_data asked.band) q good

  down-good : (side : Side) (across : Across) (asked : FlushAsked) (q : Queue C) → Below q → GoodAtDriver (flush_down side across asked q)
  down-good side across asked q good = record {
    state = at asked.for_write;
    sent = all-join (λ p. GoodMessage p.message) (reader_flush (asked.for_write && across.is_open) asked (bottom_across side across)) (reader_flush asked.for_read asked (driver_across side across))
        (reader-good (asked.for_write && across.is_open) asked (bottom_across side across) q) (reader-good asked.for_read asked (driver_across side across) q);
  }
    where
      at : (own : Bool) → Below (cond own (own_flushed side asked q) (freed q)).state
      at true = own-good side asked q good
      at false = good

  across-good : (side : Side) (across : Across) (asked : FlushAsked) (q : Queue C) → Below q → GoodAtDriver (flush_across side across asked q)
  across-good side across asked q good =
      either-driver asked.for_read _ _ (record { state = own-good side asked q good; sent = reader-good across.is_open asked (bottom_across side across) q }) (freed-good q good)

  ioctl-good : (side : Side) (across : Across) (here : Spot) (known : Option Ioc) (m : Message C) (q : Queue C) → StandsOn stands_below m → Below q → GoodAtDriver (ioctl_put side across here known m q)
  ioctl-good side across here None m q fits good = freed-good q good
  ioctl-good side across here (Some ioc) m q fits good =
      either-driver (ioc.number == 0 || (is_master side && across.is_open)) (taken_in side across m q) (answered here ioc q)
      (taken-good side across m q fits good) (record { state = good; sent = (nak-good ioc, tt) })

  -- what crosses is taken in, and all else is freed
  kind-good : (side : Side) (across : Across) (m : Message C) (q : Queue C) → GoodMessage m → Below q → GoodAtDriver (cond (crosses m.kind) (taken_in side across m q) (freed q))
  kind-good side across m q fits good = at (crosses m.kind) refl
    where
      at : (over : Bool) → crosses m.kind ≡ over → GoodAtDriver (cond over (taken_in side across m q) (freed q))
      at true is = taken-good side across m q (record { good = fits; kind = crossing m.kind is }) good
      at false is = freed-good q good

  below-good : (side : Side) (across : Across) (here : Spot) (m : Message C) (q : Queue C) → GoodMessage m → Below q → GoodAtDriver (put_down side across here m.kind m q)
  below-good side across here m q fits good = at m.kind refl
    where
      other : {kind : MsgKind} → m.kind ≡ kind → GoodAtDriver (cond (crosses kind) (taken_in side across m q) (freed q))
      other is = subst (λ kind. GoodAtDriver (cond (crosses kind) (taken_in side across m q) (freed q))) is (kind-good side across m q fits good)

      at : (kind : MsgKind) → m.kind ≡ kind → GoodAtDriver (put_down side across here kind m q)
      at Flush is = down-good side across (asked_by m.plain) q good
      at Ioctl is = ioctl-good side across here (read_ioc m.plain) m q (record { good = fits; kind = ap (λ kind. stands_below kind) is ∙ ioctl-below }) good
      at Data is = other is
      at Proto is = other is
      at Sig is = other is
      at Ctl is = other is
      at Setopts is = other is
      at Iocack is = other is
      at Iocnak is = other is
      at Pcproto is = other is
      at Pcsig is = other is
      at Read is = other is
      at Stop is = other is
      at Start is = other is
      at Hangup is = other is
      at Error is = other is

  over-good : (side : Side) (across : Across) (kind : MsgKind) (m : Message C) (q : Queue C) → Below q → GoodAtDriver (put_across side across kind m q)
  over-good side across Flush m q good = across-good side across (asked_by m.plain) q good
  over-good side across _ m q good = freed-good q good

  pub driver-good : (side : Side) (across : Across) (here : Spot) (m : Message C) (q : Queue C) → GoodMessage m → Below q → GoodAtDriver (driver_put side across here m q)
  driver-good side across here m q fits good = at (has_parts m) refl here.way
    where
      by : Way → Acted C (Queue C)
      by Down = put_down side across here m.kind m q
      by Up = put_across side across m.kind m q

      at : (parts : Bool) → has_parts m ≡ parts → (way : Way) → GoodAtDriver (cond parts (taken_in side across m q) (by way))
      at true is way = taken-good side across m q (record { good = fits; kind = parts-cross m.kind (with-parts m fits is) }) good
      at false is Down = below-good side across here m q fits good
      at false is Up = over-good side across m.kind m q good
