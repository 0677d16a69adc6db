-- A driver says of its own queue alone that it is to be enabled.
use Rattle.strm_laws.proofs.Prelude.{ℕ, Bool, true, false, cond, [], ◌∷◌, refl, ◌==◌, ◌&&◌, ◌||◌, Option, None, Some}
use Rattle.strm_laws.specs.Prelude.{Ioc, MsgKind, Data, Proto, Sig, Ctl, Ioctl, Setopts, Iocack, Iocnak, Pcproto, Pcsig, Flush, Hangup, Error}
use Rattle.strm_laws.specs.Prelude.{Driver, Side, Way, Up, Down, Across, Enable, Room, Spot, Acted, answered, bottom_across, crosses, driver_put, flush_down}
use Rattle.strm_laws.specs.Prelude.{freed, ioctl_put, own_flushed, put_across, put_down, reader_flush, taken_in, of_data, writer_goes, asked_by, read_ioc}
use Rattle.strm_laws.specs.Prelude.{Message, has_parts, is_master, Queue, put_enables}
use Rattle.strm_types.specs.declared.kinds.MsgKind.TheVariants.{Read, Stop, Start}
use Rattle.strm_laws.specs.StackCosts.{Stands, stands_of}
use Rattle.strm_laws.specs.State.{State}
use Rattle.strm_laws.proofs.EnabledExist.{AreNoted}

module _ {C : Type 0} (all : Stands) where
  module _ (side : Side) (across : Across) (m : Message C) (q : Queue C) where
    abbrev DriverNotes : Acted C (Queue C) → Type 0
    DriverNotes t = AreNoted all side (Some Driver) t.notes

    either-notes : (b : Bool) (one another : Acted C (Queue C)) → DriverNotes one → DriverNotes another → DriverNotes (cond b one another)
    either-notes true one another first second = first
    either-notes false one another first second = second

    taken-notes : DriverNotes (taken_in side across m q)
    taken-notes = either-notes across.ended _ _ tt (enables (put_enables m q))
      where
        enables : (b : Bool) → AreNoted all side (Some Driver) (cond b (Enable Down ∷ []) [])
        enables true = (refl, tt)
        enables false = tt

    own-notes : (goes : Bool) → AreNoted all side (Some Driver) (cond goes (Room Down ∷ []) [])
    own-notes true = tt
    own-notes false = tt

    down-notes : DriverNotes (flush_down side across (asked_by m.plain) q)
    down-notes = at (asked_by m.plain).for_write
      where
        at : (own : Bool) → DriverNotes (cond own (own_flushed side (asked_by m.plain) q) (freed q))
        at true = own-notes (writer_goes (of_data (asked_by m.plain).band) q)
        at false = tt

    ioctl-notes : (here : Spot) (o : Option Ioc) → DriverNotes (ioctl_put side across here o m q)
    ioctl-notes here None = tt
    ioctl-notes here (Some ioc) = either-notes (ioc.number == 0 || (is_master side && across.is_open)) (taken_in side across m q) (answered here ioc q) taken-notes tt

    put-notes : (here : Spot) (kind : MsgKind) → DriverNotes (put_down side across here kind m q)
    put-notes here Flush = down-notes
    put-notes here Ioctl = ioctl-notes here (read_ioc m.plain)
    put-notes here Data = either-notes (crosses Data) (taken_in side across m q) (freed q) taken-notes tt
    put-notes here Proto = either-notes (crosses Proto) (taken_in side across m q) (freed q) taken-notes tt
    put-notes here Sig = either-notes (crosses Sig) (taken_in side across m q) (freed q) taken-notes tt
    put-notes here Ctl = either-notes (crosses Ctl) (taken_in side across m q) (freed q) taken-notes tt
    put-notes here Setopts = either-notes (crosses Setopts) (taken_in side across m q) (freed q) taken-notes tt
    put-notes here Iocack = either-notes (crosses Iocack) (taken_in side across m q) (freed q) taken-notes tt
    put-notes here Iocnak = either-notes (crosses Iocnak) (taken_in side across m q) (freed q) taken-notes tt
    put-notes here Pcproto = either-notes (crosses Pcproto) (taken_in side across m q) (freed q) taken-notes tt
    put-notes here Pcsig = either-notes (crosses Pcsig) (taken_in side across m q) (freed q) taken-notes tt
    put-notes here Read = either-notes (crosses Read) (taken_in side across m q) (freed q) taken-notes tt
    put-notes here Stop = either-notes (crosses Stop) (taken_in side across m q) (freed q) taken-notes tt
    put-notes here Start = either-notes (crosses Start) (taken_in side across m q) (freed q) taken-notes tt
    put-notes here Hangup = either-notes (crosses Hangup) (taken_in side across m q) (freed q) taken-notes tt
    put-notes here Error = either-notes (crosses Error) (taken_in side across m q) (freed q) taken-notes tt

    over-notes : (kind : MsgKind) → DriverNotes (put_across side across kind m q)
    over-notes Flush = at (asked_by m.plain).for_read
      where
        at : (own : Bool) → DriverNotes (cond own (record (own_flushed side (asked_by m.plain) q) { sent = reader_flush across.is_open (asked_by m.plain) (bottom_across side across) }) (freed q))
        at true = own-notes (writer_goes (of_data (asked_by m.plain).band) q)
        at false = tt
    over-notes _ = tt

    pub driver-notes : (here : Spot) → DriverNotes (driver_put side across here m q)
    driver-notes here = at (has_parts m) here.way
      where
        by : Way → Acted C (Queue C)
        by Down = put_down side across here m.kind m q
        by Up = put_across side across m.kind m q

        at : (parts : Bool) (way : Way) → DriverNotes (cond parts (taken_in side across m q) (by way))
        at true way = taken-notes
        at false Down = put-notes here m.kind
        at false Up = over-notes m.kind

pub driver-noted : (s : State ℕ) (side : Side) (across : Across) (here : Spot) (m : Message ℕ) (q : Queue ℕ)
    → AreNoted (stands_of s) side (Some Driver) (driver_put side across here m q).notes
driver-noted s side across here m q = driver-notes (stands_of s) side across m q here
