-- What holds of each outcome of a put at ldterm holds of the put.
use Rattle.std.proofs.Common.{◌≡◌, Bool, true, false, cond, refl}
use Rattle.std.proofs.lemmas.Bool.{and_parts, not-true}
use Rattle.std.specs.Prelude.{not, Option, None, Some}
use Rattle.strm_types.specs.declared.ioctls.Ioc.{Ioc}
use Rattle.strm_types.specs.declared.kinds.MsgKind.{MsgKind}
use Rattle.strm_types.specs.declared.kinds.MsgKind.TheVariants.{Iocack}
use Rattle.strm_types.specs.declared.names.Way.{Way}
use Rattle.strm_types.specs.declared.names.Way.TheVariants.{Up, Down}
use Rattle.strm_types.specs.declared.spots.Spot.{Spot}
use Rattle.strm_types.specs.declared.termios.Termios.{Termios}
use Rattle.strm_types.specs.Acks.{payload}
use Rattle.strm_types.specs.Commands.{is_acked, is_iocack, sets_termios}
use Rattle.strm_types.specs.Deliver.{Acted}
use Rattle.strm_types.specs.Flushing.{is_flush}
use Rattle.strm_types.specs.Ioctls.{read_ioc}
use Rattle.strm_types.specs.LdtermPuts.{goes_on, ldterm_puts, passes_on_way, told_by_header, told_termios, waits_on}
use Rattle.strm_types.specs.Ldterms.{Discipline, flush_passes, queued_at}
use Rattle.strm_types.specs.Message.{Message, has_parts}
use Rattle.strm_types.specs.TakenUp.{taken_up}
use Rattle.strm_types.specs.Termios.{read_termios}

-- what holds of both holds of the one that is chosen
pub either : {A : Type 0} (P : A → Type 0) (b : Bool) (one another : A) → P one → P another → P (cond b one another)
either P true one another first second = first
either P false one another first second = second

module _ {C : Type 0} (here : Spot) (m : Message C) (p : Discipline C) (P : Acted C (Discipline C) → Type 0) where
  pub record Each : Type 0 where
    pub waits : waits_on here.way m ≡ true → P (queued_at here.way m p)
    pub flushes : is_flush m.kind ≡ true → P (flush_passes here m p)
    pub passes : P (goes_on here m p)
    pub taken : here.way ≡ Up → is_acked m ≡ true → (ioc : Ioc) (t : Termios) → P (taken_up here ioc.command t m p)

  module _ (each : Each) where
    termios-each : here.way ≡ Up → is_acked m ≡ true → (ioc : Ioc) (o : Option Termios) → P (told_termios here ioc o m p)
    termios-each way is ioc None = each.passes
    termios-each way is ioc (Some t) = each.taken way is ioc t

    header-each : here.way ≡ Up → is_acked m ≡ true → (o : Option Ioc) → P (told_by_header here o m p)
    header-each way is None = each.passes
    header-each way is (Some ioc) = by (sets_termios ioc.command)
      where
        by : (sets : Bool) → P (cond sets (told_termios here ioc (read_termios (payload m.plain)) m p) (goes_on here m p))
        by true = termios-each way is ioc (read_termios (payload m.plain))
        by false = each.passes

    acked-each : here.way ≡ Up → (acked : Bool) → is_acked m ≡ acked → P (cond acked (told_by_header here (read_ioc m.plain) m p) (goes_on here m p))
    acked-each way true is = header-each way is (read_ioc m.plain)
    acked-each way false is = each.passes

    way-each : (way : Way) → here.way ≡ way → P (passes_on_way way here m p)
    way-each Down is = each.passes
    way-each Up is = acked-each is (is_acked m) refl

    pub puts-each : P (ldterm_puts here m p)
    puts-each = at (waits_on here.way m) refl (is_flush m.kind) refl
      where
        at : (waits : Bool) → waits_on here.way m ≡ waits → (flush : Bool) → is_flush m.kind ≡ flush → P (cond waits (queued_at here.way m p) (cond flush (flush_passes here m p) (passes_on_way here.way here m p)))
        at true is flush flushes = each.waits is
        at false is true flushes = each.flushes flushes
        at false is false flushes = way-each here.way refl

-- what is taken up is an M_IOCACK without parts
pub acked-kind : {C : Type 0} (m : Message C) → is_acked m ≡ true → m.kind ≡ Iocack
acked-kind m is = at m.kind (and_parts (is_iocack m.kind) (not (has_parts m)) is).0
  where
    at : (kind : MsgKind) → is_iocack kind ≡ true → kind ≡ Iocack
    at Iocack is = refl
    at _ is = absurd (cc)

pub acked-bare : {C : Type 0} (m : Message C) → is_acked m ≡ true → has_parts m ≡ false
acked-bare m is = not-true (has_parts m) (and_parts (is_iocack m.kind) (not (has_parts m)) is).1
