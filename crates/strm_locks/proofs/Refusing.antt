-- A call that opens the slave is never refused by ERANGE.
use Rattle.std.proofs.Common.{◌≡◌, ◌≢◌, ◌+◌, refl, sym, ap, ◌∙◌}
use Rattle.std.specs.Prelude.{Bool, true, false, not, Option, None, Some, Result, Ok}
use Rattle.strm_types.specs.declared.events.Caller.{Caller}
use Rattle.strm_types.specs.declared.events.Event.TheVariants.{OpenSlave}
use Rattle.strm_types.specs.declared.refusals.Refusal.{Refusal}
use Rattle.strm_types.specs.declared.refusals.Refusal.TheVariants.{Einval, Eagain, Enxio, Enosr, Erange, JournalFull}
use Rattle.strm_types.specs.Names.{is_open}
use Rattle.strm_types.specs.Needs.{needs}
use Rattle.strm_types.specs.Refused.{or_else, unless}
use Rattle.strm_laws.proofs.NoOwn.{none as no_own}
use Rattle.strm_laws.specs.Pair.{PairState, call_refused}
use Rattle.strm_laws.specs.Refusals.{blocks_asked, enough, has_room}

abbrev is_erange : Option Refusal → Bool
is_erange (Some Erange) = true
is_erange _ = false

others : (a b c d e : Bool) → is_erange (or_else (unless a Enxio) (or_else (unless b JournalFull) (or_else (unless c Enosr) (or_else (unless d Einval) (unless e Eagain))))) ≡ false
others false b c d e = refl
others true false c d e = refl
others true true false d e = refl
others true true true false e = refl
others true true true true false = refl
others true true true true true = refl

-- the stream of the master, the journal's room, the blocks, and then what the state says
flat : (a : Bool) (o : Option Refusal) → or_else (or_else (unless a Enxio) None) o ≡ or_else (unless a Enxio) o
flat true o = refl
flat false o = refl

never : (p : PairState) (caller : Caller) → is_erange (call_refused no_own p caller OpenSlave) ≡ false
never p caller =
    let room = has_room p.journal p.limits ((needs OpenSlave).brings + (needs OpenSlave).gives) in
    let blocks = enough (blocks_asked OpenSlave) p.free in
    let rest : Option Refusal = or_else (unless room JournalFull) (or_else (unless blocks Enosr) (or_else (unless (not (is_open p.state.ends.slave.opened)) Einval) (unless (not p.state.locked) Eagain))) in
    ap is_erange (flat (is_open p.state.ends.master.opened) rest) ∙ others (is_open p.state.ends.master.opened) room blocks (not (is_open p.state.ends.slave.opened)) (not p.state.locked)

pub not_erange : (p : PairState) (caller : Caller) (z : Refusal) → call_refused no_own p caller OpenSlave ≡ Some z → z ≢ Erange
not_erange p caller z r same = let is : true ≡ false = sym (ap is_erange (r ∙ ap (λ (x : Refusal). Some x) same)) ∙ never p caller in absurd (cc)

-- the value that a result is said to have
module _ {A E : Type 0} {r : Result A E} {x : A} where
  abbrev pub value_of : r ≡ Ok x → A
  value_of is = x
