-- The slave that an end called for, by what the end became.
use Rattle.std.proofs.Common.{ℕ, ◌≡◌, List, sym, ap, ◌∙◌, subst}
use Rattle.std.specs.Prelude.{Option, None, Some, Ok, Err}
use Rattle.strm_minors.specs.Openers.{Holding}
use Rattle.strm_locks.specs.Ends.{CallsSlave}
use Rattle.strm_locks.specs.Systems.{Numbered, Plan, numbered}
use Rattle.strm_ends.specs.declared.hold.Hold.TheVariants.{End}
use Rattle.strm_ends.specs.declared.numbers.NotDone.TheVariants.{Busy, Refused}
use Rattle.strm_ends.specs.Members.{InHand, Seated, seated}
use Rattle.strm_ends.specs.Opening.{IsSlaveOpened, OpensSlave, OpensSlaveBy, with_share}
use Rattle.strm_ends.specs.Outcomes.{Outcome}

pub opened_slave : (a b : Seated) (system : ℕ) (e f slave : Numbered) (second : Seated) → f.pair ≡ e.pair → f.minor ≡ e.minor
    → CallsSlave (numbered e.pair None) e.end (Ok slave) f.end → b ≡ seated a.host a.opener (End system f)
    → second ≡ seated a.host None (End system slave) → IsSlaveOpened a system e (Some second) b
opened_slave a b system e f slave second pair minor calls left made =
    let stood : f ≡ with_share f.end e =
    ap (λ (p : ℕ). numbered p f.minor f.end) pair ∙ ap (λ (m : Option ℕ). numbered e.pair m f.end) minor in
    record {
      slave = slave;
      share = f.end;
      calls = calls;
      left = left ∙ ap (λ (x : Numbered). seated a.host a.opener (End system x)) stood;
      made = ap Some made;
    }

-- It is called for by the end in hand, whatever is in hand meanwhile.
module _ (host : List Plan) (opener : Option (List Holding)) (hold : InHand) (a : Seated) (view : seated host opener hold ≡ a) (other : InHand)
    (system : ℕ) (e : Numbered) (given : Option Seated) (b : Seated) where
  beside : (r : Outcome) → OpensSlaveBy (seated host opener other) system e given r b
      → OpensSlaveBy (seated host opener (End system e)) system e given r b
  beside (Ok _) did = record { slave = did.slave; share = did.share; calls = did.calls; left = did.left; made = did.made }
  beside (Err Busy) did = did
  beside (Err (Refused why)) did = did

  pub slave_of_end : (r : Outcome) → hold ≡ End system e → OpensSlaveBy (seated host opener other) system e given r b → OpensSlave a given r b
  slave_of_end r is did =
      subst (λ (x : Seated). OpensSlave x given r b) view
      (subst (λ (h : InHand). OpensSlave (seated host opener h) given r b) (sym is) (beside r did))
