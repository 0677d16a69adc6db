-- The streams beside a store that is as wide as modules of a user's own want it (OwnModule). Enabled queues are there.
use Rattle.std.specs.Prelude.{◌≡◌, Bool}
use Rattle.std.proofs.Common.{subst, sym}
use Rattle.strm_pair.specs.Prelude.{StoreValue}
use Rattle.strm_frame.specs.Hands.{IsWide, SameFor}
use Rattle.strm_frame.proofs.WidePools.{wide-on}
use Rattle.strm_pair.specs.declared.streams.Streams.{Streams}
use Rattle.strm_pair.specs.Enabling.{AreFewEnabled}
use Rattle.strm_pair.specs.Framing.{streams-frame}
use Rattle.strm_pair.specs.Pairs.{state_in, AreBeside, kept_by}

pub record StandOver (wanted : Bool) (s : StoreValue) (p : Streams) : Type 0 where
  pub beside : AreBeside s p
  pub wide : IsWide wanted s
  pub enabled : AreFewEnabled (state_in s p)

-- they stand for the same, and so do these, where the lists of the store are the same
pub wide-frame : (wanted : Bool) (s t : StoreValue) (p : Streams) → SameFor s t (kept_by p) → StandOver wanted s p
    → (state_in t p ≡ state_in s p) × StandOver wanted t p
wide-frame wanted s t p same stand =
    let r = streams-frame s t p same stand.beside in (
      r.0,
      record {
        beside = r.1;
        wide = wide-on wanted s t same.mblks same.dblks stand.wide;
        enabled = subst AreFewEnabled (sym r.0) stand.enabled;
      },
    )
