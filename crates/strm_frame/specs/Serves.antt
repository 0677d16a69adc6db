-- What a service procedure may ask, where it may stop, and what it leaves room for.
use Rattle.std.specs.Prelude.{ℕ, ◌≡◌, ◌+◌, min, Bool, true, false, if◌then◌else◌, List, map, slice_index_or, Option, None, Some}
use Rattle.strm_frame.specs.Prelude.{Parcel, act_among, Serving, StoreValue, free_m, free_d, cost_of, most}
use Rattle.strm_frame.specs.declared.service.Served.{Served}

-- what is in hand is the same, and the store has as many blocks
pub record SameHand (old new : StoreValue) : Type 0 where
  pub hand : new.hand ≡ old.hand
  pub mblks : new.mblks ≡ old.mblks
  pub dblks : new.dblks ≡ old.dblks

-- how many blocks are free of the kind of which fewer are
abbrev pub least_free : StoreValue → ℕ
least_free s = min (free_m s) (free_d s)

-- at how many bytes a call stopped for want of blocks, where it did
abbrev pub stop_at : Bool → ℕ → Option ℕ
stop_at true bytes = Some bytes
stop_at false bytes = None

abbrev pub stop_of : Served → Option ℕ
stop_of served = stop_at served.stopped served.bytes

-- how many blocks of each kind are taken at most by what a call has sent, and by the next call of the turn, where one follows
abbrev pub later_cost : {C : Type 0} → Bool → ℕ → List (Parcel C) → ℕ
later_cost again next sent = cost_of most sent + (if again then next else 0)

-- a call of the service procedure of one of several modules, counted from the top, from 0
abbrev pub served_among : {C P : Type 0} → (P → Serving C P) → ℕ → List P → Serving C (List P)
served_among serves i ps = record {
  acted = act_among (λ p. (serves p).acted) i ps;
  bytes = slice_index_or (map (λ p. (serves p).bytes) ps) i 0;
  again = slice_index_or (map (λ p. (serves p).again) ps) i false;
}
