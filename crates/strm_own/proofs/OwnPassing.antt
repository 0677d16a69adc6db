-- What a module of a user's own owes that hands all on, and sets itself to other bytes as it does (a counter).
use Rattle.strm_own.proofs.Prelude.{ℕ, ◌≤◌, ◌<◌, false, List, [], ◌∷◌, length, refl}
use Rattle.std.specs.List.{AllByRecursion}
use Rattle.strm_types.specs.declared.limits.TheConstants.{SETTINGS_MAX}
use Rattle.strm_types.specs.declared.spots.Spot.{Spot}
use Rattle.strm_types.specs.Cells.{Cells}
use Rattle.strm_types.specs.Deliver.{onward}
use Rattle.strm_types.specs.Message.{Message}
use Rattle.strm_types.specs.Owns.{Own}
use Rattle.strm_laws.specs.Behaviours.{OwnPut}
use Rattle.strm_laws.proofs.NoOwn.{passes-put}

pub sets-put : {C : Type 0} (cells : Cells C) (here : Spot) (m : Message C) (x : Own) (settings : List ℕ) → length settings ≤ SETTINGS_MAX
    → AllByRecursion (λ b. b < 256) settings
    → OwnPut false cells here m x (record { state = record x { settings = settings }; notes = []; sent = onward here.way here m ∷ []; gone = [] })
sets-put cells here m x settings few bytes =
    let passes = passes-put cells here m x in
    record {
      number = refl;
      notes = refl;
      once = passes.once;
      none_made = passes.none_made;
      unread = passes.unread;
      within = passes.within;
      kinds = passes.kinds;
      fits = passes.fits;
      sends = passes.sends;
      stays = λ good. record { number = good.number; few = few; bytes = bytes };
    }
