use Rattle.strm_frame.proofs.Prelude.{◌≡◌, suc, map, drop}
use Rattle.strm_frame.specs.Prelude.{first_place, StoreValue}
use Rattle.strm_frame.specs.Standings.{standing_in}
use Rattle.strm_frame.proofs.room.place_below.Given as goal

abbrev pub invariant-loop-index : goal.invariant-loop-index
invariant-loop-index g l = record {
  same : (s : StoreValue) → first_place (suc l.index) (drop l.index (map (standing_in g.M.Module.plain s) l.modules))
      ≡ first_place (suc l.at) (drop l.at (map (standing_in g.M.Module.plain s) l.modules));
}
