use Rattle.strm_frame.proofs.Prelude.{◌≡◌, ◌-◌, suc, length, map, drop, take, None}
use Rattle.strm_frame.specs.Prelude.{last_place, StoreValue}
use Rattle.strm_frame.specs.Stacks.{IsPlace}
use Rattle.strm_frame.specs.Standings.{standing_in}
use Rattle.strm_frame.proofs.room.place_above.Given as goal

abbrev pub invariant-loop-index : goal.invariant-loop-index
invariant-loop-index g l = record {
  inside : IsPlace (length l.modules) l.last;
  same : (s : StoreValue) → last_place (suc l.index) l.last (drop l.index (take (l.at - 1) (map (standing_in g.M.Module.plain s) l.modules)))
      ≡ last_place 1 None (take (l.at - 1) (map (standing_in g.M.Module.plain s) l.modules));
}
