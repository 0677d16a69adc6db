use Rattle.std.proofs.Common.{◌≡◌, ◌+◌, length}
use Rattle.std.specs.Prelude.{All}
use Rattle.strm_system.specs.Hosts.{AreOf}
use Rattle.strm_storm.specs.Rounds.{IsRoundOf}
use Rattle.strm_storm.proofs.hosting.serial_rounds.Given as goal

abbrev pub invariant-loop-asked : goal.invariant-loop-asked
invariant-loop-asked g l = record {
  opener : AreOf l.host l.opener;
  made : All (λ r. IsRoundOf l.host r) l.made.items;
  all : length l.made.items + l.refused ≡ l.asked;
}
