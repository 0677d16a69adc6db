use Rattle.std.proofs.Common.{length}
use Rattle.strm_pair.proofs.own_settings.+settings_among.Given as goal

abbrev pub decreases-settings_among : goal.decreases-settings_among
decreases-settings_among l = length l.modules.now
