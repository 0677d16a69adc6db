use Rattle.strm_laws.proofs.Replay.{replay-append}
use Rattle.strm_laws.proofs.laws.replay_goes_on.Goals as goal

pub returns : goal.returns
returns g c = λ cells s es fs. replay-append g.K.Behaves.does cells s es fs
