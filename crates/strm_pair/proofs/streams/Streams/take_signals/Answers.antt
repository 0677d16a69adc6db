-- The queue of the head stays.
use Rattle.std.proofs.Common.{[]}
use Rattle.strm_pair.proofs.Becoming.{head-becomes}
use Rattle.strm_pair.proofs.streams.Streams.take_signals.Goals as goal

pub returns-clause-becomes : goal.returns-clause-becomes
returns-clause-becomes c =
    head-becomes c.args.side c.args.self.now c.get_mut.result.now c.get_mut.ensures.value c.take_signals.new.self (λ h. record h { signals = [] }) c.take_signals.ensures.queue c.take_signals.ensures.state
