use denote.Param.Send.{IsSend, owning_send, sendable}
use Rattle.strm_pair.specs.contracts.past.Past.{the_type, the_row}

pub send : IsSend the_row
send = owning_send the_type (search sendable, tt) (λ d. tt) (λ k x w. tt)
