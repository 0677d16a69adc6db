use Rattle.strm_laws.proofs.StoredCalls.{request-back, request-size, reply-back, reply-size, entry-back}
use Rattle.strm_laws.proofs.laws.entries_read_back.Goals as goal

pub returns-clause-call : goal.returns-clause-call
returns-clause-call c = λ asked more. request-back asked more

pub returns-clause-call_size : goal.returns-clause-call_size
returns-clause-call_size c = λ asked. request-size asked

pub returns-clause-answer : goal.returns-clause-answer
returns-clause-answer c = λ reply more. reply-back reply more

pub returns-clause-answer_size : goal.returns-clause-answer_size
returns-clause-answer_size c = λ reply. reply-size reply

pub returns-clause-entry : goal.returns-clause-entry
returns-clause-entry c = λ caller asked told content. entry-back caller asked told content
