use Rattle.strm_queue.proofs.Serving.{all-ordered, serves-all, first-come}
use Rattle.strm_queue.proofs.order.serves_in_order.Goals as goal

pub returns-clause-order : goal.returns-clause-order
returns-clause-order c = λ operations q o. all-ordered operations q o

pub returns-clause-each : goal.returns-clause-each
returns-clause-each c = λ operations q o. serves-all operations q o

pub returns-clause-first_come : goal.returns-clause-first_come
returns-clause-first_come c = λ operations q r o none. first-come operations q r o none
