use Rattle.strm_tests.proofs.ToySteps.{stock-few}
use Rattle.strm_tests.proofs.frame.stock.StockProceduresUnit.asks.Goals as goal

pub returns-in-Down-Some-clause-few : goal.returns-in-Down-Some-clause-few
returns-in-Down-Some-clause-few g c = stock-few _ c.args.way _ c.audit.ensures c.requires.held.queues

pub returns-in-Down-default-clause-few : goal.returns-in-Down-default-clause-few
returns-in-Down-default-clause-few g c = stock-few _ c.args.way _ c.audit.ensures c.requires.held.queues

pub returns-in-Down-default-2-clause-few : goal.returns-in-Down-default-2-clause-few
returns-in-Down-default-2-clause-few g c = stock-few _ c.args.way _ c.audit.ensures c.requires.held.queues

pub returns-in-Down-default-3-clause-few : goal.returns-in-Down-default-3-clause-few
returns-in-Down-default-3-clause-few g c = stock-few _ c.args.way _ c.audit.ensures c.requires.held.queues
