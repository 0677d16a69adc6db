use Rattle.strm_laws.proofs.Budgeted.{ends, keeps-most}
use Rattle.strm_laws.proofs.PutsWithin.{puts-costed}
use Rattle.strm_laws.proofs.put_laws.puts_keep_budgets.Goals as goal

pub returns-clause-within : goal.returns-clause-within
returns-clause-within g c = λ cells. puts-costed g.K.Behaves.does cells

pub returns-clause-ends : goal.returns-clause-ends
returns-clause-ends g c = λ all a. ends all a

pub returns-clause-few : goal.returns-clause-few
returns-clause-few g c = λ all once a. keeps-most all once a
