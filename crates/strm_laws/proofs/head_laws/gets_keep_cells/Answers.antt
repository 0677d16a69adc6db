use Rattle.strm_laws.proofs.GetKeeps.{get-kept, get-control, get-data, get-refused}
use Rattle.strm_laws.proofs.head_laws.gets_keep_cells.Goals as goal

pub returns-clause-kept : goal.returns-clause-kept
returns-clause-kept g c = λ p wanted cmax dmax q. get-kept p wanted cmax dmax q

pub returns-clause-most_control : goal.returns-clause-most_control
returns-clause-most_control g c = λ wanted cmax dmax q. get-control wanted cmax dmax q

pub returns-clause-most_data : goal.returns-clause-most_data
returns-clause-most_data g c = λ wanted cmax dmax q. get-data wanted cmax dmax q

pub returns-clause-refused : goal.returns-clause-refused
returns-clause-refused g c = λ wanted at_end cmax dmax q refusal is. get-refused wanted at_end cmax dmax q refusal is
