use Rattle.strm_laws.proofs.ReadForgets.{head_draw-forgets, refusal-forgets}
use Rattle.strm_laws.proofs.GetKeeps.{get-forgets, get_refusal-forgets}
use Rattle.strm_laws.proofs.head_laws.head_forgets_origins.Goals as goal

pub returns-clause-read : goal.returns-clause-read
returns-clause-read g c = λ f read control n q. head_draw-forgets f read control n q

pub returns-clause-read_refusal : goal.returns-clause-read_refusal
returns-clause-read_refusal g c = λ f control at_end n q. refusal-forgets f control at_end n q

pub returns-clause-get : goal.returns-clause-get
returns-clause-get g c = λ f wanted cmax dmax q. get-forgets f wanted cmax dmax q

pub returns-clause-get_refusal : goal.returns-clause-get_refusal
returns-clause-get_refusal g c = λ f wanted at_end q. get_refusal-forgets f wanted at_end q
