-- Its kind does it.
use Rattle.strm_pair.proofs.KindsDo.{kind-fits, kind-puts, ldterm-kind, own-kind, pckt-kind, ptem-kind}
use Rattle.strm_pair.proofs.modules.AnyModuleProcedures.put.Goals as goal

pub put-requires-clause-held : goal.put-requires-clause-held
put-requires-clause-held g c = kind-fits _ _ _ _ _ ldterm-kind _ _ _ _ c.in-Ldterm.is c.requires.held

pub put-requires-in-Ptem-clause-held : goal.put-requires-in-Ptem-clause-held
put-requires-in-Ptem-clause-held g c = kind-fits _ _ _ _ _ ptem-kind _ _ _ _ c.in-Ptem.is c.requires.held

pub put-requires-in-Pckt-clause-held : goal.put-requires-in-Pckt-clause-held
put-requires-in-Pckt-clause-held g c = kind-fits _ _ _ _ _ pckt-kind _ _ _ _ c.in-Pckt.is c.requires.held

pub returns-in-Ldterm : goal.returns-in-Ldterm
returns-in-Ldterm g c = rw c.in-Ldterm.is (kind-puts _ _ _ _ _ ldterm-kind _ _ _ _ _ _ _ _ _ _ _ _ _ c.put.ensures)

pub returns-in-Ptem : goal.returns-in-Ptem
returns-in-Ptem g c = rw c.in-Ptem.is (kind-puts _ _ _ _ _ ptem-kind _ _ _ _ _ _ _ _ _ _ _ _ _ c.put-in-Ptem.ensures)

pub returns-in-Pckt : goal.returns-in-Pckt
returns-in-Pckt g c = rw c.in-Pckt.is (kind-puts _ _ _ _ _ pckt-kind _ _ _ _ _ _ _ _ _ _ _ _ _ c.put-in-Pckt.ensures)

pub put-requires-in-Own-clause-held : goal.put-requires-in-Own-clause-held
put-requires-in-Own-clause-held g c = kind-fits _ _ _ _ _ own-kind _ _ _ _ c.in-Own.is c.requires.held

pub returns-in-Own : goal.returns-in-Own
returns-in-Own g c = rw c.in-Own.is (kind-puts _ _ _ _ _ own-kind _ _ _ _ _ _ _ _ _ _ _ _ _ c.put-in-Own.ensures)
