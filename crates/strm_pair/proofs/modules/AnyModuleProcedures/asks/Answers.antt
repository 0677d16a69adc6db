-- Its kind says it.
use Rattle.strm_pair.proofs.KindsDo.{kind-fits, ldterm-kind, own-kind, pckt-kind, ptem-kind}
use Rattle.strm_pair.proofs.modules.AnyModuleProcedures.asks.Goals as goal

pub asks-requires : goal.asks-requires
asks-requires g c = record { held = kind-fits _ _ _ _ _ ldterm-kind _ _ _ _ c.in-Ldterm.is c.requires.held }

pub asks-requires-in-Ptem : goal.asks-requires-in-Ptem
asks-requires-in-Ptem g c = record { held = kind-fits _ _ _ _ _ ptem-kind _ _ _ _ c.in-Ptem.is c.requires.held }

pub asks-requires-in-Pckt : goal.asks-requires-in-Pckt
asks-requires-in-Pckt g c = record { held = kind-fits _ _ _ _ _ pckt-kind _ _ _ _ c.in-Pckt.is c.requires.held }

pub returns-in-Ldterm-clause-asks : goal.returns-in-Ldterm-clause-asks
returns-in-Ldterm-clause-asks g c = rw c.in-Ldterm.is c.asks.ensures.asks

pub returns-in-Ldterm-clause-few : goal.returns-in-Ldterm-clause-few
returns-in-Ldterm-clause-few g c = c.asks.ensures.few

pub returns-in-Ptem-clause-asks : goal.returns-in-Ptem-clause-asks
returns-in-Ptem-clause-asks g c = rw c.in-Ptem.is c.asks-in-Ptem.ensures.asks

pub returns-in-Ptem-clause-few : goal.returns-in-Ptem-clause-few
returns-in-Ptem-clause-few g c = c.asks-in-Ptem.ensures.few

pub returns-in-Pckt-clause-asks : goal.returns-in-Pckt-clause-asks
returns-in-Pckt-clause-asks g c = rw c.in-Pckt.is c.asks-in-Pckt.ensures.asks

pub returns-in-Pckt-clause-few : goal.returns-in-Pckt-clause-few
returns-in-Pckt-clause-few g c = c.asks-in-Pckt.ensures.few

pub asks-requires-in-Own : goal.asks-requires-in-Own
asks-requires-in-Own g c = record { held = kind-fits _ _ _ _ _ own-kind _ _ _ _ c.in-Own.is c.requires.held }

pub returns-in-Own-clause-asks : goal.returns-in-Own-clause-asks
returns-in-Own-clause-asks g c = rw c.in-Own.is c.asks-in-Own.ensures.asks

pub returns-in-Own-clause-few : goal.returns-in-Own-clause-few
returns-in-Own-clause-few g c = c.asks-in-Own.ensures.few
