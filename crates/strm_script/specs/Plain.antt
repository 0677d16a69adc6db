-- The pair of the code as scripts see it.
use Rattle.strm_laws.specs.Pair.{PairState}
use Rattle.strm_script.specs.ScriptRun.{PlainPair}

-- a pair whose blocks nobody counts
abbrev pub plain : PairState → PlainPair
plain p = record { state = p.state; journal = p.journal; limits = p.limits; fates = p.fates }
