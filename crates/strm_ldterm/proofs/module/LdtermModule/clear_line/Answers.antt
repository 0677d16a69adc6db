-- Its line is empty then, and nothing else of it changed.
use Rattle.strm_ldterm.proofs.Prelude.{ℕ, List, ap, arith, Option, None, Some}
use Rattle.strm_ldterm.specs.Prelude.{StoreValue, QueuePair}
use Rattle.std.specs.Prelude.{length}
use Rattle.strm_ldterm.specs.declared.ldterm.Ldterm.{Ldterm}
use Rattle.strm_ldterm.specs.Stands.{HasInHand, own_in}
use Rattle.strm_ldterm.proofs.module.LdtermModule.clear_line.Goals as goal

-- what it has in hand fits without the line
line-fits : (s : StoreValue) (x : Ldterm) (line : List ℕ) (queues : Option QueuePair) → HasInHand s x queues → HasInHand s (record x { line = line }) queues
line-fits s x line None held = absurd held
line-fits s x line (Some pair) held = record { work = held.work; gathers = held.gathers; echoes = held.echoes; once_each = held.once_each }

pub returns-clause-gone : goal.returns-clause-gone
returns-clause-gone c = λ s. let e = c.clear.ensures in let none = ap length e.line in omega (arith, e.gone, none)

pub returns-clause-line : goal.returns-clause-line
returns-clause-line c = λ s. ap (λ (l : List ℕ). record (own_in s c.args.self.now) { line = l }) c.clear.ensures.line

pub returns-clause-held : goal.returns-clause-held
returns-clause-held c = λ s queues held. line-fits s c.args.self.now c.clear.new.self queues held
