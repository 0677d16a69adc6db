use Rattle.std.proofs.Common.{◌≡◌, ◌∙◌, true, false, refl, sym}
use Rattle.strm_queue.specs.Flows.{relieves}
use Rattle.strm_queue.proofs.flow.Flow.relieved.Goals as goal

pub returns-then-lets_go : goal.returns-then-lets_go
returns-then-lets_go c = let on : relieves c.args.self ≡ true = sym c.lets_go.ensures ∙ c.if-lets_go.true in rw on refl

pub returns-else-lets_go : goal.returns-else-lets_go
returns-else-lets_go c = let off : relieves c.args.self ≡ false = sym c.lets_go.ensures ∙ c.if-lets_go.false in rw off refl
