-- The queue before it is enabled where messages wait there.
use Rattle.strm_pair.proofs.Prelude.{◌≤◌, Bool, length, sym, ap, subst, ◌∙◌, List}
use Rattle.strm_pair.specs.Prelude.{Up, QueueName, before_at, enable_some}
use Rattle.strm_laws.specs.Pushes.{let_come}
use Rattle.strm_pair.specs.Pairs.{state_in}
use Rattle.strm_pair.proofs.Coming.{comes-few, comes-where}
use Rattle.strm_pair.proofs.streams.Streams.let_come.Goals as goal

pub returns-then-not-comes : goal.returns-then-not-comes
returns-then-not-comes g c =
    let p = c.args.self.now in
    let st = state_in (g.B.Blocks.value c.args.store.now) p in
    ap (λ (b : Bool). record p { enabled = (let_come b c.args.side st).enabled }) (sym c.if-not-comes.true)

pub let_go-requires : goal.let_go-requires
let_go-requires g c =
    let p = c.args.self.now in
    let s = c.requires.room.0 in
    let o = before_at c.args.side Up 1 (state_in s p) in
    let few = subst (λ b. length (enable_some b o p.enabled) ≤ 14) c.if-not-comes.false c.requires.room.1 in
    record { few = (s, comes-few c.waits_below-waits.result o p.enabled few) }

pub returns : goal.returns
returns g c =
    let p = c.args.self.now in
    let s = g.B.Blocks.value c.args.store.now in
    let st = state_in s p in
    let o = before_at c.args.side Up 1 st in
    c.let_go.ensures s
    ∙ ap (λ (names : List QueueName). record p { enabled = names }) (comes-where st o c.waits_below-waits.result c.waits_below-waits.ensures)
    ∙ ap (λ (b : Bool). record p { enabled = (let_come b c.args.side st).enabled }) (sym c.if-not-comes.false)
