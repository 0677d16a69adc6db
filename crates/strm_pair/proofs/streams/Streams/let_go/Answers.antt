-- The queue before it is enabled.
use Rattle.std.proofs.Common.{rules, subst, sym, length}
use Rattle.std.specs.Prelude.{◌≤◌}
use Rattle.strm_pair.specs.Prelude.{before_at, enable_some}
use Rattle.strm_types.specs.Names.{enable_found}
use Rattle.strm_pair.specs.Pairs.{state_in}
use Rattle.strm_pair.proofs.Enabling.{found-room}
use Rattle.strm_pair.proofs.streams.Streams.let_go.Goals as goal

pub enable_found-requires : goal.enable_found-requires
enable_found-requires c =
    let p = c.args.self.now in
    let s = c.requires.few.0 in
    let o = before_at c.args.side c.args.way c.args.at (state_in s p) in
    let few = subst (λ b. length (enable_some b o p.enabled) ≤ 14) c.if-lets_go.true c.requires.few.1 in
    record { room = found-room c.before-earlier.result p.enabled (subst (λ n. length (enable_found n p.enabled) ≤ 14) (sym (c.before-earlier.ensures s)) few) }

pub returns-then-lets_go : goal.returns-then-lets_go
returns-then-lets_go c = search rules steps 300000
