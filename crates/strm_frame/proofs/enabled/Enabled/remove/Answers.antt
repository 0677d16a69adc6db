-- Where it is the only one, none is left.
use Rattle.strm_frame.proofs.Prelude.{◌≡◌, ◌-◌, ◌∙◌, [], length, take, sym, ap, subst}
use Rattle.strm_frame.specs.Prelude.{without}
use Rattle.std.specs.Bool.{OnTrue}
use Rattle.strm_types.proofs.EnabledNames.{once-without, queues-without}
use Rattle.strm_frame.proofs.enabled.Enabled.remove.Goals as goal

pub invariant_of-self : goal.invariant_of-self
invariant_of-self c =
    let names = c.self.inside.names.items in
    let view : names ≡ c.args.self.now = c.self.view_is in
    let one : length names ≡ 1 = ap length view ∙ subst (λ b. OnTrue b (length c.args.self.now ≡ 1)) c.if-is_only.true c.is_only.ensures.one in
    let none : without c.args.name names ≡ [] = ap (without c.args.name) view ∙ subst (λ b. OnTrue b (without c.args.name c.args.self.now ≡ [])) c.if-is_only.true c.is_only.ensures.none_else in
    let gone : c.pop.new.self.items ≡ without c.args.name names = c.pop.ensures.rest ∙ ap (λ n. take (n - 1) names) one ∙ sym none in
    rw gone (once-without names c.args.name c.self.invariant.0, queues-without names c.args.name c.self.invariant.1)
