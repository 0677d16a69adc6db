-- A queue that isn't enabled yet finds room, as its caller shows.
use Rattle.std.proofs.Common.{◌≡◌, true, false, sym, subst, lit<}
use Rattle.std.specs.Prelude.{List}
use Rattle.strm_types.specs.declared.names.QueueName.{QueueName}
use Rattle.strm_types.specs.Names.{has_queues_at, is_enabled}
use Rattle.strm_types.proofs.EnabledNames.{once-added, queues-added}
use Rattle.strm_frame.specs.MayEnable.{MayEnable}
use Rattle.strm_frame.proofs.enabled.Enabled.enable.Goals as goal

pub push-requires : goal.push-requires
push-requires c =
    let has : has_queues_at c.args.name.place ≡ true = cc in
    let absent : is_enabled c.args.name c.self.inside.names.items ≡ false = cc in
    let room = subst (λ (names : List QueueName). MayEnable names c.args.name) (sym c.self.view_is) c.requires.room in
    (lit< tt, room has absent)

pub invariant_of-self : goal.invariant_of-self
invariant_of-self c =
    let has : has_queues_at c.args.name.place ≡ true = cc in
    let absent : is_enabled c.args.name c.self.inside.names.items ≡ false = cc in
    let names = c.self.inside.names.items in
    rw c.push.ensures.items (once-added names c.args.name c.self.invariant.0 absent, queues-added names c.args.name c.self.invariant.1 has)
