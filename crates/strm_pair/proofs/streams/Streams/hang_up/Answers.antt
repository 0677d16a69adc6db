-- The queue of the head stays.
use Rattle.std.proofs.Common.{true, refl, sym, ◌∙◌}
use Rattle.strm_types.specs.declared.names.Side.TheVariants.{Slave}
use Rattle.strm_pair.proofs.Sides.{head-held}
use Rattle.strm_pair.proofs.streams.Streams.hang_up.Goals as goal

pub returns-then-is_open : goal.returns-then-is_open
returns-then-is_open c =
    let e = c.args.self.now.ends.slave in
    record {
      state = λ s. rw (sym c.is_open.ensures ∙ c.if-is_open.true) refl;
      held = λ s held. head-held s c.args.self.now Slave e (record e.head { hung_up = true }) refl refl held;
    }
