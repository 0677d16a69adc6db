-- It is made, and goes to the next place.
use Rattle.std.proofs.Common.{ℕ, ◌-◌, List, refl, ap, ◌∙◌}
use Rattle.strm_types.specs.declared.names.Way.TheVariants.{Up}
use Rattle.strm_types.specs.declared.spots.Spot.{Spot}
use Rattle.strm_types.specs.Flushing.{flush_message}
use Rattle.strm_pty.proofs.Doing.{makes-one}
use Rattle.strm_pty.proofs.Made.{flush-plain}
use Rattle.strm_pty.proofs.pckt.pass_flush.Goals as goal

pub make-message-requires-clause-kind : goal.make-message-requires-clause-kind
make-message-requires-clause-kind g c = flush-plain

pub returns : goal.returns
returns g c =
    makes-one (g.B.Blocks.value c.args.store.now) _ (record { to = c.toward.result; message = c.make-message.result }) _ _ _ _ c.make-message.ensures refl
    (ap (λ (to : Spot). record { to = to; message = flush_message c.as_slice.result.now }) c.toward.ensures
    ∙ ap (λ (bytes : List ℕ). record { to = record { side = c.args.here.side; at = c.args.here.at - 1; way = Up }; message = flush_message bytes }) (c.as_slice.ensures.value ∙ c.bytes.ensures))
