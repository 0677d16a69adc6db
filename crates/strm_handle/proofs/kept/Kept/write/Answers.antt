use Rattle.std.proofs.Common.{ℕ, List, [], subst}
use Rattle.strm_types.specs.declared.events.Event.TheVariants.{Write}
use Rattle.strm_handle.specs.Outcomes.{AnswersSide, CallsAt, Stay, side_refused}
use Rattle.strm_handle.proofs.NoBytes.{gives-none}
use Rattle.strm_handle.proofs.kept.Kept.write.Goals as goal

pub returns : goal.returns
returns c =
    let asked = Write c.args.bytes.now in
    let none = gives-none c.args.side asked c.args.reply.now c.of_side.new.reply c.of_side.new.out c.args.self.now c.of_side.new.self c.of_side.result c.of_side.ensures in
    subst (λ (b : List ℕ). CallsAt (side_refused c.args.side asked 0) (Stay [] b c.args.reply.now c.of_side.new.reply) (AnswersSide c.args.side asked c.of_side.new.reply [] b) c.args.self.now c.of_side.new.self c.of_side.result)
    none c.of_side.ensures
