use Rattle.std.proofs.Common.{◌≡◌, ap, arith}
use Rattle.std.proofs.lemmas.Grind.{common_steps}
use Rattle.strm_blocks.proofs.ListParts.{set-behind}
use Rattle.strm_blocks.specs.Message.{with_blocks, message_at}
use Rattle.strm_blocks.specs.declared.message.Message.{Message}
use Rattle.strm_blocks.proofs.message.swap_blocks.Goals as goal

pub returns-clause-given : goal.returns-clause-given
returns-clause-given c =
    let list = c.args.list.now in
    let here : c.unwrap-message.result.now ≡ message_at c.args.at list = grind (arith, common_steps) in
    let name = ap (λ (m : Message). m.name) here in
    let blocks = c.swap-2.ensures.x_after in
    grind (arith, common_steps, set-behind list c.args.at (with_blocks c.args.blocks.now (message_at c.args.at list)))
