use Rattle.std.proofs.Common.{◌≡◌, ap, arith, ◌++◌}
use Rattle.std.proofs.lemmas.Grind.{common_steps}
use Rattle.strm_blocks.proofs.ListParts.{set-behind}
use Rattle.strm_blocks.specs.Message.{with_blocks, message_at}
use Rattle.strm_blocks.specs.declared.message.Message.{Message}
use Rattle.strm_blocks.proofs.message.join_blocks.Goals as goal

pub returns : goal.returns
returns c =
    let list = c.args.list.now in
    let place = c.args.at in
    let here : c.unwrap-message.result.now ≡ message_at place list = grind (arith, common_steps) in
    let name = ap (λ (m : Message). m.name) here in
    let blocks = ap (λ (m : Message). m.blocks) here in
    grind (arith, common_steps, set-behind list place (with_blocks ((message_at place list).blocks ++ c.args.blocks) (message_at place list)))
