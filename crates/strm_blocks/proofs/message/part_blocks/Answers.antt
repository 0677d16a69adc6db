use Rattle.std.proofs.Common.{◌≡◌, ap, arith, take}
use Rattle.std.proofs.lemmas.Grind.{common_steps}
use Rattle.strm_blocks.proofs.ListParts.{set-behind}
use Rattle.strm_blocks.specs.Message.{with_blocks, message_at}
use Rattle.strm_blocks.specs.declared.message.Message.{Message}
use Rattle.strm_blocks.proofs.message.part_blocks.Goals as goal

pub returns-clause-kept : goal.returns-clause-kept
returns-clause-kept c =
    let list = c.args.list.now in
    let place = c.args.at in
    let here : c.unwrap-message.result.now ≡ message_at place list = grind (arith, common_steps) in
    let name = ap (λ (m : Message). m.name) here in
    let blocks = ap (λ (m : Message). m.blocks) here in
    grind (arith, common_steps, set-behind list place (with_blocks (take c.args.from (message_at place list).blocks) (message_at place list)))
