-- All bytes are counted, or none.
use Rattle.std.proofs.Common.{◌∙◌, sym, ap}
use Rattle.strm_types.specs.Flush.{is_data_kind}
use Rattle.strm_blocks.specs.Blocks.{in_hand, token}
use Rattle.strm_msg.proofs.MadePlain.{booked-data, booked-none}
use Rattle.strm_msg.proofs.sizes.booked_size.Goals as goal

pub returns-then-is_data_kind : goal.returns-then-is_data_kind
returns-then-is_data_kind g c =
    let chain = in_hand (g.B.Blocks.value c.args.store.now) (token c.args.message.now) in
    c.message_size.ensures.message c.requires.chain
    ∙ sym (booked-data chain (ap is_data_kind (sym c.kind.ensures) ∙ (sym c.is_data_kind.ensures ∙ c.if-is_data_kind.true)))

pub returns-else-is_data_kind : goal.returns-else-is_data_kind
returns-else-is_data_kind g c =
    let chain = in_hand (g.B.Blocks.value c.args.store.now) (token c.args.message.now) in
    sym (booked-none chain (ap is_data_kind (sym c.kind.ensures) ∙ (sym c.is_data_kind.ensures ∙ c.if-is_data_kind.false)))
