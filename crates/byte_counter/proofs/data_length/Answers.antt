-- A message of M_DATA, M_PROTO or M_PCPROTO has its M_DATA blocks as its data part, and any other one has none.
use Rattle.std.proofs.Common.{◌≡◌, true, false, List, [], ◌∷◌, ◌∙◌, ap, sym, length, refl}
use Rattle.strm_types.specs.Flush.{is_data_kind}
use Rattle.strm_types.specs.Message.{part}
use Rattle.strm_blocks.specs.Blocks.{Block, block_at, in_hand, token}
use Rattle.strm_msg.specs.Bytes.{bytes_of, data_blocks, data_bytes}
use Rattle.strm_msg.specs.Messages.{message_of, part_of}
use Rattle.byte_counter.specs.ByteCounter.{data_length}
use Rattle.byte_counter.proofs.data_length.Goals as goal

part-length : (blocks : List Block) → length (bytes_of blocks) ≡ length (part (part_of blocks))
part-length [] = refl
part-length (b ∷ blocks) = refl

data-shown : (chain : List Block) → is_data_kind (block_at 0 chain).kind ≡ true → length (data_bytes chain) ≡ data_length (message_of chain)
unfolding message_of
data-shown chain is = rw is (part-length (data_blocks chain))

none-shown : (chain : List Block) → is_data_kind (block_at 0 chain).kind ≡ false → 0 ≡ data_length (message_of chain)
unfolding message_of
none-shown chain is = rw is refl

pub returns-then-is_data_kind : goal.returns-then-is_data_kind
returns-then-is_data_kind g c =
    c.msgdsize.ensures
    ∙ data-shown (in_hand (g.B.Blocks.value c.args.store.now) (token c.args.message.now))
    (ap is_data_kind (sym c.kind.ensures) ∙ (sym c.is_data_kind.ensures ∙ c.if-is_data_kind.true))

pub returns-else-is_data_kind : goal.returns-else-is_data_kind
returns-else-is_data_kind g c =
    none-shown (in_hand (g.B.Blocks.value c.args.store.now) (token c.args.message.now))
    (ap is_data_kind (sym c.kind.ensures) ∙ (sym c.is_data_kind.ensures ∙ c.if-is_data_kind.false))
