-- A data part that isn't there has no byte.
use Rattle.std.proofs.Common.{◌≡◌, List, [], ◌∷◌, ◌∙◌, ap, length, refl}
use Rattle.std.specs.Prelude.{unwrap_or}
use Rattle.strm_blocks.specs.Blocks.{Block, in_hand, token}
use Rattle.strm_msg.specs.Bytes.{bytes_of, data_blocks, length_of_part}
use Rattle.strm_msg.proofs.sizes.msgdsize.Goals as goal

part-bytes : (blocks : List Block) → unwrap_or (length_of_part blocks) 0 ≡ length (bytes_of blocks)
part-bytes [] = refl
part-bytes (b ∷ blocks) = refl

pub returns : goal.returns
returns g c =
    c.unwrap_or.ensures ∙ ap (λ o. unwrap_or o 0) c.data_len.ensures
    ∙ part-bytes (data_blocks (in_hand (g.B.Blocks.value c.args.store.now) (token c.args.message.now)))
