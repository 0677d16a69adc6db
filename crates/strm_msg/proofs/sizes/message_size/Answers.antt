-- A summary has the bytes of all blocks.
use Rattle.std.proofs.Common.{◌∙◌, sym, ap}
use Rattle.strm_blocks.specs.Blocks.{in_hand, token}
use Rattle.strm_blocks.specs.declared.asked.Summary.{Summary}
use Rattle.strm_msg.proofs.Chains.{bytes-sum, size-shown}
use Rattle.strm_msg.proofs.sizes.message_size.Goals as goal

pub returns-clause-bytes : goal.returns-clause-bytes
returns-clause-bytes g c =
    let chain = in_hand (g.B.Blocks.value c.args.store.now) (token c.args.message.now) in
    ap (λ (s : Summary). s.bytes) c.summary.ensures ∙ sym (bytes-sum chain)

pub returns-clause-message : goal.returns-clause-message
returns-clause-message g c = λ one.
    let chain = in_hand (g.B.Blocks.value c.args.store.now) (token c.args.message.now) in
    ap (λ (s : Summary). s.bytes) c.summary.ensures ∙ sym (size-shown chain one)
