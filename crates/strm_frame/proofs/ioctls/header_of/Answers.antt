-- Sixteen bytes are enough.
use Rattle.strm_frame.proofs.Prelude.{ap, sym, ◌∙◌, take, replicate, plain-is}
use Rattle.strm_frame.specs.Prelude.{read_ioc, in_hand, token}
use Rattle.strm_msg.specs.Bytes.{bytes_of}
use Rattle.strm_frame.proofs.Read.{first-of, ioc-first}
use Rattle.strm_frame.proofs.ioctls.header_of.Goals as goal

pub returns : goal.returns
returns g c =
    let chain = in_hand (g.B.Blocks.value c.args.store.now) (token c.args.message.now) in
    let count = c.first_bytes-count in
    c.read.ensures
    ∙ ap (λ xs. read_ioc xs) (ap (λ xs. take count.result xs) count.ensures.given ∙ first-of (replicate 16 0) (bytes_of chain) count.result count.ensures.count)
    ∙ ioc-first (bytes_of chain) ∙ ap (λ m. read_ioc m.plain) (sym (plain-is chain c.requires.kind))
