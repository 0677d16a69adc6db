-- Thirty-six bytes behind the header are enough.
use Rattle.strm_frame.proofs.Prelude.{ap, sym, ◌∙◌, refl, take, drop, replicate, arith, plain-is}
use Rattle.strm_frame.specs.Prelude.{in_hand, token}
use Rattle.strm_types.specs.Acks.{payload}
use Rattle.strm_msg.specs.Bytes.{bytes_of}
use Rattle.strm_frame.proofs.Behind.{behind-first, none-behind, rest-all}
use Rattle.strm_frame.proofs.ioctls.payload_of.Goals as goal

pub returns-then-count-gt16 : goal.returns-then-count-gt16
returns-then-count-gt16 g c =
    let chain = in_hand (g.B.Blocks.value c.args.store.now) (token c.args.message.now) in
    let count = c.first_bytes-count in
    (rw (c.unwrap.ensures, c.new-payload.ensures) at c.try_extend_from_slice.ensures.ok)
    ∙ rest-all 16 (take count.result count.new.buffer)
    ∙ ap (λ xs. drop 16 (take count.result xs)) count.ensures.given
    ∙ behind-first (replicate 52 0) (bytes_of chain) count.result refl count.ensures.count
    ∙ ap (λ m. take 36 (payload m.plain)) (sym (plain-is chain c.requires.kind))

pub returns-else-count-gt16 : goal.returns-else-count-gt16
returns-else-count-gt16 g c =
    let chain = in_hand (g.B.Blocks.value c.args.store.now) (token c.args.message.now) in
    let count = c.first_bytes-count in
    c.new-payload.ensures ∙ sym (none-behind (bytes_of chain) count.result count.ensures.count (omega arith))
    ∙ ap (λ m. take 36 (payload m.plain)) (sym (plain-is chain c.requires.kind))
