-- Two bytes are enough.
use Rattle.strm_frame.proofs.Prelude.{ap, sym, ◌∙◌, take, ◌∷◌, []}
use Rattle.strm_frame.specs.Prelude.{in_hand, token}
use Rattle.strm_msg.specs.Bytes.{bytes_of}
use Rattle.strm_types.specs.Flushing.{asked_by}
use Rattle.strm_msg.proofs.MadePlain.{plain-is}
use Rattle.strm_frame.proofs.Read.{first-of, asked-first}
use Rattle.strm_frame.proofs.flushes.asked_of.Goals as goal

pub returns : goal.returns
returns g c =
    let chain = in_hand (g.B.Blocks.value c.args.store.now) (token c.args.message.now) in
    let count = c.first_bytes-count in
    record {
      asked = c.read.ensures.asked
          ∙ ap asked_by (ap (λ xs. take count.result xs) count.ensures.given ∙ first-of (0 ∷ 0 ∷ []) (bytes_of chain) count.result count.ensures.count)
          ∙ asked-first (bytes_of chain) ∙ ap (λ m. asked_by m.plain) (sym (plain-is chain c.requires.kind));
    }
