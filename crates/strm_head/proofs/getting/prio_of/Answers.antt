-- A message has the kind and the band of its first block.
use Rattle.strm_head.proofs.Prelude.{◌∙◌, ℕ, Bool, cond, ap, sym, kind-is, band-is}
use Rattle.strm_head.specs.Prelude.{Prio, High, Band, is_high_priority, in_hand, token, message_of}
use Rattle.strm_blocks.proofs.Laws.{chain-some}
use Rattle.strm_head.proofs.getting.prio_of.Goals as goal

abbrev in_band : ℕ → Prio
in_band band = Band (record { 0 = band })

abbrev either : ℕ → Bool → Prio
either band high = cond high High (in_band band)

pub kind-requires-clause-within : goal.kind-requires-clause-within
kind-requires-clause-within g c = chain-some (g.B.Blocks.value c.args.store.now) (token c.args.message.now) c.audit.ensures c.requires

pub returns-then-is_high_priority : goal.returns-then-is_high_priority
returns-then-is_high_priority g c =
    let chain = in_hand (g.B.Blocks.value c.args.store.now) (token c.args.message.now) in
    sym (ap (either (message_of chain).band) (ap is_high_priority (kind-is chain ∙ sym c.kind.ensures) ∙ sym c.is_high_priority.ensures ∙ c.if-is_high_priority.true))

pub returns-else-is_high_priority : goal.returns-else-is_high_priority
returns-else-is_high_priority g c =
    let chain = in_hand (g.B.Blocks.value c.args.store.now) (token c.args.message.now) in
    ap in_band (c.band.ensures ∙ sym (band-is chain))
    ∙ sym (ap (either (message_of chain).band) (ap is_high_priority (kind-is chain ∙ sym c.kind.ensures) ∙ sym c.is_high_priority.ensures ∙ c.if-is_high_priority.false))
